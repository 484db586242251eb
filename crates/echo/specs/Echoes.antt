-- What the echo carriage's value stands for, and its own account of each taken call. Assumes nothing.
use Rattle.std.specs.Prelude.{◌≡◌, ℕ, Bool, true, ◌||◌, None, Result, ◌==◌}
use Rattle.carriage.specs.Model.{Model, offer_fault, inject_fault, turn_fault, read_answer}
use Rattle.faults.specs.declared.causes.CarriageFault.{CarriageFault}
use Rattle.carriage.specs.declared.frames.Triple.{Triple}
use Rattle.carriage.specs.declared.frames.Frame.{Frame}
use Rattle.carriage.specs.declared.meaning.Carriage.{Ghosts as Account}
use Rattle.echo.specs.State.{State, init_letter, echo_letter, model_of, start_state, offer_state, inject_state, turn_state}
use Rattle.echo.specs.View.{view_of}
use Rattle.echo.specs.declared.carrier.Echo.{Echo}

abbrev pub state_of : Echo → State
state_of c = view_of c.stage.group c.stage.len c.stage.phase c.table.cells

abbrev pub echo_model : Echo → Model
echo_model c = model_of (state_of c)

-- i and e are the letters of this carriage
abbrev pub is_echo_letter : Frame → Bool
is_echo_letter f = f.letter == init_letter || f.letter == echo_letter

-- no frame of this carriage is a seal, and so none is refused as one
abbrev pub any_seal : Frame → Bool
any_seal f = true

-- whether a correct controller is a witness of a triple: refused as the question whether it has accepted it is
abbrev pub witness_answer : State → ℕ → Triple → Result Bool CarriageFault
witness_answer s q x = read_answer s.group s.len q x (s.witness q x)

-- each taken call was allowed, and did just this
abbrev pub echo_account : Account Echo
echo_account = record {
  model = echo_model;
  reads_letter = λ c f. is_echo_letter f;
  knows_seal = λ c f. any_seal f;
  starts = λ c d. state_of d ≡ start_state (state_of c);
  offers = λ c x d. (offer_fault (echo_model c) x ≡ None) × (state_of d ≡ offer_state (state_of c) x);
  injects = λ c f d. (inject_fault (is_echo_letter f) (any_seal f) (echo_model c) f ≡ None) × (state_of d ≡ inject_state (state_of c) f);
  turns = λ c d. (turn_fault (echo_model c) ≡ None) × (state_of d ≡ turn_state (state_of c));
}
