-- What the seal carriage's value stands for, and its own account of each taken call. Assumes nothing.
use Rattle.std.specs.Prelude.{◌≡◌, Bool, cond, not, ◌||◌, Some, None, Option, ◌==◌}
use Rattle.groups.specs.Groups.{correct}
use Rattle.carriage.specs.Model.{Model, offer_fault, inject_fault, turn_fault}
use Rattle.carriage.specs.Triples.{in_range}
use Rattle.faults.specs.declared.causes.CarriageFault.{CarriageFault}
use Rattle.faults.specs.declared.causes.CarriageFault.TheVariants.{Range, Seal as SealFault}
use Rattle.carriage.specs.declared.frames.Triple.{Triple}
use Rattle.carriage.specs.declared.frames.Frame.{Frame}
use Rattle.carriage.specs.declared.meaning.Carriage.{Ghosts as Account}
use Rattle.seal.specs.State.{State, model_of, start_state, offer_state, inject_state, turn_state}
use Rattle.seal.specs.View.{view_of}
use Rattle.seal.specs.declared.sealing.Seal.{Seal}

abbrev pub state_of : Seal → State
state_of c = view_of c.stage.group c.stage.len c.stage.phase c.table.cells

abbrev pub seal_model : Seal → Model
seal_model c = model_of (state_of c)

-- s is the only letter of this carriage
abbrev pub is_seal : Frame → Bool
is_seal f = f.letter == 115

-- the seal of a correct origin is known once its triple was offered; that of a marked one always is
abbrev pub known_seal : State → Frame → Bool
known_seal s f = not (correct s.group f.triple.origin) || s.offered f.triple

-- a seal is refused for a triple out of range, then for one that was never offered
abbrev pub seal_fault : State → Triple → Option CarriageFault
seal_fault s x = cond (in_range s.group s.len x) (cond (not (correct s.group x.origin) || s.offered x) None (Some SealFault)) (Some Range)

-- each taken call was allowed, and did just this
abbrev pub seal_account : Account Seal
seal_account = record {
  model = seal_model;
  reads_letter = λ c f. is_seal f;
  knows_seal = λ c f. known_seal (state_of c) f;
  starts = λ c d. state_of d ≡ start_state (state_of c);
  offers = λ c x d. (offer_fault (seal_model c) x ≡ None) × (state_of d ≡ offer_state (state_of c) x);
  injects = λ c f d. (inject_fault (is_seal f) (known_seal (state_of c) f) (seal_model c) f ≡ None) × (state_of d ≡ inject_state (state_of c) f);
  turns = λ c d. (turn_fault (seal_model c) ≡ None) × (state_of d ≡ turn_state (state_of c));
}
