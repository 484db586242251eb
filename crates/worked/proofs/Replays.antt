-- A bench over the echo carriage, by its state alone: what a taken call makes of it is a function. Assumes nothing.
use Rattle.std.proofs.Common.{◌≡◌, ℕ, true, List, [], ◌∷◌, None, Option, refl, ap, ◌∙◌}
use Rattle.carriage.specs.Model.{offer_fault, inject_fault, turn_fault}
use Rattle.carriage.specs.declared.frames.Frame.{Frame}
use Rattle.carriage.specs.declared.frames.Triple.{Triple}
use Rattle.carriage.specs.declared.meaning.Carriage.{Ghosts as Account}
use Rattle.echo.specs.Echoes.{echo_account, state_of, is_echo_letter, any_seal}
use Rattle.echo.specs.State.{State, model_of as state_model, start_state, offer_state, inject_state, turn_state}
use Rattle.echo.specs.declared.carrier.Echo.{Echo}
use Rattle.agreement.specs.Extraction.{first_sets, first_offers, sets_after, offers_after}
use Rattle.agreement.specs.Refusals.{given}
use Rattle.agreement.specs.Runs.{Run, none as ran-none, more as ran-more}
use Rattle.agreement.specs.Steps.{Offered, none, more, Begun, Injected, TurnTaken, after_close, Event, taken, refused, begin, inject, turn, close, Step}
use Rattle.agreement.specs.Views.{View, Rules}

-- the carriage's account of its calls, of its state alone
abbrev pub state_account : Account State
state_account = record {
  model = state_model;
  reads_letter = λ s f. is_echo_letter f;
  knows_seal = λ s f. any_seal f;
  starts = λ s z. z ≡ start_state s;
  offers = λ s x z. (offer_fault (state_model s) x ≡ None) × (z ≡ offer_state s x);
  injects = λ s f z. (inject_fault (is_echo_letter f) (any_seal f) (state_model s) f ≡ None) × (z ≡ inject_state s f);
  turns = λ s z. (turn_fault (state_model s) ≡ None) × (z ≡ turn_state s);
}

abbrev pub image : View Echo → View State
image v = record { carriage = state_of v.carriage; running = v.running; sender = v.sender; extracted = v.extracted; tally = v.tally; closed = v.closed }

abbrev pub offer_all : State → List Triple → State
offer_all s [] = s
offer_all s (x ∷ xs) = offer_all (offer_state s x) xs

abbrev pub after_begin : ℕ → Option ℕ → View State → View State
after_begin s place v =
    record { carriage = offer_all (start_state v.carriage) (first_offers s place); running = true; sender = s; extracted = first_sets s place; tally = v.tally; closed = v.closed }

abbrev pub after_inject : Frame → View State → View State
after_inject f v = record { carriage = inject_state v.carriage f; running = v.running; sender = v.sender; extracted = v.extracted; tally = v.tally; closed = v.closed }

abbrev pub after_turn : View State → View State
after_turn v = record {
  carriage = offer_all (turn_state v.carriage) (offers_after (state_model (turn_state v.carriage)) v.sender v.extracted v.carriage.phase);
  running = v.running;
  sender = v.sender;
  extracted = sets_after (state_model (turn_state v.carriage)) v.sender v.extracted v.carriage.phase;
  tally = v.tally;
  closed = v.closed;
}

offers_image : {c d : Echo} {xs : List Triple} → Offered echo_account c xs d → state_of d ≡ offer_all (state_of c) xs
offers_image none = refl
offers_image (more {x = x} {xs = xs} o rest) = offers_image rest ∙ ap (λ s. offer_all s xs) o.1

pub begin_image : (s : ℕ) (place : Option ℕ) (v w : View Echo) → Begun echo_account s place v w → image w ≡ after_begin s place (image v)
begin_image s place v w b =
    let carried : state_of w.carriage ≡ offer_all (start_state (state_of v.carriage)) (first_offers s place) = offers_image b.offers ∙ ap (λ z. offer_all z (first_offers s place)) b.starts in
    λ i. record { carriage = carried i; running = b.running i; sender = b.sender i; extracted = b.extracted i; tally = b.tally i; closed = b.closed i }

pub inject_image : (f : Frame) (v w : View Echo) → Injected echo_account f v w → image w ≡ after_inject f (image v)
inject_image f v w b = λ i. record { carriage = b.injects.1 i; running = b.running i; sender = b.sender i; extracted = b.extracted i; tally = b.tally i; closed = b.closed i }

pub turn_image : (v w : View Echo) → TurnTaken echo_account v w → image w ≡ after_turn (image v)
turn_image v w b =
    let turned : state_of b.turned ≡ turn_state (state_of v.carriage) = b.turns.1 in
    let k = (state_of v.carriage).phase in
    let carried : state_of w.carriage ≡ (after_turn (image v)).carriage = offers_image b.offers ∙ ap (λ z. offer_all z (offers_after (state_model z) v.sender v.extracted k)) turned in
    let sets : w.extracted ≡ (after_turn (image v)).extracted = b.extracted ∙ ap (λ z. sets_after (state_model z) v.sender v.extracted k) turned in
    λ i. record { carriage = carried i; running = b.running i; sender = b.sender i; extracted = sets i; tally = b.tally i; closed = b.closed i }

module _ {K : Type 0} (rules : Rules K) where
  abbrev pub after : Event K → View State → View State
  after (taken (begin s x)) v = after_begin s (given rules x) v
  after (taken (inject f)) v = after_inject f v
  after (taken (turn k)) v = after_turn v
  after (taken (close s)) v = after_close state_account rules v
  after (refused c) v = v

  abbrev pub replay : List (Event K) → View State → View State
  replay [] v = v
  replay (e ∷ es) v = after e (replay es v)

  step_image : (e : Event K) (v w : View Echo) → Step echo_account rules v e w → image w ≡ after e (image v)
  step_image (taken (begin s x)) v w step = begin_image s (given rules x) v w step.1
  step_image (taken (inject f)) v w step = inject_image f v w step.1
  step_image (taken (turn k)) v w step = turn_image v w step.1
  step_image (taken (close s)) v w step = ap image step.1
  step_image (refused c) v w step = ap image step.2

  -- a run leads to what its events say
  pub run_image : {u w : View Echo} {es : List (Event K)} → Run echo_account rules u es w → image w ≡ replay es (image u)
  run_image ran-none = refl
  run_image (ran-more {v = v} {w = w} {e = e} run step) = step_image e v w step ∙ ap (after e) (run_image run)
