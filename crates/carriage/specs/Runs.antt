-- Runs of a carriage: the taken calls, and what can be read off the list of them alone. Assumes nothing.
use Rattle.std.specs.Prelude.{ℕ, suc, Bool, false, ◌||◌, List, [], ◌∷◌}
use Rattle.carriage.specs.Triples.{same_triple}
use Rattle.carriage.specs.declared.frames.Triple.{Triple}
use Rattle.carriage.specs.declared.frames.Frame.{Frame}
use Rattle.carriage.specs.declared.meaning.Carriage.{Ghosts as Account}

-- a taken call; a refused one changes nothing and is no event
pub data Event : Type 0 where
  start : Event
  offer : Triple → Event
  inject : Frame → Event
  turn : Event

-- the carriage c becomes d by the events, of which the newest comes first
pub data Ran {C : Type 0} (account : Account C) : C → List Event → C → Type 0 where
  none : {c : C} → Ran account c [] c
  started : {c d e : C} {es : List Event} → Ran account c es d → account.starts d e → Ran account c (start ∷ es) e
  offered : {c d e : C} {es : List Event} {x : Triple} → Ran account c es d → account.offers d x e → Ran account c (offer x ∷ es) e
  injected : {c d e : C} {es : List Event} {f : Frame} → Ran account c es d → account.injects d f e → Ran account c (inject f ∷ es) e
  turned : {c d e : C} {es : List Event} → Ran account c es d → account.turns d e → Ran account c (turn ∷ es) e

-- the phase that the events lead to: a carriage is made in phase 1
abbrev pub phase_after : List Event → ℕ
phase_after [] = 1
phase_after (start ∷ es) = 1
phase_after (offer x ∷ es) = phase_after es
phase_after (inject f ∷ es) = phase_after es
phase_after (turn ∷ es) = suc (phase_after es)

-- x was offered since the last start
abbrev pub was_offered : List Event → Triple → Bool
was_offered [] x = false
was_offered (start ∷ es) x = false
was_offered (offer y ∷ es) x = same_triple y x || was_offered es x
was_offered (inject f ∷ es) x = was_offered es x
was_offered (turn ∷ es) x = was_offered es x

-- x was offered in the current phase
abbrev pub offered_now : List Event → Triple → Bool
offered_now [] x = false
offered_now (start ∷ es) x = false
offered_now (offer y ∷ es) x = same_triple y x || offered_now es x
offered_now (inject f ∷ es) x = offered_now es x
offered_now (turn ∷ es) x = false

-- a frame that passes the test was injected in the current phase
abbrev pub injected_now : List Event → (Frame → Bool) → Bool
injected_now [] p = false
injected_now (start ∷ es) p = false
injected_now (offer y ∷ es) p = injected_now es p
injected_now (inject f ∷ es) p = p f || injected_now es p
injected_now (turn ∷ es) p = false
