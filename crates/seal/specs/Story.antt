-- Who has accepted what, from the list of a run's events alone (the newest first). Assumes nothing.
use Rattle.std.specs.Prelude.{◌≡◌, ℕ, ◌+◌, ◌*◌, ◌≤◌, Bool, true, false, not, ◌&&◌, ◌||◌, ◌⊎◌, ◌↔◌, List, [], ◌∷◌, ◌==◌}
use Rattle.sets.specs.Sets.{count}
use Rattle.groups.specs.Groups.{correct}
use Rattle.carriage.specs.Triples.{in_range, same_triple}
use Rattle.carriage.specs.Runs.{Event, start, offer, inject, turn, Ran, phase_after, was_offered, offered_now, injected_now}
use Rattle.carriage.specs.Moments.{Since, SamePhase}
use Rattle.groups.specs.declared.members.Group.{Group}
use Rattle.carriage.specs.declared.frames.Triple.{Triple}
use Rattle.carriage.specs.declared.frames.Frame.{Frame}
use Rattle.seal.specs.Seals.{seal_account, state_of}
use Rattle.seal.specs.State.{takes}
use Rattle.seal.specs.declared.sealing.Seal.{Seal}

-- the frame brings the seal of x to q
abbrev pub brings_to : ℕ → Triple → Frame → Bool
brings_to q x f = q == f.to && same_triple f.triple x

-- q hears the seal of x in the current phase: from the origin, which offered it now, from a controller that accepted it
-- at the last turn, or by an injected frame
abbrev pub hears_now : (newly : ℕ → Triple → Bool) → List Event → ℕ → Triple → Bool
hears_now newly es q x = (offered_now es x || not (count 16 (λ p. newly p x) == 0)) || injected_now es (brings_to q x)

module _ (g : Group) (len : ℕ) where
  -- only correct controllers take steps, and only on triples in range
  abbrev pub steps_now : (newly : ℕ → Triple → Bool) → List Event → ℕ → Triple → Bool
  steps_now newly es q x = in_range g len x && (correct g q && takes (phase_after es) x.round (hears_now newly es q x))

  abbrev mutual
    -- q has accepted x
    pub has_accepted : List Event → ℕ → Triple → Bool
    has_accepted [] q x = false
    has_accepted (start ∷ es) q x = false
    has_accepted (offer y ∷ es) q x = has_accepted es q x
    has_accepted (inject f ∷ es) q x = has_accepted es q x
    has_accepted (turn ∷ es) q x = has_accepted es q x || steps_now (λ p y. newly_accepted es p y) es q x

    -- q accepted x at the last turn
    pub newly_accepted : List Event → ℕ → Triple → Bool
    newly_accepted [] q x = false
    newly_accepted (start ∷ es) q x = false
    newly_accepted (offer y ∷ es) q x = newly_accepted es q x
    newly_accepted (inject f ∷ es) q x = newly_accepted es q x
    newly_accepted (turn ∷ es) q x = steps_now (λ p y. newly_accepted es p y) es q x && not (has_accepted es q x)

module _ (g : Group) (len : ℕ) where
  -- p accepted x one phase earlier: at the last turn, and not before it
  abbrev pub OnePhaseEarlier : List Event → ℕ → Triple → Type 0
  OnePhaseEarlier es p x = (before : List Event) × SamePhase (turn ∷ before) es × (has_accepted g len (turn ∷ before) p x ≡ true) × (has_accepted g len before p x ≡ false)

  -- how q hears the seal of x in the current phase
  abbrev pub Hears : List Event → ℕ → Triple → Type 0
  Hears es q x =
      (offered_now es x ≡ true)
      ⊎ (((p : ℕ) × (correct g p ≡ true) × OnePhaseEarlier es p x)
      ⊎ (injected_now es (brings_to q x) ≡ true))

  -- in some turned phase, from 2i − 1 on, q heard the seal of x
  abbrev pub Heard : List Event → ℕ → Triple → Type 0
  Heard es q x = (before : List Event) × Since (turn ∷ before) es × (2 * x.round ≤ phase_after before + 1) × Hears before q x

-- the reads of a carriage after a run: exactly what the events say
pub record Says (g : Group) (len : ℕ) (es : List Event) (c : Seal) : Type 0 where
  pub phase : (state_of c).phase ≡ phase_after es
  pub offered : (x : Triple) → (state_of c).offered x ≡ was_offered es x
  pub accepted : (q : ℕ) (x : Triple) → (state_of c).accepted q x ≡ has_accepted g len es q x
  -- in words: a correct controller has accepted a triple in range exactly when it heard its seal in time
  pub words : (q : ℕ) (x : Triple) → correct g q ≡ true → in_range g len x ≡ true → ((state_of c).accepted q x ≡ true) ↔ Heard g len es q x

-- after every run from a carriage just made
abbrev pub TellsTheRun : Seal → Type 0
TellsTheRun c = (es : List Event) (d : Seal) → Ran seal_account c es d → Says c.stage.group c.stage.len es d
