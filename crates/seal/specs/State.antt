-- The seal carriage between two calls, and what each call makes of it. Assumes nothing.
use Rattle.std.specs.Prelude.{ℕ, ◌+◌, ◌*◌, Bool, false, not, ◌&&◌, ◌||◌, ◌==◌, nat_le}
use Rattle.sets.specs.Sets.{count}
use Rattle.groups.specs.Groups.{correct}
use Rattle.carriage.specs.Triples.{in_range, same_triple}
use Rattle.carriage.specs.Model.{Model}
use Rattle.groups.specs.declared.members.Group.{Group}
use Rattle.carriage.specs.declared.frames.Triple.{Triple}
use Rattle.carriage.specs.declared.frames.Frame.{Frame}

pub record State : Type 0 where
  pub group : Group
  pub len : ℕ
  pub phase : ℕ
  pub offered : Triple → Bool
  pub accepted : ℕ → Triple → Bool
  -- q accepted x at the last turn, and sends its seal to all in this phase
  pub fresh : ℕ → Triple → Bool
  -- an injected seal of x reached q in this phase
  pub told : ℕ → Triple → Bool

-- what every carriage shows
abbrev pub model_of : State → Model
model_of s = record { group = s.group; len = s.len; phase = s.phase; offered = s.offered; accepted = s.accepted }

-- phase 1, and nothing offered, accepted or heard
abbrev pub fresh_state : Group → ℕ → State
fresh_state g len = record { group = g; len = len; phase = 1; offered = λ x. false; accepted = λ q x. false; fresh = λ q x. false; told = λ q x. false }

abbrev pub start_state : State → State
start_state s = fresh_state s.group s.len

abbrev pub offer_state : State → Triple → State
offer_state s x = record { group = s.group; len = s.len; phase = s.phase; offered = λ y. same_triple x y || s.offered y; accepted = s.accepted; fresh = s.fresh; told = s.told }

abbrev pub inject_state : State → Frame → State
inject_state s f = record { group = s.group; len = s.len; phase = s.phase; offered = s.offered; accepted = s.accepted; fresh = s.fresh; told = λ q x. (q == f.to && same_triple f.triple x) || s.told q x }

-- the seal of x is on the way to all: from its offer, in phase 2i − 1, or from somebody who accepted it at the last turn
abbrev pub sent_to_all : State → Triple → Bool
sent_to_all s x = (s.offered x && 2 * x.round == s.phase + 1) || not (count 16 (λ p. s.fresh p x) == 0)

-- q hears the seal of x in this phase
abbrev pub hears : State → ℕ → Triple → Bool
hears s q x = sent_to_all s x || s.told q x

-- a controller's step: it takes a seal that it hears, from phase 2i − 1 on
abbrev pub takes : (phase round : ℕ) (heard : Bool) → Bool
takes phase round heard = nat_le (2 * round) (phase + 1) && heard

-- the correct controllers take their steps, on the triples in range
abbrev pub steps : State → ℕ → Triple → Bool
steps s q x = in_range s.group s.len x && (correct s.group q && takes s.phase x.round (hears s q x))

abbrev pub turn_state : State → State
turn_state s = record { group = s.group; len = s.len; phase = s.phase + 1; offered = s.offered; accepted = λ q x. s.accepted q x || steps s q x; fresh = λ q x. steps s q x && not (s.accepted q x); told = λ q x. false }
