-- What a carriage stands for, what each call does to it, and the laws that hold at every moment. Assumes nothing.
use Rattle.std.specs.Prelude.{◌≡◌, ℕ, ◌+◌, ◌*◌, ◌<◌, ◌≤◌, Bool, true, false, cond, ◌&&◌, ◌||◌, Some, None, Ok, Err, Option, Result, ◌==◌}
use Rattle.groups.specs.Groups.{marked, correct}
use Rattle.carriage.specs.Triples.{in_range, same_triple}
use Rattle.groups.specs.declared.members.Group.{Group}
use Rattle.carriage.specs.declared.frames.Triple.{Triple}
use Rattle.carriage.specs.declared.frames.Frame.{Frame}
use Rattle.faults.specs.declared.causes.CarriageFault.{CarriageFault}
use Rattle.faults.specs.declared.causes.CarriageFault.TheVariants.{From, NotCorrect, Letter, Range, Seal, Offer, Turn}

-- a carriage between two calls: the triples that were offered, and for each correct controller those that it accepted
pub record Model : Type 0 where
  pub group : Group
  pub len : ℕ
  pub phase : ℕ
  pub offered : Triple → Bool
  pub accepted : ℕ → Triple → Bool

abbrev pub is_correct : Model → ℕ → Bool
is_correct m q = correct m.group q

abbrev pub knows : Model → Triple → Bool
knows m x = in_range m.group m.len x

-- the phase after the last turn that is taken: round i has phases 2i − 1 and 2i, and there are t + 1 rounds
abbrev pub end_phase : Group → ℕ
end_phase g = 2 * g.t + 3

-- Start: never refused
abbrev pub afresh : Model → Model
afresh m = record { group = m.group; len = m.len; phase = 1; offered = λ x. false; accepted = λ q x. false }

-- a triple out of range is refused
abbrev pub range_cause : Group → (len : ℕ) → Triple → Option CarriageFault
range_cause g len x = cond (in_range g len x) None (Some Range)

-- Offer: a triple in range, of a correct origin, in the first phase of its round
abbrev pub offer_cause : Group → (len phase : ℕ) → Triple → Option CarriageFault
offer_cause g len phase x = cond (in_range g len x) (cond (correct g x.origin && phase + 1 == 2 * x.round) None (Some Offer)) (Some Range)

abbrev pub offer_fault : Model → Triple → Option CarriageFault
offer_fault m x = offer_cause m.group m.len m.phase x

abbrev pub after_offer : Model → Triple → Model
after_offer m x = record { group = m.group; len = m.len; phase = m.phase; offered = λ y. same_triple x y || m.offered y; accepted = m.accepted }

-- Inject: from a marked controller to a correct one, then by what the carriage finds in the frame
abbrev pub frame_cause : Group → Frame → Option CarriageFault → Option CarriageFault
frame_cause g f found = cond (marked g f.from) (cond (correct g f.to) found (Some NotCorrect)) (Some From)

-- `letter` and `seal` say whether the carriage's own rules take the frame's letter and its seal
abbrev pub inject_fault : (letter seal : Bool) → Model → Frame → Option CarriageFault
inject_fault letter seal m f = frame_cause m.group f (cond letter (cond (knows m f.triple) (cond seal None (Some Seal)) (Some Range)) (Some Letter))

-- Turn: one phase more, nothing accepted is lost, and what one correct controller had accepted all have accepted
abbrev pub turn_cause : Group → (phase : ℕ) → Option CarriageFault
turn_cause g phase = cond (phase == end_phase g) (Some Turn) None

abbrev pub turn_fault : Model → Option CarriageFault
turn_fault m = turn_cause m.group m.phase

pub record Turned (m n : Model) : Type 0 where
  pub group : n.group ≡ m.group
  pub len : n.len ≡ m.len
  pub phase : n.phase ≡ m.phase + 1
  pub offered : n.offered ≡ m.offered
  pub grows : (q : ℕ) (x : Triple) → m.accepted q x ≡ true → n.accepted q x ≡ true
  pub relay : (q r : ℕ) (x : Triple) → m.accepted q x ≡ true → is_correct m r ≡ true → n.accepted r x ≡ true

-- Held: whether a correct controller has accepted a triple in range
abbrev pub read_answer : Group → (len q : ℕ) → Triple → Bool → Result Bool CarriageFault
read_answer g len q x known = cond (correct g q) (cond (in_range g len x) (Ok known) (Err Range)) (Err NotCorrect)

abbrev pub held_answer : Model → ℕ → Triple → Result Bool CarriageFault
held_answer m q x = read_answer m.group m.len q x (m.accepted q x)

-- What holds of every carriage at every moment
pub record Lawful (m : Model) : Type 0 where
  pub some : 1 ≤ m.len
  pub few : m.len ≤ 4
  pub begun : 1 ≤ m.phase
  pub ends : m.phase ≤ end_phase m.group
  -- offers are in range, of a correct origin, and came in the first phase of their round
  pub offers : (x : Triple) → m.offered x ≡ true → (knows m x ≡ true) × (is_correct m x.origin ≡ true) × (2 * x.round ≤ m.phase + 1)
  pub accepts : (q : ℕ) (x : Triple) → m.accepted q x ≡ true → (is_correct m q ≡ true) × (knows m x ≡ true)
  -- nobody accepts a triple of a correct origin that was not offered
  pub unforgeable : (q : ℕ) (x : Triple) → m.accepted q x ≡ true → is_correct m x.origin ≡ true → m.offered x ≡ true
  -- once phase 2i is turned, every correct controller has accepted every offered triple of round i
  pub valid : (q : ℕ) (x : Triple) → m.offered x ≡ true → 2 * x.round < m.phase → is_correct m q ≡ true → m.accepted q x ≡ true
