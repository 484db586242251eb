-- The echo carriage between two calls, and what each call makes of it. Assumes nothing.
use Rattle.std.specs.Prelude.{ℕ, ◌+◌, ◌*◌, Bool, false, ◌&&◌, ◌||◌, ◌==◌, nat_le}
use Rattle.groups.specs.Groups.{correct}
use Rattle.carriage.specs.Triples.{in_range, same_triple}
use Rattle.carriage.specs.Model.{Model}
use Rattle.groups.specs.declared.members.Group.{Group}
use Rattle.carriage.specs.declared.frames.Triple.{Triple}
use Rattle.carriage.specs.declared.frames.Frame.{Frame}
use Rattle.echo.specs.Steps.{becomes_witness, accepts}

pub record State : Type 0 where
  pub group : Group
  pub len : ℕ
  pub phase : ℕ
  pub offered : Triple → Bool
  -- the origin of x, which is marked, sent its init frame to q in phase 2i − 1
  pub told : ℕ → Triple → Bool
  pub witness : ℕ → Triple → Bool
  pub accepted : ℕ → Triple → Bool
  -- since phase 2i q was injected the e-frame of x from p: q, p, x
  pub echoed : ℕ → ℕ → Triple → Bool

-- what every carriage shows
abbrev pub model_of : State → Model
model_of s = record { group = s.group; len = s.len; phase = s.phase; offered = s.offered; accepted = s.accepted }

-- nothing has happened, and phase 1 runs
abbrev pub fresh_state : Group → ℕ → State
fresh_state g len = record { group = g; len = len; phase = 1; offered = λ x. false; told = λ q x. false; witness = λ q x. false; accepted = λ q x. false; echoed = λ q p x. false }

abbrev pub start_state : State → State
start_state s = fresh_state s.group s.len

abbrev pub offer_state : State → Triple → State
offer_state s x = record {
  group = s.group;
  len = s.len;
  phase = s.phase;
  offered = λ y. same_triple x y || s.offered y;
  told = s.told;
  witness = s.witness;
  accepted = s.accepted;
  echoed = s.echoed;
}

-- the letters of init frames and e-frames, as the characters i and e
abbrev pub init_letter : ℕ
init_letter = 105

abbrev pub echo_letter : ℕ
echo_letter = 101

-- an init frame counts in phase 2i − 1, from the origin itself
abbrev pub counts_as_init : (phase : ℕ) → Frame → Bool
counts_as_init k f = f.letter == init_letter && (f.from == f.triple.origin && k + 1 == 2 * f.triple.round)

-- an e-frame counts from phase 2i on
abbrev pub counts_as_echo : (phase : ℕ) → Frame → Bool
counts_as_echo k f = f.letter == echo_letter && nat_le (2 * f.triple.round) k

-- the frame is heard as an init frame, or as an e-frame, of its triple
abbrev pub hear_frame : (init echo : Bool) → State → Frame → State
hear_frame init echo s f = record {
  group = s.group;
  len = s.len;
  phase = s.phase;
  offered = s.offered;
  told = λ q x. ((init && q == f.to) && same_triple f.triple x) || s.told q x;
  witness = s.witness;
  accepted = s.accepted;
  echoed = λ q p x. ((echo && (q == f.to && p == f.from)) && same_triple f.triple x) || s.echoed q p x;
}

-- every frame that does not count is taken without effect
abbrev pub inject_state : State → Frame → State
inject_state s f = hear_frame (counts_as_init s.phase f) (counts_as_echo s.phase f) s f

-- in phase 2i − 1 q hears the init frame from the origin: offered, so sent to all, or injected
abbrev pub hears_init : State → ℕ → Triple → Bool
hears_init s q x = s.offered x || s.told q x

-- q has heard p's e-frame since phase 2i: p is a witness and sent it to all, or it was injected
abbrev pub heard_echo : State → ℕ → Triple → ℕ → Bool
heard_echo s q x p = s.witness p x || s.echoed q p x

-- the controllers that take steps are the correct ones, on the triples in range
abbrev pub takes_part : State → ℕ → Triple → Bool
takes_part s q x = in_range s.group s.len x && correct s.group q

abbrev pub new_witness : State → ℕ → Triple → Bool
new_witness s q x = takes_part s q x && becomes_witness s.group.t s.phase x.round (hears_init s q x) (heard_echo s q x)

abbrev pub new_accepted : State → ℕ → Triple → Bool
new_accepted s q x = takes_part s q x && accepts s.group.n s.group.t s.phase x.round (heard_echo s q x)

abbrev pub turn_state : State → State
turn_state s = record {
  group = s.group;
  len = s.len;
  phase = s.phase + 1;
  offered = s.offered;
  told = s.told;
  witness = λ q x. s.witness q x || new_witness s q x;
  accepted = λ q x. s.accepted q x || new_accepted s q x;
  echoed = s.echoed;
}
