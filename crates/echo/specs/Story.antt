-- Who is a witness, who has heard which echoes and who has accepted what, from the list of a run's events alone (the
-- newest first); and the rules of the carriage as sentences about it. Assumes nothing.
use Rattle.std.specs.Prelude.{◌≡◌, ℕ, ◌+◌, ◌-◌, ◌*◌, ◌≤◌, Bool, true, false, not, ◌&&◌, ◌||◌, ◌⊎◌, ◌↔◌, List, [], ◌∷◌, ◌==◌, nat_le}
use Rattle.sets.specs.Sets.{count}
use Rattle.groups.specs.Groups.{correct}
use Rattle.carriage.specs.Triples.{in_range, same_triple}
use Rattle.carriage.specs.Runs.{Event, start, offer, inject, turn, Ran, phase_after, was_offered, offered_now, injected_now}
use Rattle.carriage.specs.Moments.{Since, SamePhase}
use Rattle.groups.specs.declared.members.Group.{Group}
use Rattle.carriage.specs.declared.frames.Triple.{Triple}
use Rattle.carriage.specs.declared.frames.Frame.{Frame}
use Rattle.echo.specs.State.{init_letter, echo_letter}
use Rattle.echo.specs.Steps.{becomes_witness, accepts}
use Rattle.echo.specs.Echoes.{echo_account, state_of}
use Rattle.echo.specs.declared.carrier.Echo.{Echo}

-- the frame brings q the init frame of x, from the origin of x itself
abbrev pub init_to : ℕ → Triple → Frame → Bool
init_to q x f = f.letter == init_letter && (f.from == x.origin && (q == f.to && same_triple f.triple x))

-- the frame brings q the e-frame of x from p
abbrev pub echo_to : (q p : ℕ) → Triple → Frame → Bool
echo_to q p x f = f.letter == echo_letter && (p == f.from && (q == f.to && same_triple f.triple x))

-- q hears the init frame of x from its origin in the current phase: x was offered, and so sent to all, or it was injected
abbrev pub hears_init_now : List Event → ℕ → Triple → Bool
hears_init_now es q x = offered_now es x || injected_now es (init_to q x)

module _ (g : Group) (len : ℕ) where
  -- only correct controllers take steps, and only on triples in range
  abbrev pub joins_now : (heard : ℕ → ℕ → Triple → Bool) → List Event → ℕ → Triple → Bool
  joins_now heard es q x = (in_range g len x && correct g q) && becomes_witness g.t (phase_after es) x.round (hears_init_now es q x) (λ p. heard q p x)

  abbrev mutual
    -- q is a witness of x
    pub is_witness : List Event → ℕ → Triple → Bool
    is_witness [] q x = false
    is_witness (start ∷ es) q x = false
    is_witness (offer y ∷ es) q x = is_witness es q x
    is_witness (inject f ∷ es) q x = is_witness es q x
    is_witness (turn ∷ es) q x = is_witness es q x || joins_now (λ r p y. has_heard es r p y) es q x

    -- q has heard an e-frame of x from p in the phases from 2i to the current one: it was injected, or p became a witness
    -- at the turn before and sent it to all
    pub has_heard : List Event → (q p : ℕ) → Triple → Bool
    has_heard [] q p x = false
    has_heard (start ∷ es) q p x = false
    has_heard (offer y ∷ es) q p x = has_heard es q p x
    has_heard (inject f ∷ es) q p x = (nat_le (2 * x.round) (phase_after es) && echo_to q p x f) || has_heard es q p x
    has_heard (turn ∷ es) q p x = (nat_le (2 * x.round) (phase_after es + 1) && (joins_now (λ r o y. has_heard es r o y) es p x && not (is_witness es p x))) || has_heard es q p x

  -- q has accepted x
  abbrev pub has_accepted : List Event → ℕ → Triple → Bool
  has_accepted [] q x = false
  has_accepted (start ∷ es) q x = false
  has_accepted (offer y ∷ es) q x = has_accepted es q x
  has_accepted (inject f ∷ es) q x = has_accepted es q x
  has_accepted (turn ∷ es) q x = has_accepted es q x || ((in_range g len x && correct g q) && accepts g.n g.t (phase_after es) x.round (λ p. has_heard es q p x))

-- k or more different controllers have the property
abbrev pub AtLeast : ℕ → (ℕ → Type 0) → Type 0
AtLeast k P = (these : ℕ → Bool) × (k ≤ count 16 these) × ((p : ℕ) → these p ≡ true → P p)

-- q hears the init frame of x in the current phase from its origin, which offered it now or whose frame was injected now
abbrev pub HearsInit : List Event → ℕ → Triple → Type 0
HearsInit es q x = (offered_now es x ≡ true) ⊎ (injected_now es (init_to q x) ≡ true)

module _ (g : Group) (len : ℕ) where
  -- p became a witness at the turn that began the current phase
  abbrev pub NewWitness : List Event → ℕ → Triple → Type 0
  NewWitness es p x = (before : List Event) × SamePhase (turn ∷ before) es × (is_witness g len (turn ∷ before) p x ≡ true) × (is_witness g len before p x ≡ false)

  -- p's e-frame of x reaches q in the current phase: it was injected from p to q now, or p is a new witness
  abbrev pub HearsEcho : List Event → (q p : ℕ) → Triple → Type 0
  HearsEcho es q p x = (injected_now es (echo_to q p x) ≡ true) ⊎ NewWitness es p x

  -- it did so at some moment in the phases from 2i to the current one
  abbrev pub HeardEcho : List Event → (q p : ℕ) → Triple → Type 0
  HeardEcho es q p x = (then : List Event) × Since then es × (2 * x.round ≤ phase_after then) × HearsEcho then q p x

  -- at some turn, of phase 2i − 1, q had heard the init frame from the origin; or, of a phase from 2i on, it had heard
  -- e-frames from t + 1 different controllers
  abbrev pub BecameWitness : List Event → ℕ → Triple → Type 0
  BecameWitness es q x = (before : List Event) × Since (turn ∷ before) es
      × (((phase_after before + 1 ≡ 2 * x.round) × HearsInit before q x) ⊎ ((2 * x.round ≤ phase_after before) × AtLeast (g.t + 1) (λ p. HeardEcho before q p x)))

  -- at some turn, of a phase from 2i on, q had heard e-frames from n − t different controllers
  abbrev pub HeardEnough : List Event → ℕ → Triple → Type 0
  HeardEnough es q x = (before : List Event) × Since (turn ∷ before) es × (2 * x.round ≤ phase_after before) × AtLeast (g.n - g.t) (λ p. HeardEcho before q p x)

-- the rules: at every moment of every run, a correct controller is a witness of a triple in range, has heard an e-frame
-- of it or has accepted it exactly when the sentences above say so
pub record EchoRules (g : Group) (len : ℕ) : Type 0 where
  pub witness : (es : List Event) (q : ℕ) (x : Triple) → correct g q ≡ true → in_range g len x ≡ true → (is_witness g len es q x ≡ true) ↔ BecameWitness g len es q x
  pub heard : (es : List Event) (q p : ℕ) (x : Triple) → (has_heard g len es q p x ≡ true) ↔ HeardEcho g len es q p x
  pub accepted : (es : List Event) (q : ℕ) (x : Triple) → correct g q ≡ true → in_range g len x ≡ true → (has_accepted g len es q x ≡ true) ↔ HeardEnough g len es q x
  -- nobody else takes part
  pub correct_witness : (es : List Event) (q : ℕ) (x : Triple) → is_witness g len es q x ≡ true → (correct g q ≡ true) × (in_range g len x ≡ true)
  pub correct_accepted : (es : List Event) (q : ℕ) (x : Triple) → has_accepted g len es q x ≡ true → (correct g q ≡ true) × (in_range g len x ≡ true)

-- a carriage after a run is, and its reads answer, exactly what the events say
pub record Says (g : Group) (len : ℕ) (es : List Event) (c : Echo) : Type 0 where
  pub group : (state_of c).group ≡ g
  pub length : (state_of c).len ≡ len
  pub phase : (state_of c).phase ≡ phase_after es
  pub offered : (x : Triple) → (state_of c).offered x ≡ was_offered es x
  pub witness : (q : ℕ) (x : Triple) → (state_of c).witness q x ≡ is_witness g len es q x
  pub accepted : (q : ℕ) (x : Triple) → (state_of c).accepted q x ≡ has_accepted g len es q x

-- after every run from a carriage just made, by the rules
pub record TellsTheRun (c : Echo) : Type 0 where
  pub says : (es : List Event) (d : Echo) → Ran echo_account c es d → Says c.stage.group c.stage.len es d
  pub rules : EchoRules c.stage.group c.stage.len
