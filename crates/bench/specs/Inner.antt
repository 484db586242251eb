-- What the inner functions of a bench ask and do: starting a carriage, and offering what is new. Assumes nothing.
use Rattle.std.specs.Prelude.{◌≡◌, ℕ, ◌+◌, ◌*◌, ◌<◌, ◌≤◌, Bool, true, cond, List, [], Some, None, Option, nat_le}
use Rattle.carriage.specs.Model.{Model, is_correct}
use Rattle.carriage.specs.declared.frames.Triple.{Triple}
use Rattle.carriage.specs.declared.meaning.Carriage.{Ghosts as Account}
use Rattle.agreement.specs.Extraction.{first_offers, group_offers}
use Rattle.agreement.specs.Steps.{Offered}

-- a value that was given has a correct sender and a place on the list
abbrev pub Startable : Model → ℕ → Option ℕ → Type 0
Startable m s None = Unit {0}
Startable m s (Some p) = (is_correct m s ≡ true) × (p < m.len)

pub record Started {C : Type 0} (account : Account C) (s : ℕ) (place : Option ℕ) (c d : C) : Type 0 where
  pub fresh : C
  pub starts : account.starts c fresh
  pub offers : Offered account fresh (first_offers s place) d

-- triples of these places can be offered for the round
pub record Offerable (m : Model) (test : ℕ → ℕ → Bool) (round : ℕ) : Type 0 where
  pub phase : m.phase + 1 ≡ 2 * round
  pub last : round ≤ m.group.t + 1
  pub who : (q v : ℕ) → test q v ≡ true → (is_correct m q ≡ true) × (v < m.len)

-- all that is new is offered for the next round, if there is one
abbrev pub next_offers : Model → (ℕ → ℕ → Bool) → ℕ → List Triple
next_offers m test round = cond (nat_le round m.group.t) (group_offers test (round + 1) m.len m.group.n) []
