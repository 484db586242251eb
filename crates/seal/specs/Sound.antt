-- What holds of a seal carriage at every moment. Assumes nothing.
use Rattle.std.specs.Prelude.{◌≡◌, ℕ, ◌+◌, ◌*◌, ◌≤◌, true, false}
use Rattle.groups.specs.Groups.{correct}
use Rattle.carriage.specs.Triples.{in_range}
use Rattle.carriage.specs.declared.frames.Triple.{Triple}
use Rattle.seal.specs.State.{State}

pub record Sound (s : State) : Type 0 where
  pub offers : (x : Triple) → s.offered x ≡ true → (in_range s.group s.len x ≡ true) × (correct s.group x.origin ≡ true) × (2 * x.round ≤ s.phase + 1)
  pub accepts : (q : ℕ) (x : Triple) → s.accepted q x ≡ true → (correct s.group q ≡ true) × (in_range s.group s.len x ≡ true) × (2 * x.round ≤ s.phase)
  pub freshly : (q : ℕ) (x : Triple) → s.fresh q x ≡ true → s.accepted q x ≡ true
  -- who accepted before the last turn has told everybody
  pub spread : (q r : ℕ) (x : Triple) → s.accepted q x ≡ true → s.fresh q x ≡ false → correct s.group r ≡ true → s.accepted r x ≡ true
  -- no seal of a correct origin is injected that was not offered
  pub sealed : (q : ℕ) (x : Triple) → s.told q x ≡ true → correct s.group x.origin ≡ true → s.offered x ≡ true
  pub unforgeable : (q : ℕ) (x : Triple) → s.accepted q x ≡ true → correct s.group x.origin ≡ true → s.offered x ≡ true
  -- an offer is accepted by all at the turn of its own phase
  pub valid : (q : ℕ) (x : Triple) → s.offered x ≡ true → 2 * x.round ≤ s.phase → correct s.group q ≡ true → s.accepted q x ≡ true
