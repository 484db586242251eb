-- What holds of an echo carriage at every moment. Assumes nothing.
use Rattle.std.specs.Prelude.{◌≡◌, ℕ, ◌+◌, ◌*◌, ◌<◌, ◌≤◌, true}
use Rattle.groups.specs.Groups.{correct, marked}
use Rattle.carriage.specs.Triples.{in_range}
use Rattle.carriage.specs.declared.frames.Triple.{Triple}
use Rattle.echo.specs.State.{State, takes_part}

pub record Consistent (s : State) : Type 0 where
  pub offers : (x : Triple) → s.offered x ≡ true → (in_range s.group s.len x ≡ true) × (correct s.group x.origin ≡ true) × (2 * x.round ≤ s.phase + 1)
  -- what is injected comes from marked controllers
  pub tells : (q : ℕ) (x : Triple) → s.told q x ≡ true → (marked s.group x.origin ≡ true) × (2 * x.round ≤ s.phase + 1)
  pub echoes : (q p : ℕ) (x : Triple) → s.echoed q p x ≡ true → marked s.group p ≡ true
  pub witnesses : (q : ℕ) (x : Triple) → s.witness q x ≡ true → (takes_part s q x ≡ true) × (2 * x.round ≤ s.phase)
  pub accepts : (q : ℕ) (x : Triple) → s.accepted q x ≡ true → takes_part s q x ≡ true
  -- nobody is a witness of a triple of a correct origin that was not offered
  pub unforged : (q : ℕ) (x : Triple) → s.witness q x ≡ true → correct s.group x.origin ≡ true → s.offered x ≡ true
  -- an offer makes all correct controllers witnesses at the turn of its own phase, and all accept one turn later
  pub spread : (q : ℕ) (x : Triple) → s.offered x ≡ true → 2 * x.round ≤ s.phase → correct s.group q ≡ true → s.witness q x ≡ true
  pub valid : (q : ℕ) (x : Triple) → s.offered x ≡ true → 2 * x.round < s.phase → correct s.group q ≡ true → s.accepted q x ≡ true
  -- where one has accepted, all correct controllers are witnesses
  pub backed : (q r : ℕ) (x : Triple) → s.accepted q x ≡ true → correct s.group r ≡ true → s.witness r x ≡ true
