-- One cell of the table, and what a turn makes of it. Assumes nothing.
use Rattle.std.specs.Prelude.{◌≡◌, ℕ, ◌+◌, ◌*◌, Bool, false, not, ◌&&◌, ◌||◌, ◌==◌}
use Rattle.sets.specs.Sets.{has, size}
use Rattle.sets.specs.declared.ControllerSet.{ControllerSet}
use Rattle.seal.specs.State.{takes}
use Rattle.seal.specs.declared.cells.Cell.{Cell}

-- nothing is known of the triple
pub record Blank (c : Cell) : Type 0 where
  pub offered : c.offered ≡ false
  pub accepted : (q : ℕ) → has c.accepted q ≡ false
  pub fresh : (q : ℕ) → has c.fresh q ≡ false
  pub told : (q : ℕ) → has c.told q ≡ false

-- what a read past the table's end would give
abbrev pub blank : Cell
blank = record { offered = false; accepted = record { bits = 0 }; fresh = record { bits = 0 }; told = record { bits = 0 } }

-- q hears the seal: it is on the way to all, or an injected one reached q
abbrev pub cell_hears : Cell → (phase round q : ℕ) → Bool
cell_hears c phase round q = ((c.offered && 2 * round == phase + 1) || not (size c.fresh == 0)) || has c.told q

-- q takes its step and accepts
abbrev pub cell_steps : Cell → (phase round : ℕ) → ControllerSet → ℕ → Bool
cell_steps c phase round correct q = has correct q && takes phase round (cell_hears c phase round q)

pub record CellTurned (phase round : ℕ) (correct : ControllerSet) (c d : Cell) : Type 0 where
  pub offered : d.offered ≡ c.offered
  pub accepted : (q : ℕ) → has d.accepted q ≡ (has c.accepted q || cell_steps c phase round correct q)
  pub fresh : (q : ℕ) → has d.fresh q ≡ (cell_steps c phase round correct q && not (has c.accepted q))
  pub told : (q : ℕ) → has d.told q ≡ false
