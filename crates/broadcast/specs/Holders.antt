-- The controllers that have accepted a triple. Assumes nothing.
use Rattle.std.specs.Prelude.{◌≡◌, ℕ, Bool, ◌&&◌, nat_lt}
use Rattle.sets.specs.Sets.{has}
use Rattle.sets.specs.declared.ControllerSet.{ControllerSet}
use Rattle.carriage.specs.Model.{Model, is_correct, knows}
use Rattle.carriage.specs.declared.frames.Triple.{Triple}

-- q is correct and has accepted x, a triple in range
abbrev pub holds : Model → Triple → ℕ → Bool
holds m x q = is_correct m q && (knows m x && m.accepted q x)

-- the set has those below k that hold x
abbrev pub HoldersBelow : ℕ → Model → Triple → ControllerSet → Type 0
HoldersBelow k m x s = (q : ℕ) → has s q ≡ (nat_lt q k && holds m x q)
