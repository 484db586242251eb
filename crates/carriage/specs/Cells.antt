-- What a step makes of one cell of a table. Assumes nothing.
use Rattle.std.specs.Prelude.{◌≡◌, ℕ}
use Rattle.std.specs.Fn.{Shared}
use denote.Ref.{Bor}

-- a call of f at a reference to the cell c and the round i may give d
pub record Makes {F T : Type 0} (g : Shared F (Bor T × (ℕ × Unit {0})) T) (f : F) (c : T) (i : ℕ) (d : T) : Type 0 where
  pub shown : Bor T
  pub shows : shown.now ≡ c
  pub says : g.post f (shown, (i, tt)) d
