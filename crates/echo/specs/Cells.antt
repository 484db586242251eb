-- One cell of the table: what is known of one triple, and what a frame and a turn make of it. Assumes nothing.
use Rattle.std.specs.Prelude.{◌≡◌, ℕ, ◌<◌, Bool, false, ◌&&◌, ◌||◌, [], slice_index_or, ◌==◌}
use Rattle.sets.specs.Sets.{has}
use Rattle.sets.specs.declared.ControllerSet.{ControllerSet}
use Rattle.groups.specs.Groups.{correct}
use Rattle.groups.specs.declared.members.Group.{Group}
use Rattle.carriage.specs.declared.frames.Frame.{Frame}
use Rattle.echo.specs.Steps.{becomes_witness, accepts}
use Rattle.echo.specs.declared.cells.Cell.{Cell}

-- what a read past a table's end would give
abbrev pub no_set : ControllerSet
no_set = record { bits = 0 }

abbrev pub blank : Cell
blank = record { offered = false; told = no_set; witness = no_set; accepted = no_set; echoes = [] }

-- the marked controllers whose injected e-frames of the cell's triple q has heard
abbrev pub echoes_to : Cell → (q : ℕ) → ControllerSet
echoes_to c q = slice_index_or c.echoes q no_set

-- nothing is known of the triple
pub record Blank (c : Cell) : Type 0 where
  pub offered : c.offered ≡ false
  pub told : (q : ℕ) → has c.told q ≡ false
  pub witness : (q : ℕ) → has c.witness q ≡ false
  pub accepted : (q : ℕ) → has c.accepted q ≡ false
  pub echoes : (q p : ℕ) → q < 16 → has (echoes_to c q) p ≡ false

-- what q heard, and its step
abbrev pub cell_init : Cell → ℕ → Bool
cell_init c q = c.offered || has c.told q

abbrev pub cell_echoes : Cell → (q p : ℕ) → Bool
cell_echoes c q p = has c.witness p || has (echoes_to c q) p

abbrev pub cell_witness : Group → (k i : ℕ) → Cell → ℕ → Bool
cell_witness g k i c q = correct g q && becomes_witness g.t k i (cell_init c q) (cell_echoes c q)

abbrev pub cell_accepts : Group → (k i : ℕ) → Cell → ℕ → Bool
cell_accepts g k i c q = correct g q && accepts g.n g.t k i (cell_echoes c q)

-- the cell c of a triple becomes d by a frame that is heard as its init frame, or as its e-frame
pub record CellHears (init echo : Bool) (f : Frame) (c d : Cell) : Type 0 where
  pub offered : d.offered ≡ c.offered
  pub told : (q : ℕ) → has d.told q ≡ ((init && q == f.to) || has c.told q)
  pub witness : d.witness ≡ c.witness
  pub accepted : d.accepted ≡ c.accepted
  pub echoes : (q p : ℕ) → has (echoes_to d q) p ≡ ((echo && (q == f.to && p == f.from)) || has (echoes_to c q) p)

-- the cell c of a triple of round i becomes d at the turn of phase k
pub record CellTurned (g : Group) (k i : ℕ) (c d : Cell) : Type 0 where
  pub offered : d.offered ≡ c.offered
  pub told : d.told ≡ c.told
  pub witness : (q : ℕ) → has d.witness q ≡ (has c.witness q || cell_witness g k i c q)
  pub accepted : (q : ℕ) → has d.accepted q ≡ (has c.accepted q || cell_accepts g k i c q)
  pub echoes : d.echoes ≡ c.echoes
