-- The state that a group, a list length, a phase and a table of cells stand for. Assumes nothing.
use Rattle.std.specs.Prelude.{ℕ, ◌&&◌, List, slice_index_or}
use Rattle.sets.specs.Sets.{has}
use Rattle.groups.specs.Groups.{correct}
use Rattle.carriage.specs.Triples.{in_range, slot_of}
use Rattle.groups.specs.declared.members.Group.{Group}
use Rattle.carriage.specs.declared.frames.Triple.{Triple}
use Rattle.echo.specs.State.{State}
use Rattle.echo.specs.Cells.{blank, echoes_to}
use Rattle.echo.specs.declared.cells.Cell.{Cell}

abbrev pub cell_of : List Cell → Triple → Cell
cell_of cells x = slice_index_or cells (slot_of x) blank

abbrev pub view_of : Group → ℕ → ℕ → List Cell → State
view_of g len phase cells = record {
  group = g;
  len = len;
  phase = phase;
  offered = λ x. in_range g len x && (cell_of cells x).offered;
  told = λ q x. in_range g len x && has (cell_of cells x).told q;
  witness = λ q x. in_range g len x && has (cell_of cells x).witness q;
  accepted = λ q x. in_range g len x && has (cell_of cells x).accepted q;
  echoed = λ q p x. in_range g len x && (correct g q && has (echoes_to (cell_of cells x) q) p);
}
