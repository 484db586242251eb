use Rattle.std.proofs.Common.{◌≡◌, ℕ, ◌+◌, ◌/◌, ◌<◌, ◌≤◌, length, get_or}
use Rattle.carriage.specs.Cells.{Makes}
use Rattle.carriage.proofs.table.Table.turn.Given as goal

abbrev pub invariant-loop-k : goal.invariant-loop-k
invariant-loop-k g l =
    record {
      turned : (d : _) (j : ℕ) → j < l.k → Makes g.F.Fn l.step (get_or l.initial.cell-items j d) (j / 64 + 1) (get_or l.cell-items j d);
      rest : (d : _) (j : ℕ) → l.k ≤ j → get_or l.cell-items j d ≡ get_or l.initial.cell-items j d;
      long : length l.cell-items ≡ 384;
    }
