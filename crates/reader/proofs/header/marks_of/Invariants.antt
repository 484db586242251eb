use Rattle.std.proofs.Common.{◌≤◌}
use Rattle.sets.proofs.Built.{BuiltBelow}
use Rattle.headers.specs.Headers.{in_table}
use Rattle.reader.proofs.header.marks_of.Given as goal

abbrev pub invariant-loop-k : goal.invariant-loop-k
invariant-loop-k l = (l.k ≤ 16) × BuiltBelow (in_table l.fn.table) l.k l.marks.set
