use Rattle.std.proofs.Common.{arith}
use Rattle.reader.proofs.Standing.{line_cut}
use Rattle.reader.proofs.guard.whole_line.Goals as goal

pub returns-in-Some : goal.returns-in-Some
returns-in-Some c = line_cut c.args.text.now _ _ c.in-Some.ensures (omega arith)
