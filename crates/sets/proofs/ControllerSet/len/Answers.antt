use Rattle.std.proofs.Common.{arith}
use Rattle.sets.proofs.Counts.{count_ones}
use Rattle.sets.proofs.ControllerSet.len.Goals as goal

pub returns : goal.returns
returns c = count_ones 16 c.args.self.bits (omega arith)
