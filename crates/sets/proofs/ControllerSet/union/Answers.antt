use Rattle.sets.proofs.Masks.{bit-or}
use Rattle.sets.proofs.ControllerSet.union.Goals as goal

pub returns : goal.returns
returns c = bit-or c.args.self.bits c.args.other.bits
