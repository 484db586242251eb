use Rattle.sets.proofs.Masks.{bit-and}
use Rattle.sets.proofs.ControllerSet.intersection.Goals as goal

pub returns : goal.returns
returns c = bit-and c.args.self.bits c.args.other.bits
