use Rattle.sets.proofs.Masks.{bit_without}
use Rattle.sets.proofs.ControllerSet.without.Goals as goal

pub returns : goal.returns
returns c = bit_without c.args.self.bits c.args.other.bits
