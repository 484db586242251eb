use Rattle.sets.proofs.Masks.{bit_zero}
use Rattle.sets.proofs.ControllerSet.empty.Goals as goal

pub returns : goal.returns
returns c = bit_zero
