use Rattle.std.proofs.Common.{length}
use Rattle.lists.proofs.+all_distinct.Given as goal

abbrev pub decreases-all_distinct : goal.decreases-all_distinct
decreases-all_distinct g l = length l.values.now
