use Rattle.std.proofs.Common.{⊎_elim, arith}
use Rattle.std.proofs.lemmas.Bool.{both_ways, cases_lt}
use Rattle.sets.specs.Sets.{has}
use Rattle.sets.proofs.Masks.{bit_high}
use Rattle.sets.proofs.ControllerSet.filter.Goals as goal

pub returns-clause-member : goal.returns-clause-member
returns-clause-member g c q e =
    ⊎_elim (λ l. c.loop-q.invariant.passed q (omega (arith, c.loop-q-test.false)) e)
    (λ h. absurd (both_ways (has c.args.self q) (bit_high 16 c.args.self.bits q (omega arith) h) e))
    (cases_lt q 16)
