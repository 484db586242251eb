use Rattle.std.proofs.Common.{◌∷◌, ◌++◌, decimal, refl, ◌∙◌, rules}
use Rattle.std.proofs.Output.{has_written_append}
use Rattle.headers.proofs.Numbers.{first_shown, number_step}
use Rattle.headers.proofs.joins.ListedDisplay.fmt.Goals as goal

pub loop-number-init : goal.loop-number-init
loop-number-init g c plain = (decimal c.in-Some.first.now, c.in_ok-write.ensures.writes plain refl, first_shown _ _ _ c.in-Some.ensures.cases.0)

pub loop-number-preserved : goal.loop-number-preserved
loop-number-preserved g c plain =
    let so_far = c.loop-number.invariant plain in
    (so_far.0 ++ 44 ∷ decimal _, has_written_append _ _ _ _ _ _ so_far.1 (search rules), number_step c.in-Some.rest.now c.loop-number.number-index 0 so_far.0 c.loop-number-test.true ∙ so_far.2)
