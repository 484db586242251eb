use Rattle.std.proofs.Common.{ℕ, Bool, refl, ◌∙◌, subst, rules}
use Rattle.std.proofs.lemmas.Iterator.{YieldsList-from_range, items_from_collect}
use Rattle.std.proofs.lemmas.Iterator.Consumers.{YieldsList-from_filter}
use Rattle.std.proofs.lemmas.Result.{IfOk-weaker}
use borrow.Author.Tests.{tests}
use Rattle.agreement.specs.Refusals.{tally_answer}
use Rattle.bench.specs.Views.{view_of}
use Rattle.groups.specs.Groups.{Lowest}
use Rattle.report.specs.Pool.{full}
use Rattle.report.proofs.Rising.{filter_risen}
use Rattle.report.proofs.pool.out_blocks.Goals as goal

pub returns : goal.returns
returns g c =
    let v = view_of c.args.bench.now in
    let q = c.lowest_correct-lowest.result in
    let out : ℕ → Bool = λ b. full (tally_answer g.C.Carriage v q b) in
    let low = subst (λ k. Lowest k q) c.group.ensures c.lowest_correct-lowest.ensures in
    IfOk-weaker c.collect.result _ _ (λ w e. (q, low, e ∙ filter_risen out 64))
    (items_from_collect c.collect.result c.collect.ensures.ran (YieldsList-from_filter _ out (YieldsList-from_range 0 64 64 c.filter.ensures.source refl) c.filter.ensures.closure (λ x r q k. search (rules, tests))))
