use Rattle.std.proofs.Common.{rules, ap, ◌∙◌, arith}
use Rattle.std.proofs.lemmas.Iterator.{YieldsList-from_range}
use Rattle.std.proofs.lemmas.Iterator.Consumers.{YieldsList-from_filter, count_from_yields_List}
use Rattle.sets.specs.Sets.{count}
use Rattle.agreement.specs.Extraction.{vouched}
use Rattle.bench.proofs.Filled.{count_filtered}
use Rattle.bench.proofs.rounds.Round.origin_count.Goals as goal

pub returns : goal.returns
returns g c =
    let test = vouched (g.C.Carriage.model c.args.self.now.carriage.now) c.args.q c.args.v c.args.self.now.number in
    count_from_yields_List c.filter.result c.count.result c.count.ensures.ran (YieldsList-from_filter _ test (YieldsList-from_range 0 c.n-n.result c.n-n.result c.filter.ensures.source (omega arith)) c.filter.ensures.closure (λ x b q k. search rules))
    ∙ count_filtered test c.n-n.result ∙ ap (λ n. count n test) (c.n-n.ensures ∙ ap (λ k. k.n) c.group.ensures)
