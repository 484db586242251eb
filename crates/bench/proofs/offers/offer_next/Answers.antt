use Rattle.std.proofs.Common.{◌≡◌, ◌<◌, leb, List, [], sym, ap, ◌∙◌, subst, arith}
use Rattle.std.proofs.lemmas.Bool.{cond-false, lt-leb}
use Rattle.carriage.specs.declared.frames.Triple.{Triple}
use Rattle.agreement.specs.Steps.{Offered, none}
use Rattle.bench.specs.Inner.{next_offers}
use Rattle.bench.specs.Tables.{in_set}
use Rattle.bench.proofs.offers.offer_next.Goals as goal

pub returns-else-round-t : goal.returns-else-round-t
returns-else-round-t g c =
    let m = g.C.Carriage.model c.args.carriage.now in
    let test = in_set c.args.news.now in
    let t : c.t.result ≡ m.group.t = c.t.ensures ∙ ap (λ k. k.t) c.group-group.ensures in
    let past : m.group.t < c.args.round = omega arith in
    let same : [] ≡ next_offers m test c.args.round = sym (cond-false (leb c.args.round m.group.t) _ _ (lt-leb _ _ past)) in
    subst (λ (xs : List Triple). Offered g.C.Carriage c.args.carriage.now xs c.args.carriage.now) same none
