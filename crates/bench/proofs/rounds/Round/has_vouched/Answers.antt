use Rattle.std.proofs.Common.{◌+◌, refl, rules, ◌∙◌, arith}
use Rattle.std.proofs.lemmas.Iterator.{YieldsList-from_range}
use Rattle.std.proofs.lemmas.Iterator.Search.{any_from_yields_List}
use Rattle.agreement.specs.Extraction.{triple}
use Rattle.bench.proofs.Vouched.{vouched_any}
use Rattle.bench.proofs.rounds.Round.has_vouched.Goals as goal

pub returns : goal.returns
returns g c =
    let m = g.C.Carriage.model c.args.self.now.carriage.now in
    let n = c.args.self.now.number in
    any_from_yields_List (λ j. m.accepted c.args.q (triple c.args.p c.args.v j)) _ _ _ c.any.ensures.ran (YieldsList-from_range 1 (n + 1) n refl (omega arith)) (λ x b q k. search rules) ∙ vouched_any m c.args.q c.args.v n c.args.p
