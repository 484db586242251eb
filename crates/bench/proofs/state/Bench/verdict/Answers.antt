use Rattle.std.proofs.Common.{◌≡◌, sym, ap, ◌∙◌, subst}
use Rattle.agreement.specs.Extraction.{verdict_of, Tells}
use Rattle.agreement.proofs.Verdicts.{verdict_tells}
use Rattle.bench.specs.Tables.{in_set}
use Rattle.bench.proofs.state.Bench.verdict.Goals as goal

pub returns-clause-tells : goal.returns-clause-tells
returns-clause-tells g c =
    let len = (g.C.Carriage.model c.args.self.now.carriage).len in
    let set = in_set c.args.self.now.extracted c.args.q in
    let shown : c.verdict.result ≡ verdict_of len set = c.verdict.ensures ∙ ap (λ n. verdict_of n set) c.list_len.ensures in
    subst (Tells len set) (sym shown) (verdict_tells len set)
