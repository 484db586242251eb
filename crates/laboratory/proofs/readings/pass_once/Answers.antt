use Rattle.std.proofs.Common.{◌+◌, sym, ap}
use Rattle.std.proofs.lemmas.Result.{MatchResult-at_ok}
use Rattle.agreement.specs.Views.{rules_of}
use Rattle.bench.specs.Views.{view_of}
use Rattle.laboratory.proofs.Asking.{passed_once}
use Rattle.laboratory.proofs.readings.pass_once.Goals as goal

pub returns-clause-passed : goal.returns-clause-passed
returns-clause-passed g c =
    let rules = rules_of g.K.Kind.same g.K.Kind.charge c.args.list.now in
    let played = c.in_ok-play.ensures in
    passed_once g.C.Carriage rules played.played (sym played.refusal) (c.closed-shot.result + 1) (ap (λ n. n + 1) c.closed-shot.ensures) (view_of c.close.new.self) (MatchResult-at_ok _ _ c.unwrap.result c.unwrap.ensures c.close.ensures.does)
    c.args.q c.args.block _ c.in_ok-verdict.ensures.is c.in_ok-tally.ensures
