use Rattle.std.proofs.lemmas.Result.{IfOk-at_ok}
use Rattle.agreement.specs.Views.{rules_of}
use Rattle.laboratory.proofs.Retired.{retires}
use Rattle.laboratory.proofs.readings.three_shots.Goals as goal

pub returns-clause-retires : goal.returns-clause-retires
returns-clause-retires g c =
    let rules = rules_of g.K.Kind.same g.K.Kind.charge c.args.list.now in
    let open-bench = c.in_ok-bench.ensures in
    let one = c.in_ok-first.ensures in
    retires g.C.Carriage rules c.args.q c.args.block _ _ _ open-bench.law one.passed (IfOk-at_ok _ c.unwrap-second.ensures c.pass_once-2.ensures.passed) (IfOk-at_ok _ c.unwrap-third.ensures c.pass_once-3.ensures.passed)
