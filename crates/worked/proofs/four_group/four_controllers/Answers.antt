use Rattle.std.proofs.Common.{ap, ◌∙◌}
use Rattle.std.proofs.lemmas.Result.{IfOk-at_ok}
use Rattle.sets.specs.Sets.{has}
use Rattle.bench.proofs.Chains.{taken}
use Rattle.worked.proofs.Table.{worked_cases, four_group, with_3}
use Rattle.worked.proofs.four_group.four_controllers.Goals as goal

pub unwrap-requires : goal.unwrap-requires
unwrap-requires c =
    let marked = IfOk-at_ok _ c.unwrap-marks.ensures c.with.ensures.value in
    taken c.new.result _ c.new.ensures.refusal (four_group c.unwrap-marks.result (with_3 _ c.none.result marked c.none.ensures))

pub returns : goal.returns
returns c =
    let marked = IfOk-at_ok _ c.unwrap-marks.ensures c.with.ensures.value in
    let made = IfOk-at_ok _ c.unwrap.ensures c.new.ensures.value in
    record {
      four = record { n = made.0; t = made.1; marks = λ k. ap (λ m. has m.set k) made.2 ∙ with_3 _ c.none.result marked c.none.ensures k };
      table = worked_cases;
    }
