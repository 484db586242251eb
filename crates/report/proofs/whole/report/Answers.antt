use Rattle.std.proofs.Common.{sym, ap, ◌∙◌}
use Rattle.std.proofs.lemmas.Result.{IfOk-weaker}
use Rattle.report.specs.Reports.{unheaded, notices, pulses}
use Rattle.report.specs.Texts.{head_taken}
use Rattle.report.proofs.whole.report.Goals as goal

pub returns-in-Err : goal.returns-in-Err
returns-in-Err c = IfOk-weaker c.stopped.result _ _ (λ p s. unheaded (ap head_taken (sym c.new-reader.ensures) ∙ c.in-Err.ensures) s) c.stopped.ensures

pub returns-in-Notices : goal.returns-in-Notices
returns-in-Notices c = IfOk-weaker c.run_kind.result _ _ (λ p s. notices (ap head_taken (sym c.new-reader.ensures) ∙ c.in-Ok.ensures) c.in-Notices.is s) c.run_kind.ensures

pub returns-in-Pulses : goal.returns-in-Pulses
returns-in-Pulses c =
    IfOk-weaker c.run_kind-in-Pulses.result _ _ (λ p s. pulses (ap head_taken (sym c.new-reader.ensures) ∙ c.in-Ok.ensures) c.in-Pulses.is s) c.run_kind-in-Pulses.ensures
