use Rattle.std.proofs.Common.{ap, ◌∙◌}
use Rattle.std.proofs.lemmas.Result.{IfOk-weaker}
use Rattle.groups.specs.Groups.{marked}
use Rattle.headers.specs.Lines.{marks_shown}
use Rattle.text.proofs.Shown.{filter_list}
use Rattle.text.proofs.campaigns.parts.marks_text.Goals as goal

pub returns : goal.returns
returns c =
    let marks = c.deref.ensures.value ∙ c.in_ok-marks.ensures ∙ filter_list 16 0 (marked c.args.group.now) in
    IfOk-weaker c.to_string.result _ _ (λ t e. e ∙ ap marks_shown marks) c.to_string.ensures.ok
