use Rattle.std.proofs.Common.{Some, ap, ◌∙◌, rules}
use Rattle.fields.specs.Back.{notice_ok}
use Rattle.fields.proofs.notices.NoticeWritten.read.Goals as goal

pub returns : goal.returns
returns c = ap Some (notice_ok c.in_ok-outcome.outcome c.in_ok-block.block c.in_ok-tick.tick _ c.in_ok-new.ensures.value) ∙ search rules
