use Rattle.std.proofs.Common.{Some, ap, ◌∙◌, rules}
use Rattle.fields.specs.Back.{pulse_ok}
use Rattle.fields.proofs.pulses.PulseReportWritten.read.Goals as goal

pub returns : goal.returns
returns c = ap Some (pulse_ok c.in_ok-block.block c.in_ok-pulses.pulses _ c.in_ok-new.ensures.value) ∙ search rules
