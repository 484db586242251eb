-- Pulse reports as a kind: the same when both numbers agree; 8 pulses charge the block. Assumes nothing.
use Rattle.std.specs.Prelude.{ℕ, Bool, cond, ◌&&◌, Some, None, Option, ◌==◌}
use Rattle.values.specs.declared.pulses.PulseReport.{PulseReport}

abbrev pub same_pulses : PulseReport → PulseReport → Bool
same_pulses a b = a.block == b.block && a.pulses == b.pulses

abbrev pub pulse_charge : PulseReport → Option ℕ
pulse_charge v = cond (v.pulses == 8) (Some v.block) None
