-- Which fault a number out of its range is refused with, if any. Assumes nothing.
use Rattle.std.specs.Prelude.{ℕ, cond, ◌&&◌, Some, None, Option, nat_le, nat_lt}
use Rattle.faults.specs.declared.causes.ValueFault.{ValueFault}
use Rattle.faults.specs.declared.causes.ValueFault.TheVariants.{Block, Pulses}

-- blocks are 0 to 63
abbrev pub block_fault : ℕ → Option ValueFault
block_fault b = cond (nat_lt b 64) None (Some Block)

-- pulses are 1 to 8; the block is looked at first
abbrev pub pulse_fault : ℕ → ℕ → Option ValueFault
pulse_fault b p = cond (nat_lt b 64) (cond (nat_le 1 p && nat_le p 8) None (Some Pulses)) (Some Block)
