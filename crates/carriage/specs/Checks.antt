-- What the check of relay is refused with, and what it does to the carriage. Assumes nothing.
use Rattle.std.specs.Prelude.{ℕ, true, Some, None, Option}
use Rattle.std.specs.Option.{option_or}
use Rattle.std.specs.Result.{result_err}
use Rattle.carriage.specs.Model.{Model, read_answer, turn_fault}
use Rattle.faults.specs.declared.causes.CarriageFault.{CarriageFault}
use Rattle.carriage.specs.declared.frames.Triple.{Triple}

-- a read is refused for a controller that is not correct, then for a triple out of range
abbrev pub cause_of_read : Model → ℕ → Triple → Option CarriageFault
cause_of_read m q x = result_err (read_answer m.group m.len q x true)

-- the first read, then the turn: where one of them is refused, nothing has happened
abbrev pub before_turn : Model → ℕ → Triple → Option CarriageFault
before_turn m q x = option_or (cause_of_read m q x) (turn_fault m)

abbrev pub relay_fault : Model → (q r : ℕ) → Triple → Option CarriageFault
relay_fault m q r x = option_or (before_turn m q x) (cause_of_read m r x)

-- the carriage was turned, or was left as it was
abbrev pub Went : Option CarriageFault → (turned unchanged : Type 0) → Type 0
Went None turned unchanged = turned
Went (Some e) turned unchanged = unchanged
