use Rattle.std.proofs.Common.{◌≡◌, ℕ, List, ◌++◌, drop}
use Rattle.std.specs.Fmt.{HasWritten, IsPlainFormatter}
use Rattle.lines.specs.Printed.{happening_lines}
use Rattle.lines.proofs.printing.ReportDisplay.fmt.Given as goal

-- what is written and the lines of what is left are the lines of all
abbrev pub invariant-loop-event : goal.invariant-loop-event
invariant-loop-event g l =
    IsPlainFormatter l.fn.f
    → (done : List ℕ) × HasWritten g.W.Write.write_str_gives l.fn.f done l.f × (done ++ happening_lines (drop l.event-index l.event-items) ≡ happening_lines l.event-items)
