use Rattle.std.proofs.Common.{◌≡◌, ℕ, List, ◌++◌, map, drop, decimal}
use Rattle.std.specs.Fmt.{HasWritten, IsPlainFormatter}
use Rattle.headers.specs.Lines.{commaed, marks_shown}
use Rattle.headers.proofs.joins.ListedDisplay.fmt.Given as goal

-- what is written and what the numbers that are left make are the text of all
abbrev pub invariant-loop-number : goal.invariant-loop-number
invariant-loop-number g l =
    IsPlainFormatter l.fn.f
    → (done : List ℕ) × HasWritten g.W.Write.write_str_gives l.fn.f done l.f × (done ++ commaed (map decimal (drop l.number-index l.rest)) ≡ marks_shown l.fn.self.0.now)
