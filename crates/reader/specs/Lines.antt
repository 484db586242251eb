-- A line of a text is what stands before its line feed (10), at most 64 bytes. Assumes nothing.
use Rattle.std.specs.Prelude.{ℕ, cond, List, length, Some, None, Option, nat_le}
use Rattle.cuts.specs.Cuts.{bind, cut_at}

-- the first line, and the text after it
abbrev pub line_in : List ℕ → Option (List ℕ × List ℕ)
line_in s = bind (cut_at 10 s) (λ p. cond (nat_le (length p.0) 64) (Some p) None)
