-- The letters of a notice as bytes: F for a failed erase, P for a passed one. Assumes nothing.
use Rattle.std.specs.Prelude.{◌≡◌, ℕ, Bool, cond, ◌||◌, Some, None, Option, Result, ◌==◌}
use Rattle.std.specs.Result.{result_ok}
use Rattle.values.specs.declared.notices.UnknownLetter.{UnknownLetter}
use Rattle.values.specs.declared.notices.Outcome.{Outcome}
use Rattle.values.specs.declared.notices.Outcome.TheVariants.{Failed, Passed}

abbrev pub letter_f : ℕ
letter_f = 70

abbrev pub letter_p : ℕ
letter_p = 80

abbrev pub letter_of : Outcome → ℕ
letter_of Failed = letter_f
letter_of Passed = letter_p

abbrev pub is_letter : ℕ → Bool
is_letter c = c == letter_f || c == letter_p

-- the outcome that a letter stands for, if it is one of the two
abbrev pub outcome_by : ℕ → Option Outcome
outcome_by c = cond (c == letter_f) (Some Failed) (cond (c == letter_p) (Some Passed) None)

abbrev pub Decodes : ℕ → Result Outcome UnknownLetter → Type 0
Decodes c r = result_ok r ≡ outcome_by c
