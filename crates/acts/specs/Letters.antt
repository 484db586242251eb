-- The letters of injected frames as bytes: i, e and s. Assumes nothing.
use Rattle.std.specs.Prelude.{◌≡◌, ℕ, cond, Some, None, Option, Result, ◌==◌}
use Rattle.std.specs.Result.{result_ok}
use Rattle.acts.specs.declared.letters.Letter.{Letter}
use Rattle.acts.specs.declared.letters.Letter.TheVariants.{Init, Echo, Seal}
use Rattle.acts.specs.declared.letters.UnknownLetter.{UnknownLetter}

abbrev pub letter_byte : Letter → ℕ
letter_byte Init = 105
letter_byte Echo = 101
letter_byte Seal = 115

abbrev pub letter_by : ℕ → Option Letter
letter_by c = cond (c == 105) (Some Init) (cond (c == 101) (Some Echo) (cond (c == 115) (Some Seal) None))

abbrev pub Decodes : ℕ → Result Letter UnknownLetter → Type 0
Decodes c r = result_ok r ≡ letter_by c
