-- The word of each carriage, and the carriage of each word. Assumes nothing.
use Rattle.std.specs.Prelude.{◌≡◌, ℕ, cond, List, Some, None, Ok, codes, Option, Result}
use Rattle.std.specs.Str.{bytes_eq}
use Rattle.cuts.specs.Cuts.{bind}
use Rattle.text_faults.specs.Causes.{as_read}
use Rattle.text_faults.specs.declared.lines.LineFault.{LineFault}
use Rattle.headers.specs.declared.carriages.CarriageKind.{CarriageKind}
use Rattle.headers.specs.declared.carriages.CarriageKind.TheVariants.{Echo, Seal}

abbrev pub carriage_word : CarriageKind → List ℕ
carriage_word Echo = codes "echo"
carriage_word Seal = codes "seal"

abbrev pub carriage_by : List ℕ → Option CarriageKind
carriage_by w = cond (bytes_eq w (codes "echo")) (Some Echo) (cond (bytes_eq w (codes "seal")) (Some Seal) None)

-- any other word is not in its form
abbrev pub CarriageBy : List ℕ → Result CarriageKind LineFault → Type 0
CarriageBy w r = as_read r ≡ bind (carriage_by w) (λ c. Some (Ok c))
