-- The word of each kind of value, and the kind of each word. Assumes nothing.
use Rattle.std.specs.Prelude.{◌≡◌, ℕ, cond, List, Some, None, Ok, codes, Option, Result}
use Rattle.std.specs.Str.{bytes_eq}
use Rattle.cuts.specs.Cuts.{bind}
use Rattle.text_faults.specs.Causes.{as_read}
use Rattle.text_faults.specs.declared.lines.LineFault.{LineFault}
use Rattle.fields.specs.declared.kinds.ValueKind.{ValueKind}
use Rattle.fields.specs.declared.kinds.ValueKind.TheVariants.{Notices, Pulses}

abbrev pub kind_word : ValueKind → List ℕ
kind_word Notices = codes "notice"
kind_word Pulses = codes "pulse"

abbrev pub kind_by : List ℕ → Option ValueKind
kind_by w = cond (bytes_eq w (codes "notice")) (Some Notices) (cond (bytes_eq w (codes "pulse")) (Some Pulses) None)

-- any other word is not in its form
abbrev pub KindBy : List ℕ → Result ValueKind LineFault → Type 0
KindBy w r = as_read r ≡ bind (kind_by w) (λ k. Some (Ok k))
