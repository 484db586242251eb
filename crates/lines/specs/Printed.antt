-- The lines of a report, each with its line feed (10). Assumes nothing.
pub use Rattle.headers.specs.Lines.{commaed, marks_shown}
use Rattle.std.specs.Prelude.{ℕ, List, [], ◌∷◌, ◌++◌, Some, None, vec_items, codes, decimal, Option}
use Rattle.std.specs.Option.{option_map}
use Rattle.faults.specs.Faults.{layer_word}
use Rattle.agreement.specs.declared.moments.Verdict.{Verdict}
use Rattle.agreement.specs.declared.moments.Verdict.TheVariants.{Place, SenderFaulty}
use Rattle.lines.specs.declared.happenings.Happening.{Happening}
use Rattle.lines.specs.declared.happenings.Happening.TheVariants.{Refused, Shot}
use Rattle.lines.specs.declared.happenings.Report.{Report}

abbrev pub verdict_text : Verdict → List ℕ
verdict_text (Place p) = decimal p
verdict_text SenderFaulty = codes "sf"

-- refused=LINE,LAYER,NUMBER or shot=SHOT,SENDER,PLACE or shot=SHOT,SENDER,sf
abbrev pub happening_text : Happening → List ℕ
happening_text (Refused line layer number) = codes "refused=" ++ (decimal line ++ 44 ∷ (layer_word layer ++ 44 ∷ decimal number))
happening_text (Shot shot sender verdict) = codes "shot=" ++ (decimal shot ++ 44 ∷ (decimal sender ++ 44 ∷ verdict_text verdict))

abbrev pub happening_lines : List Happening → List ℕ
happening_lines [] = []
happening_lines (h ∷ hs) = happening_text h ++ 10 ∷ happening_lines hs

-- blocks are listed as marks are in a campaign: commas between them, or a dash
abbrev pub out_line : List ℕ → List ℕ
out_line blocks = codes "out=" ++ (marks_shown blocks ++ 10 ∷ [])

abbrev pub end_line : (taken refused : ℕ) → List ℕ
end_line taken refused = codes "end=" ++ (decimal taken ++ 44 ∷ (decimal refused ++ 10 ∷ []))

-- where the header was refused, no blocks are told
abbrev pub out_text : Option (List ℕ) → List ℕ
out_text None = []
out_text (Some blocks) = out_line blocks

abbrev pub report_text : Report → List ℕ
report_text p = happening_lines (vec_items p.events) ++ (out_text (option_map vec_items p.out) ++ end_line p.taken p.refused)
