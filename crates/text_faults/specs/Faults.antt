-- Number, layer, line and words of the faults of texts, read and written; a wrapped fault keeps its own. Assumes nothing.
use Rattle.std.specs.Prelude.{ℕ, List, ◌++◌, codes, decimal}
use Rattle.faults.specs.Faults.{list_number, list_layer, list_words}
use Rattle.faults.specs.declared.layers.Layer.{Layer}
use Rattle.faults.specs.declared.layers.Layer.TheVariants.{Text}
use Rattle.text_faults.specs.Causes.{cause_number, cause_layer, cause_words}
use Rattle.text_faults.specs.declared.errors.ReadError.{ReadError}
use Rattle.text_faults.specs.declared.errors.ReadError.TheVariants.{Fault, Memory}
use Rattle.text_faults.specs.declared.writes.WriteError.{WriteError}
use Rattle.text_faults.specs.declared.writes.WriteError.TheVariants.{Fault as Refusal, Memory as NoMemory}
use Rattle.text_faults.specs.declared.writes.WriteFault.{WriteFault}
use Rattle.text_faults.specs.declared.writes.WriteFault.TheVariants.{List as OfList, Short}
use Rattle.text_faults.specs.declared.texts.TextFault.{TextFault}

abbrev pub text_number : TextFault → ℕ
text_number e = cause_number e.cause

abbrev pub text_layer : TextFault → Layer
text_layer e = cause_layer e.cause

abbrev pub line_of : TextFault → ℕ
line_of e = e.line

abbrev pub text_words : TextFault → List ℕ
text_words e = cause_words e.cause

-- what a reader is shown: the line, then the cause
abbrev pub text_shown : TextFault → List ℕ
text_shown e = codes "line " ++ (decimal (line_of e) ++ (codes ": " ++ text_words e))

-- what is said of a fault; of want of memory nothing is
abbrev pub Faulted : ReadError → (TextFault → Type 0) → Type 0
Faulted (Fault e) P = P e
Faulted (Memory _) P = Unit {0}

-- a buffer that is too short is fault 21 of the text
abbrev pub write_number : WriteFault → ℕ
write_number (OfList e) = list_number e
write_number Short = 21

abbrev pub write_layer : WriteFault → Layer
write_layer (OfList e) = list_layer e
write_layer Short = Text

abbrev pub write_words : WriteFault → List ℕ
write_words (OfList e) = list_words e
write_words Short = codes "buffer too short"

-- what is said of a fault; of want of memory nothing is
abbrev pub FaultedBy : WriteError → (WriteFault → Type 0) → Type 0
FaultedBy (Refusal e) P = P e
FaultedBy (NoMemory _) P = Unit {0}
