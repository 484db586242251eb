-- Number, layer and words of why a line is refused; a wrapped fault keeps its own. What the fault of a line says of a reading
-- of it: nothing where the line has not the form, a fault where a number of it is out of range. Assumes nothing.
use Rattle.std.specs.Prelude.{ℕ, List, Some, None, Ok, Err, codes, Option, Result}
use Rattle.faults.specs.Faults.{value_number, value_layer, value_words, group_number, group_layer, group_words, list_number, list_layer, list_words}
use Rattle.faults.specs.declared.causes.ValueFault.{ValueFault}
use Rattle.faults.specs.declared.layers.Layer.{Layer}
use Rattle.faults.specs.declared.layers.Layer.TheVariants.{Text}
use Rattle.text_faults.specs.declared.causes.TextCause.{TextCause}
use Rattle.text_faults.specs.declared.causes.TextCause.TheVariants.{Missing, Form, Value, Group, List as OfList}
use Rattle.text_faults.specs.declared.lines.LineFault.{LineFault}
use Rattle.text_faults.specs.declared.lines.LineFault.TheVariants.{Form as NoForm, Value as OutOfRange}

abbrev pub cause_number : TextCause → ℕ
cause_number Missing = 1
cause_number Form = 2
cause_number (Value e) = value_number e
cause_number (Group e) = group_number e
cause_number (OfList e) = list_number e

abbrev pub cause_layer : TextCause → Layer
cause_layer Missing = Text
cause_layer Form = Text
cause_layer (Value e) = value_layer e
cause_layer (Group e) = group_layer e
cause_layer (OfList e) = list_layer e

abbrev pub cause_words : TextCause → List ℕ
cause_words Missing = codes "line missing, over 64 bytes, or without a line feed"
cause_words Form = codes "wrong key, or a value not in its form"
cause_words (Value e) = value_words e
cause_words (Group e) = group_words e
cause_words (OfList e) = list_words e

-- a line that is there is refused for its own fault
abbrev pub cause_of_line : LineFault → TextCause
cause_of_line NoForm = Form
cause_of_line (OutOfRange e) = Value e

abbrev pub as_read : {X : Type 0} → Result X LineFault → Option (Result X ValueFault)
as_read (Ok x) = Some (Ok x)
as_read (Err NoForm) = None
as_read (Err (OutOfRange e)) = Some (Err e)
