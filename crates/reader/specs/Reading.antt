-- What a reader answers, and where it stands then. A reader is a text, a place in it and the number of the line that stands
-- there; lines count from 1, refused ones too. A refused line leaves the reader before it. Assumes nothing.
use Rattle.std.specs.Prelude.{◌≡◌, ℕ, ◌+◌, ◌-◌, ◌^◌, min, cond, ◌⊎◌, List, length, drop, Ok, Err, Option, Result, ◌==◌}
use Rattle.std.specs.Borrow.{Bor}
use Rattle.faults.specs.declared.causes.ValueFault.{ValueFault}
use Rattle.cuts.specs.Cuts.{there, cut_at}
use Rattle.reader.specs.Lines.{line_in}
use Rattle.text_faults.specs.declared.texts.TextFault.{TextFault}
use Rattle.text_faults.specs.declared.causes.TextCause.{TextCause}
use Rattle.text_faults.specs.declared.causes.TextCause.TheVariants.{Missing, Form, Value}
use Rattle.reader.specs.declared.Reader.{Reader}

-- a reader of a text at a place, before the line of a number
abbrev pub at : Bor (List ℕ) → ℕ → ℕ → Reader
at t p n = record { text = t; place = p; line = n }

-- the text from the reader's place on
abbrev pub left : Reader → List ℕ
left r = drop r.place r.text.now

-- the number of the next line; the count stops at the largest number of 64 bits
abbrev pub next : ℕ → ℕ
next n = min (n + 1) (2 ^ 64 - 1)

-- the reader behind a line and its line feed
abbrev pub passed : Reader → List ℕ → Reader
passed r line = record { text = r.text; place = r.place + (length line + 1); line = next r.line }

-- a fault at the line that the reader stands before
abbrev pub fault_at : Reader → TextCause → TextFault
fault_at r c = record { line = r.line; cause = c }

abbrev pub ranged : {X : Type 0} → Reader → Reader → Result X ValueFault → Result X TextFault × Reader
ranged r after (Ok x) = (Ok x, after)
ranged r after (Err e) = (Err (fault_at r (Value e)), r)

-- a line of a form: first it must be there (1), then have the form (2), then its numbers be in range (3)
abbrev pub taken : {X : Type 0} → (List ℕ → Option (Result X ValueFault)) → Reader → Result X TextFault × Reader
taken f r = there (line_in (left r)) (λ p. there (f p.0) (ranged r (passed r p.0)) (Err (fault_at r Form), r)) (Err (fault_at r Missing), r)

-- a line of a form whose value is handed on to a call that may refuse it: a fault of the line becomes an error by `wraps`, and
-- a refusal of either leaves the reader before the line
module _ {T U E : Type 0} (f : List ℕ → Option (Result T ValueFault)) (wraps : TextFault → E → Type 0) (keeps : T → Result U E → Type 0) (r after : Reader) where
  abbrev pub Kept : Result U E → Type 0
  Kept (Ok u) = (v : T) × (taken f r ≡ (Ok v, after)) × keeps v (Ok u)
  Kept (Err e) = (after ≡ r) × (((t : TextFault) × (taken f r ≡ (Err t, r)) × wraps t e) ⊎ ((v : T) × (s : Reader) × (taken f r ≡ (Ok v, s)) × keeps v (Err e)))

-- the reader behind a line of whatever form, or at the end of the text
abbrev pub skipped : Reader → Reader
skipped r = there (cut_at 10 (left r)) (λ p. passed r p.0) (record { text = r.text; place = length r.text.now; line = cond (length (left r) == 0) r.line (next r.line) })

-- a reader before the first line of a text
abbrev pub start : Bor (List ℕ) → Reader
start t = at t 0 1
