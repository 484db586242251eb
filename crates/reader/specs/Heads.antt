-- What a reader answers to the seven header lines, one after the other: each leaves with its own fault, and the group is
-- made when the marks line has been read. Assumes nothing.
use Rattle.std.specs.Prelude.{ℕ, Bool, List, Ok, Err, codes, Result}
use Rattle.cuts.specs.Cuts.{there, on_result}
use Rattle.fields.specs.declared.kinds.ValueKind.{ValueKind}
use Rattle.headers.specs.Headers.{bench_reads, number_reads, count_reads, carriage_reads, kind_reads, marks_reads, in_table, group_fault_by, Head}
use Rattle.reader.specs.Reading.{fault_at, taken}
use Rattle.text_faults.specs.declared.texts.TextFault.{TextFault}
use Rattle.text_faults.specs.declared.causes.TextCause.TheVariants.{Group}
use Rattle.headers.specs.declared.carriages.CarriageKind.{CarriageKind}
use Rattle.reader.specs.declared.Reader.{Reader}

-- one reading after another
abbrev pub then : {X Y : Type 0} → Result X TextFault × Reader → (X → Reader → Result Y TextFault × Reader) → Result Y TextFault × Reader
then p f = on_result p.0 (λ x. f x p.1) (λ e. (Err e, p.1))

-- a group that cannot be made refuses the marks line
abbrev pub grouped : ℕ → ℕ → Reader → List Bool → Reader → Result (ℕ → Bool) TextFault × Reader
grouped n t r m after = there (group_fault_by n t (in_table m)) (λ e. (Err (fault_at r (Group e)), r)) (Ok (in_table m), after)

abbrev pub group_taken : ℕ → ℕ → Reader → Result (ℕ → Bool) TextFault × Reader
group_taken n t r = then (taken marks_reads r) (grouped n t r)

-- line after line, from the last header line back to the first
abbrev pub from_count : ℕ → ℕ → (ℕ → Bool) → CarriageKind → ValueKind → Reader → Result Head TextFault × Reader
from_count n t m c k r = then (taken count_reads r) (λ v after. (Ok (record { n = n; t = t; marks = m; carriage = c; kind = k; count = v }), after))

abbrev pub from_kind : ℕ → ℕ → (ℕ → Bool) → CarriageKind → Reader → Result Head TextFault × Reader
from_kind n t m c r = then (taken kind_reads r) (from_count n t m c)

abbrev pub from_carriage : ℕ → ℕ → (ℕ → Bool) → Reader → Result Head TextFault × Reader
from_carriage n t m r = then (taken carriage_reads r) (from_kind n t m)

abbrev pub from_marks : ℕ → ℕ → Reader → Result Head TextFault × Reader
from_marks n t r = then (group_taken n t r) (from_carriage n t)

abbrev pub from_t : ℕ → Reader → Result Head TextFault × Reader
from_t n r = then (taken (number_reads (codes "t")) r) (from_marks n)

abbrev pub from_n : Reader → Result Head TextFault × Reader
from_n r = then (taken (number_reads (codes "n")) r) from_t

abbrev pub head_taken : Reader → Result Head TextFault × Reader
head_taken r = then (taken bench_reads r) (λ _. from_n)
