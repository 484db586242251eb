-- The header lines, without their line feed, and what they are read as: seven lines in this order,
--   bench=1   n=NUMBER   t=NUMBER   marks=MARKS   carriage=echo or seal   kind=notice or pulse   values=COUNT
-- with marks that rise, commas between them, or a dash for none. Assumes nothing.
use Rattle.std.specs.Prelude.{ℕ, ◌+◌, ◌*◌, Bool, true, false, cond, not, ◌&&◌, List, [], ◌∷◌, replicate, Some, None, Ok, Err, codes, Option, Result, ◌==◌, nat_le, nat_lt, slice_index_or, slice_set}
use Rattle.std.specs.Str.{bytes_eq}
use Rattle.sets.specs.Sets.{count}
use Rattle.faults.specs.declared.causes.ValueFault.{ValueFault}
use Rattle.faults.specs.declared.causes.ValueFault.TheVariants.{Mark, Count}
use Rattle.faults.specs.declared.causes.GroupFault.{GroupFault}
use Rattle.faults.specs.declared.causes.GroupFault.TheVariants.{Size, Tolerance, Marks}
use Rattle.groups.specs.Groups.{marked}
use Rattle.cuts.specs.Cuts.{bind, decode, keyed, on_result}
use Rattle.headers.specs.Carriages.{carriage_by}
use Rattle.headers.specs.declared.carriages.CarriageKind.{CarriageKind}
use Rattle.fields.specs.Kinds.{kind_by}
use Rattle.fields.specs.declared.kinds.ValueKind.{ValueKind}
use Rattle.headers.specs.declared.Header.{Header}

abbrev pub bench_reads : List ℕ → Option (Result (Unit {0}) ValueFault)
bench_reads s = cond (bytes_eq s (codes "bench=1")) (Some (Ok tt)) None

abbrev pub numbered : List ℕ → List ℕ → Option ℕ
numbered key s = bind (keyed key s) decode

abbrev pub number_reads : List ℕ → List ℕ → Option (Result ℕ ValueFault)
number_reads key s = bind (numbered key s) (λ n. Some (Ok n))

-- a list has 1 to 4 values
abbrev pub count_reads : List ℕ → Option (Result ℕ ValueFault)
count_reads s = bind (numbered (codes "values") s) (λ n. Some (cond (nat_le 1 n && nat_le n 4) (Ok n) (Err Count)))

abbrev pub carriage_reads : List ℕ → Option (Result CarriageKind ValueFault)
carriage_reads s = bind (keyed (codes "carriage") s) (λ w. bind (carriage_by w) (λ c. Some (Ok c)))

abbrev pub kind_reads : List ℕ → Option (Result ValueKind ValueFault)
kind_reads s = bind (keyed (codes "kind") s) (λ w. bind (kind_by w) (λ k. Some (Ok k)))

abbrev pub on_head : ℕ → List (List ℕ) → List (List ℕ)
on_head x [] = []
on_head x (p ∷ ps) = (x ∷ p) ∷ ps

-- the pieces between commas
abbrev pub pieces : List ℕ → List (List ℕ)
pieces [] = [] ∷ []
pieces (x ∷ xs) = cond (x == 44) ([] ∷ pieces xs) (on_head x (pieces xs))

-- the table has an entry for each number that a mark may have
abbrev pub empty_marks : List Bool
empty_marks = replicate 16 false

-- one mark more in the table: marks rise, and a number above 15 is out of range
abbrev pub mark_put : ℕ → List Bool → ℕ → Option (Result (List Bool) ValueFault)
mark_put least t m = cond (nat_le least m) (Some (cond (nat_le m 15) (Ok (slice_set t m true)) (Err Mark))) None

-- marks from `least` on are put into the table; one out of range is told only where all of the line has its form
abbrev pub marks_from : ℕ → List Bool → List (List ℕ) → Option (Result (List Bool) ValueFault)
marks_from least t [] = Some (Ok t)
marks_from least t (f ∷ fs) = bind (decode f) (λ m. bind (mark_put least t m) (λ r. on_result r (λ u. marks_from (m + 1) u fs) (λ e. bind (marks_from (m + 1) t fs) (λ _. Some (Err e)))))

abbrev pub marks_field : List ℕ → Option (Result (List Bool) ValueFault)
marks_field b = cond (bytes_eq b (45 ∷ [])) (Some (Ok empty_marks)) (marks_from 0 empty_marks (pieces b))

abbrev pub marks_reads : List ℕ → Option (Result (List Bool) ValueFault)
marks_reads s = bind (keyed (codes "marks") s) marks_field

-- who is marked by a table
abbrev pub in_table : List Bool → ℕ → Bool
in_table t k = slice_index_or t k false

-- why n, t and marks make no group: n is 1 to 16, n > 3t, all marks are below n and at most t
abbrev pub group_fault_by : ℕ → ℕ → (ℕ → Bool) → Option GroupFault
group_fault_by n t m = cond (nat_le 1 n && nat_le n 16) (cond (nat_lt (3 * t) n) (cond (count 16 (λ k. m k && not (nat_lt k n)) == 0 && nat_le (count 16 m) t) None (Some Marks)) (Some Tolerance)) (Some Size)

-- what a header says: a group, by its numbers and its marks, the carriage, the kind of value, and how many values there are
pub record Head : Type 0 where
  pub n : ℕ
  pub t : ℕ
  pub marks : ℕ → Bool
  pub carriage : CarriageKind
  pub kind : ValueKind
  pub count : ℕ

abbrev pub head_of : Header → Head
head_of h = record { n = h.group.n; t = h.group.t; marks = marked h.group; carriage = h.carriage; kind = h.kind; count = h.count }
