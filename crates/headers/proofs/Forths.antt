-- Every header line is one line, and is read back as it was written; the numbers and marks of a group make it again. Assumes
-- nothing.
use Rattle.std.proofs.Common.{◌≡◌, ℕ, ◌<◌, ◌≤◌, Bool, true, false, not, ◌&&◌, ltb, List, ◌++◌, length, Some, None, Ok, codes, decimal, refl, ap, ◌∙◌, arith}
use Rattle.std.proofs.lemmas.Bool.{cond-true, and_from, le-leb, lt-ltb, eq-eqb}
use Rattle.sets.proofs.Counts.{count_empty}
use Rattle.groups.specs.Groups.{marked}
use Rattle.groups.specs.declared.members.Group.{Group}
use Rattle.fields.specs.declared.kinds.ValueKind.{ValueKind}
use Rattle.fields.specs.declared.kinds.ValueKind.TheVariants.{Notices, Pulses}
use Rattle.cuts.specs.Cuts.{Lacks}
use Rattle.cuts.proofs.Decimal.{decode_forth}
use Rattle.cuts.proofs.Fields.{bind_forth, lacks_append, lacks_by, lacks_decimal, length_number}
use Rattle.headers.specs.Headers.{bench_reads, number_reads, count_reads, carriage_reads, kind_reads, group_fault_by}
use Rattle.headers.specs.Lines.{line_of_carriage, line_of_kind}
use Rattle.headers.specs.declared.carriages.CarriageKind.{CarriageKind}
use Rattle.headers.specs.declared.carriages.CarriageKind.TheVariants.{Echo, Seal}

-- no line feed, and at most 64 bytes
abbrev pub OneLine : List ℕ → Type 0
OneLine s = Lacks 10 s × (length s ≤ 64)

pub bench_line : OneLine (codes "bench=1")
bench_line = (lacks_by 10 (codes "bench=1") refl, omega arith)

pub bench_forth : bench_reads (codes "bench=1") ≡ Some (Ok tt)
bench_forth = refl

pub n_line : (n : ℕ) → n < 65536 → OneLine (codes "n=" ++ decimal n)
n_line n l = (lacks_append 10 (codes "n=") _ (lacks_by 10 (codes "n=") refl) (lacks_decimal 10 n l (λ h. omega arith)), omega (arith, length_number n l))

pub n_forth : (n : ℕ) → n < 65536 → number_reads (codes "n") (codes "n=" ++ decimal n) ≡ Some (Ok n)
n_forth n l = bind_forth _ (decode_forth n l)

pub t_line : (t : ℕ) → t < 65536 → OneLine (codes "t=" ++ decimal t)
t_line t l = (lacks_append 10 (codes "t=") _ (lacks_by 10 (codes "t=") refl) (lacks_decimal 10 t l (λ h. omega arith)), omega (arith, length_number t l))

pub t_forth : (t : ℕ) → t < 65536 → number_reads (codes "t") (codes "t=" ++ decimal t) ≡ Some (Ok t)
t_forth t l = bind_forth _ (decode_forth t l)

pub carriage_line : (c : CarriageKind) → OneLine (line_of_carriage c)
carriage_line Echo = (lacks_by 10 (codes "carriage=echo") refl, omega arith)
carriage_line Seal = (lacks_by 10 (codes "carriage=seal") refl, omega arith)

pub carriage_forth : (c : CarriageKind) → carriage_reads (line_of_carriage c) ≡ Some (Ok c)
carriage_forth Echo = refl
carriage_forth Seal = refl

pub kind_line : (k : ValueKind) → OneLine (line_of_kind k)
kind_line Notices = (lacks_by 10 (codes "kind=notice") refl, omega arith)
kind_line Pulses = (lacks_by 10 (codes "kind=pulse") refl, omega arith)

pub kind_forth : (k : ValueKind) → kind_reads (line_of_kind k) ≡ Some (Ok k)
kind_forth Notices = refl
kind_forth Pulses = refl

pub count_line : (n : ℕ) → n ≤ 4 → OneLine (codes "values=" ++ decimal n)
count_line n l = (lacks_append 10 (codes "values=") _ (lacks_by 10 (codes "values=") refl) (lacks_decimal 10 n (omega arith) (λ h. omega arith)), omega (arith, length_number n (omega arith)))

pub count_forth : (n : ℕ) → 1 ≤ n → n ≤ 4 → count_reads (codes "values=" ++ decimal n) ≡ Some (Ok n)
count_forth n a b = bind_forth _ (decode_forth n (omega arith)) ∙ ap Some (cond-true _ _ _ (and_from _ _ (le-leb 1 n a) (le-leb n 4 b)))

-- nobody past n is marked
pub unmarked : (g : Group) (k : ℕ) → g.n ≤ k → marked g k ≡ false
unmarked g k l = go (marked g k) refl
  where
    go : (b : Bool) → marked g k ≡ b → b ≡ false
    go true e = absurd (omega (arith, g.inside k e))
    go false e = refl

pub group_lawful : (g : Group) → group_fault_by g.n g.t (marked g) ≡ None
group_lawful g =
    cond-true _ _ _ (and_from _ _ (le-leb 1 g.n g.some) (le-leb g.n 16 g.few)) ∙ cond-true _ _ _ (lt-ltb _ _ g.tolerant)
    ∙ cond-true _ _ _ (and_from _ _ (eq-eqb _ 0 (count_empty 16 _ (λ k l. none k (marked g k) refl))) (le-leb _ _ g.tolerated))
  where
    none : (k : ℕ) (b : Bool) → marked g k ≡ b → (marked g k && not (ltb k g.n)) ≡ false
    none k true e = ap (λ x. marked g k && not x) (lt-ltb k g.n (g.inside k e)) ∙ ap (λ x. x && false) e
    none k false e = ap (λ x. x && not (ltb k g.n)) e
