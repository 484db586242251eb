-- There is just one group of four controllers of which 3 is marked, so that what it does can be computed. Assumes nothing.
use Rattle.std.proofs.Common.{◌≡◌, ℕ, zero, suc, ◌+◌, ◌*◌, ◌/◌, ◌%◌, ◌^◌, ◌<◌, ◌≤◌, true, cond, not, eqb, ltb, ◌⊎◌, sym, ap, ◌∙◌, inl, inr, ⊎_elim, arith, lit<, lit≤}
use mathlib.Core.HLevel.{is_prop→PathP}
use native.Mathlib.Bridge.{le_prop}
use Rattle.std.proofs.lemmas.Nat.{shr-shr}
use Rattle.std.proofs.lemmas.Bool.{eqb-true, eqb-false, and_parts, ltb-true, cases_eq, not-true}
use Rattle.std.proofs.lemmas.Bool.Decides.{nat_tests}
use Rattle.sets.specs.Sets.{bit, has, size, count}
use Rattle.sets.proofs.Masks.{bit_one}
use Rattle.groups.specs.Groups.{correct}
use Rattle.groups.specs.declared.members.Group.{Group}
use Rattle.groups.specs.declared.members.Marks.{Marks}
use Rattle.worked.specs.Four.{FourControllers}

shifted : (m k : ℕ) → bit (m / 2) k ≡ bit m (suc k)
unfolding bit
shifted m k = let e : 1 + k ≡ suc k = omega arith in ap (λ n. eqb (n % 2) 1) (shr-shr m 1 k ∙ ap (λ j. m / 2 ^ j) e)

first_bit : (m : ℕ) → m % 2 ≡ cond (bit m 0) 1 0
unfolding bit
first_bit m = grind (arith, nat_tests)

-- numbers with the same bits are equal
same_bits : (w m n : ℕ) → m ≤ w → n ≤ w → ((k : ℕ) → bit m k ≡ bit n k) → m ≡ n
same_bits zero m n a b e = omega arith
same_bits (suc w) m n a b e =
    let halves : m / 2 ≡ n / 2 = same_bits w (m / 2) (n / 2) (omega arith) (omega arith) (λ k. shifted m k ∙ e (suc k) ∙ sym (shifted n k)) in
    let lasts : m % 2 ≡ n % 2 = first_bit m ∙ ap (λ c. cond c 1 0) (e 0) ∙ sym (first_bit n) in
    omega arith

abbrev pub only_mark : Marks
only_mark = record { set = record { bits = 8 } }

pub mark_inside : (k : ℕ) → has only_mark.set k ≡ true → k < 4
mark_inside k e = omega (arith, eqb-true k 3 (sym (bit_one 3 k) ∙ e))

pub mark_tolerated : size only_mark.set ≤ 1
unfolding count bit
mark_tolerated = lit≤ tt

abbrev pub four : Group
four = record { n = 4; t = 1; marks = only_mark; some = lit≤ tt; few = lit≤ tt; tolerant = lit< tt; inside = mark_inside; tolerated = mark_tolerated }

pub is_four : (g : Group) → FourControllers g → g ≡ four
is_four g f = λ i. record {
  n = f.n i;
  t = f.t i;
  marks = record { set = record { bits = bits i } };
  some = is_prop→PathP (λ j. 1 ≤ f.n j) (λ j. le_prop) g.some four.some i;
  few = is_prop→PathP (λ j. f.n j ≤ 16) (λ j. le_prop) g.few four.few i;
  tolerant = is_prop→PathP (λ j. 3 * f.t j < f.n j) (λ j. le_prop) g.tolerant four.tolerant i;
  inside = is_prop→PathP (λ j. (k : ℕ) → bit (bits j) k ≡ true → k < f.n j) (λ j a b. λ l k e. le_prop (a k e) (b k e) l) g.inside four.inside i;
  tolerated = is_prop→PathP (λ j. count 16 (bit (bits j)) ≤ f.t j) (λ j. le_prop) g.tolerated four.tolerated i;
}
  where
    bits : g.marks.set.bits ≡ 8
    bits = let b = g.marks.set.bits in same_bits (b + 8) b 8 (omega arith) (omega arith) (λ k. f.marks k ∙ sym (bit_one 3 k))

pub three_correct : (q : ℕ) → correct four q ≡ true → (q ≡ 0) ⊎ ((q ≡ 1) ⊎ (q ≡ 2))
three_correct q ok =
    let both = and_parts (ltb q 4) (not (bit 8 q)) ok in
    let below : q < 4 = ltb-true q 4 both.0 in
    let other : q ≡ 3 → ⊥ = eqb-false q 3 (sym (bit_one 3 q) ∙ not-true (bit 8 q) both.1) in
    ⊎_elim inl (λ some. ⊎_elim (λ one. inr (inl one)) (λ more. inr (inr (omega arith))) (cases_eq q 1)) (cases_eq q 0)
