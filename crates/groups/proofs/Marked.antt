-- What the marks of a group are, and that somebody is correct. Assumes nothing.
use Rattle.std.proofs.Common.{◌≡◌, ℕ, ◌^◌, ◌<◌, ◌≤◌, Bool, true, false, not, ◌&&◌, Some, None, Option, ltb, sym, refl, ap, ◌∙◌, ⊎_elim, arith}
use Rattle.std.proofs.lemmas.Bool.{cases_lt, lt-ltb, ltb-true, eqb-true, and_parts, both_ways, not-false}
use Rattle.std.specs.Option.{MatchOption}
use Rattle.sets.specs.Sets.{has, count}
use Rattle.sets.proofs.Counts.{count_same, count_zero, count_wider, count_all, someone}
use Rattle.sets.proofs.Masks.{bit_high}
use Rattle.groups.specs.Groups.{marked, correct, marks_fit, Lowest}
use Rattle.groups.specs.declared.members.Group.{Group}
use Rattle.groups.specs.declared.members.Marks.{Marks}

pub correct_from : (g : Group) (k : ℕ) → k < g.n → marked g k ≡ false → correct g k ≡ true
correct_from g k l e = ap (λ b. b && not (marked g k)) (lt-ltb k g.n l) ∙ ap not e

-- the set that the code counts has the members that the definition counts
pub outside_counts : (p r b : ℕ → Bool) (n : ℕ) → ((k : ℕ) → r k ≡ (p k && not (b k))) → ((k : ℕ) → b k ≡ (ltb k n && ltb k 16)) → count 16 r ≡ count 16 (λ k. p k && not (ltb k n))
outside_counts p r b n without below =
    count_same 16 r (λ k. p k && not (ltb k n)) (λ k l. without k ∙ ap (λ x. p k && not x) (below k ∙ ap (λ x. ltb k n && x) (lt-ltb k 16 l) ∙ and_true (ltb k n)))
  where
    and_true : (x : Bool) → (x && true) ≡ x
    and_true true = refl
    and_true false = refl

pub marks_inside : (n t : ℕ) (m : Marks) → m.set.bits < 2 ^ 16 → marks_fit n t m ≡ true → (k : ℕ) → has m.set k ≡ true → k < n
marks_inside n t m small fit k marks = ⊎_elim in_range_lem past (cases_lt k 16)
  where
    none : count 16 (λ k. has m.set k && not (ltb k n)) ≡ 0
    none = eqb-true _ 0 (and_parts _ _ fit).0

    past : 16 ≤ k → k < n
    past h = absurd (both_ways (has m.set k) (bit_high 16 m.set.bits k small h) marks)

    in_range_lem : k < 16 → k < n
    in_range_lem l = ltb-true k n (go (ltb k n) (sym (ap (λ b. b && not (ltb k n)) marks) ∙ count_zero 16 _ none k l))
      where
        go : (b : Bool) → not b ≡ false → b ≡ true
        go b e = not-false b e

-- in every group some controller is not marked
pub someone_correct : (g : Group) → (k : ℕ) × (k < g.n) × (correct g k ≡ true)
someone_correct g =
    let narrow = count_wider g.n 16 (marked g) g.few in
    let fewer = g.tolerated in
    let few : count g.n (marked g) < count g.n (λ k. true) = omega (arith, count_all g.n, g.tolerant) in
    let w = someone g.n (λ k. true) (marked g) few in
    (w.0, w.1, correct_from g w.0 w.1 w.3)

pub correct_below : (g : Group) (k : ℕ) → correct g k ≡ true → k < 16
correct_below g k e = let few : g.n ≤ 16 = g.few in omega (arith, ltb-true k g.n (and_parts (ltb k g.n) _ e).0)

-- a search that goes up from 0 finds the correct controller with the smallest number
pub lowest_found : (g : Group) (r : Option ℕ)
    → MatchOption r ((k : ℕ) → 0 ≤ k → k < g.n → correct g k ≡ false) (λ q. (0 ≤ q) × (q < g.n) × (correct g q ≡ true) × ((k : ℕ) → 0 ≤ k → k < q → correct g k ≡ false))
    → (q : ℕ) × (r ≡ Some q) × Lowest g q
lowest_found g None none = let w = someone_correct g in absurd (both_ways (correct g w.0) (none w.0 (omega arith) w.1) w.2)
lowest_found g (Some q) first = (q, refl, (first.2, λ k l. first.3 k (omega arith) l))
