-- Verdicts of sets of places: of equal sets, of a set of one place, of an empty one, of two places. Assumes nothing.
use Rattle.std.proofs.Common.{◌≡◌, ℕ, zero, suc, ◌+◌, ◌<◌, ◌≤◌, Bool, true, false, cond, eqb, sym, refl, ap, ◌∙◌, ⊎_elim, arith}
use Rattle.std.proofs.lemmas.Bool.{cases_Bool, cond-true, cond-false, both_ways, eq-eqb, ne_eqb, eqb-true, cases_lt, cases_eq, eqb-false}
use Rattle.sets.specs.Sets.{count}
use Rattle.sets.proofs.Counts.{count_same, count_empty, someone}
use Rattle.sets.proofs.Strict.{count_some, count_strict}
use Rattle.agreement.specs.Extraction.{highest, verdict_of, Tells}
use Rattle.agreement.specs.declared.moments.Verdict.TheVariants.{Place, SenderFaulty}

pub bool_same : (a b : Bool) → (a ≡ true → b ≡ true) → (b ≡ true → a ≡ true) → a ≡ b
bool_same true b f g = sym (f refl)
bool_same false true f g = g refl
bool_same false false f g = refl

highest_same : (n : ℕ) (p q : ℕ → Bool) → ((k : ℕ) → k < n → p k ≡ q k) → highest n p ≡ highest n q
unfolding highest
highest_same zero p q h = refl
highest_same (suc n) p q h = ap (λ b. cond b n (highest n p)) (h n (omega arith)) ∙ ap (λ x. cond (q n) n x) (highest_same n p q (λ k l. h k (omega arith)))

pub verdict_same : (n : ℕ) (p q : ℕ → Bool) → ((k : ℕ) → k < n → p k ≡ q k) → verdict_of n p ≡ verdict_of n q
verdict_same n p q h = ap (λ c. cond (eqb c 1) (Place (highest n p)) SenderFaulty) (count_same n p q h) ∙ ap (λ x. cond (eqb (count n q) 1) (Place x) SenderFaulty) (highest_same n p q h)

at_most_one : (n : ℕ) (p : ℕ → Bool) (x : ℕ) → ((k : ℕ) → k < n → p k ≡ true → k ≡ x) → count n p ≤ 1
unfolding count
at_most_one zero p x h = omega arith
at_most_one (suc n) p x h = ⊎_elim here (there (at_most_one n p x (λ k l. h k (omega arith)))) (cases_Bool (p n))
  where
    rest : p n ≡ true → count n p ≡ 0
    rest e = count_empty n p (λ k l. ⊎_elim (λ f. absurd (omega (arith, h n (omega arith) e, h k (omega arith) f))) (λ f. f) (cases_Bool (p k)))

    here : p n ≡ true → cond (p n) 1 0 + count n p ≤ 1
    here e = let z : count n p ≡ 0 = rest e in rw (e, z) (omega arith)

    there : count n p ≤ 1 → p n ≡ false → cond (p n) 1 0 + count n p ≤ 1
    there le e = rw e (omega arith)

highest_one : (n : ℕ) (p : ℕ → Bool) (x : ℕ) → x < n → p x ≡ true → ((k : ℕ) → k < n → p k ≡ true → k ≡ x) → highest n p ≡ x
unfolding highest
highest_one zero p x l e h = absurd (omega arith)
highest_one (suc n) p x l e h = ⊎_elim (λ f. cond-true (p n) _ _ f ∙ h n (omega arith) f) (λ f. cond-false (p n) _ _ f ∙ highest_one n p x (below f) e (λ k m. h k (omega arith))) (cases_Bool (p n))
  where
    below : p n ≡ false → x < n
    below f = ⊎_elim (λ m. m) (λ m. let same : n ≡ x = omega arith in absurd (both_ways (p n) f (ap p same ∙ e))) (cases_lt x n)

-- the one place of a set
pub verdict_one : (n : ℕ) (p : ℕ → Bool) (x : ℕ) → x < n → p x ≡ true → ((k : ℕ) → k < n → p k ≡ true → k ≡ x) → verdict_of n p ≡ Place x
verdict_one n p x l e h =
    let one : count n p ≡ 1 = omega (arith, at_most_one n p x h, count_some n p x l e) in
    cond-true (eqb (count n p) 1) _ _ (eq-eqb (count n p) 1 one) ∙ ap Place (highest_one n p x l e h)

pub verdict_none : (n : ℕ) (p : ℕ → Bool) → ((k : ℕ) → k < n → p k ≡ false) → verdict_of n p ≡ SenderFaulty
verdict_none n p h = let z : count n p ≡ 0 = count_empty n p h in cond-false (eqb (count n p) 1) _ _ (ne_eqb (count n p) 1 (λ e. omega arith))

pub verdict_two : (n : ℕ) (p : ℕ → Bool) (x y : ℕ) → x < n → y < n → (x ≡ y → ⊥) → p x ≡ true → p y ≡ true → verdict_of n p ≡ SenderFaulty
verdict_two n p x y xl yl other xe ye =
    let more = count_strict n (λ j. eqb j x) p (λ j m h. ap p (eqb-true j x h) ∙ xe) y yl (ne_eqb y x (λ h. other (sym h))) ye in
    let some = count_some n (λ j. eqb j x) x xl (eq-eqb x x refl) in
    cond-false (eqb (count n p) 1) _ _ (ne_eqb (count n p) 1 (λ e. omega (arith, more, some)))

highest_in : (n : ℕ) (p : ℕ → Bool) → 0 < count n p → (highest n p < n) × (p (highest n p) ≡ true)
unfolding count highest
highest_in zero p h = absurd (omega arith)
highest_in (suc n) p h = go (p n) refl (highest_in n p)
  where
    go : (b : Bool) → p n ≡ b → (0 < count n p → (highest n p < n) × (p (highest n p) ≡ true)) → (cond (p n) n (highest n p) < suc n) × (p (cond (p n) n (highest n p)) ≡ true)
    go true e below = rw e (omega arith, e)
    go false e below =
        let some : 0 < count n p = (let z : ◌≡◌ {A = ℕ} (cond (p n) 1 0) 0 = ap (λ b. cond b 1 0) e in omega arith) in
        let w = below some in
        rw e (omega (arith, w.0), w.1)

-- the verdict tells whether one place is alone in the set
pub verdict_tells : (n : ℕ) (p : ℕ → Bool) → Tells n p (verdict_of n p)
verdict_tells n p = go (eqb (count n p) 1) refl
  where
    two : (x : ℕ) → 1 < count n p → (k : ℕ) × (k < n) × (p k ≡ true) × (k ≡ x → ⊥)
    two x many =
        let few = at_most_one n (λ k. eqb k x) x (λ k l e. eqb-true k x e) in
        let w = someone n p (λ k. eqb k x) (omega (arith, few)) in
        (w.0, w.1, w.2, eqb-false w.0 x w.3)

    go : (b : Bool) → eqb (count n p) 1 ≡ b → Tells n p (cond b (Place (highest n p)) SenderFaulty)
    go true e =
        let one : count n p ≡ 1 = eqb-true (count n p) 1 e in
        let w = highest_in n p (omega arith) in
        (w.0, w.1, λ k l f. ⊎_elim (λ same. same) (λ other. absurd (alone k l f other)) (cases_eq k (highest n p)))
      where
        alone : (k : ℕ) → k < n → p k ≡ true → (k ≡ highest n p → ⊥) → ⊥
        alone k l f other =
            let w = highest_in n p (omega (arith, eqb-true (count n p) 1 e)) in
            let more = count_strict n (λ j. eqb j k) p (λ j m h. ap p (eqb-true j k h) ∙ f) (highest n p) w.0 (ne_eqb (highest n p) k (λ h. other (sym h))) w.1 in
            let some = count_some n (λ j. eqb j k) k l (eq-eqb k k refl) in
            omega (arith, more, some, eqb-true (count n p) 1 e)
    go false e = λ x l f. two x (omega (arith, count_some n p x l f, eqb-false (count n p) 1 e))
