-- How many numbers pass a test. Assumes nothing.
use Rattle.std.proofs.Common.{◌≡◌, ℕ, zero, suc, ◌+◌, ◌*◌, ◌/◌, ◌%◌, ◌^◌, ◌<◌, ◌≤◌, Bool, true, false, cond, not, eqb, sym, refl, ap, ◌∙◌, ⊎_elim, arith, pow-add}
use lib.Count.{ones, ones_step, ones-le}
use Rattle.std.proofs.lemmas.Nat.{shr-shr}
use Rattle.std.proofs.lemmas.Bool.{cases_order, cases_lt, cases_Bool, both_ways, true≢false, not-true, eqb-true, eqb-false}
use Rattle.std.proofs.lemmas.Bool.Decides.{nat_tests}
use Rattle.sets.specs.Sets.{bit, count}

pub count_none : (p : ℕ → Bool) → count 0 p ≡ 0
unfolding count
count_none p = refl

pub count_more : (n : ℕ) (p : ℕ → Bool) → count (suc n) p ≡ cond (p n) 1 0 + count n p
unfolding count
count_more n p = refl

pub count_same : (n : ℕ) (p q : ℕ → Bool) → ((k : ℕ) → k < n → p k ≡ q k) → count n p ≡ count n q
unfolding count
count_same zero p q h = refl
count_same (suc n) p q h =
    ap (λ b. cond b 1 0 + count n p) (h n (omega arith)) ∙ ap (λ m. cond (q n) 1 0 + m) (count_same n p q (λ k l. h k (omega arith)))

pub count_mono : (n : ℕ) (p q : ℕ → Bool) → ((k : ℕ) → k < n → p k ≡ true → q k ≡ true) → count n p ≤ count n q
unfolding count
count_mono zero p q h = omega arith
count_mono (suc n) p q h = go (p n) (q n) (h n (omega arith)) (count_mono n p q (λ k l. h k (omega arith)))
  where
    go : (a b : Bool) → (a ≡ true → b ≡ true) → count n p ≤ count n q → cond a 1 0 + count n p ≤ cond b 1 0 + count n q
    go true true i le = omega arith
    go true false i le = absurd (true≢false (sym (i refl)))
    go false true i le = omega arith
    go false false i le = omega arith

pub count_le : (n : ℕ) (p : ℕ → Bool) → count n p ≤ n
unfolding count
count_le zero p = omega arith
count_le (suc n) p = go (p n) (count_le n p)
  where
    go : (a : Bool) → count n p ≤ n → cond a 1 0 + count n p ≤ suc n
    go true le = omega arith
    go false le = omega arith

-- none of them passes exactly when the count is 0
pub count_zero : (n : ℕ) (p : ℕ → Bool) → count n p ≡ 0 → (k : ℕ) → k < n → p k ≡ false
unfolding count
count_zero zero p e k h = absurd (omega arith)
count_zero (suc n) p e k h = ⊎_elim (λ same. ap p same ∙ last) (⊎_elim (λ lt. count_zero n p rest k lt) (λ gt. absurd (omega arith))) (cases_order k n)
  where
    go : (a : Bool) (m : ℕ) → cond a 1 0 + m ≡ 0 → (a ≡ false) × (m ≡ 0)
    go true m z = absurd (omega arith)
    go false m z = (refl, omega arith)

    last : p n ≡ false
    last = (go (p n) (count n p) e).0

    rest : count n p ≡ 0
    rest = (go (p n) (count n p) e).1

pub count_empty : (n : ℕ) (p : ℕ → Bool) → ((k : ℕ) → k < n → p k ≡ false) → count n p ≡ 0
unfolding count
count_empty zero p h = refl
count_empty (suc n) p h = ap (λ b. cond b 1 0 + count n p) (h n (omega arith)) ∙ omega (arith, count_empty n p (λ k l. h k (omega arith)))

-- where more pass p than pass q, some number passes p and not q
pub someone : (n : ℕ) (p q : ℕ → Bool) → count n q < count n p → (k : ℕ) × (k < n) × (p k ≡ true) × (q k ≡ false)
unfolding count
someone zero p q h = absurd (omega arith)
someone (suc n) p q h = go (p n) (q n) refl refl h (λ l. wider (someone n p q l))
  where
    wider : (k : ℕ) × (k < n) × (p k ≡ true) × (q k ≡ false) → (k : ℕ) × (k < suc n) × (p k ≡ true) × (q k ≡ false)
    wider w = (w.0, omega arith, w.2, w.3)

    go : (a b : Bool) → p n ≡ a → q n ≡ b → cond b 1 0 + count n q < cond a 1 0 + count n p
        → (count n q < count n p → (k : ℕ) × (k < suc n) × (p k ≡ true) × (q k ≡ false)) → (k : ℕ) × (k < suc n) × (p k ≡ true) × (q k ≡ false)
    go true false e f l rest = (n, omega arith, e, f)
    go true true e f l rest = rest (omega arith)
    go false true e f l rest = rest (omega arith)
    go false false e f l rest = rest (omega arith)

count_front : (n : ℕ) (p : ℕ → Bool) → count (suc n) p ≡ cond (p 0) 1 0 + count n (λ k. p (suc k))
unfolding count
count_front zero p = refl
count_front (suc n) p = ap (λ m. cond (p (suc n)) 1 0 + m) (count_front n p) ∙ omega arith

shifted : (m k : ℕ) → bit (m / 2) k ≡ bit m (suc k)
unfolding bit
shifted m k = let e : 1 + k ≡ suc k = omega arith in ap (λ n. eqb (n % 2) 1) (shr-shr m 1 k ∙ ap (λ j. m / 2 ^ j) e)

first_bit : (m : ℕ) → m % 2 ≡ cond (bit m 0) 1 0
unfolding bit
first_bit m = grind (arith, nat_tests)

-- the number of ones is the number of bits that are set
pub count_ones : (w m : ℕ) → m < 2 ^ w → ones m ≡ count w (bit m)
unfolding count
count_ones zero m h = omega (arith, ones-le 0 m h)
count_ones (suc w) m h =
    let e : 2 ^ (1 + w) ≡ 2 * 2 ^ w = pow-add 2 1 w in
    let f : 1 + w ≡ suc w = omega arith in
    let g : m < 2 ^ (1 + w) = rw f h in
    ones_step m ∙ ap (λ n. m % 2 + n) (count_ones w (m / 2) (omega arith) ∙ count_same w (bit (m / 2)) (λ k. bit m (suc k)) (λ k _. shifted m k))
    ∙ ap (λ n. n + count w (λ k. bit m (suc k))) (first_bit m) ∙ sym (count_front w (bit m))

pub count_all : (n : ℕ) → count n (λ k. true) ≡ n
unfolding count
count_all zero = refl
count_all (suc n) = omega (arith, count_all n)

-- a longer range counts no less
pub count_wider : (m n : ℕ) (p : ℕ → Bool) → m ≤ n → count m p ≤ count n p
unfolding count
count_wider m zero p h = let e : m ≡ 0 = omega arith in rw e (omega arith)
count_wider m (suc n) p h = ⊎_elim (λ l. step (p n) (count_wider m n p (omega arith))) (λ g. let e : m ≡ suc n = omega arith in rw e (omega arith)) (cases_lt m (suc n))
  where
    step : (b : Bool) → count m p ≤ count n p → count m p ≤ cond b 1 0 + count n p
    step true le = omega arith
    step false le = omega arith

-- where somebody passes, the count is not 0
pub someone_in : (n : ℕ) (p : ℕ → Bool) (k : ℕ) → k < n → p k ≡ true → not (eqb (count n p) 0) ≡ true
someone_in n p k l e = ⊎_elim (λ z. absurd (both_ways (p k) (count_zero n p (eqb-true (count n p) 0 z) k l) e)) (λ f. ap not f) (cases_Bool (eqb (count n p) 0))

-- where the count is not 0, somebody passes
pub in_someone : (n : ℕ) (p : ℕ → Bool) → not (eqb (count n p) 0) ≡ true → (k : ℕ) × (k < n) × (p k ≡ true)
in_someone n p e =
    let none : count n (λ k. false) ≡ 0 = count_empty n (λ k. false) (λ k l. refl) in
    let some : (count n p ≡ 0) → ⊥ = eqb-false (count n p) 0 (not-true _ e) in
    let w = someone n p (λ k. false) (omega arith) in
    (w.0, w.1, w.2)
