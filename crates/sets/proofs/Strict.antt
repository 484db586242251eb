-- Counts that are strictly larger. Assumes nothing.
use Rattle.std.proofs.Common.{◌≡◌, ℕ, zero, suc, ◌+◌, ◌<◌, ◌≤◌, Bool, true, false, cond, sym, refl, ap, ◌∙◌, ⊎_elim, arith}
use Rattle.std.proofs.lemmas.Bool.{cases_order, true≢false, both_ways}
use Rattle.sets.specs.Sets.{count}
use Rattle.sets.proofs.Counts.{count_mono}

-- what passes p passes q, and x passes q alone
pub count_strict : (n : ℕ) (p q : ℕ → Bool) → ((k : ℕ) → k < n → p k ≡ true → q k ≡ true) → (x : ℕ) → x < n → p x ≡ false → q x ≡ true → count n p < count n q
unfolding count
count_strict zero p q h x l e f = absurd (omega arith)
count_strict (suc n) p q h x l e f =
    ⊎_elim (λ same. last (ap p (sym same) ∙ e) (ap q (sym same) ∙ f)) (⊎_elim (λ lt. inner (p n) (q n) (h n (omega arith)) (count_strict n p q (λ k m. h k (omega arith)) x lt e f)) (λ gt. absurd (omega arith))) (cases_order x n)
  where
    below : count n p ≤ count n q
    below = count_mono n p q (λ k m. h k (omega arith))

    last : p n ≡ false → q n ≡ true → cond (p n) 1 0 + count n p < cond (q n) 1 0 + count n q
    last a b = rw (a, b) (omega (arith, below))

    inner : (a b : Bool) → (a ≡ true → b ≡ true) → count n p < count n q → cond a 1 0 + count n p < cond b 1 0 + count n q
    inner true true i lt = omega arith
    inner true false i lt = absurd (true≢false (sym (i refl)))
    inner false true i lt = omega arith
    inner false false i lt = omega arith

-- somebody passes, so the count is not 0
pub count_some : (n : ℕ) (p : ℕ → Bool) (x : ℕ) → x < n → p x ≡ true → 1 ≤ count n p
count_some n p x l e = omega (arith, count_strict n (λ k. false) p (λ k m f. absurd (both_ways false refl f)) x l refl e)
