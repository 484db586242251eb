-- How many numbers pass one of two tests. Assumes nothing.
use Rattle.std.proofs.Common.{◌≡◌, ℕ, zero, suc, ◌+◌, ◌<◌, ◌≤◌, Bool, true, false, cond, ltb, ◌⊎◌, refl, ◌∙◌, ⊎_elim, arith}
use Rattle.std.proofs.lemmas.Bool.{lt-ltb, false≢true}
use Rattle.sets.specs.Sets.{count}
use Rattle.sets.proofs.Counts.{count_same, count_all, count_wider}

-- where every number that passes r passes p or q, there are no more of r than of p and q together
pub count_union : (n : ℕ) (p q r : ℕ → Bool) → ((k : ℕ) → k < n → r k ≡ true → (p k ≡ true) ⊎ (q k ≡ true)) → count n r ≤ count n p + count n q
unfolding count
count_union zero p q r h = omega arith
count_union (suc n) p q r h = go (p n) (q n) (r n) (h n (omega arith)) (count_union n p q r (λ k l. h k (omega arith)))
  where
    go : (a b c : Bool) → (c ≡ true → (a ≡ true) ⊎ (b ≡ true)) → count n r ≤ count n p + count n q
        → cond c 1 0 + count n r ≤ (cond a 1 0 + count n p) + (cond b 1 0 + count n q)
    go true true true i le = omega arith
    go true true false i le = omega arith
    go true false true i le = omega arith
    go true false false i le = omega arith
    go false true true i le = omega arith
    go false true false i le = omega arith
    go false false true i le = absurd (⊎_elim false≢true false≢true (i refl))
    go false false false i le = omega arith

-- m numbers are below m
pub count_below : (m n : ℕ) → m ≤ n → m ≤ count n (λ k. ltb k m)
count_below m n h =
    let all : count m (λ k. ltb k m) ≡ m = count_same m (λ k. ltb k m) (λ k. true) (λ k l. lt-ltb k m l) ∙ count_all m in
    let wide = count_wider m n (λ k. ltb k m) h in
    omega arith
