-- A table filled with one value, and how many numbers a filter leaves. Assumes nothing.
use Rattle.std.proofs.Common.{◌≡◌, ℕ, zero, suc, ◌+◌, Bool, true, false, cond, [], ◌∷◌, ◌++◌, length, get_or, replicate, sym, refl, ap, ◌∙◌, ⊎_elim, add-one, arith}
use Rattle.std.specs.List.{filter, range_with_len}
use lib.ListN.{length-replicate, get_or-replicate}
use Rattle.std.proofs.lemmas.List.{get_or_past, length-append, map-id}
use Rattle.std.proofs.lemmas.List.Elements.{filter-append}
use Rattle.std.proofs.lemmas.List.FromFn.{map-range_with_len_more}
use Rattle.std.proofs.lemmas.Bool.{cases_lt}
use Rattle.sets.specs.Sets.{count}
use Rattle.sets.proofs.Counts.{count_none, count_more}

-- where every element is a, and so is what stands for the others
pub filled : {A : Type 0} (n i : ℕ) (a d : A) (P : A → Type 0) → P a → P d → P (get_or (replicate n a) i d)
filled n i a d P x y =
    ⊎_elim (λ l. let e : get_or (replicate n a) i d ≡ a = get_or-replicate n i a d l in rw e x) (λ l. let e : get_or (replicate n a) i d ≡ d = get_or_past (replicate n a) i d (omega (arith, length-replicate n a)) in rw e y) (cases_lt i n)

-- one number more in a range
pub range_more : (a n j : ℕ) → a + n ≡ j → range_with_len a (suc n) ≡ range_with_len a n ++ j ∷ []
range_more a n j e =
    ap (range_with_len a) (sym (add-one n)) ∙ sym (map-id (range_with_len a (n + 1))) ∙ map-range_with_len_more (λ k. k) a n j e ∙ ap (λ l. l ++ j ∷ []) (map-id (range_with_len a n))

-- as many numbers below n are left by a filter as pass the test
pub count_filtered : (p : ℕ → Bool) (n : ℕ) → length (filter p (range_with_len 0 n)) ≡ count n p
count_filtered p zero = sym (count_none p)
count_filtered p (suc n) =
    let parts : length (filter p (range_with_len 0 (suc n))) ≡ length (filter p (range_with_len 0 n)) + length (filter p (n ∷ [])) =
    ap (λ l. length (filter p l)) (range_more 0 n n (omega arith)) ∙ ap length (filter-append p (range_with_len 0 n) (n ∷ [])) ∙ length-append (filter p (range_with_len 0 n)) (filter p (n ∷ [])) in
    omega (arith, parts, count_filtered p n, one (p n), count_more n p)
  where
    one : (b : Bool) → length (cond b (n ∷ []) []) ≡ cond b 1 0
    one true = refl
    one false = refl
