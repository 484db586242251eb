-- Numbers that pass a test. Assumes nothing.
use Rattle.std.proofs.Common.{◌≡◌, ℕ, zero, suc, ◌+◌, ◌<◌, ◌≤◌, Bool, true, false, cond, List, [], ◌∷◌, ◌++◌, sym, refl, ap, ◌∙◌, subst, ⊎_elim, arith}
use Rattle.std.specs.List.{ContainsAt as Has}
use Rattle.std.proofs.ByRecursion.{has_append_left, has_push, has_push_cases}
use Rattle.std.specs.List.{range_with_len}
use Rattle.std.specs.Prelude.{filter}
use Rattle.std.proofs.lemmas.List.Elements.{filter-append}
use Rattle.std.proofs.lemmas.List.{append-nil}
use Rattle.std.proofs.lemmas.Bool.{cases_lt}
use Rattle.report.specs.Pool.{risen}

range_last : (a n : ℕ) → range_with_len a (suc n) ≡ range_with_len a n ++ (a + n) ∷ []
range_last a zero = ap (λ m. m ∷ []) (omega arith)
range_last a (suc n) = ap (λ ms. a ∷ ms) (range_last (a + 1) n ∙ ap (λ m. range_with_len (a + 1) n ++ m ∷ []) (omega arith))

-- the numbers below n, filtered
pub filter_risen : (p : ℕ → Bool) (n : ℕ) → filter p (range_with_len 0 n) ≡ risen n p
unfolding risen
filter_risen p zero = refl
filter_risen p (suc n) =
    ap (filter p) (range_last 0 n ∙ ap (λ m. range_with_len 0 n ++ m ∷ []) (omega arith)) ∙ filter-append p (range_with_len 0 n) (n ∷ []) ∙ ap (λ ms. ms ++ cond (p n) (n ∷ []) []) (filter_risen p n)

-- the numbers that rose are those below n that pass
risen_last : (p : ℕ → Bool) (n b : ℕ) → b < suc n → n ≤ b → p b ≡ true → Has (risen n p ++ cond (p n) (n ∷ []) []) b
risen_last p n b l k t =
    let same : n ≡ b = omega arith in
    subst (λ x. Has (risen n p ++ cond x (n ∷ []) []) b) (sym (ap p same ∙ t)) (subst (λ (x : ℕ). Has (risen n p ++ n ∷ []) x) same (has_push (risen n p) n))

pub has_risen : (p : ℕ → Bool) (n b : ℕ) → b < n → p b ≡ true → Has (risen n p) b
unfolding risen
has_risen p zero b l t = absurd (omega arith)
has_risen p (suc n) b l t = ⊎_elim (λ k. has_append_left (risen n p) (cond (p n) (n ∷ []) []) b (has_risen p n b k t)) (λ k. risen_last p n b l k t) (cases_lt b n)

pub risen_has : (p : ℕ → Bool) (n b : ℕ) → Has (risen n p) b → (b < n) × (p b ≡ true)
unfolding risen
risen_has p zero b h = absurd (omega (arith, h.1))
risen_has p (suc n) b h = go (risen_has p n b) (p n) refl h
  where
    go : (Has (risen n p) b → (b < n) × (p b ≡ true)) → (x : Bool) → p n ≡ x → Has (risen n p ++ cond x (n ∷ []) []) b → (b < suc n) × (p b ≡ true)
    go below true t h = ⊎_elim (λ k. let w = below k in (omega arith, w.1)) (λ e. (omega arith, ap p (sym e) ∙ t)) (has_push_cases (risen n p) n b h)
    go below false t h = let w = below (subst (λ (xs : List ℕ). Has xs b) (append-nil (risen n p)) h) in (omega arith, w.1)
