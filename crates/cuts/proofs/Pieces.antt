-- Where a line is cut. Assumes nothing.
use Rattle.std.proofs.Common.{◌≡◌, ℕ, zero, suc, ◌+◌, ◌-◌, ◌<◌, true, false, eqb, ltb, List, [], ◌∷◌, length, get_or, take, drop, position, Bool, cond, ◌≤◌, Some, None, sym, refl, ap, ◌∙◌, add-one, arith}
use Rattle.std.specs.Option.{option_map}
use Rattle.std.proofs.lemmas.Bool.{cond-true, cond-false, eq-eqb, ne_eqb, eqb-true, ltb-false}
use Rattle.std.specs.List.{position_or_len}
use Rattle.std.proofs.lemmas.List.Sums.{fails_before_first}
use Rattle.std.proofs.lemmas.List.Quantifiers.{position-Some}
use Rattle.std.proofs.lemmas.List.{take_rest}
use Rattle.cuts.specs.Cuts.{cut_at}

-- the first place that holds c is where the list is cut
pub cut_here : (c : ℕ) (s : List ℕ) (i : ℕ) → i < length s → ((k : ℕ) → k < i → get_or s k 0 ≡ c → ⊥) → get_or s i 0 ≡ c → cut_at c s ≡ Some (take i s, drop (suc i) s)
cut_here c [] i l before here = absurd (omega arith)
cut_here c (x ∷ xs) zero l before here = cond-true (eqb x c) _ _ (eq-eqb x c here)
cut_here c (x ∷ xs) (suc i) l before here =
    cond-false (eqb x c) _ _ (ne_eqb x c (before 0 (omega arith)))
    ∙ ap (option_map (λ p. (x ∷ p.0, p.1))) (cut_here c xs i (omega arith) (λ k m. before (suc k) (omega arith)) here)

pub cut_nowhere : (c : ℕ) (s : List ℕ) → ((k : ℕ) → k < length s → get_or s k 0 ≡ c → ⊥) → cut_at c s ≡ None
cut_nowhere c [] none = refl
cut_nowhere c (x ∷ xs) none =
    cond-false (eqb x c) _ _ (ne_eqb x c (none 0 (omega arith)))
    ∙ ap (option_map (λ p. (x ∷ p.0, p.1))) (cut_nowhere c xs (λ k m. none (suc k) (omega arith)))

clash : {b : Bool} → b ≡ false → b ≡ true → ⊥
clash f t = let z : true ≡ false = sym t ∙ f in let y : ◌≡◌ {A = ℕ} 0 1 = cc in omega arith

-- where the list is cut, by what `position` answers; the code lends the two pieces as parts of the list
pub cut_some : (c : ℕ) (s : List ℕ) (i : ℕ) → Some i ≡ position (λ b. eqb b c) s → cut_at c s ≡ Some (take i s, take (length s - (i + 1)) (drop (i + 1) s))
cut_some c s i e =
    let p = position-Some (λ b. eqb b c) s i 0 (sym e) in
    let rest : drop (suc i) s ≡ take (length s - (i + 1)) (drop (i + 1) s) = ap (λ n. drop n s) (sym (add-one i)) ∙ sym (take_rest s (i + 1)) in
    cut_here c s i p.0 (λ k l h. clash (p.2 k l) (eq-eqb (get_or s k 0) c h)) (eqb-true _ c p.1) ∙ ap (λ y. Some (take i s, y)) rest

pub cut_none : (c : ℕ) (s : List ℕ) → None ≡ position (λ b. eqb b c) s → cut_at c s ≡ None
cut_none c s e = cut_nowhere c s (λ k l h. clash (fails_before_first (λ b. eqb b c) s k 0 (omega (arith, past, l))) (eq-eqb (get_or s k 0) c h))
  where
    past : length s ≤ position_or_len (λ b. eqb b c) s
    past = go (ltb (position_or_len (λ b. eqb b c) s) (length s)) refl e
      where
        go : (b : Bool) → ltb (position_or_len (λ b. eqb b c) s) (length s) ≡ b → None ≡ cond b (Some (position_or_len (λ b. eqb b c) s)) None → length s ≤ position_or_len (λ b. eqb b c) s
        go true u f = let z : ◌≡◌ {A = ℕ} 0 1 = cc in absurd (omega arith)
        go false u f = ltb-false _ _ u
