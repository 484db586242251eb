-- The first place that holds a value is the one that the definition gives. Assumes nothing.
use Rattle.std.proofs.Common.{◌≡◌, ℕ, zero, suc, ◌+◌, ◌-◌, ◌<◌, Bool, true, false, cond, not, ◌&&◌, List, [], ◌∷◌, length, get_or, take, drop, is_some, Some, None, Option, sym, refl, ap, ◌∙◌, add-one, arith, length-drop, take_all, drop-cons}
use Rattle.std.specs.Option.{option_map}
use Rattle.std.proofs.lemmas.Bool.{cond-true, cond-false, true≢false, and_parts, not-true}
use Rattle.lists.specs.Lists.{place_of, FirstPlace, distinct, Apart}

module _ {K : Type 0} (same : K → K → Bool) where
  -- what is said of a list's later values is said of the shorter list
  tail : (w x : K) (xs : List K) (r : Option ℕ) → FirstPlace same w (x ∷ xs) (option_map suc r) → FirstPlace same w xs r
  tail w x xs None h = λ k l. h (suc k) (omega arith)
  tail w x xs (Some i) h = (omega (arith, h.0), h.1, λ k l. h.2 (suc k) (omega arith))

  pub first_is : (w : K) (xs : List K) (r : Option ℕ) → FirstPlace same w xs r → r ≡ place_of same w xs
  first_is w [] None h = refl
  first_is w [] (Some i) h = absurd (omega (arith, h.0))
  first_is w (x ∷ xs) None h = ap (option_map suc) (first_is w xs None (tail w x xs None h)) ∙ sym (cond-false (same x w) _ _ (h 0 (omega arith)))
  first_is w (x ∷ xs) (Some zero) h = sym (cond-true (same x w) _ _ h.1)
  first_is w (x ∷ xs) (Some (suc i)) h =
      ap (option_map suc) (first_is w xs (Some i) (tail w x xs (Some i) h)) ∙ sym (cond-false (same x w) _ _ (h.2 0 (omega arith)))

  lacks : (w : K) (xs : List K) → is_some (place_of same w xs) ≡ false → (k : ℕ) (d : K) → k < length xs → same (get_or xs k d) w ≡ false
  lacks w [] e k d l = absurd (omega arith)
  lacks w (x ∷ xs) e k d l = go (same x w) refl (place_of same w xs) refl e (lacks w xs) k l
    where
      go : (b : Bool) → same x w ≡ b → (r : Option ℕ) → place_of same w xs ≡ r → is_some (cond b (Some 0) (option_map suc r)) ≡ false
          → (is_some (place_of same w xs) ≡ false → (j : ℕ) (d : K) → j < length xs → same (get_or xs j d) w ≡ false)
          → (j : ℕ) → j < suc (length xs) → same (get_or (x ∷ xs) j d) w ≡ false
      go true b r p f rest j m = absurd (true≢false f)
      go false b (Some i) p f rest j m = absurd (true≢false f)
      go false b None p f rest zero m = b
      go false b None p f rest (suc j) m = rest (ap is_some p) j d (omega arith)

  -- a list with no repeated value has different values at any two places
  pub apart_from : (xs : List K) → distinct same xs ≡ true → Apart same xs
  apart_from [] e i j d l m = absurd (omega arith)
  apart_from (x ∷ xs) e i zero d l m = absurd (omega arith)
  apart_from (x ∷ xs) e zero (suc j) d l m = lacks x xs (not-true _ (and_parts _ _ e).0) j d (omega arith)
  apart_from (x ∷ xs) e (suc i) (suc j) d l m = apart_from xs (and_parts _ _ e).1 i j d (omega arith) (omega arith)
