-- A set that a loop builds: of the controllers below k, those that pass a test. Assumes nothing.
use Rattle.std.proofs.Common.{◌≡◌, ℕ, ◌+◌, ◌<◌, Bool, true, false, ◌&&◌, ◌||◌, eqb, ltb, sym, ap, ◌∙◌, ⊎_elim, arith}
use Rattle.std.proofs.lemmas.Bool.{lt-ltb, le-ltb, eq-eqb, ne_eqb, cases_order, and_right}
use Rattle.sets.specs.Sets.{has}
use Rattle.sets.specs.declared.ControllerSet.{ControllerSet}

module _ (p : ℕ → Bool) where
  abbrev pub BuiltBelow : ℕ → ControllerSet → Type 0
  BuiltBelow k s = (q : ℕ) → has s q ≡ (ltb q k && p q)

  pub built_none : (s : ControllerSet) → ((q : ℕ) → has s q ≡ false) → BuiltBelow 0 s
  built_none s empty q = empty q ∙ sym (ap (λ b. b && p q) (le-ltb q 0 (omega arith)))

  -- one controller further, which fails the test or joins the set
  pub built_skip : (k : ℕ) (s : ControllerSet) → BuiltBelow k s → p k ≡ false → BuiltBelow (k + 1) s
  built_skip k s below fails q = below q ∙ ⊎_elim at (⊎_elim under over) (cases_order q k)
    where
      at : q ≡ k → (ltb q k && p q) ≡ (ltb q (k + 1) && p q)
      at e = and_right (ltb q k) _ (ap p e ∙ fails) ∙ sym (and_right (ltb q (k + 1)) _ (ap p e ∙ fails))

      under : q < k → (ltb q k && p q) ≡ (ltb q (k + 1) && p q)
      under l = ap (λ b. b && p q) (lt-ltb q k l ∙ sym (lt-ltb q (k + 1) (omega arith)))

      over : k < q → (ltb q k && p q) ≡ (ltb q (k + 1) && p q)
      over l = ap (λ b. b && p q) (le-ltb q k (omega arith) ∙ sym (le-ltb q (k + 1) (omega arith)))

  pub built_join : (k : ℕ) (s t : ControllerSet) → BuiltBelow k s → k < 16 → p k ≡ true → ((q : ℕ) → has t q ≡ ((ltb k 16 && eqb q k) || has s q)) → BuiltBelow (k + 1) t
  built_join k s t below small passes adds q =
      adds q ∙ ap (λ b. (b && eqb q k) || has s q) (lt-ltb k 16 small) ∙ ap (λ b. eqb q k || b) (below q) ∙ ⊎_elim at (⊎_elim under over) (cases_order q k)
    where
      at : q ≡ k → (eqb q k || (ltb q k && p q)) ≡ (ltb q (k + 1) && p q)
      at e = ap (λ b. b || (ltb q k && p q)) (eq-eqb q k e) ∙ sym (ap (λ b. b && p q) (lt-ltb q (k + 1) (omega arith)) ∙ ap p e ∙ passes)

      under : q < k → (eqb q k || (ltb q k && p q)) ≡ (ltb q (k + 1) && p q)
      under l = ap (λ b. b || (ltb q k && p q)) (ne_eqb q k (λ e. omega arith)) ∙ ap (λ b. b && p q) (lt-ltb q k l ∙ sym (lt-ltb q (k + 1) (omega arith)))

      over : k < q → (eqb q k || (ltb q k && p q)) ≡ (ltb q (k + 1) && p q)
      over l = ap (λ b. b || (ltb q k && p q)) (ne_eqb q k (λ e. omega arith)) ∙ ap (λ b. b && p q) (le-ltb q k (omega arith) ∙ sym (le-ltb q (k + 1) (omega arith)))
