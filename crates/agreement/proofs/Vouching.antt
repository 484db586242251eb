-- Which rounds a controller vouched in, and what more acceptances change. Assumes nothing.
use Rattle.std.proofs.Common.{◌≡◌, ℕ, zero, suc, ◌≤◌, true, false, sym, refl, ap, ◌∙◌, ⊎_elim, arith}
use Rattle.std.proofs.lemmas.Bool.{or_cases, or_left, or_right, cases_eq, both_ways}
use Rattle.carriage.specs.Model.{Model}
use Rattle.agreement.specs.Extraction.{triple, vouched}

module _ (m : Model) (q v : ℕ) where
  -- somebody who vouched did so in a round
  pub vouched_in : (i p : ℕ) → vouched m q v i p ≡ true → (j : ℕ) × (1 ≤ j) × (j ≤ i) × (m.accepted q (triple p v j) ≡ true)
  unfolding vouched
  vouched_in zero p e = absurd (both_ways false refl e)
  vouched_in (suc i) p e = ⊎_elim (λ a. (suc i, omega arith, omega arith, a)) (λ b. wider (vouched_in i p b)) (or_cases _ _ e)
    where
      wider : (j : ℕ) × (1 ≤ j) × (j ≤ i) × (m.accepted q (triple p v j) ≡ true) → (j : ℕ) × (1 ≤ j) × (j ≤ suc i) × (m.accepted q (triple p v j) ≡ true)
      wider w = (w.0, w.1, omega arith, w.3)

  pub vouched_by : (i p j : ℕ) → 1 ≤ j → j ≤ i → m.accepted q (triple p v j) ≡ true → vouched m q v i p ≡ true
  unfolding vouched
  vouched_by zero p j a b e = absurd (omega arith)
  vouched_by (suc i) p j a b e =
      ⊎_elim (λ same. or_left _ _ (ap (λ k. m.accepted q (triple p v k)) (sym same) ∙ e)) (λ other. or_right _ _ (vouched_by i p j a (omega arith) e)) (cases_eq j (suc i))
