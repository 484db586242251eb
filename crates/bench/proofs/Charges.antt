-- A walk in which one controller after the other charges. Assumes nothing.
use Rattle.std.proofs.Common.{◌≡◌, ℕ, ◌+◌, Bool, true, false, cond, ◌&&◌, eqb, ltb, sym, refl, ap, ◌∙◌, ⊎_elim, arith}
use Rattle.std.proofs.lemmas.Bool.{cases_eq, cases_lt, lt-ltb, le-ltb, eq-eqb, ne_eqb}
use Rattle.agreement.specs.Steps.{raised}

-- the tally of a controller p, which was e, once those below q have charged
abbrev pub charged_below : (test : ℕ → Bool) (q p e : ℕ) → ℕ
charged_below test q p e = cond (ltb p q && test p) (raised e) e

module _ (test : ℕ → Bool) (p e : ℕ) where
  pub charged_more : (q now after : ℕ) (b : Bool) → test q ≡ b → now ≡ charged_below test q p e → after ≡ cond (eqb p q && b) (raised now) now → after ≡ charged_below test (q + 1) p e
  charged_more q now after b t n a = ⊎_elim mine other (cases_eq p q)
    where
      mine : p ≡ q → after ≡ charged_below test (q + 1) p e
      mine same =
          let now-e : now ≡ e = n ∙ ap (λ x. cond (x && test p) (raised e) e) (le-ltb p q (omega arith)) in
          a ∙ ap (λ x. cond (x && b) (raised now) now) (eq-eqb p q same) ∙ ap (λ x. cond b (raised x) x) now-e
          ∙ ap (λ x. cond x (raised e) e) (sym (ap test same ∙ t)) ∙ ap (λ x. cond (x && test p) (raised e) e) (sym (lt-ltb p (q + 1) (omega arith)))

      beyond : (p ≡ q → ⊥) → ltb p q ≡ ltb p (q + 1)
      beyond ne = ⊎_elim (λ l. lt-ltb p q l ∙ sym (lt-ltb p (q + 1) (omega arith))) (λ l. le-ltb p q l ∙ sym (le-ltb p (q + 1) (omega (arith, ne)))) (cases_lt p q)

      other : (p ≡ q → ⊥) → after ≡ charged_below test (q + 1) p e
      other ne = a ∙ ap (λ x. cond (x && b) (raised now) now) (ne_eqb p q ne) ∙ n ∙ ap (λ x. cond (x && test p) (raised e) e) (beyond ne)

-- a charge of no block is none
pub none_charged : (x : Bool) (n : ℕ) → n ≡ cond (x && false) (raised n) n
none_charged true n = refl
none_charged false n = refl
