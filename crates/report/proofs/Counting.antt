-- Verdicts and refusals of a report, counted. Assumes nothing.
use Rattle.std.proofs.Common.{◌≡◌, ℕ, ◌+◌, ◌<◌, ◌≤◌, Bool, false, cond, List, [], ◌∷◌, ◌++◌, reverse, Some, None, Option, refl, ap, ◌∙◌, ⊎_elim, arith}
use Rattle.std.specs.List.{slice_get}
use Rattle.std.proofs.lemmas.List.{reverse-append}
use Rattle.std.proofs.lemmas.Bool.{ne_eqb, cases_lt}
use Rattle.faults.specs.declared.layers.Layer.{Layer}
use Rattle.agreement.specs.Law.{times}
use Rattle.agreement.specs.Steps.{charges, charge_of, is_block}
use Rattle.agreement.specs.Views.{Rules}
use Rattle.agreement.specs.declared.moments.Verdict.{Verdict}
use Rattle.agreement.specs.declared.moments.Verdict.TheVariants.{Place, SenderFaulty}
use Rattle.lines.specs.declared.happenings.Happening.{Happening}
use Rattle.lines.specs.declared.happenings.Happening.TheVariants.{Refused, Shot}
use Rattle.report.specs.Truth.{verdicts_in, refusals_in}

pub verdicts_append : (xs ys : List Happening) → verdicts_in (xs ++ ys) ≡ verdicts_in xs ++ verdicts_in ys
verdicts_append [] ys = refl
verdicts_append (Refused l y n ∷ xs) ys = verdicts_append xs ys
verdicts_append (Shot s q d ∷ xs) ys = ap (λ ds. d ∷ ds) (verdicts_append xs ys)

pub refusals_append : (xs ys : List Happening) → refusals_in (xs ++ ys) ≡ refusals_in xs + refusals_in ys
refusals_append [] ys = omega arith
refusals_append (Refused l y n ∷ xs) ys = let e = refusals_append xs ys in omega arith
refusals_append (Shot s q d ∷ xs) ys = refusals_append xs ys

pub one_refusal : (told : List Happening) (line : ℕ) (layer : Layer) (number : ℕ) → refusals_in (told ++ Refused line layer number ∷ []) ≡ refusals_in told + 1
one_refusal told line layer number = refusals_append told (Refused line layer number ∷ [])

-- the newest verdict first
pub reverse_push : {X : Type 0} (xs : List X) (x : X) → reverse (xs ++ x ∷ []) ≡ x ∷ reverse xs
reverse_push xs x = reverse-append xs (x ∷ [])

module _ {K : Type 0} (rules : Rules K) (b : ℕ) where
  times_append : (xs ys : List Verdict) → times rules b (xs ++ ys) ≡ times rules b xs + times rules b ys
  unfolding times
  times_append [] ys = omega arith
  times_append (d ∷ xs) ys = let e = times_append xs ys in omega arith

  -- however they are ordered
  pub times_reverse : (xs : List Verdict) → times rules b (reverse xs) ≡ times rules b xs
  unfolding times
  times_reverse [] = refl
  times_reverse (d ∷ xs) =
      let e = times_reverse xs in
      let cut : times rules b (reverse (d ∷ xs)) ≡ times rules b (reverse xs) + times rules b (d ∷ []) = ap (times rules b) (reverse-append (d ∷ []) xs) ∙ times_append (reverse xs) (d ∷ []) in
      omega arith

  -- no verdict charges a block above 63
  module _ (small : (x : K) (c : ℕ) → rules.charge x ≡ Some c → c < 64) (large : 64 ≤ b) where
    not_block : (o : Option ℕ) → ((c : ℕ) → o ≡ Some c → c < 64) → is_block o b ≡ false
    not_block None h = refl
    not_block (Some c) h = let l = h c refl in let apart : c ≡ b → ⊥ = λ e. omega arith in ne_eqb c b apart

    not_charged : (o : Option K) → is_block (charge_of rules o) b ≡ false
    not_charged None = refl
    not_charged (Some x) = not_block (rules.charge x) (small x)

    uncharged : (d : Verdict) → charges rules d b ≡ false
    uncharged (Place p) = not_charged (slice_get rules.values p)
    uncharged SenderFaulty = refl

    never : (ds : List Verdict) → times rules b ds ≡ 0
    unfolding times
    never [] = refl
    never (d ∷ ds) = let e = never ds in let none : ◌≡◌ {A = ℕ} (cond (charges rules d b) 1 0) 0 = ap (λ (x : Bool). cond {A = ℕ} x 1 0) (uncharged d) in omega arith

  pub charged_small : ((x : K) (c : ℕ) → rules.charge x ≡ Some c → c < 64) → (ds : List Verdict) → 3 ≤ times rules b ds → b < 64
  charged_small small ds h = ⊎_elim (λ l. l) (λ l. absurd (omega (arith, never small l ds))) (cases_lt b 64)
