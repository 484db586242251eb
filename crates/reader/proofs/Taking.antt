-- Lists of values and of acts, one line further. Assumes nothing.
use Rattle.std.proofs.Common.{◌≡◌, ℕ, zero, suc, ◌-◌, ◌<◌, ◌≤◌, Bool, true, false, eqb, List, [], ◌∷◌, ◌++◌, length, Ok, Err, Option, Result, sym, refl, ap, ◌∙◌, arith, length-append, MatchResult}
use Rattle.text_faults.specs.Faults.{Faulted}
use Rattle.text_faults.specs.declared.errors.ReadError.{ReadError}
use Rattle.text_faults.specs.declared.errors.ReadError.TheVariants.{Fault, Memory}
use Rattle.std.proofs.lemmas.Bool.{cond-true, cond-false}
use Rattle.faults.specs.declared.causes.ValueFault.{ValueFault}
use Rattle.acts.specs.Acts.{act_reads}
use Rattle.reader.specs.Lists.{value_reads, last_taken, values_taken, acts_taken}
use Rattle.reader.specs.Reading.{left, taken}
use Rattle.acts.specs.declared.Act.{Act}
use Rattle.text_faults.specs.declared.texts.TextFault.{TextFault}
use Rattle.reader.specs.declared.Reader.{Reader}
use Rattle.reader.proofs.Chains.{then_ok, then_err}
use Rattle.reader.proofs.Standing.{taken_back}

module _ {K : Type 0} (reads : List ℕ → Option (Result K ValueFault)) (same : K → K → Bool) where
  pub values_more : (n : ℕ) (vs : List K) (r after : Reader) (v : K) → 1 < n → (Ok v, after) ≡ taken (value_reads reads) r
      → values_taken reads same n vs r ≡ values_taken reads same (n - 1) (vs ++ v ∷ []) after
  values_more zero vs r after v l e = absurd (omega arith)
  values_more (suc zero) vs r after v l e = absurd (omega arith)
  values_more (suc (suc n)) vs r after v l e =
      let p : suc n ≡ suc (suc n) - 1 = omega arith in
      then_ok (λ v after. values_taken reads same (suc n) (vs ++ v ∷ []) after) e ∙ ap (λ m. values_taken reads same m (vs ++ v ∷ []) after) p

  pub values_stop : (n : ℕ) (vs : List K) (r after : Reader) (e : TextFault) → 1 < n → (Err e, after) ≡ taken (value_reads reads) r → values_taken reads same n vs r ≡ (Err e, after)
  values_stop zero vs r after v l e = absurd (omega arith)
  values_stop (suc zero) vs r after v l e = absurd (omega arith)
  values_stop (suc (suc n)) vs r after v l e = then_err (λ v after. values_taken reads same (suc n) (vs ++ v ∷ []) after) e

  pub values_last : (n : ℕ) (vs : List K) (r : Reader) → n ≤ 1 → values_taken reads same n vs r ≡ last_taken reads same vs r
  values_last zero vs r l = refl
  values_last (suc zero) vs r l = refl
  values_last (suc (suc n)) vs r l = absurd (omega arith)

-- a line takes a byte at least
pub taken_shrinks : {X : Type 0} (f : List ℕ → Option (Result X ValueFault)) (r after : Reader) (x : X) → (Ok x, after) ≡ taken f r → length (left after) < length (left r)
taken_shrinks f r after x e = let w = taken_back f r after x (sym e) in omega (arith, ap length w.1, length-append w.0 (10 ∷ left after))

module _ {K : Type 0} (reads : List ℕ → Option (Result K ValueFault)) where
  pub acts_more : (n : ℕ) (acts : List (Act K)) (r after : Reader) (a : Act K) → 0 < n → eqb (length (left r)) 0 ≡ false → (Ok a, after) ≡ taken (act_reads reads) r
      → acts_taken reads n acts r ≡ acts_taken reads (n - 1) (acts ++ a ∷ []) after
  acts_more zero acts r after a l t e = absurd (omega arith)
  acts_more (suc n) acts r after a l t e =
      let p : n ≡ suc n - 1 = omega arith in
      cond-false _ _ _ t ∙ then_ok (λ a after. acts_taken reads n (acts ++ a ∷ []) after) e ∙ ap (λ m. acts_taken reads m (acts ++ a ∷ []) after) p

  pub acts_stop : (n : ℕ) (acts : List (Act K)) (r after : Reader) (e : TextFault) → 0 < n → eqb (length (left r)) 0 ≡ false → (Err e, after) ≡ taken (act_reads reads) r
      → acts_taken reads n acts r ≡ (Err e, after)
  acts_stop zero acts r after a l t e = absurd (omega arith)
  acts_stop (suc n) acts r after a l t e = cond-false _ _ _ t ∙ then_err (λ a after. acts_taken reads n (acts ++ a ∷ []) after) e

  pub acts_end : (n : ℕ) (acts : List (Act K)) (r : Reader) → eqb (length (left r)) 0 ≡ true → acts_taken reads n acts r ≡ (Ok acts, r)
  acts_end zero acts r t = refl
  acts_end (suc n) acts r t = cond-true _ _ _ t

-- what is said of one answer is said of an equal one
pub moved : {X A : Type 0} {a b : Result A TextFault × Reader} (r : Result X ReadError) (f : X → A) (after : Reader) → a ≡ b
    → MatchResult r (λ x. b ≡ (Ok (f x), after)) (λ e. Faulted e (λ t. b ≡ (Err t, after)))
    → MatchResult r (λ x. a ≡ (Ok (f x), after)) (λ e. Faulted e (λ t. a ≡ (Err t, after)))
moved (Ok x) f after e h = e ∙ h
moved (Err (Fault t)) f after e h = e ∙ h
moved (Err (Memory _)) f after e h = tt
