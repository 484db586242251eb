-- A value list that was read is one that a bench opens with. Assumes nothing.
use Rattle.std.proofs.Common.{◌≡◌, ℕ, zero, suc, ◌≤◌, Bool, eqb, leb, List, [], ◌∷◌, ◌++◌, length, Some, None, Ok, Err, Option, Result, sym, refl, ap, ◌∙◌, arith}
use Rattle.std.specs.Option.{option_or}
use Rattle.std.proofs.lemmas.Bool.{and_parts, leb-true, eq-eqb, cond-true}
use Rattle.lists.specs.Lists.{length_fault, list_fault}
use Rattle.faults.specs.declared.causes.ListFault.{ListFault}
use Rattle.faults.specs.declared.causes.ValueFault.{ValueFault}
use Rattle.carriage.specs.Model.{Model}
use Rattle.carriage.proofs.Allowed.{no_fault}
use Rattle.agreement.specs.Refusals.{open_fault}
use Rattle.agreement.specs.Views.{Rules}
use Rattle.agreement.proofs.Beginning.{first_none}
use Rattle.report.specs.Texts.{there, value_reads, listed, last_taken, values_taken, then, line_taken, TextFault, OfList, fault_at, Reader}

module _ {K : Type 0} (reads : List ℕ → Option (Result K ValueFault)) (same : K → K → Bool) where
  listed_fine : (vs : List K) (r after end : Reader) (v : K) (xs : List K) → listed reads same vs r v after ≡ (Ok xs, end) → list_fault same xs ≡ None
  listed_fine vs r after end v xs h = go (list_fault same (vs ++ v ∷ [])) refl h
    where
      go : (o : Option ListFault) → list_fault same (vs ++ v ∷ []) ≡ o → ◌≡◌ {A = Result (List K) TextFault × Reader} (there o (λ e. (Err (fault_at r (OfList e)), r)) (Ok (vs ++ v ∷ []), after)) (Ok xs, end) → list_fault same xs ≡ None
      go None is e = let all = ap (λ p. p.0) e in let these : vs ++ v ∷ [] ≡ xs = cc in ap (list_fault same) (sym these) ∙ is
      go (Some f) is e = let never = ap (λ p. p.0) e in let z : ◌≡◌ {A = ℕ} 0 1 = cc in absurd (omega arith)

  last_fine : (vs : List K) (r end : Reader) (xs : List K) → last_taken reads same vs r ≡ (Ok xs, end) → list_fault same xs ≡ None
  last_fine vs r end xs h = go (line_taken (value_reads reads) r) h
    where
      go : (p : Result K TextFault × Reader) → then p (listed reads same vs r) ≡ (Ok xs, end) → list_fault same xs ≡ None
      go (Ok v, after) e = listed_fine vs r after end v xs e
      go (Err f, after) e = let never = ap (λ p. p.0) e in let z : ◌≡◌ {A = ℕ} 0 1 = cc in absurd (omega arith)

  pub values_fine : (n : ℕ) (vs : List K) (r end : Reader) (xs : List K) → values_taken reads same n vs r ≡ (Ok xs, end) → list_fault same xs ≡ None
  values_fine zero vs r end xs h = last_fine vs r end xs h
  values_fine (suc zero) vs r end xs h = last_fine vs r end xs h
  values_fine (suc (suc n)) vs r end xs h = go (λ v after e. values_fine (suc n) (vs ++ v ∷ []) after end xs e) (line_taken (value_reads reads) r) h
    where
      go : ((v : K) (after : Reader) → values_taken reads same (suc n) (vs ++ v ∷ []) after ≡ (Ok xs, end) → list_fault same xs ≡ None)
          → (p : Result K TextFault × Reader) → then p (λ v after. values_taken reads same (suc n) (vs ++ v ∷ []) after) ≡ (Ok xs, end) → list_fault same xs ≡ None
      go rest (Ok v, after) e = rest v after e
      go rest (Err f, after) e = let never = ap (λ p. p.0) e in let z : ◌≡◌ {A = ℕ} 0 1 = cc in absurd (omega arith)

-- it has 1 to 4 values
pub fine_length : {K : Type 0} (same : K → K → Bool) (xs : List K) → list_fault same xs ≡ None → (length_fault (length xs) ≡ None) × (length xs ≤ 4)
fine_length same xs h =
    let long = (first_none (length_fault (length xs)) _ h).0 in
    (long, leb-true (length xs) 4 (and_parts (leb 1 (length xs)) (leb (length xs) 4) (no_fault _ None _ long).0).1)

-- and opens over a carriage that is made for its length
pub opens : {K : Type 0} (m : Model) (rules : Rules K) → m.len ≡ length rules.values → list_fault rules.same rules.values ≡ None → open_fault m rules ≡ None
opens m rules len fine = ap (λ o. option_or o (list_fault rules.same rules.values)) (cond-true (eqb (length rules.values) m.len) _ _ (eq-eqb _ _ (sym len))) ∙ fine
