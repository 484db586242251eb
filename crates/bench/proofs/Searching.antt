-- What `next` gives on a filtered range. Assumes nothing.
use Rattle.std.proofs.Common.{◌≡◌, ℕ, ◌+◌, ◌<◌, ◌≤◌, Bool, true, false, List, [], ◌∷◌, Some, None, Option, MatchOption, sym, ap, ◌∙◌, subst}
use Rattle.std.specs.Fn.{CalledAt}
use Rattle.std.specs.Iterator.{Yields}
use Rattle.std.specs.List.{FoldsTo}
use Rattle.std.specs.Iterator.Adapters.{filter_source, filter_callee, filter_steps}
use Rattle.std.proofs.iter.Yields.{nat_range_steps}
use Rattle.std.proofs.lemmas.Iterator.{first_from_Range}
use denote.Param.Members.{Mut}
use denote.Ref.{Bor}

-- the end of a range stays
same_end : (xs : List ℕ) (s t : _) → Yields nat_range_steps s xs t → t.end ≡ s.end
same_end [] s t y = sym (ap (λ k. k.end) y)
same_end (x ∷ xs) s t y = same_end xs y.0 t y.2 ∙ y.1.0

-- r is the first number from a up to b that passes, if one does
abbrev pub FirstPassing : (test : ℕ → Bool) (a b : ℕ) → Option ℕ → Type 0
FirstPassing test a b r = MatchOption r ((k : ℕ) → a ≤ k → k < b → test k ≡ false) (λ i. (a ≤ i) × (i < b) × (test i ≡ true) × ((k : ℕ) → a ≤ k → k < i → test k ≡ false))

-- `next` on a filtered range, at a closure that stays as it was and answers `test`
module _ {F : Type 0} (g : Mut F (Bor ℕ × Unit {0}) Bool) (f : F) (test : ℕ → Bool) (tells : (x : ℕ) (b : Bool) (q : F) → CalledAt g f x b q → (q ≡ f) × (b ≡ test x)) where
  stays : (xs : List ℕ) (p j : F) → p ≡ f → FoldsTo (λ p x q. CalledAt g p x false q) p xs j → j ≡ f
  stays [] p j e h = sym h ∙ e
  stays (x ∷ xs) p j e h = stays xs h.0 j (tells x false h.0 (subst (λ z. CalledAt g z x false h.0) e h.1)).0 h.2

  -- the first number that passes comes
  pub next_passing : (s t : _) (r : Option ℕ) → filter_callee s ≡ f → filter_steps nat_range_steps g s r t → FirstPassing test (filter_source s).start (filter_source s).end r
  next_passing s t r callee steps =
      first_from_Range (filter_source s) (filter_source t) f r (λ k. test k ≡ true) (λ k. test k ≡ false)
      (steps.0, steps.1, steps.2, subst (λ z. FoldsTo (λ p x q. CalledAt g p x false q) z steps.0 steps.1) callee steps.3, found r steps.4)
      (λ x q k. sym (tells x true q k).1) (λ x q k. let w = tells x false q k in (w.0, sym w.1))
    where
      found : (o : Option ℕ) → MatchOption o (filter_callee t ≡ steps.1) (λ x. CalledAt g steps.1 x true (filter_callee t)) → MatchOption o (Unit {0}) (λ x. (h : F) × CalledAt g steps.1 x true h)
      found None called = tt
      found (Some i) called = (filter_callee t, called)

  -- and the numbers above it are left
  pub next_leaves : (s t : _) (i : ℕ) → filter_callee s ≡ f → filter_steps nat_range_steps g s (Some i) t → ((filter_source t).start ≡ i + 1) × ((filter_source t).end ≡ (filter_source s).end) × (filter_callee t ≡ f)
  next_leaves s t i callee steps =
      let kept = stays steps.0 (filter_callee s) steps.1 callee steps.3 in
      let step = steps.2.2 in (
        step.1.2 ∙ ap (λ k. k + 1) (sym step.1.1),
        step.0 ∙ same_end steps.0 (filter_source s) steps.2.0 steps.2.1,
        (tells i true (filter_callee t) (subst (λ z. CalledAt g z i true (filter_callee t)) kept steps.4)).0,
      )
