-- The verdict of a set by the first two places that a filtered range gives. Assumes nothing.
use Rattle.std.proofs.Common.{◌≡◌, ℕ, ◌+◌, Bool, None, Some, Option, sym, ap, ◌∙◌, subst, ⊎_elim, arith}
use Rattle.std.specs.declared.ops.Range.{Range}
use Rattle.std.specs.Fn.{CalledAt}
use Rattle.std.specs.Iterator.Adapters.{filter_source, filter_callee, filter_steps}
use Rattle.std.proofs.iter.Yields.{nat_range_steps}
use Rattle.std.proofs.lemmas.Bool.{cases_order, both_ways}
use denote.Param.Members.{Mut}
use denote.Ref.{Bor}
use Rattle.agreement.specs.Extraction.{verdict_of}
use Rattle.agreement.specs.declared.moments.Verdict.TheVariants.{Place, SenderFaulty}
use Rattle.agreement.proofs.Verdicts.{verdict_one, verdict_none, verdict_two}
use Rattle.bench.proofs.Searching.{FirstPassing, next_passing, next_leaves}

module _ {F : Type 0} (g : Mut F (Bor ℕ × Unit {0}) Bool) (f : F) (test : ℕ → Bool) (tells : (x : ℕ) (b : Bool) (q : F) → CalledAt g f x b q → (q ≡ f) × (b ≡ test x)) where
  module _ (len : ℕ) (s t : _) (source : ◌≡◌ {A = Range ℕ} (filter_source s) (record { start = 0; end = len })) (callee : filter_callee s ≡ f) where
    first_of : (r : Option ℕ) → filter_steps nat_range_steps g s r t → FirstPassing test 0 len r
    first_of r steps = subst (λ z. FirstPassing test z.start z.end r) source (next_passing g f test tells s t r callee steps)

    second_of : (u : _) (i : ℕ) (r : Option ℕ) → filter_steps nat_range_steps g s (Some i) t → filter_steps nat_range_steps g t r u → FirstPassing test (i + 1) len r
    second_of u i r one two =
        let left = next_leaves g f test tells s t i callee one in
        subst (λ a. FirstPassing test a len r) left.0 (subst (λ b. FirstPassing test (filter_source t).start b r) (left.1 ∙ ap (λ z. z.end) source) (next_passing g f test tells t u r left.2 two))

    pub no_place : filter_steps nat_range_steps g s None t → SenderFaulty ≡ verdict_of len test
    no_place one = let none = first_of None one in sym (verdict_none len test (λ k l. none k (omega arith) l))

    pub one_place : (u : _) (i : ℕ) → filter_steps nat_range_steps g s (Some i) t → filter_steps nat_range_steps g t None u → Place i ≡ verdict_of len test
    one_place u i one two =
        let first = first_of (Some i) one in
        let none = second_of u i None one two in
        sym (verdict_one len test i first.1 first.2
        (λ k l e. ⊎_elim (λ same. same) (⊎_elim (λ below. absurd (both_ways (test k) (first.3 k (omega arith) below) e)) (λ above. absurd (both_ways (test k) (none k (omega arith) l) e))) (cases_order k i)))

    pub two_places : (u : _) (i j : ℕ) → filter_steps nat_range_steps g s (Some i) t → filter_steps nat_range_steps g t (Some j) u → SenderFaulty ≡ verdict_of len test
    two_places u i j one two =
        let first = first_of (Some i) one in
        let second = second_of u i (Some j) one two in
        sym (verdict_two len test i j first.1 second.1 (λ same. absurd (omega (arith, second.0))) first.2 second.2)
