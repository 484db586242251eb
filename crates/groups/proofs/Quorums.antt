-- How many controllers of a group must be correct among many. Assumes nothing.
use Rattle.std.proofs.Common.{◌≡◌, ℕ, ◌+◌, ◌-◌, ◌*◌, ◌<◌, ◌≤◌, Bool, true, false, ltb, ◌⊎◌, inl, inr, ⊎_elim, arith}
use Rattle.std.proofs.lemmas.Bool.{cases_Bool, and_from, not_from_false}
use Rattle.sets.specs.Sets.{count}
use Rattle.sets.proofs.Counts.{someone}
use Rattle.sets.proofs.Unions.{count_union, count_below}
use Rattle.groups.specs.Groups.{marked, correct}
use Rattle.groups.specs.declared.members.Group.{Group}

module _ (g : Group) where
  -- where every correct controller passes, at least n − t pass
  pub correct_many : (p : ℕ → Bool) → ((k : ℕ) → correct g k ≡ true → p k ≡ true) → g.n - g.t ≤ count 16 p
  correct_many p h =
      let few : g.n ≤ 16 = g.few in
      let tolerated : count 16 (marked g) ≤ g.t = g.tolerated in
      let every = count_below g.n 16 few in
      let parts = count_union 16 p (marked g) (λ k. ltb k g.n) (λ k l e. ⊎_elim inr (λ m. inl (h k (and_from _ _ e (not_from_false _ m)))) (cases_Bool (marked g k))) in
      omega arith

  -- of n − t controllers at least t + 1 are not marked
  pub many_correct : (p q : ℕ → Bool) → ((k : ℕ) → p k ≡ true → (q k ≡ true) ⊎ (marked g k ≡ true)) → g.n - g.t ≤ count 16 p → g.t + 1 ≤ count 16 q
  many_correct p q h le =
      let tolerated : count 16 (marked g) ≤ g.t = g.tolerated in
      let tolerant : 3 * g.t < g.n = g.tolerant in
      let parts = count_union 16 q (marked g) p (λ k l e. h k e) in
      omega arith

  -- of t + 1 controllers one is not marked
  pub one_unmarked : (p : ℕ → Bool) → g.t + 1 ≤ count 16 p → (k : ℕ) × (p k ≡ true) × (marked g k ≡ false)
  one_unmarked p le =
      let tolerated : count 16 (marked g) ≤ g.t = g.tolerated in
      let w = someone 16 p (marked g) (omega arith) in
      (w.0, w.2, w.3)
