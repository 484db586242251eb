-- A length that is not refused is 1 to 4. Assumes nothing.
use Rattle.std.proofs.Common.{◌≡◌, ℕ, ◌≤◌, Bool, true, false, cond, ◌&&◌, leb, Some, None, arith}
use Rattle.std.proofs.lemmas.Bool.{leb-true}
use Rattle.lists.specs.Lists.{length_fault}
use Rattle.faults.specs.declared.causes.ListFault.TheVariants.{Length}

pub length_allowed : (n : ℕ) → length_fault n ≡ None → (1 ≤ n) × (n ≤ 4)
length_allowed n h = go (leb 1 n) (leb n 4) (leb-true 1 n) (leb-true n 4) h
  where
    go : (a b : Bool) → (a ≡ true → 1 ≤ n) → (b ≡ true → n ≤ 4) → cond (a && b) None (Some Length) ≡ None → (1 ≤ n) × (n ≤ 4)
    go true true p q e = (p (λ i. true), q (λ i. true))
    go true false p q e = let z : ◌≡◌ {A = ℕ} 0 1 = cc in absurd (omega arith)
    go false b p q e = let z : ◌≡◌ {A = ℕ} 0 1 = cc in absurd (omega arith)
