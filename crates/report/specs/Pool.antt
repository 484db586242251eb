-- The blocks that are out of the pool. Assumes nothing.
use Rattle.std.specs.Prelude.{ℕ, zero, suc, Bool, false, cond, List, [], ◌∷◌, ◌++◌, Ok, Err, Result, ◌==◌}
use Rattle.carriage.specs.declared.meaning.Carriage.{Ghosts as Account}
use Rattle.agreement.specs.Refusals.{tally_answer}
use Rattle.agreement.specs.Views.{View}
use Rattle.agreement.specs.declared.bench_faults.BenchFault.{BenchFault}

-- a tally of 3 was read
abbrev pub full : Result ℕ BenchFault → Bool
full (Ok n) = n == 3
full (Err e) = false

-- the numbers below n that pass the test, rising
unfoldable pub risen : ℕ → (ℕ → Bool) → List ℕ
risen zero p = []
risen (suc n) p = risen n p ++ cond (p n) (n ∷ []) []

-- the blocks whose tally at q is 3; blocks are 0 to 63
abbrev pub out_at : {C : Type 0} → Account C → View C → ℕ → List ℕ
out_at account v q = risen 64 (λ b. full (tally_answer account v q b))
