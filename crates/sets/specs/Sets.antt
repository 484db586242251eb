-- A set of controllers is kept as the bits of a 16-bit number: controller k is in it when bit k is 1.
-- Assumes nothing.
use Rattle.std.specs.Prelude.{ℕ, zero, suc, ◌+◌, ◌/◌, ◌%◌, ◌^◌, Bool, cond, ◌==◌}
use Rattle.sets.specs.declared.ControllerSet.{ControllerSet}

-- bit k of the number m is 1
unfoldable pub bit : ℕ → ℕ → Bool
bit m k = m / 2 ^ k % 2 == 1

-- controller k is in the set
abbrev pub has : ControllerSet → ℕ → Bool
has s k = bit s.bits k

-- how many numbers below n pass the test p
unfoldable pub count : ℕ → (ℕ → Bool) → ℕ
count zero p = 0
count (suc n) p = cond (p n) 1 0 + count n p

-- how many controllers are in the set
abbrev pub size : ControllerSet → ℕ
size s = count 16 (has s)
