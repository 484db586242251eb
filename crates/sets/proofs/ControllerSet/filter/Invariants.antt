use Rattle.std.proofs.Common.{◌≡◌, ℕ, ◌<◌, ◌≤◌, true, false}
use Rattle.sets.specs.Sets.{has}
use Rattle.sets.proofs.ControllerSet.filter.Given as goal

abbrev pub invariant-loop-q : goal.invariant-loop-q
invariant-loop-q g l = record {
  passed : (k : ℕ) → k < l.q → has l.self k ≡ true → goal.F-post g l.passes k (has l.kept k);
  others : (k : ℕ) → has l.self k ≡ false → has l.kept k ≡ false;
  ahead : (k : ℕ) → l.q ≤ k → has l.kept k ≡ false;
}
