-- What the latest shot of a bench says: whether it runs, and its sender. Assumes nothing.
use Rattle.std.specs.Prelude.{ℕ, Bool, true, false}
use Rattle.bench.specs.declared.shots.Shot.{Shot}
use Rattle.bench.specs.declared.shots.Shot.TheVariants.{Running, Closed}

abbrev pub is_running : Shot → Bool
is_running (Running s) = true
is_running (Closed s) = false

abbrev pub sender_in : Shot → ℕ
sender_in (Running s) = s
sender_in (Closed s) = s
