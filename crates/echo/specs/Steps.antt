-- What a controller does at the turn of phase k about a triple of round i, from what it heard alone. Who is marked is
-- not asked. Assumes nothing.
use Rattle.std.specs.Prelude.{ℕ, ◌+◌, ◌-◌, ◌*◌, Bool, ◌&&◌, ◌||◌, ◌==◌, nat_le}
use Rattle.sets.specs.Sets.{count}

-- It becomes a witness if in phase 2i − 1 it heard the init frame from the origin itself (init), or if from phase 2i on
-- it has heard e-frames from at least t + 1 different controllers (echoes).
abbrev pub becomes_witness : (t k i : ℕ) (init : Bool) (echoes : ℕ → Bool) → Bool
becomes_witness t k i init echoes = (k + 1 == 2 * i && init) || (nat_le (2 * i) k && nat_le (t + 1) (count 16 echoes))

-- It accepts if from phase 2i on it has heard e-frames from at least n − t different controllers.
abbrev pub accepts : (n t k i : ℕ) (echoes : ℕ → Bool) → Bool
accepts n t k i echoes = nat_le (2 * i) k && nat_le (n - t) (count 16 echoes)
