-- A group of four controllers of which 3 is marked, and sets of marks by their members. Assumes nothing.
use Rattle.std.specs.Prelude.{◌≡◌, ℕ, Bool, nat_eq}
use Rattle.sets.specs.Sets.{has}
use Rattle.groups.specs.declared.members.Group.{Group}
use Rattle.groups.specs.declared.members.Marks.{Marks}

-- just the numbers that pass the test are marked
abbrev pub Marked : Marks → (ℕ → Bool) → Type 0
Marked m test = (k : ℕ) → has m.set k ≡ test k

pub record FourControllers (g : Group) : Type 0 where
  pub n : g.n ≡ 4
  pub t : g.t ≡ 1
  pub marks : Marked g.marks (λ k. nat_eq k 3)
