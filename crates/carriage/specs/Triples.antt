-- Which triples a group knows, where a table keeps them, and how they are printed. Assumes nothing.
use Rattle.std.specs.Prelude.{ℕ, ◌+◌, ◌*◌, ◌%◌, Bool, ◌&&◌, List, ◌++◌, ◌==◌, nat_le, nat_lt, codes, decimal}
use Rattle.groups.specs.declared.members.Group.{Group}
use Rattle.carriage.specs.declared.frames.Triple.{Triple}

-- the origin is below n, the place below the list's length, the round 1 to t + 1
abbrev pub in_range : Group → ℕ → Triple → Bool
in_range g len x = nat_lt x.origin g.n && (nat_lt x.place len && (nat_le 1 x.round && nat_le x.round (g.t + 1)))

abbrev pub same_triple : Triple → Triple → Bool
same_triple x y = x.origin == y.origin && (x.place == y.place && x.round == y.round)

-- 16 origins to a place, 4 places to a round, 6 rounds
abbrev pub slot_of : Triple → ℕ
slot_of x = x.origin % 16 + 16 * (x.place % 4) + 64 * ((x.round + 5) % 6)

-- the origin, the place and the round, as (0,1,2)
abbrev pub triple_text : Triple → List ℕ
triple_text x = codes "(" ++ decimal x.origin ++ codes "," ++ decimal x.place ++ codes "," ++ decimal x.round ++ codes ")"
