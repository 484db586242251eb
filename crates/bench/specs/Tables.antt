-- What the tables of a bench say: who has extracted which place, and the tally of a block. Assumes nothing.
use Rattle.std.specs.Prelude.{ℕ, ◌<◌, Bool, false, [], Some, None, Option, slice_index, slice_index_or}
use Rattle.bench.specs.declared.places.PlaceSet.{PlaceSet}
use Rattle.bench.specs.declared.places.Extracted.{Extracted}
use Rattle.bench.specs.declared.tallies.Register.{Register}
use Rattle.bench.specs.declared.tallies.Registers.{Registers}

-- place v is in the set
abbrev pub holds : PlaceSet → ℕ → Bool
holds x v = slice_index_or x.places v false

-- controller q has extracted place v
abbrev pub in_set : Extracted → ℕ → ℕ → Bool
in_set x q v = holds (slice_index_or x.rows q (record { places = [] })) v

-- a controller and a place, if there is one, that the table has a cell for
abbrev pub Placed : ℕ → Option ℕ → Type 0
Placed s None = Unit {0}
Placed s (Some p) = (s < 16) × (p < 4)

abbrev pub tally_in : Register → ℕ → ℕ
tally_in r b = slice_index r.counts b

-- the tally of block b in the register of controller q
abbrev pub tally_of : Registers → ℕ → ℕ → ℕ
tally_of x q b = tally_in (slice_index_or x.rows q (record { counts = [] })) b
