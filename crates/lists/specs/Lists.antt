-- Places of values, and which fault a list is refused with, if any. Assumes nothing.
use Rattle.std.specs.Prelude.{◌≡◌, ℕ, suc, ◌<◌, Bool, true, false, cond, not, ◌&&◌, List, [], ◌∷◌, length, is_some, Some, None, Option, nat_le, slice_index_or}
use Rattle.std.specs.Option.{option_map, option_or}
use Rattle.faults.specs.declared.causes.ListFault.{ListFault}
use Rattle.faults.specs.declared.causes.ListFault.TheVariants.{Length, Repeated}

module _ {K : Type 0} (same : K → K → Bool) where
  -- the place of w, counted from 0
  abbrev pub place_of : K → List K → Option ℕ
  place_of w [] = None
  place_of w (x ∷ xs) = cond (same x w) (Some 0) (option_map suc (place_of w xs))

  -- a place is the first one that holds a value the same as w; there is none if no value of the list is the same
  abbrev pub FirstPlace : K → List K → Option ℕ → Type 0
  FirstPlace w xs None = (k : ℕ) → k < length xs → same (slice_index_or xs k w) w ≡ false
  FirstPlace w xs (Some i) = (i < length xs) × (same (slice_index_or xs i w) w ≡ true) × ((k : ℕ) → k < i → same (slice_index_or xs k w) w ≡ false)

  -- no value of the list is the same as a later one
  abbrev pub distinct : List K → Bool
  distinct [] = true
  distinct (x ∷ xs) = not (is_some (place_of x xs)) && distinct xs

  -- the same in other words: of two places the values are not the same
  abbrev pub Apart : List K → Type 0
  Apart xs = (i j : ℕ) (d : K) → i < j → j < length xs → same (slice_index_or xs j d) (slice_index_or xs i d) ≡ false

-- a value list holds 1 to 4 values
abbrev pub length_fault : ℕ → Option ListFault
length_fault n = cond (nat_le 1 n && nat_le n 4) None (Some Length)

module _ {K : Type 0} (same : K → K → Bool) where
  -- the length is looked at first
  abbrev pub list_fault : List K → Option ListFault
  list_fault xs = option_or (length_fault (length xs)) (cond (distinct same xs) None (Some Repeated))
