-- Pieces of a line between separators, and which numbers rows of digits write. Assumes nothing.
use Rattle.std.specs.Prelude.{ℕ, ◌+◌, ◌-◌, ◌*◌, Bool, cond, ◌&&◌, ◌||◌, List, [], ◌∷◌, length, Some, None, Ok, Err, Option, Result, ◌==◌, ◌≢◌, nat_le, nat_lt, slice_index}
use Rattle.std.specs.Str.{bytes_eq}
use Rattle.std.specs.Option.{option_map}

-- what stands before the first byte c, and what stands after it
abbrev pub cut_at : ℕ → List ℕ → Option (List ℕ × List ℕ)
cut_at c [] = None
cut_at c (x ∷ xs) = cond (x == c) (Some ([], xs)) (option_map (λ p. (x ∷ p.0, p.1)) (cut_at c xs))

abbrev pub is_digit : ℕ → Bool
is_digit c = nat_le 48 c && nat_le c 57

-- digits read from the left after the number n; nothing past 65535 is read
abbrev pub digits_from : ℕ → List ℕ → Option ℕ
digits_from n [] = Some n
digits_from n (c ∷ cs) = cond (is_digit c && nat_lt (n * 10 + (c - 48)) 65536) (digits_from (n * 10 + (c - 48)) cs) None

-- a number is decimal, at most 65535, and begins with 0 only where it is 0
abbrev pub decode : List ℕ → Option ℕ
decode ds = cond (length ds == 0 || (slice_index ds 0 == 48 && nat_lt 1 (length ds))) None (digits_from 0 ds)

abbrev pub bind : {A B : Type 0} → Option A → (A → Option B) → Option B
bind None f = None
bind (Some x) f = f x

-- the one byte of a field that holds one
abbrev pub single : List ℕ → Option ℕ
single ds = cond (length ds == 1) (Some (slice_index ds 0)) None

-- what f reads of the field before the first comma (44), and the rest
abbrev pub field_by : {X : Type 0} → (List ℕ → Option X) → List ℕ → Option (X × List ℕ)
field_by f s = bind (cut_at 44 s) (λ p. bind (f p.0) (λ x. Some (x, p.1)))

-- a number, a comma, and the rest
abbrev pub field_number : List ℕ → Option (ℕ × List ℕ)
field_number = field_by decode

-- a letter, a comma, and the rest
abbrev pub field_letter : List ℕ → Option (ℕ × List ℕ)
field_letter = field_by single

-- the byte c stands nowhere in the list
abbrev pub Lacks : ℕ → List ℕ → Type 0
Lacks c [] = Unit {0}
Lacks c (x ∷ xs) = (x ≢ c) × Lacks c xs

-- what stands behind the key and its equals sign (61)
abbrev pub keyed : List ℕ → List ℕ → Option (List ℕ)
keyed key s = bind (cut_at 61 s) (λ p. cond (bytes_eq p.0 key) (Some p.1) None)

-- f of what is there, else d
abbrev pub there : {A B : Type 0} → Option A → (A → B) → B → B
there None f d = d
there (Some x) f d = f x

abbrev pub on_result : {X E Y : Type 0} → Result X E → (X → Y) → (E → Y) → Y
on_result (Ok x) f g = f x
on_result (Err e) f g = g e
