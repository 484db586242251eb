-- The numbers that are read are those that are written: one row of digits for one number. Assumes nothing.
use Rattle.std.proofs.Common.{◌≡◌, ℕ, ◌+◌, ◌-◌, ◌*◌, ◌<◌, ◌≤◌, Bool, true, false, cond, ◌&&◌, ◌||◌, eqb, ltb, List, [], ◌∷◌, length, get_or, Some, None, decimal, sym, refl, ap, ◌∙◌, ⊎_elim, arith, rules}
use Rattle.std.specs.Int.{IsInRange}
use Rattle.std.proofs.lemmas.Bool.{cond-true, cond-false, and_parts, and_from, leb-true, ltb-true, le-leb, lt-ltb, cases_lt}
use Rattle.std.proofs.lemmas.Bool.Decides.{nat_tests}
use Rattle.std.proofs.lemmas.Str.Parse.{IsNumeralModel, numerals_by_fold, not_in_digits}
use Rattle.std.proofs.lemmas.Fmt.{decimal-digits_value, digits_decimal, digits_value-decimal, decimal_nonempty, decimal_digit, first_decimal}
use Rattle.cuts.specs.Cuts.{is_digit, digits_from, decode}

abbrev AllDigits : List ℕ → Type 0
AllDigits [] = Unit {0}
AllDigits (c ∷ cs) = IsInRange 48 57 c × AllDigits cs

abbrev read_on : ℕ → List ℕ → ℕ
read_on n [] = n
read_on n (c ∷ cs) = read_on (n * 10 + (c - 48)) cs

own : IsNumeralModel AllDigits (read_on 0)
own = numerals_by_fold AllDigits (search rules) read_on (search rules)

read_grows : (n : ℕ) (ds : List ℕ) → n ≤ read_on n ds
read_grows n [] = omega arith
read_grows n (c ∷ cs) = omega (arith, read_grows (n * 10 + (c - 48)) cs)

-- what is read is a row of digits, and their number
digits_read : (n : ℕ) (ds : List ℕ) (v : ℕ) → n < 65536 → digits_from n ds ≡ Some v → AllDigits ds × (read_on n ds ≡ v) × (v < 65536)
digits_read n [] v l e = let same : n ≡ v = cc in (tt, same, omega arith)
digits_read n (c ∷ cs) v l e = go (is_digit c && ltb (n * 10 + (c - 48)) 65536) refl e (digits_read (n * 10 + (c - 48)) cs v)
  where
    go : (b : Bool) → (is_digit c && ltb (n * 10 + (c - 48)) 65536) ≡ b → cond b (digits_from (n * 10 + (c - 48)) cs) None ≡ Some v
        → (n * 10 + (c - 48) < 65536 → digits_from (n * 10 + (c - 48)) cs ≡ Some v → AllDigits cs × (read_on (n * 10 + (c - 48)) cs ≡ v) × (v < 65536))
        → AllDigits (c ∷ cs) × (read_on n (c ∷ cs) ≡ v) × (v < 65536)
    go true t f rest =
        let p = and_parts _ _ t in
        let d = and_parts _ _ p.0 in
        let r = rest (ltb-true _ _ p.1) f in
        (((leb-true 48 c d.0, leb-true c 57 d.1), r.0), r.1, r.2)
    go false t f rest = let z : ◌≡◌ {A = ℕ} 0 1 = cc in absurd (omega arith)

-- a row of digits that writes a small number is read
digits_taken : (n : ℕ) (ds : List ℕ) → AllDigits ds → read_on n ds < 65536 → digits_from n ds ≡ Some (read_on n ds)
digits_taken n [] p l = refl
digits_taken n (c ∷ cs) p l =
    let small : n * 10 + (c - 48) < 65536 = omega (arith, read_grows (n * 10 + (c - 48)) cs) in
    cond-true _ _ _ (and_from _ _ (and_from _ _ (le-leb 48 c p.0.0) (le-leb c 57 p.0.1)) (lt-ltb _ _ small)) ∙ digits_taken (n * 10 + (c - 48)) cs p.1 l

pub decode_back : (ds : List ℕ) (n : ℕ) → decode ds ≡ Some n → (ds ≡ decimal n) × (n < 65536)
decode_back ds n e = go (eqb (length ds) 0 || (eqb (get_or ds 0 0) 48 && ltb 1 (length ds))) refl e
  where
    go : (b : Bool) → (eqb (length ds) 0 || (eqb (get_or ds 0 0) 48 && ltb 1 (length ds))) ≡ b → cond b None (digits_from 0 ds) ≡ Some n → (ds ≡ decimal n) × (n < 65536)
    go true t f = let z : ◌≡◌ {A = ℕ} 0 1 = cc in absurd (omega arith)
    go false t f =
        let r = digits_read 0 ds n (omega arith) f in
        let some : 0 < length ds = grind (arith, nat_tests) in
        let lead : get_or ds 0 0 ≡ 48 → length ds ≡ 1 = λ z. grind (arith, nat_tests) in
        (sym (decimal-digits_value own ds r.0 some lead (omega (arith, r))) ∙ ap decimal r.1, r.2)

first_zero : (n : ℕ) → n < 65536 → get_or (decimal n) 0 0 ≡ 48 → length (decimal n) ≡ 1
first_zero n l z = ⊎_elim at past (cases_lt n 1)
  where
    at : n < 1 → length (decimal n) ≡ 1
    at h = ap length (decimal_digit n (omega arith))

    past : 1 ≤ n → length (decimal n) ≡ 1
    past h = absurd (omega (arith, first_decimal n (omega arith) (omega arith)))

pub decode_forth : (n : ℕ) → n < 65536 → decode (decimal n) ≡ Some n
decode_forth n l =
    let some : 0 < length (decimal n) = decimal_nonempty n (omega arith) in
    let value : read_on 0 (decimal n) ≡ n = digits_value-decimal own n (omega arith) in
    let lead = first_zero n l in
    let passes : (eqb (length (decimal n)) 0 || (eqb (get_or (decimal n) 0 0) 48 && ltb 1 (length (decimal n)))) ≡ false = grind (arith, nat_tests) in
    cond-false _ _ _ passes ∙ digits_taken 0 (decimal n) (digits_decimal own n (omega arith)) (omega arith) ∙ ap Some value

-- no separator is a digit
pub decimal_lacks : (n c : ℕ) → n < 65536 → (IsInRange 48 57 c → ⊥) → (k : ℕ) → k < length (decimal n) → get_or (decimal n) k 0 ≡ c → ⊥
decimal_lacks n c l other k m e = not_in_digits own (decimal n) c (digits_decimal own n (omega arith)) other k m e
