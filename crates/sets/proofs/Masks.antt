-- What the bits of joined, cut and single-bit numbers are. Assumes nothing.
use Rattle.std.proofs.Common.{◌≡◌, ℕ, ◌+◌, ◌-◌, ◌*◌, ◌/◌, ◌%◌, ◌^◌, ◌<◌, ◌≤◌, min, max, Bool, true, false, not, ◌&&◌, ◌||◌, eqb, ltb, ◌⊎◌, sym, refl, ap, ◌∙◌, inl, inr, ⊎_elim, add-mul, arith, pow_mono}
use native.Mathlib.Nat.{div-eq_of_lt}
use lib.Bits.{bit_and, bit_or, bit_xor, and_step, or_step, xor_step, and_shr, or_shr, xor_shr, differ}
use Rattle.std.proofs.lemmas.Nat.{pow-add, pow_below, pow_pos, shl-shr, shr_high}
use Rattle.std.proofs.lemmas.Bool.{cases_order, cases_lt, eq-eqb, ne_eqb, le-ltb, lt-ltb}
use Rattle.sets.specs.Sets.{bit}

-- the last bit of a number
low : (x : ℕ) → (x % 2 ≡ 0) ⊎ (x % 2 ≡ 1)
low x = ⊎_elim inl (⊎_elim (λ h. absurd (omega arith)) (λ h. inr (omega arith))) (cases_order (x % 2) 0)

-- an operation that works bit by bit, at one bit
at_bit : (op : ℕ → ℕ → ℕ) (f : ℕ → ℕ → ℕ) (b : Bool → Bool → Bool)
    → ((x y k : ℕ) → op x y / 2 ^ k ≡ op (x / 2 ^ k) (y / 2 ^ k))
    → ((x y : ℕ) → op x y % 2 ≡ f (x % 2) (y % 2))
    → ((x y : ℕ) → (x ≡ 0) ⊎ (x ≡ 1) → (y ≡ 0) ⊎ (y ≡ 1) → eqb (f x y) 1 ≡ b (eqb x 1) (eqb y 1))
    → (x y k : ℕ) → bit (op x y) k ≡ b (bit x k) (bit y k)
unfolding bit
at_bit op f b shr step one x y k =
    ap (λ n. eqb (n % 2) 1) (shr x y k) ∙ ap (λ n. eqb n 1) (step (x / 2 ^ k) (y / 2 ^ k)) ∙ one _ _ (low (x / 2 ^ k)) (low (y / 2 ^ k))

-- a fact about two last bits is shown at the four pairs of numbers that they can be
four : (f : ℕ → ℕ → ℕ) (b : Bool → Bool → Bool)
    → eqb (f 0 0) 1 ≡ b false false → eqb (f 0 1) 1 ≡ b false true → eqb (f 1 0) 1 ≡ b true false → eqb (f 1 1) 1 ≡ b true true
    → (x y : ℕ) → (x ≡ 0) ⊎ (x ≡ 1) → (y ≡ 0) ⊎ (y ≡ 1) → eqb (f x y) 1 ≡ b (eqb x 1) (eqb y 1)
four f b h00 h01 h10 h11 x y (inl p) (inl q) = simp (p, q) h00
four f b h00 h01 h10 h11 x y (inl p) (inr q) = simp (p, q) h01
four f b h00 h01 h10 h11 x y (inr p) (inl q) = simp (p, q) h10
four f b h00 h01 h10 h11 x y (inr p) (inr q) = simp (p, q) h11

pub bit-or : (a b k : ℕ) → bit (bit_or a b) k ≡ (bit a k || bit b k)
bit-or = at_bit bit_or max ◌||◌ or_shr (λ x y. omega (arith, or_step x y)) (four max ◌||◌ refl refl refl refl)

pub bit-and : (a b k : ℕ) → bit (bit_and a b) k ≡ (bit a k && bit b k)
bit-and = at_bit bit_and min ◌&&◌ and_shr (λ x y. omega (arith, and_step x y)) (four min ◌&&◌ refl refl refl refl)

abbrev apart : Bool → Bool → Bool
apart true b = not b
apart false b = b

differ_low : (x y : ℕ) → (x ≡ 0) ⊎ (x ≡ 1) → (y ≡ 0) ⊎ (y ≡ 1) → differ x y < 2
differ_low x y (inl p) (inl q) = simp (p, q) (omega arith)
differ_low x y (inl p) (inr q) = simp (p, q) (omega arith)
differ_low x y (inr p) (inl q) = simp (p, q) (omega arith)
differ_low x y (inr p) (inr q) = simp (p, q) (omega arith)

bit-xor : (a b k : ℕ) → bit (bit_xor a b) k ≡ apart (bit a k) (bit b k)
bit-xor =
    at_bit bit_xor differ apart xor_shr (λ x y. omega (arith, xor_step x y, differ_low (x % 2) (y % 2) (low x) (low y)))
    (four differ apart refl refl refl refl)

apart_and : (x y : Bool) → apart x (x && y) ≡ (x && not y)
apart_and true y = refl
apart_and false y = refl

pub bit_without : (a b k : ℕ) → bit (bit_xor a (bit_and a b)) k ≡ (bit a k && not (bit b k))
bit_without a b k = bit-xor a (bit_and a b) k ∙ ap (apart (bit a k)) (bit-and a b k) ∙ apart_and (bit a k) (bit b k)

pub or_swap : (x y : Bool) → (x || y) ≡ (y || x)
or_swap true true = refl
or_swap true false = refl
or_swap false true = refl
or_swap false false = refl

pub bit_zero : (k : ℕ) → bit 0 k ≡ false
unfolding bit
bit_zero k = ap (λ n. eqb (n % 2) 1) (div-eq_of_lt {n = 0} (pow_pos k))

-- a number below 2 ^ w has no bit at w or above
pub bit_high : (w m k : ℕ) → m < 2 ^ w → w ≤ k → bit m k ≡ false
unfolding bit
bit_high w m k small h =
    let p : 2 ^ w ≤ 2 ^ k = pow_mono h in
    ap (λ n. eqb (n % 2) 1) (div-eq_of_lt {n = m} {m = 2 ^ k} (omega arith))

shift_down : (j k : ℕ) → 2 ^ (j + k) / 2 ^ k ≡ 2 ^ j
shift_down j k = ap (λ n. n / 2 ^ k) (pow-add 2 j k) ∙ shl-shr (2 ^ j) k

pub bit_one : (q k : ℕ) → bit (2 ^ q) k ≡ eqb k q
unfolding bit
bit_one q k = ⊎_elim same (⊎_elim below above) (cases_order k q)
  where
    same : k ≡ q → eqb (2 ^ q / 2 ^ k % 2) 1 ≡ eqb k q
    same h = let e : q ≡ 0 + k = omega arith in ap (λ n. eqb (2 ^ n / 2 ^ k % 2) 1) e ∙ ap (λ n. eqb (n % 2) 1) (shift_down 0 k) ∙ sym (eq-eqb k q h)

    even : (j : ℕ) → 2 ^ (j + 1) % 2 ≡ 0
    even j = omega (arith, pow-add 2 j 1)

    below : k < q → eqb (2 ^ q / 2 ^ k % 2) 1 ≡ eqb k q
    below h =
        let e : q ≡ (q - k - 1 + 1) + k = omega arith in
        ap (λ n. eqb (2 ^ n / 2 ^ k % 2) 1) e ∙ ap (λ n. eqb (n % 2) 1) (shift_down (q - k - 1 + 1) k) ∙ ap (λ n. eqb n 1) (even (q - k - 1)) ∙ sym (ne_eqb k q (λ x. omega arith))

    above : q < k → eqb (2 ^ q / 2 ^ k % 2) 1 ≡ eqb k q
    above h = ap (λ n. eqb (n % 2) 1) (div-eq_of_lt (pow_below q k h)) ∙ sym (ne_eqb k q (λ e. omega arith))

one_less : (a b : ℕ) → 0 < a → (a - 1) * b + b ≡ a * b
one_less a b h = let e : a - 1 + 1 ≡ a = omega arith in omega (arith, add-mul (a - 1) 1 b, ap (λ n. n * b) e)

-- the number of w ones, bit by bit
pub bit_ones : (w k : ℕ) → bit (2 ^ w - 1) k ≡ ltb k w
unfolding bit
bit_ones w k = ⊎_elim low_part high_part (cases_lt k w)
  where
    high_part : w ≤ k → eqb ((2 ^ w - 1) / 2 ^ k % 2) 1 ≡ ltb k w
    high_part h =
        let p : 2 ^ w ≤ 2 ^ k = pow_mono h in
        let q : 0 < 2 ^ w = pow_pos w in
        ap (λ n. eqb (n % 2) 1) (div-eq_of_lt {n = 2 ^ w - 1} {m = 2 ^ k} (omega arith)) ∙ sym (le-ltb k w h)

    low_part : k < w → eqb ((2 ^ w - 1) / 2 ^ k % 2) 1 ≡ ltb k w
    low_part h =
        let j : ℕ = w - k - 1 in
        let e : w ≡ (j + 1) + k = omega arith in
        let split : 2 ^ w ≡ 2 ^ (j + 1) * 2 ^ k = ap (λ n. 2 ^ n) e ∙ pow-add 2 (j + 1) k in
        let two : 2 ^ (j + 1) ≡ 2 ^ j * 2 = pow-add 2 j 1 in
        let pj : 0 < 2 ^ j = pow_pos j in
        let pk : 0 < 2 ^ k = pow_pos k in
        let less : (2 ^ (j + 1) - 1) * 2 ^ k + 2 ^ k ≡ 2 ^ (j + 1) * 2 ^ k = one_less (2 ^ (j + 1)) (2 ^ k) (omega arith) in
        let whole : 2 ^ w - 1 ≡ (2 ^ (j + 1) - 1) * 2 ^ k + (2 ^ k - 1) = omega arith in
        ap (λ n. eqb (n / 2 ^ k % 2) 1) whole ∙ ap (λ n. eqb (n % 2) 1) (shr_high (2 ^ (j + 1) - 1) k (2 ^ k - 1) (omega arith))
        ∙ (let odd : (2 ^ (j + 1) - 1) % 2 ≡ 1 = omega arith in ap (λ n. eqb n 1) odd) ∙ sym (lt-ltb k w h)
