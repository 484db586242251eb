-- What a cut and a field say of the bytes that they come from, and back. Assumes nothing.
use Rattle.std.proofs.Common.{◌≡◌, ℕ, suc, ◌<◌, ◌≤◌, Bool, true, false, cond, not, ◌&&◌, eqb, ◌⊎◌, List, [], ◌∷◌, ◌++◌, length, get_or, Some, None, Ok, Err, decimal, Option, Result, sym, refl, ap, ◌∙◌, subst, inl, inr, arith}
use Rattle.std.specs.Option.{option_map}
use Rattle.std.specs.Int.{IsInRange}
use Rattle.std.proofs.lemmas.Bool.{cond-true, cond-false, eq-eqb, ne_eqb, eqb-true, eqb-false, not-true, and_parts}
use Rattle.std.specs.Str.{bytes_eq}
use Rattle.std.proofs.lemmas.Slice.Eq.{bytes_eq-Decides}
use Rattle.std.proofs.lemmas.Fmt.{length-decimal-le}
use Rattle.cuts.specs.Cuts.{cut_at, decode, bind, single, field_number, field_letter, Lacks, keyed, there, on_result}
use Rattle.cuts.proofs.Decimal.{decode_back, decode_forth, decimal_lacks}

pub bind_back : {A B : Type 0} (o : Option A) (f : A → Option B) (y : B) → bind o f ≡ Some y → (x : A) × (o ≡ Some x) × (f x ≡ Some y)
bind_back None f y e = let z : ◌≡◌ {A = ℕ} 0 1 = cc in absurd (omega arith)
bind_back (Some x) f y e = (x, refl, e)

pub bind_forth : {A B : Type 0} {o : Option A} (f : A → Option B) {x : A} → o ≡ Some x → bind o f ≡ f x
bind_forth f e = ap (λ o. bind o f) e

pub cut_back : (c : ℕ) (s : List ℕ) (p : List ℕ × List ℕ) → cut_at c s ≡ Some p → (s ≡ p.0 ++ c ∷ p.1) × Lacks c p.0
cut_back c [] p e = let z : ◌≡◌ {A = ℕ} 0 1 = cc in absurd (omega arith)
cut_back c (x ∷ xs) p e = go (eqb x c) refl (cut_at c xs) refl e (cut_back c xs)
  where
    go : (b : Bool) → eqb x c ≡ b → (o : Option (List ℕ × List ℕ)) → cut_at c xs ≡ o → cond b (Some ([], xs)) (option_map (λ p. (x ∷ p.0, p.1)) o) ≡ Some p
        → ((q : List ℕ × List ℕ) → cut_at c xs ≡ Some q → (xs ≡ q.0 ++ c ∷ q.1) × Lacks c q.0)
        → (x ∷ xs ≡ p.0 ++ c ∷ p.1) × Lacks c p.0
    go true t o u f rest =
        let q : ◌≡◌ {A = List ℕ × List ℕ} ([], xs) p = cc in
        subst (λ (p : List ℕ × List ℕ). (x ∷ xs ≡ p.0 ++ c ∷ p.1) × Lacks c p.0) q (ap (λ y. y ∷ xs) (eqb-true x c t), tt)
    go false t None u f rest = let z : ◌≡◌ {A = ℕ} 0 1 = cc in absurd (omega arith)
    go false t (Some r) u f rest =
        let q : ◌≡◌ {A = List ℕ × List ℕ} (x ∷ r.0, r.1) p = cc in
        let h = rest r u in
        let other : x ≡ c → ⊥ = λ e. let z : true ≡ false = sym (eq-eqb x c e) ∙ t in let y : ◌≡◌ {A = ℕ} 0 1 = cc in omega arith in
        subst (λ (p : List ℕ × List ℕ). (x ∷ xs ≡ p.0 ++ c ∷ p.1) × Lacks c p.0) q (ap (λ ys. x ∷ ys) h.0, (other, h.1))

pub cut_forth : (c : ℕ) (a b : List ℕ) → Lacks c a → cut_at c (a ++ c ∷ b) ≡ Some (a, b)
cut_forth c [] b h = cond-true (eqb c c) _ _ (eq-eqb c c refl)
cut_forth c (x ∷ a) b h = cond-false (eqb x c) _ _ (ne_eqb x c h.0) ∙ ap (option_map (λ p. (x ∷ p.0, p.1))) (cut_forth c a b h.1)

pub lacks_append : (c : ℕ) (a b : List ℕ) → Lacks c a → Lacks c b → Lacks c (a ++ b)
lacks_append c [] b h k = k
lacks_append c (x ∷ a) b h k = (h.0, lacks_append c a b h.1 k)

lacks_from : (c : ℕ) (s : List ℕ) → ((k : ℕ) → k < length s → get_or s k 0 ≡ c → ⊥) → Lacks c s
lacks_from c [] h = tt
lacks_from c (x ∷ xs) h = (h 0 (omega arith), lacks_from c xs (λ k l. h (suc k) (omega arith)))

-- a text that is known can be looked through
abbrev pub lacks : ℕ → List ℕ → Bool
lacks c [] = true
lacks c (x ∷ xs) = not (eqb x c) && lacks c xs

pub lacks_by : (c : ℕ) (s : List ℕ) → lacks c s ≡ true → Lacks c s
lacks_by c [] e = tt
lacks_by c (x ∷ xs) e = let p = and_parts _ _ e in (eqb-false x c (not-true _ p.0), lacks_by c xs p.1)

pub lacks_decimal : (c n : ℕ) → n < 65536 → (IsInRange 48 57 c → ⊥) → Lacks c (decimal n)
lacks_decimal c n l other = lacks_from c (decimal n) (decimal_lacks n c l other)

pub length_number : (n : ℕ) → n < 65536 → length (decimal n) ≤ 5
length_number n l = length-decimal-le 5 n (omega arith) (omega arith) (omega arith)

pub number_field_back : (s : List ℕ) (p : ℕ × List ℕ) → field_number s ≡ Some p → (s ≡ decimal p.0 ++ 44 ∷ p.1) × (p.0 < 65536)
number_field_back s p e =
    let a = bind_back (cut_at 44 s) _ _ e in
    let b = bind_back (decode a.0.0) _ _ a.2 in
    let q : ◌≡◌ {A = ℕ × List ℕ} (b.0, a.0.1) p = cc b.2 in
    let d = decode_back _ _ b.1 in
    subst (λ (p : ℕ × List ℕ). (s ≡ decimal p.0 ++ 44 ∷ p.1) × (p.0 < 65536)) q ((cut_back 44 s a.0 a.1).0 ∙ ap (λ x. x ++ 44 ∷ a.0.1) d.0, d.1)

pub number_field_forth : (n : ℕ) (rest : List ℕ) → n < 65536 → field_number (decimal n ++ 44 ∷ rest) ≡ Some (n, rest)
number_field_forth n rest l = bind_forth _ (cut_forth 44 (decimal n) rest (lacks_decimal 44 n l (λ h. omega arith))) ∙ bind_forth _ (decode_forth n l)

single_back : (ds : List ℕ) (c : ℕ) → single ds ≡ Some c → ds ≡ c ∷ []
single_back ds c e = go (eqb (length ds) 1) refl e
  where
    one : (xs : List ℕ) → length xs ≡ 1 → xs ≡ get_or xs 0 0 ∷ []
    one [] h = absurd (omega arith)
    one (x ∷ []) h = refl
    one (x ∷ (y ∷ zs)) h = absurd (omega arith)

    go : (b : Bool) → eqb (length ds) 1 ≡ b → cond b (Some (get_or ds 0 0)) None ≡ Some c → ds ≡ c ∷ []
    go true t f = let q : get_or ds 0 0 ≡ c = cc in one ds (eqb-true _ 1 t) ∙ ap (λ x. x ∷ []) q
    go false t f = let z : ◌≡◌ {A = ℕ} 0 1 = cc in absurd (omega arith)

pub letter_field_back : (s : List ℕ) (p : ℕ × List ℕ) → field_letter s ≡ Some p → s ≡ p.0 ∷ 44 ∷ p.1
letter_field_back s p e =
    let a = bind_back (cut_at 44 s) _ _ e in
    let b = bind_back (single a.0.0) _ _ a.2 in
    let q : ◌≡◌ {A = ℕ × List ℕ} (b.0, a.0.1) p = cc b.2 in
    (cut_back 44 s a.0 a.1).0 ∙ ap (λ x. x ++ 44 ∷ a.0.1) (single_back _ _ b.1) ∙ ap (λ (p : ℕ × List ℕ). p.0 ∷ 44 ∷ p.1) q

pub letter_field_forth : (c : ℕ) (rest : List ℕ) → (c ≡ 44 → ⊥) → field_letter (c ∷ 44 ∷ rest) ≡ Some (c, rest)
letter_field_forth c rest other = bind_forth _ (cut_forth 44 (c ∷ []) rest (other, tt))

pub keyed_back : (key s b : List ℕ) → keyed key s ≡ Some b → s ≡ key ++ 61 ∷ b
keyed_back key s b e =
    let a = bind_back (cut_at 61 s) _ _ e in
    go (bytes_eq a.0.0 key) a.0 refl a.1 a.2
  where
    go : (t : Bool) (p : List ℕ × List ℕ) → bytes_eq p.0 key ≡ t → cut_at 61 s ≡ Some p → cond t (Some p.1) None ≡ Some b → s ≡ key ++ 61 ∷ b
    go true p u c f = let q : p.1 ≡ b = cc in (cut_back 61 s p c).0 ∙ (λ i. (bytes_eq-Decides p.0 key).0 u i ++ 61 ∷ q i)
    go false p u c f = let z : ◌≡◌ {A = ℕ} 0 1 = cc in absurd (omega arith)

-- either what is there was used, or the other
pub there_back : {A B : Type 0} (o : Option A) (f : A → B) (d y : B) → there o f d ≡ y → ((x : A) × (o ≡ Some x) × (f x ≡ y)) ⊎ (d ≡ y)
there_back None f d y e = inr e
there_back (Some x) f d y e = inl (x, refl, e)

-- an answer that is handed on as it is
pub same_again : {X E : Type 0} (o : Option (Result X E)) → bind o (λ r. on_result r (λ x. Some (Ok x)) (λ e. Some (Err e))) ≡ o
same_again None = refl
same_again (Some (Ok x)) = refl
same_again (Some (Err e)) = refl
