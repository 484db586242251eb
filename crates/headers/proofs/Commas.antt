-- Pieces between commas. Assumes nothing.
use Rattle.std.proofs.Common.{◌≡◌, ℕ, ◌<◌, Bool, true, false, cond, eqb, List, [], ◌∷◌, length, Some, None, Option, refl, ap, ◌∙◌, arith, length-append}
use Rattle.std.specs.Option.{option_map}
use Rattle.std.proofs.lemmas.Bool.{cond-true, cond-false}
use Rattle.cuts.specs.Cuts.{cut_at}
use Rattle.headers.specs.Headers.{pieces, on_head}
use Rattle.cuts.proofs.Fields.{cut_back}

-- the first comma ends the first piece
pub pieces_cut : (s : List ℕ) (p : List ℕ × List ℕ) → cut_at 44 s ≡ Some p → pieces s ≡ p.0 ∷ pieces p.1
pieces_cut [] p e = let z : ◌≡◌ {A = ℕ} 0 1 = cc in absurd (omega arith)
pieces_cut (x ∷ xs) p e = go (eqb x 44) refl (cut_at 44 xs) refl e (pieces_cut xs)
  where
    go : (b : Bool) → eqb x 44 ≡ b → (o : Option (List ℕ × List ℕ)) → cut_at 44 xs ≡ o → cond b (Some ([], xs)) (option_map (λ p. (x ∷ p.0, p.1)) o) ≡ Some p
        → ((q : List ℕ × List ℕ) → cut_at 44 xs ≡ Some q → pieces xs ≡ q.0 ∷ pieces q.1) → pieces (x ∷ xs) ≡ p.0 ∷ pieces p.1
    go true t o u f rest =
        let q : ◌≡◌ {A = List ℕ × List ℕ} ([], xs) p = cc in
        cond-true _ _ _ t ∙ ap (λ (p : List ℕ × List ℕ). p.0 ∷ pieces p.1) q
    go false t None u f rest = let z : ◌≡◌ {A = ℕ} 0 1 = cc in absurd (omega arith)
    go false t (Some r) u f rest =
        let q : ◌≡◌ {A = List ℕ × List ℕ} (x ∷ r.0, r.1) p = cc in
        cond-false _ _ _ t ∙ ap (on_head x) (rest r u) ∙ ap (λ (p : List ℕ × List ℕ). p.0 ∷ pieces p.1) q

pub pieces_whole : (s : List ℕ) → cut_at 44 s ≡ None → pieces s ≡ s ∷ []
pieces_whole [] e = refl
pieces_whole (x ∷ xs) e = go (eqb x 44) refl (cut_at 44 xs) refl e (pieces_whole xs)
  where
    go : (b : Bool) → eqb x 44 ≡ b → (o : Option (List ℕ × List ℕ)) → cut_at 44 xs ≡ o → cond {A = Option (List ℕ × List ℕ)} b (Some ([], xs)) (option_map (λ p. (x ∷ p.0, p.1)) o) ≡ None
        → (cut_at 44 xs ≡ None → pieces xs ≡ xs ∷ []) → pieces (x ∷ xs) ≡ (x ∷ xs) ∷ []
    go true t o u f rest = let z : ◌≡◌ {A = ℕ} 0 1 = cc in absurd (omega arith)
    go false t None u f rest = cond-false _ _ _ t ∙ ap (on_head x) (rest u)
    go false t (Some r) u f rest = let z : ◌≡◌ {A = ℕ} 0 1 = cc in absurd (omega arith)

pub cut_shorter : (s : List ℕ) (p : List ℕ × List ℕ) → cut_at 44 s ≡ Some p → length p.1 < length s
cut_shorter s p e = let w = (cut_back 44 s p e).0 in omega (arith, ap length w, length-append p.0 (44 ∷ p.1))
