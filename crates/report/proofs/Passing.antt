-- A refused line leaves the reader before it, a line that is read has gone by as one that is skipped has, and each such line is
-- one line less. Assumes nothing.
use Rattle.std.proofs.Common.{◌≡◌, ℕ, suc, ◌+◌, ◌<◌, max, Bool, true, false, cond, eqb, leb, List, [], ◌∷◌, ◌++◌, length, drop, Some, None, Ok, Err, Option, Result, sym, refl, ap, ◌∙◌, append_assoc, arith, length-append, length-drop}
use Rattle.std.specs.Option.{option_map}
use Rattle.std.proofs.lemmas.List.{drop_all, drop-drop, drop_at}
use Rattle.std.proofs.lemmas.Bool.{ne_eqb}
use Rattle.faults.specs.declared.causes.ValueFault.{ValueFault}
use Rattle.cuts.proofs.Fields.{cut_back}
use Rattle.report.specs.Texts.{bind, fault_at, there, cut_at, Lacks, line_in, left, next, passed, ranged, skipped, line_taken, TextFault, Missing, Form, Reader}
use Rattle.report.specs.Truth.{lines_in}

module _ {X : Type 0} (f : List ℕ → Option (Result X ValueFault)) (r s : Reader) (e : TextFault) where
  by_range : (after : Reader) (x : Result X ValueFault) → (Err e, s) ≡ ranged r after x → s ≡ r
  by_range after (Ok x) h = let never = ap (λ p. p.0) h in let z : ◌≡◌ {A = ℕ} 0 1 = cc in absurd (omega arith)
  by_range after (Err x) h = ap (λ p. p.1) h

  by_form : (after : Reader) (o : Option (Result X ValueFault)) → (Err e, s) ≡ there o (ranged r after) (Err (fault_at r Form), r) → s ≡ r
  by_form after None h = ap (λ p. p.1) h
  by_form after (Some x) h = by_range after x h

  pub refused_stays : (Err e, s) ≡ line_taken f r → s ≡ r
  refused_stays h = go (line_in (left r)) h
    where
      go : (o : Option (List ℕ × List ℕ)) → (Err e, s) ≡ there o (λ p. there (f p.0) (ranged r (passed r p.0)) (Err (fault_at r Form), r)) (Err (fault_at r Missing), r) → s ≡ r
      go None h = ap (λ p. p.1) h
      go (Some p) h = by_form (passed r p.0) (f p.0) h

-- a reader behind the last byte
end : Reader → Reader
end r = record { text = r.text; place = length r.text.now; line = cond (eqb (length (left r)) 0) r.line (next r.line) }

module _ {X : Type 0} (f : List ℕ → Option (Result X ValueFault)) (r after : Reader) (x : X) where
  read_range : (behind : Reader) (y : Result X ValueFault) → (Ok x, after) ≡ ranged r behind y → after ≡ behind
  read_range behind (Ok y) h = ap (λ p. p.1) h
  read_range behind (Err y) h = let never = ap (λ p. p.0) h in let z : ◌≡◌ {A = ℕ} 0 1 = cc in absurd (omega arith)

  read_form : (behind : Reader) (o : Option (Result X ValueFault)) → (Ok x, after) ≡ there o (ranged r behind) (Err (fault_at r Form), r) → after ≡ behind
  read_form behind None h = let never = ap (λ p. p.0) h in let z : ◌≡◌ {A = ℕ} 0 1 = cc in absurd (omega arith)
  read_form behind (Some y) h = read_range behind y h

  read_line : (p : List ℕ × List ℕ) (short : Bool) → (Ok x, after) ≡ there (cond short (Some p) None) (λ p. there (f p.0) (ranged r (passed r p.0)) (Err (fault_at r Form), r)) (Err (fault_at r Missing), r) → after ≡ passed r p.0
  read_line p true h = read_form (passed r p.0) (f p.0) h
  read_line p false h = let never = ap (λ p. p.0) h in let z : ◌≡◌ {A = ℕ} 0 1 = cc in absurd (omega arith)

  pub read_skips : (Ok x, after) ≡ line_taken f r → after ≡ skipped r
  unfolding end
  read_skips h = go (cut_at 10 (left r)) h
    where
      go : (o : Option (List ℕ × List ℕ))
          → (Ok x, after) ≡ there (bind o (λ p. cond (leb (length p.0) 64) (Some p) None)) (λ p. there (f p.0) (ranged r (passed r p.0)) (Err (fault_at r Form), r)) (Err (fault_at r Missing), r)
          → after ≡ there o (λ p. passed r p.0) (end r)
      go None h = let never = ap (λ p. p.0) h in let z : ◌≡◌ {A = ℕ} 0 1 = cc in absurd (omega arith)
      go (Some p) h = read_line p (leb (length p.0) 64) h

pub skip_shrinks : (r : Reader) → 0 < length (left r) → length (left (skipped r)) < length (left r)
unfolding end
skip_shrinks r some = go (cut_at 10 (left r))
  where
    text : List ℕ
    text = r.text.now

    go : (o : Option (List ℕ × List ℕ)) → length (left (there o (λ p. passed r p.0) (end r))) < length (left r)
    go None = omega (arith, length-drop (length text) text)
    go (Some p) = omega (arith, length-drop (r.place + (length p.0 + 1)) text, length-drop r.place text)

-- a line feed ends a line
lines_cut : (a b : List ℕ) → Lacks 10 a → lines_in (a ++ 10 ∷ b) ≡ suc (lines_in b)
lines_cut [] b h = refl
lines_cut (x ∷ a) b h =
    let rest = lines_cut a b h.1 in
    ap (λ (t : Bool). cond t (suc (lines_in (a ++ 10 ∷ b))) (max 1 (lines_in (a ++ 10 ∷ b)))) (ne_eqb x 10 h.0) ∙ omega arith

-- what has none is one line
lines_last : (s : List ℕ) → cut_at 10 s ≡ None → 0 < length s → lines_in s ≡ 1
lines_last [] e some = absurd (omega arith)
lines_last (x ∷ s) e some = go (lines_last s) (eqb x 10) (cut_at 10 s) refl e
  where
    few : (s : List ℕ) → (0 < length s → lines_in s ≡ 1) → max 1 (lines_in s) ≡ 1
    few [] h = refl
    few (y ∷ s) h = let one = h (omega arith) in omega arith

    go : (cut_at 10 s ≡ None → 0 < length s → lines_in s ≡ 1) → (t : Bool) (o : Option (List ℕ × List ℕ)) → cut_at 10 s ≡ o → cond {A = Option (List ℕ × List ℕ)} t (Some ([], s)) (option_map (λ (p : List ℕ × List ℕ). (x ∷ p.0, p.1)) o) ≡ None
        → cond t (suc (lines_in s)) (max 1 (lines_in s)) ≡ 1
    go before true o u e = let z : ◌≡◌ {A = ℕ} 0 1 = cc in absurd (omega arith)
    go before false None u e = few s (before u)
    go before false (Some p) u e = let z : ◌≡◌ {A = ℕ} 0 1 = cc in absurd (omega arith)

pub skip_counts : (r : Reader) → 0 < length (left r) → lines_in (left r) ≡ suc (lines_in (left (skipped r)))
unfolding end
skip_counts r some = go (cut_at 10 (left r)) refl
  where
    text : List ℕ
    text = r.text.now

    go : (o : Option (List ℕ × List ℕ)) → cut_at 10 (left r) ≡ o → lines_in (left r) ≡ suc (lines_in (left (there o (λ p. passed r p.0) (end r))))
    go None u = lines_last (left r) u some ∙ ap (λ (s : List ℕ). suc (lines_in s)) (sym (drop_all (length text) text (omega arith)))
    go (Some p) u =
        let w = cut_back 10 (left r) p u in
        let n = length p.0 + 1 in
        let behind : p.1 ≡ drop (r.place + n) text = sym (drop_at (p.0 ++ 10 ∷ []) p.1 n (length-append p.0 (10 ∷ []))) ∙ ap (drop n) (append_assoc p.0 (10 ∷ []) p.1 ∙ sym w.0) ∙ drop-drop n r.place text in
        ap lines_in w.0 ∙ lines_cut p.0 p.1 w.1 ∙ ap (λ (s : List ℕ). suc (lines_in s)) behind
