-- Where a reader stands after a line. Assumes nothing.
use Rattle.std.proofs.Common.{◌≡◌, ℕ, suc, ◌+◌, ◌≤◌, Bool, true, false, cond, leb, List, [], ◌∷◌, ◌++◌, length, drop, Some, None, Ok, Err, Option, Result, sym, refl, ap, ◌∙◌, add-one, arith, length-append}
use Rattle.std.proofs.lemmas.List.{drop-drop}
use Rattle.std.proofs.lemmas.Bool.{cond-true, le-leb}
use Rattle.cuts.specs.Cuts.{cut_at}
use Rattle.cuts.specs.Cuts.{there}
use Rattle.reader.specs.Lines.{line_in}
use Rattle.reader.specs.Reading.{fault_at, left, passed, ranged, taken}
use Rattle.text_faults.specs.declared.texts.TextFault.{TextFault}
use Rattle.text_faults.specs.declared.causes.TextCause.TheVariants.{Missing, Form}
use Rattle.reader.specs.declared.Reader.{Reader}
use Rattle.faults.specs.declared.causes.ValueFault.{ValueFault}
use Rattle.cuts.proofs.Fields.{bind_back, bind_forth, cut_back}

-- what stands behind the first line and its line feed
pub behind : (a b : List ℕ) → drop (suc (length a)) (a ++ 10 ∷ b) ≡ b
behind [] b = refl
behind (x ∷ a) b = behind a b

pub line_cut : (s a b : List ℕ) → cut_at 10 s ≡ Some (a, b) → length a ≤ 64
    → (line_in s ≡ Some (a, drop (length a + 1) s)) × (length a + 1 ≤ length s)
line_cut s a b e l =
    let w = (cut_back 10 s (a, b) e).0 in (
      bind_forth _ e ∙ cond-true _ _ _ (le-leb (length a) 64 l) ∙ ap (λ y. Some (a, y)) (sym (ap (drop (length a + 1)) w ∙ ap (λ n. drop n (a ++ 10 ∷ b)) (add-one (length a)) ∙ behind a b)),
      omega (arith, ap length w, length-append a (10 ∷ b)),
    )

-- a line stands before its line feed
pub line_back : (s : List ℕ) (p : List ℕ × List ℕ) → line_in s ≡ Some p → (s ≡ p.0 ++ 10 ∷ p.1) × (p.1 ≡ drop (length p.0 + 1) s)
line_back s p e =
    let a = bind_back (cut_at 10 s) _ _ e in
    go a.0 (leb (length a.0.0) 64) a.1 a.2
  where
    go : (q : List ℕ × List ℕ) (t : Bool) → cut_at 10 s ≡ Some q → cond t (Some q) None ≡ Some p → (s ≡ p.0 ++ 10 ∷ p.1) × (p.1 ≡ drop (length p.0 + 1) s)
    go q true u f =
        let same : q ≡ p = cc in
        let w : s ≡ p.0 ++ 10 ∷ p.1 = (cut_back 10 s q u).0 ∙ ap (λ (q : List ℕ × List ℕ). q.0 ++ 10 ∷ q.1) same in
        (w, sym (ap (drop (length p.0 + 1)) w ∙ ap (λ n. drop n (p.0 ++ 10 ∷ p.1)) (add-one (length p.0)) ∙ behind p.0 p.1))
    go q false u f = let z : ◌≡◌ {A = ℕ} 0 1 = cc in absurd (omega arith)

-- what a taken line says of the text: it stood there with its line feed, and was read
pub taken_back : {X : Type 0} (f : List ℕ → Option (Result X ValueFault)) (r after : Reader) (x : X) → taken f r ≡ (Ok x, after)
    → (line : List ℕ) × (left r ≡ line ++ 10 ∷ left after) × (f line ≡ Some (Ok x)) × (after ≡ passed r line)
taken_back {X} f r after x e = go (line_in (left r)) refl e
  where
    Goal : Type 0
    Goal = (line : List ℕ) × (left r ≡ line ++ 10 ∷ left after) × (f line ≡ Some (Ok x)) × (after ≡ passed r line)

    inner : (p : List ℕ × List ℕ) → line_in (left r) ≡ Some p → (o : Option (Result X ValueFault)) → f p.0 ≡ o
        → there o (ranged r (passed r p.0)) (Err (fault_at r Form), r) ≡ (Ok x, after) → Goal
    inner p u None v h = let w = ap (λ (q : Result X TextFault × Reader). q.0) h in let z : ◌≡◌ {A = ℕ} 0 1 = cc in absurd (omega arith)
    inner p u (Some (Err y)) v h = let w = ap (λ (q : Result X TextFault × Reader). q.0) h in let z : ◌≡◌ {A = ℕ} 0 1 = cc in absurd (omega arith)
    inner p u (Some (Ok y)) v h =
        let k = ap (λ (q : Result X TextFault × Reader). q.0) h in
        let same : y ≡ x = cc in
        let moved : passed r p.0 ≡ after = ap (λ (q : Result X TextFault × Reader). q.1) h in
        let w = line_back (left r) p u in
        (p.0, w.0 ∙ ap (λ y. p.0 ++ 10 ∷ y) (w.1 ∙ drop-drop (length p.0 + 1) r.place r.text.now ∙ ap left moved), v ∙ ap (λ y. Some (Ok y)) same, sym moved)

    go : (o : Option (List ℕ × List ℕ)) → line_in (left r) ≡ o → there o (λ p. there (f p.0) (ranged r (passed r p.0)) (Err (fault_at r Form), r)) (Err (fault_at r Missing), r) ≡ (Ok x, after) → Goal
    go None u h = let w = ap (λ (q : Result X TextFault × Reader). q.0) h in let z : ◌≡◌ {A = ℕ} 0 1 = cc in absurd (omega arith)
    go (Some p) u h = inner p u (f p.0) refl h
