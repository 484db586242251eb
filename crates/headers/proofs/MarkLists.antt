-- The marks line: what is read from it is what is written of it. Assumes nothing.
use Rattle.std.proofs.Common.{◌≡◌, ℕ, zero, suc, ◌+◌, ◌-◌, ◌<◌, ◌≤◌, Bool, true, false, cond, eqb, leb, List, [], ◌∷◌, map, length, get_or, set, Some, None, Ok, Err, decimal, Option, Result, sym, refl, ap, ◌∙◌, ⊎_elim, arith, length-set}
use Rattle.std.specs.Str.{bytes_eq}
use Rattle.std.proofs.lemmas.Slice.Eq.{bytes_eq-Decides}
use Rattle.std.proofs.lemmas.List.{get_or-set_same, get_or-set_other, get_or-replicate, get_or_past}
use Rattle.std.proofs.lemmas.Bool.{cond-true, cond-false, cases_lt, leb-true, eqb-true}
use Rattle.faults.specs.declared.causes.ValueFault.{ValueFault}
use Rattle.faults.specs.declared.causes.ValueFault.TheVariants.{Mark}
use Rattle.cuts.specs.Cuts.{bind, decode, on_result}
use Rattle.text_faults.specs.Causes.{as_read}
use Rattle.text_faults.specs.declared.lines.LineFault.{LineFault}
use Rattle.text_faults.specs.declared.lines.LineFault.TheVariants.{Form as NoForm, Value as OutOfRange}
use Rattle.headers.specs.Headers.{pieces, on_head, mark_put, marks_from, marks_field, empty_marks, in_table}
use Rattle.headers.specs.Lines.{list_from, join_on, marks_shown}
use Rattle.cuts.proofs.Decimal.{decode_back}
use Rattle.cuts.proofs.Fields.{bind_back}

list_none : (n l : ℕ) (p : ℕ → Bool) → ((k : ℕ) → l ≤ k → p k ≡ false) → list_from n l p ≡ []
unfolding list_from
list_none zero l p h = refl
list_none (suc n) l p h = cond-false (p l) _ _ (h l (omega arith)) ∙ list_none n (suc l) p (λ k m. h k (omega arith))

-- the first marked number from l on is m
list_skip : (n l m w : ℕ) (p : ℕ → Bool) → l ≤ m → l + n ≡ m + suc w → ((k : ℕ) → l ≤ k → k < m → p k ≡ false) → p m ≡ true → list_from n l p ≡ m ∷ list_from w (suc m) p
unfolding list_from
list_skip zero l m w p a b c d = absurd (omega arith)
list_skip (suc n) l m w p a b c d = ⊎_elim (before (λ (h : l < m). list_skip n (suc l) m w p (omega arith) (omega arith) (λ k x y. c k (omega arith) y) d)) at (cases_lt l m)
  where
    before : (l < m → list_from n (suc l) p ≡ m ∷ list_from w (suc m) p) → l < m → list_from (suc n) l p ≡ m ∷ list_from w (suc m) p
    before rest h = cond-false (p l) _ _ (c l (omega arith) h) ∙ rest h

    at : m ≤ l → list_from (suc n) l p ≡ m ∷ list_from w (suc m) p
    at h =
        let e : l ≡ m = omega arith in
        let f : n ≡ w = omega arith in
        cond-true (p l) _ _ (ap p e ∙ d) ∙ (λ i. e i ∷ list_from (f i) (suc (e i)) p)

-- what one mark does to the table
mark_back : (least : ℕ) (t u : List Bool) (m : ℕ) → mark_put least t m ≡ Some (Ok u) → (least ≤ m) × (m ≤ 15) × (u ≡ set t m true)
mark_back least t u m e = go (leb least m) refl (leb m 15) refl e
  where
    go : (a : Bool) → leb least m ≡ a → (b : Bool) → leb m 15 ≡ b → cond a (Some (cond b (Ok (set t m true)) (Err Mark))) None ≡ Some (Ok u) → (least ≤ m) × (m ≤ 15) × (u ≡ set t m true)
    go true x true y f = (leb-true _ _ x, leb-true _ _ y, cc)
    go true x false y f = let z : ◌≡◌ {A = ℕ} 0 1 = cc in absurd (omega arith)
    go false x b y f = let z : ◌≡◌ {A = ℕ} 0 1 = cc in absurd (omega arith)

over_back : (fs : List (List ℕ)) (l : ℕ) (t u : List Bool) → l ≤ 16 → length t ≡ 16 → ((k : ℕ) → l ≤ k → in_table t k ≡ false) → marks_from l t fs ≡ Some (Ok u)
    → (ms : List ℕ) × (fs ≡ map decimal ms) × (list_from (16 - l) l (in_table u) ≡ ms) × ((k : ℕ) → k < l → in_table u k ≡ in_table t k)
over_back [] l t u a b c e =
    let same : t ≡ u = cc in
    ([], refl, list_none (16 - l) l (in_table u) (λ k m. ap (λ x. in_table x k) (sym same) ∙ c k m), (λ k m. ap (λ x. in_table x k) (sym same)))
over_back (f ∷ fs) l t u a b c e =
    let d = bind_back (decode f) _ _ e in
    let r = bind_back (mark_put l t d.0) _ _ d.2 in
    go d.0 d.1 r.0 r.1 r.2 (over_back fs)
  where
    Goal : Type 0
    Goal = (ms : List ℕ) × (f ∷ fs ≡ map decimal ms) × (list_from (16 - l) l (in_table u) ≡ ms) × ((k : ℕ) → k < l → in_table u k ≡ in_table t k)

    refused : (o : Option (Result (List Bool) ValueFault)) (x : ValueFault) → bind o (λ _. Some (Err x)) ≡ Some (Ok u) → Goal
    refused None x h = let z : ◌≡◌ {A = ℕ} 0 1 = cc in absurd (omega arith)
    refused (Some y) x h = let z : ◌≡◌ {A = ℕ} 0 1 = cc in absurd (omega arith)

    go : (m : ℕ) → decode f ≡ Some m → (x : Result (List Bool) ValueFault) → mark_put l t m ≡ Some x
        → on_result x (λ v. marks_from (m + 1) v fs) (λ y. bind (marks_from (m + 1) t fs) (λ _. Some (Err y))) ≡ Some (Ok u)
        → ((l : ℕ) (t u : List Bool) → l ≤ 16 → length t ≡ 16 → ((k : ℕ) → l ≤ k → in_table t k ≡ false) → marks_from l t fs ≡ Some (Ok u)
        → (ms : List ℕ) × (fs ≡ map decimal ms) × (list_from (16 - l) l (in_table u) ≡ ms) × ((k : ℕ) → k < l → in_table u k ≡ in_table t k))
        → Goal
    go m dm (Err y) mk h rest = refused (marks_from (m + 1) t fs) y h
    go m dm (Ok v) mk h rest =
        let w = mark_back l t v m mk in
        let now : (k : ℕ) → in_table v k ≡ get_or (set t m true) k false = λ k. ap (λ x. in_table x k) w.2 in
        let other : (k : ℕ) → (k ≡ m → ⊥) → in_table v k ≡ in_table t k = λ k ne. now k ∙ get_or-set_other t m k true false ne in
        let here : in_table v m ≡ true = now m ∙ get_or-set_same t m true false (omega (arith, w.1)) in
        let i = rest (m + 1) v u (omega (arith, w.1)) (ap length w.2 ∙ length-set t m true ∙ b) (λ k n. other k (λ q. omega arith) ∙ c k (omega (arith, w.0))) h in
        let low : (k : ℕ) → k < m + 1 → in_table u k ≡ in_table v k = i.3 in
        let tail : list_from (15 - m) (suc m) (in_table u) ≡ i.0 = (λ j. list_from (width m j) (up m j) (in_table u)) ∙ i.2 in (
          m ∷ i.0,
          (λ j. (decode_back f m dm).0 j ∷ i.1 j),
          list_skip (16 - l) l m (15 - m) (in_table u) w.0 (omega (arith, w.0, w.1)) (λ k x y. low k (omega arith) ∙ other k (λ q. omega arith) ∙ c k x) (low m (omega arith) ∙ here) ∙ ap (λ ys. m ∷ ys) tail,
          (λ k x. low k (omega (arith, w.0)) ∙ other k (λ q. omega (arith, w.0))),
        )
      where
        width : (m : ℕ) → 15 - m ≡ 16 - (m + 1)
        width m = omega arith

        up : (m : ℕ) → suc m ≡ m + 1
        up m = omega arith

-- joined again, the pieces are the line
join : List (List ℕ) → List ℕ
join [] = []
join (f ∷ fs) = join_on f fs

pieces_some : (s : List ℕ) → (f : List ℕ) × (fs : List (List ℕ)) × (pieces s ≡ f ∷ fs)
pieces_some [] = ([], [], refl)
pieces_some (x ∷ xs) = let p = pieces_some xs in go (eqb x 44) refl p.0 p.1 p.2
  where
    go : (b : Bool) → eqb x 44 ≡ b → (f : List ℕ) (fs : List (List ℕ)) → pieces xs ≡ f ∷ fs → (g : List ℕ) × (gs : List (List ℕ)) × (pieces (x ∷ xs) ≡ g ∷ gs)
    go true t f fs e = ([], pieces xs, cond-true _ _ _ t)
    go false t f fs e = (x ∷ f, fs, cond-false _ _ _ t ∙ ap (on_head x) e)

join_pieces : (s : List ℕ) → join (pieces s) ≡ s
unfolding join
join_pieces [] = refl
join_pieces (x ∷ xs) = let p = pieces_some xs in go (eqb x 44) refl p.0 p.1 p.2 (join_pieces xs)
  where
    go : (b : Bool) → eqb x 44 ≡ b → (f : List ℕ) (fs : List (List ℕ)) → pieces xs ≡ f ∷ fs → join (pieces xs) ≡ xs → join (pieces (x ∷ xs)) ≡ x ∷ xs
    go true t f fs e h = ap join (cond-true _ _ _ t ∙ ap (λ ps. [] ∷ ps) e) ∙ ap (λ ys. 44 ∷ ys) (ap join (sym e) ∙ h) ∙ ap (λ y. y ∷ xs) (sym (eqb-true x 44 t))
    go false t f fs e h = ap join (cond-false _ _ _ t ∙ ap (on_head x) e) ∙ first f fs ∙ ap (λ ys. x ∷ ys) (ap join (sym e) ∙ h)
      where
        first : (f : List ℕ) (fs : List (List ℕ)) → join_on (x ∷ f) fs ≡ x ∷ join_on f fs
        first f [] = refl
        first f (g ∷ gs) = refl

shown : (s : List ℕ) (ms : List ℕ) → pieces s ≡ map decimal ms → s ≡ marks_shown ms
unfolding join
shown s [] e = let p = pieces_some s in let q : p.0 ∷ p.1 ≡ [] = sym p.2 ∙ e in let z : ◌≡◌ {A = ℕ} 0 1 = cc in absurd (omega arith)
shown s (m ∷ ms) e = sym (join_pieces s) ∙ ap join e

-- nobody is in the empty table
pub none_in : (k : ℕ) → in_table empty_marks k ≡ false
none_in k = ⊎_elim (λ l. get_or-replicate 16 k false false l) (λ l. get_or_past empty_marks k false l) (cases_lt k 16)

pub marks_back : (b : List ℕ) (t : List Bool) → marks_field b ≡ Some (Ok t) → b ≡ marks_shown (list_from 16 0 (in_table t))
unfolding list_from
marks_back b t e = go (bytes_eq b (45 ∷ [])) refl e
  where
    go : (x : Bool) → bytes_eq b (45 ∷ []) ≡ x → cond x (Some (Ok empty_marks)) (marks_from 0 empty_marks (pieces b)) ≡ Some (Ok t) → b ≡ marks_shown (list_from 16 0 (in_table t))
    go true u f = let same : empty_marks ≡ t = cc in (bytes_eq-Decides b (45 ∷ [])).0 u ∙ ap (λ t. marks_shown (list_from 16 0 (in_table t))) same
    go false u f =
        let r = over_back (pieces b) 0 empty_marks t (omega arith) refl (λ k m. none_in k) f in
        shown b r.0 r.1 ∙ ap marks_shown (sym r.2)

-- no mark is refused but for its range
pub mark_fault : (l : ℕ) (t : List Bool) (m : ℕ) (e : ValueFault) → mark_put l t m ≡ Some (Err e) → e ≡ Mark
mark_fault l t m e h = go (leb l m) (leb m 15) h
  where
    go : (a b : Bool) → ◌≡◌ {A = Option (Result (List Bool) ValueFault)} (cond a (Some (cond b (Ok (set t m true)) (Err Mark))) None) (Some (Err e)) → e ≡ Mark
    go true true f = let z : ◌≡◌ {A = ℕ} 0 1 = cc in absurd (omega arith)
    go true false f = cc
    go false b f = let z : ◌≡◌ {A = ℕ} 0 1 = cc in absurd (omega arith)

pub marks_fault : (fs : List (List ℕ)) (l : ℕ) (t : List Bool) (e : ValueFault) → marks_from l t fs ≡ Some (Err e) → e ≡ Mark
marks_fault [] l t e h = let z : ◌≡◌ {A = ℕ} 0 1 = cc in absurd (omega arith)
marks_fault (f ∷ fs) l t e h =
    let d = bind_back (decode f) _ _ h in
    let r = bind_back (mark_put l t d.0) _ _ d.2 in
    go d.0 r.0 r.1 r.2 (marks_fault fs)
  where
    go : (m : ℕ) (x : Result (List Bool) ValueFault) → mark_put l t m ≡ Some x
        → on_result x (λ u. marks_from (m + 1) u fs) (λ y. bind (marks_from (m + 1) t fs) (λ _. Some (Err y))) ≡ Some (Err e)
        → ((l : ℕ) (t : List Bool) (e : ValueFault) → marks_from l t fs ≡ Some (Err e) → e ≡ Mark) → e ≡ Mark
    go m (Ok u) p k rest = rest (m + 1) u e k
    go m (Err y) p k rest =
        let a = bind_back (marks_from (m + 1) t fs) _ _ k in
        let same : y ≡ e = cc a.2 in
        sym same ∙ mark_fault l t m y p

-- a mark out of range, before a line that is refused too
pub refused_over : (y : LineFault) (o : Option (Result (List Bool) ValueFault)) (e : ValueFault) → e ≡ Mark → ((f : ValueFault) → o ≡ Some (Err f) → f ≡ Mark) → as_read {X = List Bool} (Err y) ≡ o
    → as_read {X = List Bool} (Err y) ≡ bind o (λ _. Some (Err e))
refused_over NoForm o e m n h = ap (λ o. bind o (λ _. Some (Err e))) h
refused_over (OutOfRange f) o e m n h = let same : f ≡ e = n f (sym h) ∙ sym m in ap (λ f. Some (Err f)) same ∙ ap (λ o. bind o (λ _. Some (Err e))) h
