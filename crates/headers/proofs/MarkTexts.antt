-- The marks line is one line, and is read back as it was written. Assumes nothing.
use Rattle.std.proofs.Common.{◌≡◌, ℕ, zero, suc, ◌+◌, ◌*◌, ◌<◌, ◌≤◌, Bool, true, false, cond, ◌⊎◌, List, [], ◌∷◌, ◌++◌, map, length, get_or, set, Some, None, Ok, codes, decimal, sym, refl, ap, ◌∙◌, subst, inl, inr, ⊎_elim, arith, length-append, length-set}
use Rattle.std.specs.Str.{bytes_eq}
use Rattle.std.proofs.lemmas.Fmt.{length-decimal-le}
use Rattle.std.proofs.lemmas.Slice.Eq.{bytes_eq-Decides}
use Rattle.std.proofs.lemmas.List.{get_or-set_same, get_or-set_other}
use Rattle.std.proofs.lemmas.Bool.{cond-true, cond-false, cases_lt, le-leb}
use Rattle.cuts.specs.Cuts.{Lacks}
use Rattle.cuts.proofs.Decimal.{decode_forth, decimal_lacks}
use Rattle.cuts.proofs.Fields.{bind_forth, cut_forth, lacks_append, lacks_by, lacks_decimal}
use Rattle.cuts.proofs.Pieces.{cut_nowhere}
use Rattle.headers.specs.Headers.{pieces, empty_marks, mark_put, marks_from, marks_field, marks_reads, in_table}
use Rattle.headers.specs.Lines.{list_from, join_on, marks_shown, line_of_marks}
use Rattle.headers.proofs.Commas.{pieces_cut, pieces_whole}
use Rattle.headers.proofs.MarkLists.{none_in}

-- numbers from l on that rise, none above 15
abbrev Rising : ℕ → List ℕ → Type 0
Rising l [] = Unit {0}
Rising l (m ∷ ms) = (l ≤ m) × (m ≤ 15) × Rising (m + 1) ms

up : (l : ℕ) → suc l ≡ l + 1
up l = omega arith

lower : (l : ℕ) (ms : List ℕ) → Rising (suc l) ms → Rising l ms
lower l [] h = tt
lower l (m ∷ ms) h = (omega (arith, h.0), h.1, h.2)

rising : (w l : ℕ) (p : ℕ → Bool) → l + w ≤ 16 → Rising l (list_from w l p)
unfolding list_from
rising zero l p a = tt
rising (suc w) l p a = go (p l) (rising w (suc l) p (omega arith))
  where
    go : (b : Bool) → Rising (suc l) (list_from w (suc l) p) → Rising l (cond b (l ∷ list_from w (suc l) p) (list_from w (suc l) p))
    go true h = (omega arith, omega arith, subst (λ n. Rising n (list_from w (suc l) p)) (up l) h)
    go false h = lower l _ h

-- the table with these marks too
abbrev puts : List Bool → List ℕ → List Bool
puts t [] = t
puts t (m ∷ ms) = puts (set t m true) ms

mark_forth : (l : ℕ) (t : List Bool) (m : ℕ) → l ≤ m → m ≤ 15 → mark_put l t m ≡ Some (Ok (set t m true))
mark_forth l t m a b = cond-true _ _ _ (le-leb l m a) ∙ ap Some (cond-true _ _ _ (le-leb m 15 b))

over_forth : (ms : List ℕ) (l : ℕ) (t : List Bool) → Rising l ms → marks_from l t (map decimal ms) ≡ Some (Ok (puts t ms))
over_forth [] l t h = refl
over_forth (m ∷ ms) l t h = bind_forth _ (decode_forth m (omega (arith, h.1))) ∙ bind_forth _ (mark_forth l t m h.0 h.1) ∙ over_forth ms (m + 1) (set t m true) h.2

-- of a number that is not looked at the table says what it said
outside : (w l : ℕ) (p : ℕ → Bool) (t : List Bool) (k : ℕ) → (k < l) ⊎ (l + w ≤ k) → in_table (puts t (list_from w l p)) k ≡ in_table t k
unfolding list_from
outside zero l p t k h = refl
outside (suc w) l p t k h = go (p l) (λ t. outside w (suc l) p t k next)
  where
    far : k ≡ l → ⊥
    far e = ⊎_elim (λ (a : k < l). omega arith) (λ (a : l + suc w ≤ k). omega arith) h

    next : (k < suc l) ⊎ (suc l + w ≤ k)
    next = ⊎_elim (λ (a : k < l). inl (omega arith)) (λ (a : l + suc w ≤ k). inr (omega arith)) h

    go : (b : Bool) → ((t : List Bool) → in_table (puts t (list_from w (suc l) p)) k ≡ in_table t k) → in_table (puts t (cond b (l ∷ list_from w (suc l) p) (list_from w (suc l) p))) k ≡ in_table t k
    go true rest = rest (set t l true) ∙ get_or-set_other t l k true false far
    go false rest = rest t

-- of one that is, whether it is marked
inside : (w l : ℕ) (p : ℕ → Bool) (t : List Bool) (k : ℕ) → length t ≡ 16 → l + w ≤ 16 → l ≤ k → k < l + w → in_table t k ≡ false → in_table (puts t (list_from w l p)) k ≡ p k
unfolding list_from
inside zero l p t k a b c d e = absurd (omega arith)
inside (suc w) l p t k a b c d e = ⊎_elim at (λ (h : suc l ≤ k). past (p l) (λ t a e. inside w (suc l) p t k a (omega arith) h (omega arith) e) h) (cases_lt k (suc l))
  where
    here : k < suc l → (x : Bool) → p l ≡ x → in_table (puts t (cond x (l ∷ list_from w (suc l) p) (list_from w (suc l) p))) k ≡ p k
    here h true u =
        let same : k ≡ l = omega arith in
        outside w (suc l) p (set t l true) k (inl h) ∙ ap (λ j. get_or (set t l true) j false) same ∙ get_or-set_same t l true false (omega (arith, a)) ∙ sym (ap p same ∙ u)
    here h false u = let same : k ≡ l = omega arith in outside w (suc l) p t k (inl h) ∙ e ∙ sym (ap p same ∙ u)

    at : k < suc l → in_table (puts t (list_from (suc w) l p)) k ≡ p k
    at h = here h (p l) refl

    past : (x : Bool) → ((t : List Bool) → length t ≡ 16 → in_table t k ≡ false → in_table (puts t (list_from w (suc l) p)) k ≡ p k) → suc l ≤ k
        → in_table (puts t (cond x (l ∷ list_from w (suc l) p) (list_from w (suc l) p))) k ≡ p k
    past true rest h = rest (set t l true) (length-set t l true ∙ a) (get_or-set_other t l k true false (λ q. omega arith) ∙ e)
    past false rest h = rest t a e

comma_free : (m : ℕ) → m ≤ 15 → Lacks 44 (decimal m)
comma_free m a = lacks_decimal 44 m (omega arith) (λ h. omega arith)

-- the pieces of numbers with commas between them
pieces_join : (l m : ℕ) (ms : List ℕ) → Rising l (m ∷ ms) → pieces (join_on (decimal m) (map decimal ms)) ≡ decimal m ∷ map decimal ms
pieces_join l m [] h = pieces_whole (decimal m) (cut_nowhere 44 (decimal m) (decimal_lacks m 44 (omega (arith, h.1)) (λ x. omega arith)))
pieces_join l m (k ∷ ks) h =
    let rest = join_on (decimal k) (map decimal ks) in
    pieces_cut (decimal m ++ 44 ∷ rest) (decimal m, rest) (cut_forth 44 (decimal m) rest (comma_free m h.1)) ∙ ap (λ ps. decimal m ∷ ps) (pieces_join (m + 1) k ks h.2)

-- what is read as numbers is no dash
not_dash : (s : List ℕ) (t : List Bool) → marks_from 0 empty_marks (pieces s) ≡ Some (Ok t) → bytes_eq s (45 ∷ []) ≡ false
not_dash s t h = go (bytes_eq s (45 ∷ [])) refl
  where
    go : (b : Bool) → bytes_eq s (45 ∷ []) ≡ b → b ≡ false
    go true u =
        let dash : marks_from 0 empty_marks (pieces s) ≡ None = ap (λ s. marks_from 0 empty_marks (pieces s)) ((bytes_eq-Decides s (45 ∷ [])).0 u) in
        let bad : Some (Ok t) ≡ None = sym h ∙ dash in
        let z : ◌≡◌ {A = ℕ} 0 1 = cc in
        absurd (omega arith)
    go false u = refl

field_forth : (ms : List ℕ) → Rising 0 ms → marks_field (marks_shown ms) ≡ Some (Ok (puts empty_marks ms))
field_forth [] h = refl
field_forth (m ∷ ms) h =
    let read : marks_from 0 empty_marks (pieces (join_on (decimal m) (map decimal ms))) ≡ Some (Ok (puts empty_marks (m ∷ ms))) = ap (marks_from 0 empty_marks) (pieces_join 0 m ms h) ∙ over_forth (m ∷ ms) 0 empty_marks h in
    cond-false _ _ _ (not_dash (join_on (decimal m) (map decimal ms)) _ read) ∙ read

-- a row of marks below 16 is read back as a table of them
pub marks_forth : (p : ℕ → Bool) → ((k : ℕ) → 16 ≤ k → p k ≡ false) → (t : List Bool) × (marks_reads (line_of_marks p) ≡ Some (Ok t)) × ((k : ℕ) → in_table t k ≡ p k)
unfolding line_of_marks
marks_forth p h = (puts empty_marks (list_from 16 0 p), field_forth (list_from 16 0 p) (rising 16 0 p (omega arith)), λ k. ⊎_elim (within k) (past k) (cases_lt k 16))
  where
    within : (k : ℕ) → k < 16 → in_table (puts empty_marks (list_from 16 0 p)) k ≡ p k
    within k l = inside 16 0 p empty_marks k refl (omega arith) (omega arith) (omega arith) (none_in k)

    past : (k : ℕ) → 16 ≤ k → in_table (puts empty_marks (list_from 16 0 p)) k ≡ p k
    past k l = outside 16 0 p empty_marks k (inr (omega arith)) ∙ none_in k ∙ sym (h k l)

length_list : (w l : ℕ) (p : ℕ → Bool) → length (list_from w l p) ≤ w
unfolding list_from
length_list zero l p = omega arith
length_list (suc w) l p = go (p l) (length_list w (suc l) p)
  where
    go : (b : Bool) → length (list_from w (suc l) p) ≤ w → length (cond b (l ∷ list_from w (suc l) p) (list_from w (suc l) p)) ≤ suc w
    go true h = omega (arith, h)
    go false h = omega (arith, h)

join_short : (l m : ℕ) (ms : List ℕ) → Rising l (m ∷ ms) → length (join_on (decimal m) (map decimal ms)) ≤ 3 * length ms + 2
join_short l m [] h = omega (arith, length-decimal-le 2 m (omega arith) (omega (arith, h.1)) (omega (arith, h.1)))
join_short l m (k ∷ ks) h =
    omega (arith, length-append (decimal m) (44 ∷ join_on (decimal k) (map decimal ks)), length-decimal-le 2 m (omega arith) (omega (arith, h.1)) (omega (arith, h.1)), join_short (m + 1) k ks h.2)

join_unbroken : (l m : ℕ) (ms : List ℕ) → Rising l (m ∷ ms) → Lacks 10 (join_on (decimal m) (map decimal ms))
join_unbroken l m [] h = lacks_decimal 10 m (omega (arith, h.1)) (λ x. omega arith)
join_unbroken l m (k ∷ ks) h = lacks_append 10 (decimal m) _ (lacks_decimal 10 m (omega (arith, h.1)) (λ x. omega arith)) ((λ e. omega arith), join_unbroken (m + 1) k ks h.2)

shown_unbroken : (ms : List ℕ) → Rising 0 ms → Lacks 10 (marks_shown ms)
shown_unbroken [] h = ((λ e. omega arith), tt)
shown_unbroken (m ∷ ms) h = join_unbroken 0 m ms h

shown_short : (ms : List ℕ) → Rising 0 ms → length ms ≤ 16 → length (marks_shown ms) ≤ 50
shown_short [] h l = omega arith
shown_short (m ∷ ms) h l = omega (arith, l, join_short 0 m ms h)

pub marks_line : (p : ℕ → Bool) → Lacks 10 (line_of_marks p) × (length (line_of_marks p) ≤ 64)
unfolding line_of_marks
marks_line p =
    let r = rising 16 0 p (omega arith) in
    (lacks_append 10 (codes "marks=") _ (lacks_by 10 (codes "marks=") refl) (shown_unbroken (list_from 16 0 p) r), omega (arith, shown_short (list_from 16 0 p) r (length_list 16 0 p)))
