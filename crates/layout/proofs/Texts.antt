-- A text that is read in is what would be written of the campaign. Assumes nothing.
use Rattle.std.proofs.Common.{◌≡◌, ℕ, zero, suc, ◌<◌, ◌≤◌, Bool, true, false, cond, not, eqb, List, [], ◌∷◌, ◌++◌, length, Some, None, Ok, Err, codes, decimal, Option, Result, sym, refl, ap, ◌∙◌, subst, append_assoc, arith, rules, length-append}
use denote.Enum.Bare.{sameb, same_true}
use Rattle.fields.specs.contracts.kinds.ValueKind.{the_type}
use Rattle.reader.proofs.Chains.{then_ok}
use Rattle.std.proofs.lemmas.List.{append-nil, nil_from_length}
use Rattle.std.proofs.lemmas.Bool.{cond-true, eqb-true}
use Rattle.lists.specs.Lists.{list_fault}
use Rattle.faults.specs.declared.causes.ListFault.{ListFault}
use Rattle.faults.specs.declared.causes.ValueFault.{ValueFault}
use Rattle.faults.specs.declared.causes.GroupFault.{GroupFault}
use Rattle.acts.specs.Acts.{act_reads}
use Rattle.reader.specs.Lists.{value_reads, listed, last_taken, values_taken, acts_taken}
use Rattle.layout.specs.Campaigns.{is_same_kind, with_acts, with_values, campaign_taken}
use Rattle.cuts.specs.Cuts.{keyed, there, on_result}
use Rattle.headers.specs.Headers.{bench_reads, number_reads, count_reads, carriage_reads, kind_reads, marks_reads, in_table, group_fault_by, Head}
use Rattle.reader.specs.Heads.{grouped, group_taken, then, from_count, from_kind, from_carriage, from_marks, from_t, from_n, head_taken}
use Rattle.reader.specs.Reading.{fault_at, left, taken}
use Rattle.layout.specs.Render.{Told, value_lines, act_lines, render}
use Rattle.headers.specs.Lines.{line_of_marks, line_of_carriage, line_of_kind}
use Rattle.acts.specs.declared.Act.{Act}
use Rattle.text_faults.specs.declared.texts.TextFault.{TextFault}
use Rattle.text_faults.specs.declared.causes.TextCause.TheVariants.{Form, Group, List as OfList}
use Rattle.fields.specs.declared.kinds.ValueKind.{ValueKind}
use Rattle.fields.specs.declared.kinds.ValueKind.TheVariants.{Notices, Pulses}
use Rattle.reader.specs.declared.Reader.{Reader}
use Rattle.acts.proofs.ActLines.{act_back}
use Rattle.cuts.proofs.Fields.{bind_back, keyed_back}
use Rattle.headers.proofs.Backs.{bench_back, number_back, count_back, carriage_back, kind_back}
use Rattle.headers.proofs.MarkLists.{marks_back}
use Rattle.reader.proofs.Standing.{taken_back}

first : {A : Type 0} {p q : A × Reader} → p ≡ q → p.0 ≡ q.0
first e = ap (λ p. p.0) e

second : {A : Type 0} {p q : A × Reader} → p ≡ q → p.1 ≡ q.1
second e = ap (λ p. p.1) e

ok_same : {X E : Type 0} {x y : X} → ◌≡◌ {A = Result X E} (Ok x) (Ok y) → x ≡ y
ok_same e = cc

then_back : {X Y : Type 0} (p : Result X TextFault × Reader) (f : X → Reader → Result Y TextFault × Reader) (y : Y) (after : Reader) → then p f ≡ (Ok y, after)
    → (x : X) × (r : Reader) × (p ≡ (Ok x, r)) × (f x r ≡ (Ok y, after))
then_back {X} p f y after e = go p.0 p.1 e
  where
    go : (a : Result X TextFault) (r : Reader) → on_result a (λ x. f x r) (λ e. (Err e, r)) ≡ (Ok y, after) → (x : X) × (s : Reader) × (◌≡◌ {A = Result X TextFault × Reader} (a, r) (Ok x, s)) × (f x s ≡ (Ok y, after))
    go (Ok x) r h = (x, r, refl, h)
    go (Err t) r h = let w = first h in let z : ◌≡◌ {A = ℕ} 0 1 = cc in absurd (omega arith)

-- the text of a header before what follows it
abbrev pub head_text : Head → List ℕ → List ℕ
head_text h rest =
    codes "bench=1" ++ 10 ∷ ((codes "n=" ++ decimal h.n) ++ 10 ∷ ((codes "t=" ++ decimal h.t) ++ 10 ∷ (line_of_marks h.marks ++ 10 ∷ (line_of_carriage h.carriage ++ 10 ∷ (line_of_kind h.kind ++ 10
    ∷ ((codes "values=" ++ decimal h.count) ++ 10 ∷ rest))))))

group_back : (n t : ℕ) (r after : Reader) (m : ℕ → Bool) → group_taken n t r ≡ (Ok m, after) → left r ≡ line_of_marks m ++ 10 ∷ left after
unfolding line_of_marks
group_back n t r after m e =
    let a = then_back (taken marks_reads r) (grouped n t r) m after e in
    let w = taken_back marks_reads r a.1 a.0 a.2 in
    let k = bind_back (keyed (codes "marks") w.0) _ _ w.2 in
    let line = keyed_back (codes "marks") w.0 k.0 k.1 ∙ ap (λ y. codes "marks=" ++ y) (marks_back k.0 a.0 k.2) in
    go a.0 a.1 (w.1 ∙ ap (λ s. s ++ 10 ∷ left a.1) line) (group_fault_by n t (in_table a.0)) a.3
  where
    go : (tab : List Bool) (s : Reader) → left r ≡ line_of_marks (in_table tab) ++ 10 ∷ left s → (o : Option GroupFault)
        → ◌≡◌ {A = Result (ℕ → Bool) TextFault × Reader} (there o (λ e. (Err (fault_at r (Group e)), r)) (Ok (in_table tab), s)) (Ok m, after) → left r ≡ line_of_marks m ++ 10 ∷ left after
    go tab s h None f =
        let same = ok_same (first f) in
        h ∙ (λ i. line_of_marks (same i) ++ 10 ∷ left (second f i))
    go tab s h (Some x) f = let w = first f in let z : ◌≡◌ {A = ℕ} 0 1 = cc in absurd (omega arith)

pub head_back : (r after : Reader) (h : Head) → head_taken r ≡ (Ok h, after) → (left r ≡ head_text h (left after)) × (1 ≤ h.count)
head_back r after h e =
    let b = then_back (taken bench_reads r) (λ _. from_n) h after e in
    let n = then_back (taken (number_reads (codes "n")) b.1) from_t h after b.3 in
    let t = then_back (taken (number_reads (codes "t")) n.1) (from_marks n.0) h after n.3 in
    let m = then_back (group_taken n.0 t.0 t.1) (from_carriage n.0 t.0) h after t.3 in
    let c = then_back (taken carriage_reads m.1) (from_kind n.0 t.0 m.0) h after m.3 in
    let k = then_back (taken kind_reads c.1) (from_count n.0 t.0 m.0 c.0) h after c.3 in
    let v = then_back (taken count_reads k.1) (λ v after. (Ok (record { n = n.0; t = t.0; marks = m.0; carriage = c.0; kind = k.0; count = v }), after)) h after k.3 in
    let bw = taken_back bench_reads r b.1 b.0 b.2 in
    let nw = taken_back (number_reads (codes "n")) b.1 n.1 n.0 n.2 in
    let tw = taken_back (number_reads (codes "t")) n.1 t.1 t.0 t.2 in
    let cw = taken_back carriage_reads m.1 c.1 c.0 c.2 in
    let kw = taken_back kind_reads c.1 k.1 k.0 k.2 in
    let vw = taken_back count_reads k.1 v.1 v.0 v.2 in
    let vc = count_back vw.0 v.0 vw.2 in
    let vl = vw.1 ∙ ap (λ s. s ++ 10 ∷ left v.1) vc.0 in
    let kl = kw.1 ∙ (λ i. kind_back kw.0 k.0 kw.2 i ++ 10 ∷ vl i) in
    let cl = cw.1 ∙ (λ i. carriage_back cw.0 c.0 cw.2 i ++ 10 ∷ kl i) in
    let ml = group_back n.0 t.0 t.1 m.1 m.0 m.2 ∙ ap (λ s. line_of_marks m.0 ++ 10 ∷ s) cl in
    let tl = tw.1 ∙ (λ i. number_back (codes "t") tw.0 t.0 tw.2 i ++ 10 ∷ ml i) in
    let nl = nw.1 ∙ (λ i. number_back (codes "n") nw.0 n.0 nw.2 i ++ 10 ∷ tl i) in
    let bl = bw.1 ∙ (λ i. bench_back bw.0 b.0 bw.2 i ++ 10 ∷ nl i) in
    let same = ok_same (first v.3) in
    (bl ∙ (λ i. head_text (same i) (left (second v.3 i))), subst (λ (h : Head). 1 ≤ h.count) same vc.1)

module _ {K : Type 0} (shows : K → List ℕ) (reads : List ℕ → Option (Result K ValueFault)) (fits : K → Type 0)
    (back : (s : List ℕ) (v : K) → reads s ≡ Some (Ok v) → (s ≡ shows v) × fits v) (same : K → K → Bool) where
  value_back : (r after : Reader) (v : K) → taken (value_reads reads) r ≡ (Ok v, after) → left r ≡ (codes "v=" ++ shows v) ++ 10 ∷ left after
  value_back r after v e =
      let w = taken_back (value_reads reads) r after v e in
      let k = bind_back (keyed (codes "v") w.0) _ _ w.2 in
      w.1 ∙ ap (λ s. s ++ 10 ∷ left after) (keyed_back (codes "v") w.0 k.0 k.1 ∙ ap (λ y. codes "v=" ++ y) (back k.0 v k.2).0)

  last_back : (vs ws : List K) (r after : Reader) → last_taken reads same vs r ≡ (Ok ws, after) → (v : K) × (ws ≡ vs ++ v ∷ []) × (left r ≡ value_lines shows (v ∷ []) (left after))
  last_back vs ws r after e =
      let a = then_back (taken (value_reads reads) r) (listed reads same vs r) ws after e in
      go a.0 a.1 (value_back r a.1 a.0 a.2) (list_fault same (vs ++ a.0 ∷ [])) a.3
    where
      go : (v : K) (s : Reader) → left r ≡ (codes "v=" ++ shows v) ++ 10 ∷ left s → (o : Option ListFault)
          → ◌≡◌ {A = Result (List K) TextFault × Reader} (there o (λ e. (Err (fault_at r (OfList e)), r)) (Ok (vs ++ v ∷ []), s)) (Ok ws, after)
          → (v : K) × (ws ≡ vs ++ v ∷ []) × (left r ≡ value_lines shows (v ∷ []) (left after))
      go v s h None f = (v, sym (ok_same (first f)), h ∙ ap (λ q. (codes "v=" ++ shows v) ++ 10 ∷ left q) (second f))
      go v s h (Some x) f = let w = first f in let z : ◌≡◌ {A = ℕ} 0 1 = cc in absurd (omega arith)

  values_back : (n : ℕ) (vs ws : List K) (r after : Reader) → 1 ≤ n → values_taken reads same n vs r ≡ (Ok ws, after)
      → (us : List K) × (ws ≡ vs ++ us) × (left r ≡ value_lines shows us (left after)) × (length us ≡ n)
  values_back zero vs ws r after l e = absurd (omega arith)
  values_back (suc zero) vs ws r after l e = let a = last_back vs ws r after e in (a.0 ∷ [], a.1, a.2, refl)
  values_back (suc (suc n)) vs ws r after l e =
      let a = then_back (taken (value_reads reads) r) (λ v after. values_taken reads same (suc n) (vs ++ v ∷ []) after) ws after e in
      let b = values_back (suc n) (vs ++ a.0 ∷ []) ws a.1 after (omega arith) a.3 in
      (a.0 ∷ b.0, b.1 ∙ append_assoc vs (a.0 ∷ []) b.0, value_back r a.1 a.0 a.2 ∙ ap (λ s. (codes "v=" ++ shows a.0) ++ 10 ∷ s) b.2, ap suc b.3)

  acts_back : (n : ℕ) (xs ys : List (Act K)) (r after : Reader) → length (left r) ≤ n → acts_taken reads n xs r ≡ (Ok ys, after) → (zs : List (Act K)) × (ys ≡ xs ++ zs) × (left r ≡ act_lines shows zs)
  acts_back zero xs ys r after l e = ([], sym (ok_same (first e)) ∙ sym (append-nil xs), nil_from_length (left r) (omega arith))
  acts_back (suc n) xs ys r after l e = go (eqb (length (left r)) 0) refl e (acts_back n)
    where
      Goal : Type 0
      Goal = (zs : List (Act K)) × (ys ≡ xs ++ zs) × (left r ≡ act_lines shows zs)

      go : (t : Bool) → eqb (length (left r)) 0 ≡ t
          → ◌≡◌ {A = Result (List (Act K)) TextFault × Reader} (cond t (Ok xs, r) (then (taken (act_reads reads) r) (λ a after. acts_taken reads n (xs ++ a ∷ []) after))) (Ok ys, after)
          → ((xs ys : List (Act K)) (r after : Reader) → length (left r) ≤ n → acts_taken reads n xs r ≡ (Ok ys, after) → (zs : List (Act K)) × (ys ≡ xs ++ zs) × (left r ≡ act_lines shows zs))
          → Goal
      go true u f rest = ([], sym (ok_same (first f)) ∙ sym (append-nil xs), nil_from_length (left r) (eqb-true _ 0 u))
      go false u f rest =
          let a = then_back (taken (act_reads reads) r) (λ a after. acts_taken reads n (xs ++ a ∷ []) after) ys after f in
          let w = taken_back (act_reads reads) r a.1 a.0 a.2 in
          let shrinks : length (left a.1) < length (left r) = omega (arith, ap length w.1, length-append w.0 (10 ∷ left a.1)) in
          let b = rest (xs ++ a.0 ∷ []) ys a.1 after (omega arith) a.3 in
          (a.0 ∷ b.0, b.1 ∙ append_assoc xs (a.0 ∷ []) b.0, w.1 ∙ (λ i. (act_back shows reads fits back w.0 a.0 w.2).0 i ++ 10 ∷ b.2 i))

  pub campaign_back : (kind : ValueKind) (r after : Reader) (c : Told K) → campaign_taken reads same kind r ≡ (Ok c, after) → left r ≡ render shows kind c
  unfolding render
  campaign_back kind r after c e =
      let h = then_back (head_taken r) (with_values reads same kind) c after e in
      let hb = head_back r h.1 h.0 h.2 in
      hb.0 ∙ go h.0 h.1 hb.1 (is_same_kind h.0.kind kind) refl h.3
    where
      alike : (a b : ValueKind) → is_same_kind a b ≡ true → a ≡ b
      alike Notices Notices u = refl
      alike Notices Pulses u = let z : ◌≡◌ {A = ℕ} 0 1 = cc in absurd (omega arith)
      alike Pulses Notices u = let z : ◌≡◌ {A = ℕ} 0 1 = cc in absurd (omega arith)
      alike Pulses Pulses u = refl

      go : (h : Head) (s : Reader) → 1 ≤ h.count → (t : Bool) → is_same_kind h.kind kind ≡ t
          → ◌≡◌ {A = Result (Told K) TextFault × Reader} (cond t (then (values_taken reads same h.count [] s) (with_acts reads same kind h)) (Err (record { line = 6; cause = Form }), s)) (Ok c, after)
          → head_text h (left s) ≡ render shows kind c
      go h s l false u f = let w = first f in let z : ◌≡◌ {A = ℕ} 0 1 = cc in absurd (omega arith)
      go h s l true u f =
          let v = then_back (values_taken reads same h.count [] s) (with_acts reads same kind h) c after f in
          let a = then_back (acts_taken reads (length (left v.1)) [] v.1) (λ xs after. (Ok (record { n = h.n; t = h.t; marks = h.marks; carriage = h.carriage; values = v.0; acts = xs }), after)) c after v.3 in
          let vb = values_back h.count [] v.0 s v.1 l v.2 in
          let ab = acts_back (length (left v.1)) [] a.0 v.1 a.1 (omega arith) a.2 in
          let count : h.count ≡ length v.0 = sym vb.3 ∙ ap length (sym vb.1) in
          let rest : left s ≡ value_lines shows v.0 (act_lines shows a.0) = vb.2 ∙ (λ i. value_lines shows (sym vb.1 i) (left v.1)) ∙ ap (value_lines shows v.0) (ab.2 ∙ ap (act_lines shows) (sym ab.1)) in
          (λ i. head_text (record { n = h.n; t = h.t; marks = h.marks; carriage = h.carriage; kind = alike h.kind kind u i; count = count i }) (rest i))
          ∙ ap (render shows kind) (ok_same (first a.3))

-- what is read of the parts is read of the whole
module _ {K : Type 0} (reads : List ℕ → Option (Result K ValueFault)) (same : K → K → Bool) where
  kinds_alike : (a b : ValueKind) → a ≡ b → is_same_kind a b ≡ true
  kinds_alike Notices b e = ap (is_same_kind Notices) (sym e)
  kinds_alike Pulses b e = ap (is_same_kind Pulses) (sym e)

  module _ (kind : ValueKind) (r s : Reader) (h : Head) (hd : head_taken r ≡ (Ok h, s)) (hk : h.kind ≡ kind) where
    to_values : campaign_taken reads same kind r ≡ then (values_taken reads same h.count [] s) (with_acts reads same kind h)
    to_values = then_ok (with_values reads same kind) (sym hd) ∙ cond-true _ _ _ (kinds_alike h.kind kind hk)

    pub campaign_made : (vs : List K) (s₂ : Reader) → values_taken reads same h.count [] s ≡ (Ok vs, s₂) → (xs : List (Act K)) (after : Reader)
        → acts_taken reads (length (left s₂)) [] s₂ ≡ (Ok xs, after)
        → campaign_taken reads same kind r ≡ (Ok (record { n = h.n; t = h.t; marks = h.marks; carriage = h.carriage; values = vs; acts = xs }), after)
    campaign_made vs s₂ v xs after a = to_values ∙ then_ok (with_acts reads same kind h) (sym v) ∙ then_ok (λ xs after. (Ok (record { n = h.n; t = h.t; marks = h.marks; carriage = h.carriage; values = vs; acts = xs }), after)) (sym a)

-- what the derived comparison of kinds says
pub same_kind : (a b : ValueKind) → false ≡ not (sameb the_type a b) → a ≡ b
same_kind a b h = same_true the_type (search rules) a b (go (sameb the_type a b) h)
  where
    go : (x : Bool) → false ≡ not x → x ≡ true
    go true u = refl
    go false u = u
