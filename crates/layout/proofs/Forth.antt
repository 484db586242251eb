-- What is written of a campaign is read back as that campaign. Assumes nothing.
use Rattle.std.proofs.Common.{◌≡◌, ℕ, suc, ◌+◌, ◌-◌, ◌<◌, ◌≤◌, Bool, true, false, cond, ◌&&◌, eqb, leb, List, [], ◌∷◌, ◌++◌, length, drop, Some, None, Ok, codes, decimal, Option, Result, sym, refl, ap, ◌∙◌, subst, append_assoc, add-one, arith, length-append, Bor}
use mathlib.Core.Path.{fun_ext}
use Rattle.std.specs.List.{AllByRecursion}
use Rattle.std.proofs.lemmas.List.{append-nil, drop-drop}
use Rattle.std.proofs.lemmas.Bool.{cond-true, le-leb, leb-true, ne_eqb, and_parts}
use Rattle.std.specs.Option.{option_or}
use Rattle.lists.specs.Lists.{list_fault, distinct}
use Rattle.faults.specs.declared.causes.ListFault.TheVariants.{Length, Repeated}
use Rattle.faults.specs.declared.causes.ValueFault.{ValueFault}
use Rattle.cuts.specs.Cuts.{Lacks}
use Rattle.cuts.proofs.Fields.{bind_forth, cut_forth}
use Rattle.fields.specs.declared.kinds.ValueKind.{ValueKind}
use Rattle.acts.specs.Acts.{line_of_act, act_reads, ActFits}
use Rattle.acts.specs.declared.Act.{Act}
use Rattle.acts.proofs.ActLines.{act_forth, act_unbroken, act_brief}
use Rattle.headers.specs.Headers.{bench_reads, number_reads, count_reads, carriage_reads, kind_reads, marks_reads, in_table, group_fault_by, Head}
use Rattle.headers.specs.Lines.{line_of_marks, line_of_carriage, line_of_kind}
use Rattle.headers.proofs.Forths.{OneLine, bench_line, bench_forth, n_line, n_forth, t_line, t_forth, carriage_line, carriage_forth, kind_line, kind_forth, count_line, count_forth}
use Rattle.headers.proofs.MarkTexts.{marks_forth, marks_line}
use Rattle.reader.specs.Heads.{grouped, group_taken, from_count, from_kind, from_carriage, from_marks, from_t, from_n, head_taken}
use Rattle.reader.specs.Lines.{line_in}
use Rattle.reader.specs.Lists.{value_reads, listed, values_taken, acts_taken}
use Rattle.reader.specs.Reading.{left, passed, taken, start}
use Rattle.reader.specs.declared.Reader.{Reader}
use Rattle.reader.proofs.Chains.{then_ok, there_some, there_none}
use Rattle.reader.proofs.Standing.{behind}
use Rattle.reader.proofs.Taking.{acts_more, acts_end}
use Rattle.layout.specs.Campaigns.{campaign_taken}
use Rattle.layout.specs.Render.{Told, value_lines, act_lines, render}
use Rattle.layout.proofs.Texts.{head_text, campaign_made}

line_forth : (s line rest : List ℕ) → s ≡ line ++ 10 ∷ rest → OneLine line → line_in s ≡ Some (line, rest)
line_forth s line rest e one = ap line_in e ∙ bind_forth _ (cut_forth 10 line rest one.0) ∙ cond-true _ _ _ (le-leb (length line) 64 one.1)

left_forth : (r : Reader) (line rest : List ℕ) → left r ≡ line ++ 10 ∷ rest → left (passed r line) ≡ rest
left_forth r line rest e = sym (drop-drop (length line + 1) r.place r.text.now) ∙ ap (drop (length line + 1)) e ∙ ap (λ n. drop n (line ++ 10 ∷ rest)) (add-one (length line)) ∙ behind line rest

-- a line that stands in the text and has the form is taken, and the reader stands behind it
taken_forth : {X : Type 0} (f : List ℕ → Option (Result X ValueFault)) (r : Reader) (line rest : List ℕ) (x : X) → left r ≡ line ++ 10 ∷ rest → OneLine line → f line ≡ Some (Ok x)
    → (after : Reader) × ((Ok x, after) ≡ taken f r) × (left after ≡ rest)
taken_forth f r line rest x e one g =
    (passed r line, sym (there_some _ _ (sym (line_forth (left r) line rest e one)) ∙ there_some _ _ (sym g)), left_forth r line rest e)

-- numbers and marks that make a group
group_forth : (n t : ℕ) (m : ℕ → Bool) (r : Reader) (rest : List ℕ) → ((k : ℕ) → 16 ≤ k → m k ≡ false) → group_fault_by n t m ≡ None → left r ≡ line_of_marks m ++ 10 ∷ rest
    → (after : Reader) × ((Ok m, after) ≡ group_taken n t r) × (left after ≡ rest)
group_forth n t m r rest low lawful e =
    let w = marks_forth m low in
    let who : in_table w.0 ≡ m = fun_ext w.2 in
    let k = taken_forth marks_reads r (line_of_marks m) rest w.0 e (marks_line m) w.1 in
    (k.0, sym (then_ok (grouped n t r) k.1 ∙ there_none _ _ (sym (ap (group_fault_by n t) who ∙ lawful)) ∙ ap (λ m. (Ok m, k.0)) who), k.2)

-- the numbers of a header that can be read: they fit, they make a group, and the count is one of a list
record Readable (h : Head) : Type 0 where
  n_fits : h.n < 65536
  t_fits : h.t < 65536
  low : (k : ℕ) → 16 ≤ k → h.marks k ≡ false
  lawful : group_fault_by h.n h.t h.marks ≡ None
  some : 1 ≤ h.count
  few : h.count ≤ 4

head_forth : (h : Head) → Readable h → (r : Reader) (rest : List ℕ) → left r ≡ head_text h rest → (after : Reader) × (head_taken r ≡ (Ok h, after)) × (left after ≡ rest)
head_forth h ok r rest e =
    let b = taken_forth bench_reads r (codes "bench=1") _ tt e bench_line bench_forth in
    let n = taken_forth (number_reads (codes "n")) b.0 (codes "n=" ++ decimal h.n) _ h.n b.2 (n_line h.n ok.n_fits) (n_forth h.n ok.n_fits) in
    let t = taken_forth (number_reads (codes "t")) n.0 (codes "t=" ++ decimal h.t) _ h.t n.2 (t_line h.t ok.t_fits) (t_forth h.t ok.t_fits) in
    let m = group_forth h.n h.t h.marks t.0 _ ok.low ok.lawful t.2 in
    let c = taken_forth carriage_reads m.0 (line_of_carriage h.carriage) _ h.carriage m.2 (carriage_line h.carriage) (carriage_forth h.carriage) in
    let k = taken_forth kind_reads c.0 (line_of_kind h.kind) _ h.kind c.2 (kind_line h.kind) (kind_forth h.kind) in
    let v = taken_forth count_reads k.0 (codes "values=" ++ decimal h.count) rest h.count k.2 (count_line h.count ok.few) (count_forth h.count ok.some ok.few) in (
      v.0,
      then_ok (λ _. from_n) b.1 ∙ then_ok from_t n.1 ∙ then_ok (from_marks h.n) t.1 ∙ then_ok (from_carriage h.n h.t) m.1
          ∙ then_ok (from_kind h.n h.t h.marks) c.1 ∙ then_ok (from_count h.n h.t h.marks h.carriage) k.1
          ∙ then_ok (λ v after. (Ok (record { n = h.n; t = h.t; marks = h.marks; carriage = h.carriage; kind = h.kind; count = v }), after)) v.1,
      v.2,
    )

-- a list that is one has 1 to 4 values
list_count : {K : Type 0} (same : K → K → Bool) (vs : List K) → list_fault same vs ≡ None → (1 ≤ length vs) × (length vs ≤ 4)
list_count same vs e = go (leb 1 (length vs) && leb (length vs) 4) refl e
  where
    go : (b : Bool) → (leb 1 (length vs) && leb (length vs) 4) ≡ b → option_or (cond b None (Some Length)) (cond (distinct same vs) None (Some Repeated)) ≡ None → (1 ≤ length vs) × (length vs ≤ 4)
    go true u f = let p = and_parts _ _ u in (leb-true 1 _ p.0, leb-true _ 4 p.1)
    go false u f = let z : ◌≡◌ {A = ℕ} 0 1 = cc in absurd (omega arith)

module _ {K : Type 0} (shows : K → List ℕ) (reads : List ℕ → Option (Result K ValueFault)) (fits : K → Type 0)
    (forth : (v : K) → fits v → reads (shows v) ≡ Some (Ok v)) (unbroken : (v : K) → fits v → Lacks 10 (shows v)) (brief : (v : K) → fits v → length (shows v) ≤ 20)
    (undashed : reads (45 ∷ []) ≡ None) where
  value_line : (v : K) → fits v → OneLine (codes "v=" ++ shows v)
  value_line v f = (((λ e. omega arith), ((λ e. omega arith), unbroken v f)), omega (arith, brief v f))

  value_forth : (r : Reader) (v : K) (rest : List ℕ) → fits v → left r ≡ (codes "v=" ++ shows v) ++ 10 ∷ rest → (after : Reader) × ((Ok v, after) ≡ taken (value_reads reads) r) × (left after ≡ rest)
  value_forth r v rest f e = taken_forth (value_reads reads) r (codes "v=" ++ shows v) rest v e (value_line v f) (forth v f)

  module _ (same : K → K → Bool) where
    values_forth : (us : List K) (v : K) (vs : List K) (r : Reader) (rest : List ℕ) → AllByRecursion fits (v ∷ vs) → list_fault same (us ++ v ∷ vs) ≡ None → left r ≡ value_lines shows (v ∷ vs) rest
        → (after : Reader) × (values_taken reads same (length (v ∷ vs)) us r ≡ (Ok (us ++ v ∷ vs), after)) × (left after ≡ rest)
    values_forth us v [] r rest f l e =
        let w = value_forth r v rest f.0 e in
        (w.0, then_ok (listed reads same us r) w.1 ∙ there_none _ _ (sym l), w.2)
    values_forth us v (u ∷ vs) r rest f l e =
        let w = value_forth r v (value_lines shows (u ∷ vs) rest) f.0 e in
        let joined = append_assoc us (v ∷ []) (u ∷ vs) in
        let k = values_forth (us ++ v ∷ []) u vs w.0 rest f.1 (ap (list_fault same) joined ∙ l) w.2 in
        (k.0, then_ok (λ v after. values_taken reads same (length (u ∷ vs)) (us ++ v ∷ []) after) w.1 ∙ k.1 ∙ ap (λ ws. (Ok ws, k.0)) joined, k.2)

  act_line_lem : (a : Act K) → ActFits fits a → OneLine (line_of_act shows a)
  act_line_lem a f = (act_unbroken shows fits unbroken brief a f, act_brief shows fits unbroken brief a f)

  acts_forth : (n : ℕ) (xs ys : List (Act K)) (r : Reader) → AllByRecursion (ActFits fits) ys → length (left r) ≤ n → left r ≡ act_lines shows ys → (after : Reader) × (acts_taken reads n xs r ≡ (Ok (xs ++ ys), after))
  acts_forth n xs [] r f l e = (r, acts_end reads n xs r (ap (λ s. eqb (length s) 0) e) ∙ ap (λ ws. (Ok ws, r)) (sym (append-nil xs)))
  acts_forth n xs (a ∷ ys) r f l e =
      let w = taken_forth (act_reads reads) r (line_of_act shows a) (act_lines shows ys) a e (act_line_lem a f.0) (act_forth shows reads fits forth undashed a f.0) in
      let long : length (left r) ≡ length (line_of_act shows a) + suc (length (left w.0)) = ap length e ∙ length-append (line_of_act shows a) (10 ∷ act_lines shows ys) ∙ ap (λ s. length (line_of_act shows a) + suc (length s)) (sym w.2) in
      let k = acts_forth (n - 1) (xs ++ a ∷ []) ys w.0 f.1 (omega arith) w.2 in
      (k.0, acts_more reads n xs r w.0 a (omega arith) (ne_eqb _ 0 (λ z. omega arith)) w.1 ∙ k.1 ∙ ap (λ ws. (Ok ws, k.0)) (append_assoc xs (a ∷ []) ys))

  -- a list of values that is one, of values and acts whose numbers the format can write, in a group that there can be
  pub record Fine (same : K → K → Bool) (c : Told K) : Type 0 where
    pub n_fits : c.n < 65536
    pub t_fits : c.t < 65536
    pub low : (k : ℕ) → 16 ≤ k → c.marks k ≡ false
    pub lawful : group_fault_by c.n c.t c.marks ≡ None
    pub listed : list_fault same c.values ≡ None
    pub values_fit : AllByRecursion fits c.values
    pub acts_fit : AllByRecursion (ActFits fits) c.acts

  pub campaign_forth : (same : K → K → Bool) (kind : ValueKind) (c : Told K) → Fine same c → (text : Bor (List ℕ)) → text.now ≡ render shows kind c → (campaign_taken reads same kind (start text)).0 ≡ Ok c
  unfolding render
  campaign_forth same kind c ok text e = go c.values refl
    where
      go : (vs : List K) → c.values ≡ vs → (campaign_taken reads same kind (start text)).0 ≡ Ok c
      go [] u = let bad = sym ok.listed ∙ ap (list_fault same) u in let z : ◌≡◌ {A = ℕ} 0 1 = cc in absurd (omega arith)
      go (v ∷ vs) u =
          let count = list_count same c.values ok.listed in
          let h : Head = record { n = c.n; t = c.t; marks = c.marks; carriage = c.carriage; kind = kind; count = length c.values } in
          let hd = head_forth h (record { n_fits = ok.n_fits; t_fits = ok.t_fits; low = ok.low; lawful = ok.lawful; some = count.0; few = count.1 }) (start text) (value_lines shows c.values (act_lines shows c.acts)) e in
          let w = values_forth same [] v vs hd.0 (act_lines shows c.acts) (subst (AllByRecursion fits) u ok.values_fit) (ap (list_fault same) (sym u) ∙ ok.listed) (hd.2 ∙ ap (λ ws. value_lines shows ws (act_lines shows c.acts)) u) in
          let read : values_taken reads same (length c.values) [] hd.0 ≡ (Ok c.values, w.0) = (λ i. values_taken reads same (length (u i)) [] hd.0) ∙ w.1 ∙ ap (λ ws. (Ok ws, w.0)) (sym u) in
          let a = acts_forth (length (left w.0)) [] c.acts w.0 ok.acts_fit (omega arith) w.2 in
          ap (λ p. p.0) (campaign_made reads same kind (start text) hd.0 h hd.1 refl c.values w.0 read c.acts a.0 a.1)
