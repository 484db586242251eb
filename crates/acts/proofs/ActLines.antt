-- The line of an act is read back as that act, and what is read as an act is its line. Assumes nothing.
use Rattle.std.proofs.Common.{◌≡◌, ℕ, ◌<◌, ◌≤◌, Bool, true, false, cond, eqb, List, [], ◌∷◌, ◌++◌, length, Some, None, Ok, Err, codes, decimal, Option, Result, sym, refl, ap, ◌∙◌, subst, ⊎_elim, arith, length-append}
use Rattle.std.specs.Str.{bytes_eq}
use Rattle.std.proofs.lemmas.Slice.Eq.{bytes_eq-Decides}
use Rattle.std.proofs.lemmas.Bool.{cond-false, eqb-true}
use Rattle.faults.specs.declared.causes.ValueFault.{ValueFault}
use Rattle.cuts.specs.Cuts.{bind, there, cut_at, decode, field_number, field_letter, Lacks, keyed}
use Rattle.acts.specs.Acts.{letter_byte, letter_by, inject_line, inject_reads, InjectFits, value_field, line_of_act, begins_by, begin_reads, act_reads, ValueFits, ActFits}
use Rattle.acts.specs.declared.Act.{Act}
use Rattle.acts.specs.declared.Act.TheVariants.{Begin, Inject, Turn, Close}
use Rattle.acts.specs.declared.letters.Letter.{Letter}
use Rattle.acts.specs.declared.letters.Letter.TheVariants.{Init, Echo, Seal}
use Rattle.acts.specs.declared.Injection.{Injection}
use Rattle.cuts.proofs.Decimal.{decode_back, decode_forth}
use Rattle.cuts.proofs.Fields.{bind_back, bind_forth, there_back, keyed_back, number_field_back, number_field_forth, letter_field_back, letter_field_forth, lacks_append, lacks_by, lacks_decimal, length_number}

letter_back : (c : ℕ) (l : Letter) → letter_by c ≡ Some l → c ≡ letter_byte l
letter_back c l e = go (eqb c 105) refl (eqb c 101) refl (eqb c 115) refl e
  where
    go : (x : Bool) → eqb c 105 ≡ x → (y : Bool) → eqb c 101 ≡ y → (z : Bool) → eqb c 115 ≡ z
        → cond x (Some Init) (cond y (Some Echo) (cond z (Some Seal) None)) ≡ Some l → c ≡ letter_byte l
    go true t y u z v f = let same : Init ≡ l = cc in eqb-true c 105 t ∙ ap letter_byte same
    go false t true u z v f = let same : Echo ≡ l = cc in eqb-true c 101 u ∙ ap letter_byte same
    go false t false u true v f = let same : Seal ≡ l = cc in eqb-true c 115 v ∙ ap letter_byte same
    go false t false u false v f = let n : ◌≡◌ {A = ℕ} 0 1 = cc in absurd (omega arith)

letter_forth : (l : Letter) → letter_by (letter_byte l) ≡ Some l
letter_forth Init = refl
letter_forth Echo = refl
letter_forth Seal = refl

-- a frame's letter is no separator
pub letter_range : (l : Letter) → (100 < letter_byte l) × (letter_byte l < 128)
letter_range Init = omega arith
letter_range Echo = omega arith
letter_range Seal = omega arith

inject_back : (s : List ℕ) (x : Injection) → inject_reads s ≡ Some x → (codes "inject=" ++ s ≡ inject_line x) × InjectFits x
inject_back s x h =
    let a = bind_back (field_number s) _ _ h in
    let b = bind_back (field_number a.0.1) _ _ a.2 in
    let c = bind_back (field_letter b.0.1) _ _ b.2 in
    let l = bind_back (letter_by c.0.0) _ _ c.2 in
    let d = bind_back (field_number c.0.1) _ _ l.2 in
    let e = bind_back (field_number d.0.1) _ _ d.2 in
    let p = bind_back (decode e.0.1) _ _ e.2 in
    let same : ◌≡◌ {A = Injection} (record { from = a.0.0; to = b.0.0; letter = l.0; triple = record { origin = d.0.0; place = p.0; round = e.0.0 } }) x = cc p.2 in
    let an = number_field_back s a.0 a.1 in
    let bn = number_field_back _ b.0 b.1 in
    let dn = number_field_back _ d.0 d.1 in
    let en = number_field_back _ e.0 e.1 in
    let pn = decode_back _ _ p.1 in
    let cl = letter_field_back _ c.0 c.1 ∙ ap (λ y. y ∷ 44 ∷ c.0.1) (letter_back _ _ l.1) in
    let tail = dn.0 ∙ ap (λ y. decimal d.0.0 ++ 44 ∷ y) (en.0 ∙ ap (λ y. decimal e.0.0 ++ 44 ∷ y) pn.0) in
    let all = an.0 ∙ ap (λ y. decimal a.0.0 ++ 44 ∷ y) (bn.0 ∙ ap (λ y. decimal b.0.0 ++ 44 ∷ y) (cl ∙ ap (λ y. letter_byte l.0 ∷ 44 ∷ y) tail)) in
    subst (λ (x : Injection). (codes "inject=" ++ s ≡ inject_line x) × InjectFits x) same (ap (λ y. codes "inject=" ++ y) all, (an.1, bn.1, dn.1, en.1, pn.1))

inject_forth : (x : Injection) → InjectFits x
    → inject_reads (decimal x.from ++ 44 ∷ (decimal x.to ++ 44 ∷ (letter_byte x.letter ∷ 44 ∷ (decimal x.triple.origin ++ 44 ∷ (decimal x.triple.round ++ 44 ∷ decimal x.triple.place))))) ≡ Some x
inject_forth x f =
    bind_forth _ (number_field_forth x.from _ f.0) ∙ bind_forth _ (number_field_forth x.to _ f.1)
    ∙ bind_forth _ (letter_field_forth (letter_byte x.letter) _ (λ e. omega (arith, letter_range x.letter))) ∙ bind_forth _ (letter_forth x.letter)
    ∙ bind_forth _ (number_field_forth x.triple.origin _ f.2) ∙ bind_forth _ (number_field_forth x.triple.round _ f.3) ∙ bind_forth _ (decode_forth x.triple.place f.4)

module _ {K : Type 0} (shows : K → List ℕ) (reads : List ℕ → Option (Result K ValueFault)) (fits : K → Type 0) where
  module _ (back : (s : List ℕ) (v : K) → reads s ≡ Some (Ok v) → (s ≡ shows v) × fits v) where
    begin_back : (s : List ℕ) (a : Act K) → begin_reads reads s ≡ Some (Ok a) → (codes "begin=" ++ s ≡ line_of_act shows a) × ActFits fits a
    begin_back s a h =
        let n = bind_back (field_number s) _ _ h in
        let nn = number_field_back s n.0 n.1 in
        go n.0 nn (bytes_eq n.0.1 (45 ∷ [])) refl n.2
      where
        Goal : Act K → Type 0
        Goal a = (codes "begin=" ++ s ≡ line_of_act shows a) × ActFits fits a

        value : (p : ℕ × List ℕ) → (s ≡ decimal p.0 ++ 44 ∷ p.1) × (p.0 < 65536) → (r : Result K ValueFault) → reads p.1 ≡ Some r → Some (begins_by p.0 r) ≡ Some (Ok a) → Goal a
        value p nn (Ok v) e f =
            let same : Begin p.0 (Some v) ≡ a = cc in
            let w = back p.1 v e in
            subst Goal same (ap (λ y. codes "begin=" ++ y) (nn.0 ∙ ap (λ y. decimal p.0 ++ 44 ∷ y) w.0), (nn.1, w.1))
        value p nn (Err x) e f = let z : ◌≡◌ {A = ℕ} 0 1 = cc in absurd (omega arith)

        go : (p : ℕ × List ℕ) → (s ≡ decimal p.0 ++ 44 ∷ p.1) × (p.0 < 65536) → (t : Bool) → bytes_eq p.1 (45 ∷ []) ≡ t
            → cond t (Some (Ok (Begin p.0 None))) (bind (reads p.1) (λ r. Some (begins_by p.0 r))) ≡ Some (Ok a) → Goal a
        go p nn true u f =
            let same : Begin p.0 None ≡ a = cc in
            subst Goal same (ap (λ y. codes "begin=" ++ y) (nn.0 ∙ ap (λ y. decimal p.0 ++ 44 ∷ y) ((bytes_eq-Decides p.1 (45 ∷ [])).0 u)), (nn.1, tt))
        go p nn false u f = let v = bind_back (reads p.1) _ _ f in value p nn v.0 v.1 v.2

    pub act_back : (s : List ℕ) (a : Act K) → act_reads reads s ≡ Some (Ok a) → (s ≡ line_of_act shows a) × ActFits fits a
    act_back s a h = ⊎_elim begins (λ h₁. ⊎_elim injects (λ h₂. ⊎_elim turns (λ h₃. ⊎_elim closes none (there_back (keyed (codes "close") s) _ _ _ h₃)) (there_back (keyed (codes "turn") s) _ _ _ h₂)) (there_back (keyed (codes "inject") s) _ _ _ h₁)) (there_back (keyed (codes "begin") s) _ _ _ h)
      where
        Goal : Type 0
        Goal = (s ≡ line_of_act shows a) × ActFits fits a

        begins : (b : List ℕ) × (keyed (codes "begin") s ≡ Some b) × (begin_reads reads b ≡ Some (Ok a)) → Goal
        begins x = let r = begin_back x.0 a x.2 in (keyed_back (codes "begin") s x.0 x.1 ∙ r.0, r.1)

        injects : (b : List ℕ) × (keyed (codes "inject") s ≡ Some b) × (bind {B = Result (Act K) ValueFault} (inject_reads b) (λ x. Some (Ok (Inject x))) ≡ Some (Ok a)) → Goal
        injects x =
            let i = bind_back (inject_reads x.0) _ _ x.2 in
            let same : Inject i.0 ≡ a = cc i.2 in
            let r = inject_back x.0 i.0 i.1 in
            subst (λ (a : Act K). (s ≡ line_of_act shows a) × ActFits fits a) same (keyed_back (codes "inject") s x.0 x.1 ∙ r.0, r.1)

        turns : (b : List ℕ) × (keyed (codes "turn") s ≡ Some b) × (bind {B = Result (Act K) ValueFault} (decode b) (λ n. Some (Ok (Turn n))) ≡ Some (Ok a)) → Goal
        turns x =
            let i = bind_back (decode x.0) _ _ x.2 in
            let same : Turn i.0 ≡ a = cc i.2 in
            let r = decode_back x.0 i.0 i.1 in
            subst (λ (a : Act K). (s ≡ line_of_act shows a) × ActFits fits a) same (keyed_back (codes "turn") s x.0 x.1 ∙ ap (λ y. codes "turn=" ++ y) r.0, r.1)

        closes : (b : List ℕ) × (keyed (codes "close") s ≡ Some b) × (bind {B = Result (Act K) ValueFault} (decode b) (λ n. Some (Ok (Close n))) ≡ Some (Ok a)) → Goal
        closes x =
            let i = bind_back (decode x.0) _ _ x.2 in
            let same : Close i.0 ≡ a = cc i.2 in
            let r = decode_back x.0 i.0 i.1 in
            subst (λ (a : Act K). (s ≡ line_of_act shows a) × ActFits fits a) same (keyed_back (codes "close") s x.0 x.1 ∙ ap (λ y. codes "close=" ++ y) r.0, r.1)

        none : ◌≡◌ {A = Option (Result (Act K) ValueFault)} None (Some (Ok a)) → Goal
        none e = let z : ◌≡◌ {A = ℕ} 0 1 = cc in absurd (omega arith)

  module _ (forth : (v : K) → fits v → reads (shows v) ≡ Some (Ok v)) (undashed : reads (45 ∷ []) ≡ None) where
    begin_forth : (s : ℕ) (v : Option K) → s < 65536 → ValueFits fits v → begin_reads reads (decimal s ++ 44 ∷ value_field shows v) ≡ Some (Ok (Begin s v))
    begin_forth s None l f = bind_forth _ (number_field_forth s _ l)
    begin_forth s (Some v) l f = bind_forth _ (number_field_forth s _ l) ∙ cond-false _ _ _ (go (bytes_eq (shows v) (45 ∷ [])) refl) ∙ bind_forth _ (forth v f)
      where
        go : (t : Bool) → bytes_eq (shows v) (45 ∷ []) ≡ t → t ≡ false
        go true u = let bad : Some (Ok v) ≡ None = sym (forth v f) ∙ ap reads ((bytes_eq-Decides (shows v) (45 ∷ [])).0 u) ∙ undashed in let z : ◌≡◌ {A = ℕ} 0 1 = cc in absurd (omega arith)
        go false u = refl

    pub act_forth : (a : Act K) → ActFits fits a → act_reads reads (line_of_act shows a) ≡ Some (Ok a)
    act_forth (Begin s v) f = begin_forth s v f.0 f.1
    act_forth (Inject x) f = bind_forth _ (inject_forth x f)
    act_forth (Turn p) f = bind_forth _ (decode_forth p f)
    act_forth (Close s) f = bind_forth _ (decode_forth s f)

-- the act of a line by the key before its equals sign
module _ {K : Type 0} (reads : List ℕ → Option (Result K ValueFault)) where
  act_by : Option (List ℕ × List ℕ) → Option (Result (Act K) ValueFault)
  act_by o =
      let body : List ℕ → Option (List ℕ) = λ key. bind o (λ p. cond (bytes_eq p.0 key) (Some p.1) None) in
      there (body (codes "begin")) (begin_reads reads)
      (there (body (codes "inject")) (λ b. bind (inject_reads b) (λ x. Some (Ok (Inject x))))
      (there (body (codes "turn")) (λ b. bind (decode b) (λ n. Some (Ok (Turn n))))
      (there (body (codes "close")) (λ b. bind (decode b) (λ n. Some (Ok (Close n)))) None)))

  pub act_injects : (s b : List ℕ) (x : Injection) → cut_at 61 s ≡ Some (codes "inject", b) → inject_reads b ≡ Some x → act_reads reads s ≡ Some (Ok (Inject x))
  unfolding act_by
  act_injects s b x e h = ap act_by e ∙ bind_forth (λ x. Some (Ok (Inject x))) h

-- the line of an act has no line feed and is short
lacks_inject : (x : Injection) → InjectFits x → Lacks 10 (inject_line x)
lacks_inject x f =
    let num : (n : ℕ) → n < 65536 → Lacks 10 (decimal n) = λ n l. lacks_decimal 10 n l (λ h. omega arith) in
    let comma : (◌≡◌ {A = ℕ} 44 10 → ⊥) = λ e. omega arith in
    let tail : Lacks 10 (decimal x.triple.round ++ 44 ∷ decimal x.triple.place) = lacks_append 10 (decimal x.triple.round) _ (num _ f.3) (comma, num _ f.4) in
    let rest : Lacks 10 (decimal x.triple.origin ++ 44 ∷ (decimal x.triple.round ++ 44 ∷ decimal x.triple.place)) = lacks_append 10 (decimal x.triple.origin) _ (num _ f.2) (comma, tail) in
    let high = letter_range x.letter in
    lacks_append 10 (codes "inject=") _ plain (lacks_append 10 (decimal x.from) _ (num _ f.0) (comma, lacks_append 10 (decimal x.to) _ (num _ f.1) (comma, ((λ (e : letter_byte x.letter ≡ 10). omega arith), (comma, rest)))))
  where
    plain : Lacks 10 (codes "inject=")
    plain = lacks_by 10 (codes "inject=") refl

length_inject : (x : Injection) → InjectFits x → length (inject_line x) ≤ 64
length_inject x f =
    omega (
      arith,
      length-append (decimal x.from) (44 ∷ (decimal x.to ++ 44 ∷ (letter_byte x.letter ∷ 44 ∷ (decimal x.triple.origin ++ 44 ∷ (decimal x.triple.round ++ 44 ∷ decimal x.triple.place))))),
      length-append (decimal x.to) (44 ∷ (letter_byte x.letter ∷ 44 ∷ (decimal x.triple.origin ++ 44 ∷ (decimal x.triple.round ++ 44 ∷ decimal x.triple.place)))),
      length-append (decimal x.triple.origin) (44 ∷ (decimal x.triple.round ++ 44 ∷ decimal x.triple.place)),
      length-append (decimal x.triple.round) (44 ∷ decimal x.triple.place),
      length_number x.from f.0,
      length_number x.to f.1,
      length_number x.triple.origin f.2,
      length_number x.triple.round f.3,
      length_number x.triple.place f.4,
    )

module _ {K : Type 0} (shows : K → List ℕ) (fits : K → Type 0) (unbroken : (v : K) → fits v → Lacks 10 (shows v)) (brief : (v : K) → fits v → length (shows v) ≤ 20) where
  lacks_value : (v : Option K) → ValueFits fits v → Lacks 10 (value_field shows v)
  lacks_value None f = ((λ e. omega arith), tt)
  lacks_value (Some v) f = unbroken v f

  length_value : (v : Option K) → ValueFits fits v → length (value_field shows v) ≤ 20
  length_value None f = omega arith
  length_value (Some v) f = brief v f

  pub act_unbroken : (a : Act K) → ActFits fits a → Lacks 10 (line_of_act shows a)
  act_unbroken (Begin s v) f = lacks_append 10 (codes "begin=") _ (lacks_by 10 (codes "begin=") refl) (lacks_append 10 (decimal s) _ (lacks_decimal 10 s f.0 (λ h. omega arith)) ((λ e. omega arith), lacks_value v f.1))
  act_unbroken (Inject x) f = lacks_inject x f
  act_unbroken (Turn p) f = lacks_append 10 (codes "turn=") _ (lacks_by 10 (codes "turn=") refl) (lacks_decimal 10 p f (λ h. omega arith))
  act_unbroken (Close s) f = lacks_append 10 (codes "close=") _ (lacks_by 10 (codes "close=") refl) (lacks_decimal 10 s f (λ h. omega arith))

  pub act_brief : (a : Act K) → ActFits fits a → length (line_of_act shows a) ≤ 64
  act_brief (Begin s v) f = omega (arith, length-append (decimal s) (44 ∷ value_field shows v), length_number s f.0, length_value v f.1)
  act_brief (Inject x) f = length_inject x f
  act_brief (Turn p) f = omega (arith, length_number p f)
  act_brief (Close s) f = omega (arith, length_number s f)
