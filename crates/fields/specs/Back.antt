-- Notices and pulse reports are read back as they were written, and written back as they were read. Assumes nothing.
use Rattle.std.specs.Prelude.{◌≡◌, ℕ, ◌<◌, ◌≤◌, Bool, true, false, cond, List, ◌∷◌, ◌++◌, length, IfOk, Some, None, Ok, Err, decimal, Result, ◌==◌, nat_eq, refl}
use Rattle.std.proofs.Common.{sym, ap, subst, ◌∙◌, ⊎_elim, arith, length-append}
use mathlib.Core.HLevel.{is_prop→PathP}
use Rattle.std.proofs.Math.Bool.{Bool-set}
use Rattle.std.proofs.Math.Bridge.{le_prop}
use Rattle.std.proofs.Math.Decide.{dec_lt, dec_le}
use Rattle.std.specs.Result.{result_err}
use Rattle.std.proofs.lemmas.Bool.{cond-true, cond-false, ne_eqb, eqb-true, lt-ltb, le-ltb, le-leb, lt-leb, and_from, and_left, and_right, or_cases}
use Rattle.values.specs.Letters.{letter_of, is_letter, outcome_by}
use Rattle.values.specs.Ranges.{block_fault, pulse_fault}
use Rattle.faults.specs.declared.causes.ValueFault.{ValueFault}
use Rattle.faults.specs.declared.causes.ValueFault.TheVariants.{Block, Pulses}
use Rattle.values.specs.declared.notices.Notice.{Notice}
use Rattle.values.specs.declared.notices.Outcome.{Outcome}
use Rattle.values.specs.declared.notices.Outcome.TheVariants.{Failed, Passed}
use Rattle.values.specs.declared.pulses.PulseReport.{PulseReport}
use Rattle.cuts.specs.Cuts.{decode, field_number, field_letter, Lacks}
use Rattle.fields.specs.Values.{notice_shows, NoticeFits, notice_in, notice_of, notice_reads, pulse_shows, pulse_in, pulse_of, pulse_reads}
use Rattle.cuts.proofs.Decimal.{decode_back, decode_forth}
use Rattle.cuts.proofs.Fields.{bind_back, bind_forth, number_field_back, number_field_forth, letter_field_back, letter_field_forth, lacks_append, lacks_decimal, length_number}

-- a notice is its three fields
notice_same : (v w : Notice) → v.letter ≡ w.letter → v.block ≡ w.block → v.tick ≡ w.tick → v ≡ w
notice_same v w p q r = λ i. record {
  letter = p i;
  block = q i;
  tick = r i;
  lettered = is_prop→PathP (λ j. is_letter (p j) ≡ true) (λ j. Bool-set (is_letter (p j)) true) v.lettered w.lettered i;
  blocks = is_prop→PathP (λ j. q j < 64) (λ j. le_prop) v.blocks w.blocks i;
}

notice_fields : (o : Outcome) (b t : ℕ) (d : Dec (b < 64)) (v : Notice) → notice_in o b t d ≡ Ok v → (v.letter ≡ letter_of o) × (v.block ≡ b) × (v.tick ≡ t)
notice_fields o b t (yes p) v e = let same : v ≡ record { letter = letter_of o; block = b; tick = t; lettered = Rattle.fields.specs.Values.lettered o; blocks = p } = cc in (ap (λ (n : Notice). n.letter) same, ap (λ (n : Notice). n.block) same, ap (λ (n : Notice). n.tick) same)
notice_fields o b t (no q) v e = let z : ◌≡◌ {A = ℕ} 0 1 = cc in absurd (omega arith)

notice_whole : (o : Outcome) (b t : ℕ) (d : Dec (b < 64)) (v : Notice) → v.letter ≡ letter_of o → v.block ≡ b → v.tick ≡ t → notice_in o b t d ≡ Ok v
notice_whole o b t (yes p) v x y z = ap Ok (sym (notice_same v _ x y z))
notice_whole o b t (no q) v x y z = absurd (q (subst (λ n. n < 64) y v.blocks))

pub notice_ok : (o : Outcome) (b t : ℕ) (v : Notice) → (v.letter ≡ letter_of o) × (v.block ≡ b) × (v.tick ≡ t) → Ok v ≡ notice_of o b t
notice_ok o b t v m = sym (notice_whole o b t (dec_lt b 64) v m.0 m.1 m.2)

-- what the constructor of notices answers
pub notice_made : (o : Outcome) (b t : ℕ) (r : Result Notice ValueFault) → result_err r ≡ block_fault b
    → IfOk r (λ v. (v.letter ≡ letter_of o) × (v.block ≡ b) × (v.tick ≡ t)) → r ≡ notice_of o b t
notice_made o b t (Ok v) e m = sym (notice_whole o b t (dec_lt b 64) v m.0 m.1 m.2)
notice_made o b t (Err f) e m = go (dec_lt b 64)
  where
    go : (d : Dec (b < 64)) → Err f ≡ notice_in o b t d
    go (yes p) = let n : Some f ≡ None = e ∙ cond-true _ _ _ (lt-ltb b 64 p) in let z : ◌≡◌ {A = ℕ} 0 1 = cc in absurd (omega arith)
    go (no q) = let n : Some f ≡ Some Block = e ∙ cond-false _ _ _ (le-ltb b 64 (omega (arith, q))) in cc

outcome_back : (c : ℕ) (o : Outcome) → outcome_by c ≡ Some o → letter_of o ≡ c
outcome_back c o e = go (c == 70) refl (c == 80) refl o e
  where
    go : (x : Bool) → (c == 70) ≡ x → (y : Bool) → (c == 80) ≡ y → (o : Outcome) → cond x (Some Failed) (cond y (Some Passed) None) ≡ Some o → letter_of o ≡ c
    go true t y u Failed f = sym (eqb-true c 70 t)
    go true t y u Passed f = let z : ◌≡◌ {A = ℕ} 0 1 = cc in absurd (omega arith)
    go false t true u Passed f = sym (eqb-true c 80 u)
    go false t true u Failed f = let z : ◌≡◌ {A = ℕ} 0 1 = cc in absurd (omega arith)
    go false t false u o f = let z : ◌≡◌ {A = ℕ} 0 1 = cc in absurd (omega arith)

-- the letter of a notice stands for an outcome, and is no separator
lettered_by : (c : ℕ) → is_letter c ≡ true → (o : Outcome) × (outcome_by c ≡ Some o) × (letter_of o ≡ c)
lettered_by c h = ⊎_elim failed passed (or_cases _ _ h)
  where
    failed : nat_eq c 70 ≡ true → (o : Outcome) × (outcome_by c ≡ Some o) × (letter_of o ≡ c)
    failed e = (Failed, cond-true _ _ _ e, sym (eqb-true c 70 e))

    passed : nat_eq c 80 ≡ true → (o : Outcome) × (outcome_by c ≡ Some o) × (letter_of o ≡ c)
    passed e = (Passed, cond-false _ _ _ (ne_eqb c 70 (λ f. omega (arith, eqb-true c 80 e))) ∙ cond-true _ _ _ e, sym (eqb-true c 80 e))

pub letter_range : (c : ℕ) → is_letter c ≡ true → (69 < c) × (c < 128)
letter_range c h = ⊎_elim (λ (e : nat_eq c 70 ≡ true). omega (arith, eqb-true c 70 e)) (λ (e : nat_eq c 80 ≡ true). omega (arith, eqb-true c 80 e)) (or_cases _ _ h)

pub notice_back : (s : List ℕ) (v : Notice) → notice_reads s ≡ Some (Ok v) → (s ≡ notice_shows v) × NoticeFits v
notice_back s v e =
    let a = bind_back (field_letter s) _ _ e in
    let b = bind_back (outcome_by a.0.0) _ _ a.2 in
    let c = bind_back (field_number a.0.1) _ _ b.2 in
    let d = bind_back (decode c.0.1) _ _ c.2 in
    let whole : notice_of b.0 c.0.0 d.0 ≡ Ok v = cc d.2 in
    let f = notice_fields b.0 c.0.0 d.0 (dec_lt c.0.0 64) v whole in
    let m = number_field_back _ _ c.1 in
    let t = decode_back _ _ d.1 in
    let letter : a.0.0 ≡ v.letter = sym (f.0 ∙ outcome_back _ _ b.1) in
    let block : c.0.0 ≡ v.block = sym f.1 in
    let tick : d.0 ≡ v.tick = sym f.2 in
    (letter_field_back s a.0 a.1 ∙ (λ i. letter i ∷ 44 ∷ m.0 i) ∙ (λ i. v.letter ∷ 44 ∷ (decimal (block i) ++ 44 ∷ t.0 i)) ∙ (λ i. v.letter ∷ 44 ∷ (decimal v.block ++ 44 ∷ decimal (tick i))), subst (λ n. n < 65536) tick t.1)

pub notice_forth : (v : Notice) → NoticeFits v → notice_reads (notice_shows v) ≡ Some (Ok v)
notice_forth v l =
    let o = lettered_by v.letter v.lettered in
    let r = letter_range v.letter v.lettered in
    bind_forth _ (letter_field_forth v.letter _ (λ e. omega arith)) ∙ bind_forth _ o.1 ∙ bind_forth _ (number_field_forth v.block (decimal v.tick) (omega (arith, v.blocks)))
    ∙ bind_forth _ (decode_forth v.tick l) ∙ ap Some (notice_whole o.0 v.block v.tick (dec_lt v.block 64) v (sym o.2) refl refl)

pub notice_unbroken : (v : Notice) → NoticeFits v → Lacks 10 (notice_shows v)
notice_unbroken v l =
    let r = letter_range v.letter v.lettered in
    ((λ e. omega arith), ((λ e. omega arith), lacks_append 10 (decimal v.block) _ (lacks_decimal 10 v.block (omega (arith, v.blocks)) (λ h. omega arith)) ((λ e. omega arith), lacks_decimal 10 v.tick l (λ h. omega arith))))

pub notice_brief : (v : Notice) → NoticeFits v → length (notice_shows v) ≤ 20
notice_brief v l = omega (arith, length-append (decimal v.block) (44 ∷ decimal v.tick), length_number v.block (omega (arith, v.blocks)), length_number v.tick l)

pulse_same : (v w : PulseReport) → v.block ≡ w.block → v.pulses ≡ w.pulses → v ≡ w
pulse_same v w p q = λ i. record {
  block = p i;
  pulses = q i;
  blocks = is_prop→PathP (λ j. p j < 64) (λ j. le_prop) v.blocks w.blocks i;
  some = is_prop→PathP (λ j. 1 ≤ q j) (λ j. le_prop) v.some w.some i;
  few = is_prop→PathP (λ j. q j ≤ 8) (λ j. le_prop) v.few w.few i;
}

pulse_fields : (b p : ℕ) (d : Dec (b < 64)) (x : Dec (1 ≤ p)) (y : Dec (p ≤ 8)) (v : PulseReport) → pulse_in b p d x y ≡ Ok v → (v.block ≡ b) × (v.pulses ≡ p)
pulse_fields b p (yes d) (yes x) (yes y) v e = let same : v ≡ record { block = b; pulses = p; blocks = d; some = x; few = y } = cc in (ap (λ (n : PulseReport). n.block) same, ap (λ (n : PulseReport). n.pulses) same)
pulse_fields b p (yes d) (yes x) (no y) v e = let z : ◌≡◌ {A = ℕ} 0 1 = cc in absurd (omega arith)
pulse_fields b p (yes d) (no x) y v e = let z : ◌≡◌ {A = ℕ} 0 1 = cc in absurd (omega arith)
pulse_fields b p (no d) x y v e = let z : ◌≡◌ {A = ℕ} 0 1 = cc in absurd (omega arith)

pulse_whole : (b p : ℕ) (d : Dec (b < 64)) (x : Dec (1 ≤ p)) (y : Dec (p ≤ 8)) (v : PulseReport) → v.block ≡ b → v.pulses ≡ p → pulse_in b p d x y ≡ Ok v
pulse_whole b p (yes d) (yes x) (yes y) v q r = ap Ok (sym (pulse_same v _ q r))
pulse_whole b p (yes d) (yes x) (no y) v q r = absurd (y (subst (λ n. n ≤ 8) r v.few))
pulse_whole b p (yes d) (no x) y v q r = absurd (x (subst (λ n. 1 ≤ n) r v.some))
pulse_whole b p (no d) x y v q r = absurd (d (subst (λ n. n < 64) q v.blocks))

pub pulse_ok : (b p : ℕ) (v : PulseReport) → (v.block ≡ b) × (v.pulses ≡ p) → Ok v ≡ pulse_of b p
pulse_ok b p v m = sym (pulse_whole b p (dec_lt b 64) (dec_le 1 p) (dec_le p 8) v m.0 m.1)

pub pulse_made : (b p : ℕ) (r : Result PulseReport ValueFault) → result_err r ≡ pulse_fault b p → IfOk r (λ v. (v.block ≡ b) × (v.pulses ≡ p)) → r ≡ pulse_of b p
pulse_made b p (Ok v) e m = sym (pulse_whole b p (dec_lt b 64) (dec_le 1 p) (dec_le p 8) v m.0 m.1)
pulse_made b p (Err f) e m = go (dec_lt b 64) (dec_le 1 p) (dec_le p 8)
  where
    go : (d : Dec (b < 64)) (x : Dec (1 ≤ p)) (y : Dec (p ≤ 8)) → Err f ≡ pulse_in b p d x y
    go (yes d) (yes x) (yes y) = let n : Some f ≡ None = e ∙ cond-true _ _ _ (lt-ltb b 64 d) ∙ cond-true _ _ _ (and_from _ _ (le-leb 1 p x) (le-leb p 8 y)) in let z : ◌≡◌ {A = ℕ} 0 1 = cc in absurd (omega arith)
    go (yes d) (yes x) (no y) = let n : Some f ≡ Some Pulses = e ∙ cond-true _ _ _ (lt-ltb b 64 d) ∙ cond-false _ _ _ (and_right _ _ (lt-leb p 8 (omega (arith, y)))) in cc
    go (yes d) (no x) y = let n : Some f ≡ Some Pulses = e ∙ cond-true _ _ _ (lt-ltb b 64 d) ∙ cond-false _ _ _ (and_left _ _ (lt-leb 1 p (omega (arith, x)))) in cc
    go (no d) x y = let n : Some f ≡ Some Block = e ∙ cond-false _ _ _ (le-ltb b 64 (omega (arith, d))) in cc

pub pulse_back : (s : List ℕ) (v : PulseReport) → pulse_reads s ≡ Some (Ok v) → (s ≡ pulse_shows v) × Unit {0}
pulse_back s v e =
    let c = bind_back (field_number s) _ _ e in
    let d = bind_back (decode c.0.1) _ _ c.2 in
    let whole : pulse_of c.0.0 d.0 ≡ Ok v = cc d.2 in
    let f = pulse_fields c.0.0 d.0 (dec_lt c.0.0 64) (dec_le 1 d.0) (dec_le d.0 8) v whole in
    let t = decode_back _ _ d.1 in
    let block : c.0.0 ≡ v.block = sym f.0 in
    let pulses : d.0 ≡ v.pulses = sym f.1 in
    ((number_field_back _ _ c.1).0 ∙ (λ i. decimal (block i) ++ 44 ∷ t.0 i) ∙ (λ i. decimal v.block ++ 44 ∷ decimal (pulses i)), tt)

pub pulse_forth : (v : PulseReport) → pulse_reads (pulse_shows v) ≡ Some (Ok v)
pulse_forth v =
    bind_forth _ (number_field_forth v.block (decimal v.pulses) (omega (arith, v.blocks))) ∙ bind_forth _ (decode_forth v.pulses (omega (arith, v.few)))
    ∙ ap Some (pulse_whole v.block v.pulses (dec_lt v.block 64) (dec_le 1 v.pulses) (dec_le v.pulses 8) v refl refl)

pub pulse_unbroken : (v : PulseReport) → Lacks 10 (pulse_shows v)
pulse_unbroken v = lacks_append 10 (decimal v.block) _ (lacks_decimal 10 v.block (omega (arith, v.blocks)) (λ h. omega arith)) ((λ e. omega arith), lacks_decimal 10 v.pulses (omega (arith, v.few)) (λ h. omega arith))

pub pulse_brief : (v : PulseReport) → length (pulse_shows v) ≤ 20
pulse_brief v = omega (arith, length-append (decimal v.block) (44 ∷ decimal v.pulses), length_number v.block (omega (arith, v.blocks)), length_number v.pulses (omega (arith, v.few)))
