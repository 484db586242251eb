-- What the law says of answers that correct controllers gave. Assumes nothing.
use Rattle.std.proofs.Common.{◌≡◌, ℕ, ◌+◌, ◌*◌, ◌<◌, min, Bool, true, false, cond, eqb, ltb, List, [], ◌∷◌, Some, None, Ok, Option, Result, sym, refl, ap, ◌∙◌, arith}
use Rattle.std.specs.Option.{option_map}
use Rattle.std.proofs.lemmas.Bool.{eqb-true, ltb-true, both_ways}
use Rattle.agreement.specs.Law.{Shown, none, more, Agreed, times}
use Rattle.agreement.specs.Refusals.{answer_by, first, verdict_answer, tally_answer}
use Rattle.agreement.specs.Runs.{shot_of, Shot}
use Rattle.agreement.specs.Steps.{Event}
use Rattle.agreement.specs.Views.{View, Rules, model_of, moment_at, fits}
use Rattle.agreement.specs.declared.bench_faults.BenchFault.{BenchFault}
use Rattle.agreement.specs.declared.bench_faults.BenchFault.TheVariants.{Moment, Value}
use Rattle.agreement.specs.declared.moments.Act.TheVariants.{Verdict as VerdictAct}
use Rattle.agreement.specs.declared.moments.Moment.TheVariants.{Ended, Running}
use Rattle.agreement.specs.declared.moments.Verdict.{Verdict}
use Rattle.groups.specs.Groups.{correct}
use Rattle.carriage.specs.Model.{Model, is_correct, end_phase}
use Rattle.carriage.specs.declared.meaning.Carriage.{Ghosts as Account}
use Rattle.carriage.proofs.Allowed.{no_fault}
use Rattle.faults.specs.declared.causes.ValueFault.{ValueFault}
use Rattle.faults.specs.declared.causes.ValueFault.TheVariants.{Block}

-- an answer is given where neither cause applies
answered : {T : Type 0} (a b : Option BenchFault) (x y : T) → answer_by (first a b) x ≡ Ok y → (a ≡ None) × (b ≡ None)
answered None None x y e = (refl, refl)
answered None (Some f) x y e = let z : ◌≡◌ {A = ℕ} 0 1 = cc in absurd (omega arith)
answered (Some f) b x y e = let z : ◌≡◌ {A = ℕ} 0 1 = cc in absurd (omega arith)

one_answer : {T : Type 0} {x y : T} → ◌≡◌ {A = Result T BenchFault} (Ok x) (Ok y) → x ≡ y
one_answer e = cc

small : (t : Bool) (f : ValueFault) → option_map Value (cond t None (Some f)) ≡ None → t ≡ true
small true f h = refl
small false f h = let z : ◌≡◌ {A = ℕ} 0 1 = cc in absurd (omega arith)

-- a verdict is read after the last phase of a running shot
ended : (r : Bool) (m : Model) (c : ℕ) → fits (moment_at r m) c VerdictAct ≡ true → (r ≡ true) × (m.phase ≡ end_phase m.group)
ended false m c e = absurd (both_ways false refl e)
ended true m c e = go (eqb m.phase (end_phase m.group)) refl e
  where
    go : (b : Bool) → eqb m.phase (end_phase m.group) ≡ b → fits (cond b Ended (Running m.phase)) c VerdictAct ≡ true → (true ≡ true) × (m.phase ≡ end_phase m.group)
    go true f e = (refl, eqb-true _ _ f)
    go false f e = absurd (both_ways false refl e)

module _ {C : Type 0} (account : Account C) (w : View C) (q : ℕ) where
  pub verdict_tells : (d : Verdict) → verdict_answer account w q ≡ Ok d → (w.running ≡ true) × ((model_of account w).phase ≡ end_phase (model_of account w).group) × (is_correct (model_of account w) q ≡ true)
  verdict_tells d e =
      let a = answered _ _ _ d e in
      let m = ended w.running (model_of account w) w.closed (no_fault _ None Moment a.0).0 in
      (m.0, m.1, (no_fault (is_correct (model_of account w) q) None _ a.1).0)

  pub tally_tells : (b n : ℕ) → tally_answer account w q b ≡ Ok n → (is_correct (model_of account w) q ≡ true) × (b < 64)
  tally_tells b n e =
      let a = answered _ _ _ n e in
      ((no_fault (is_correct (model_of account w) q) None _ a.1).0, ltb-true b 64 (small (ltb b 64) Block a.0))

-- asked one after the other, q showed these verdicts
pub data Seen {C : Type 0} (account : Account C) (q : ℕ) : List (View C) → List Verdict → Type 0 where
  nothing : Seen account q [] []
  then : {v : View C} {vs : List (View C)} {d : Verdict} {ds : List Verdict} → verdict_answer account v q ≡ Ok d → Seen account q vs ds → Seen account q (v ∷ vs) (d ∷ ds)

-- what all showed, q showed
all_seen : {C : Type 0} (account : Account C) (q : ℕ) {vs : List (View C)} {ds es : List Verdict} → Shown account vs ds → Seen account q vs es → ds ≡ es
all_seen account q none nothing = refl
all_seen account q (more {v = v} {d = d} all shown) (then {d = e} here seen) =
    let same : d ≡ e = one_answer (sym (all q (verdict_tells account v q e here).2) ∙ here) in
    λ i. same i ∷ all_seen account q shown seen i

module _ {C K : Type 0} (account : Account C) (rules : Rules K) {u w : View C} {es : List (Event K)} {before : List (View C)} (law : Agreed account rules u es before w) where
  correct_there : (q : ℕ) → is_correct (model_of account w) q ≡ true → is_correct (model_of account u) q ≡ true
  correct_there q c = ap (λ g. correct g q) (sym law.group) ∙ c

  pub same_verdicts : (q r : ℕ) (d e : Verdict) → verdict_answer account w q ≡ Ok d → verdict_answer account w r ≡ Ok e → d ≡ e
  same_verdicts q r d e p s = go (shot_of es) refl
    where
      a : (w.running ≡ true) × ((model_of account w).phase ≡ end_phase (model_of account w).group) × (is_correct (model_of account w) q ≡ true)
      a = verdict_tells account w q d p

      go : (o : Option (Shot K)) → shot_of es ≡ o → d ≡ e
      go None f = absurd (both_ways w.running (law.idle f) a.0)
      go (Some shot) f =
          let phase = (law.runs shot f).2 in
          let last = a.1 ∙ ap end_phase law.group in
          let all : shot.turns ≡ 2 * ((model_of account u).group.t + 1) = omega (arith, phase, last) in
          let shown = law.agree shot f all in
          one_answer (sym p ∙ shown.1 q a.2) ∙ sym (one_answer (sym s ∙ shown.1 r (verdict_tells account w r e s).2))

  pub same_tallies : (q r b m n : ℕ) → tally_answer account w q b ≡ Ok m → tally_answer account w r b ≡ Ok n → m ≡ n
  same_tallies q r b m n p s =
      let a = tally_tells account w q b m p in
      let c = tally_tells account w r b n s in
      one_answer (sym p ∙ law.tallies q b (correct_there q a.0) a.1) ∙ sym (one_answer (sym s ∙ law.tallies r b (correct_there r c.0) c.1))

  -- the tally that q read, by the verdicts that it showed itself
  pub tally_by : (q b n : ℕ) (ds : List Verdict) → Seen account q before ds → tally_answer account w q b ≡ Ok n → n ≡ min 3 (times rules b ds)
  tally_by q b n ds seen p =
      let a = tally_tells account w q b n p in
      one_answer (sym p ∙ law.tallies q b (correct_there q a.0) a.1) ∙ ap (λ vs. min 3 (times rules b vs)) (all_seen account q law.shown seen)
