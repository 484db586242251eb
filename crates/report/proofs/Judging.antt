-- What the law of agreement says of the shots that are told. Assumes nothing.
use Rattle.std.proofs.Common.{◌≡◌, ℕ, ◌+◌, ◌*◌, Bool, true, false, cond, List, Some, None, Ok, Option, Result, sym, refl, ap, ◌∙◌, arith}
use Rattle.std.proofs.lemmas.Bool.{both_ways}
use Rattle.faults.specs.declared.causes.ValueFault.{ValueFault}
use Rattle.carriage.specs.Model.{end_phase, is_correct}
use Rattle.carriage.specs.declared.meaning.Carriage.{Ghosts as Account}
use Rattle.agreement.specs.Law.{Agreed, AllAgree}
use Rattle.agreement.specs.Runs.{Run, none as ran-none, more as ran-more, Shot, shot_of}
use Rattle.agreement.specs.Steps.{Call, begin, inject, turn, close, Event}
use Rattle.agreement.specs.Views.{View, Rules, model_of}
use Rattle.agreement.specs.declared.bench_faults.BenchFault.{BenchFault}
use Rattle.laboratory.proofs.Agreeing.{verdict_tells}
use Rattle.lines.specs.declared.happenings.Happening.{Happening}
use Rattle.lines.specs.declared.happenings.Happening.TheVariants.{Shot as ShotTold}
use Rattle.report.specs.Courses.{call_of, Closes, Tells, Course, begun, next, unread, denied, done}
use Rattle.report.specs.Texts.{Reader}
use Rattle.report.specs.Truth.{Judged, JudgedBy, AllJudged}

pub one_answer : {T : Type 0} {x y : T} → ◌≡◌ {A = Result T BenchFault} (Ok x) (Ok y) → x ≡ y
one_answer e = cc

same_sender : (b : Bool) (s t : ℕ) → b ≡ true → cond b (Some s) None ≡ Some t → s ≡ t
same_sender true s t r e = cc
same_sender false s t r e = absurd (both_ways false refl r)

module _ {C K : Type 0} {account : Account C} {rules : Rules K} {u : View C} where
  -- the verdict that the lowest correct controller showed is the one that all showed
  judged_close : {es : List (Event K)} {before : List (View C)} {v : View C} (s : ℕ) (h : Happening) → Agreed account rules u es before v → Closes account v s h → Judged account rules u es v s h
  judged_close {es} {before} {v} s h law c = go (shot_of es) refl
    where
      at : (v.running ≡ true) × ((model_of account v).phase ≡ end_phase (model_of account v).group) × (is_correct (model_of account v) c.lowest ≡ true)
      at = verdict_tells account v c.lowest c.verdict c.shown

      go : (o : Option (Shot K)) → shot_of es ≡ o → Judged account rules u es v s h
      go None f = absurd (both_ways v.running (law.idle f) at.0)
      go (Some shot) f =
          let runs = law.runs shot f in
          let last = at.1 ∙ ap end_phase law.group in
          let all : shot.turns ≡ 2 * ((model_of account u).group.t + 1) = omega (arith, runs.2, last) in
          let agree = law.agree shot f all in
          let sender : c.sender ≡ shot.sender = sym (same_sender v.running v.sender c.sender at.0 c.sent) ∙ runs.1 in
          let verdict : c.verdict ≡ agree.0 = one_answer (sym c.shown ∙ agree.1 c.lowest at.2) in
          record {
            shot = shot;
            verdict = agree.0;
            running = f;
            told = c.told ∙ (λ i. ShotTold s (sender i) (verdict i));
            shown = agree.1;
            meant = agree.2;
          }

  judged_by : {es : List (Event K)} {before : List (View C)} {v : View C} (k : Call K) (h : Option Happening) → Agreed account rules u es before v → Tells account v k h → JudgedBy account rules u es v k h
  judged_by (begin s x) h law tells = tt
  judged_by (inject f) h law tells = tt
  judged_by (turn k) h law tells = tt
  judged_by (close s) None law tells = tells
  judged_by (close s) (Some h) law tells = judged_close s h law tells

  module _ {reads : List ℕ → Option (Result K ValueFault)} {r : Reader} where
    -- the run of the bench that a course makes
    unfoldable pub run_of : {told : List Happening} {es : List (Event K)} {n m : ℕ} {at : Reader} {w : View C} → Course account rules reads r u told es n m at w → Run account rules u es w
    run_of begun = ran-none
    run_of (next course some (unread is)) = run_of course
    run_of (next course some (denied {e = e} is fault)) = ran-more (run_of course) (e, fault, refl)
    run_of (next course some (done is fault does tells)) = ran-more (run_of course) (fault, does)

    pub all_judged : AllAgree account rules u → {told : List Happening} {es : List (Event K)} {n m : ℕ} {at : Reader} {w : View C} (course : Course account rules reads r u told es n m at w) → AllJudged account rules u course
    all_judged law begun = tt
    all_judged law (next course some (unread is)) = all_judged law course
    all_judged law (next course some (denied is fault)) = all_judged law course
    all_judged law (next {es = es} {w = v} course some (done {a = a} {h = h} is fault does tells)) = (all_judged law course, judged_by (call_of a) h (law es v (run_of course)) tells)
