-- A report of a course is truthful, by the law of agreement. Assumes nothing.
use Rattle.std.proofs.Common.{◌≡◌, ℕ, ◌+◌, ◌<◌, ◌≤◌, true, false, List, [], ◌∷◌, ◌++◌, reverse, length, Some, None, Ok, Err, Option, Result, sym, refl, ap, ◌∙◌, arith}
use Rattle.std.specs.List.{ContainsAt as Has}
use Rattle.std.proofs.lemmas.List.{append-nil, length-reverse}
use Rattle.std.proofs.lemmas.Bool.{eqb-true, both_ways}
use Rattle.faults.specs.declared.causes.ValueFault.{ValueFault}
use Rattle.groups.specs.Groups.{correct, Lowest}
use Rattle.carriage.specs.Model.{is_correct}
use Rattle.carriage.specs.declared.meaning.Carriage.{Ghosts as Account}
use Rattle.agreement.specs.Faults.{bench_layer, bench_number}
use Rattle.agreement.specs.Law.{Shown, none as shown-none, more as shown-more, Agreed, AllAgree, times}
use Rattle.agreement.specs.Refusals.{tally_answer}
use Rattle.agreement.specs.Runs.{closings, note_close}
use Rattle.agreement.specs.Steps.{Call, begin, inject, turn, close, Event, taken}
use Rattle.agreement.specs.Views.{View, Rules, model_of}
use Rattle.agreement.specs.declared.bench_faults.BenchFault.{BenchFault}
use Rattle.agreement.specs.declared.moments.Verdict.{Verdict}
use Rattle.laboratory.proofs.Agreeing.{verdict_tells}
use Rattle.lines.specs.declared.happenings.Happening.{Happening}
use Rattle.report.specs.Courses.{call_of, told_of, Tells, Course, begun, next, unread, denied, done}
use Rattle.report.specs.Pool.{full, out_at}
use Rattle.report.specs.Texts.{line_of, text_layer, text_number, Reader}
use Rattle.report.specs.Truth.{verdicts_in, refusals_in, Truthful}
use Rattle.report.proofs.Counting.{verdicts_append, refusals_append, one_refusal, reverse_push, times_reverse, charged_small}
use Rattle.report.proofs.Judging.{one_answer, run_of, all_judged}
use Rattle.report.proofs.Lined.{lines_counted}
use Rattle.report.proofs.Rising.{has_risen, risen_has}

quiet : (told : List Happening) (h : Option Happening) → h ≡ None → told ++ told_of (Ok h) ≡ told
quiet told h e = ap (λ x. told ++ told_of (Ok x)) e ∙ append-nil told

full_three : (x : Result ℕ BenchFault) → full x ≡ true → x ≡ Ok 3
full_three (Ok n) e = ap Ok (eqb-true n 3 e)
full_three (Err f) e = absurd (both_ways false refl e)

module _ {C K : Type 0} (account : Account C) where
  -- one call further: a close adds the verdict that all showed
  noted : (k : Call K) (h : Option Happening) (w : View C) (vs : List (View C)) (told : List Happening) → Tells account w k h → ((ds : List Verdict) → Shown account vs ds → ds ≡ reverse (verdicts_in told))
      → (ds : List Verdict) → Shown account (note_close (taken k) w vs) ds → ds ≡ reverse (verdicts_in (told ++ told_of (Ok h)))
  noted (begin s x) h w vs told tells sofar ds shown = sofar ds shown ∙ ap (λ hs. reverse (verdicts_in hs)) (sym (quiet told h tells))
  noted (inject f) h w vs told tells sofar ds shown = sofar ds shown ∙ ap (λ hs. reverse (verdicts_in hs)) (sym (quiet told h tells))
  noted (turn k) h w vs told tells sofar ds shown = sofar ds shown ∙ ap (λ hs. reverse (verdicts_in hs)) (sym (quiet told h tells))
  noted (close s) None w vs told tells sofar ds shown = absurd tells
  noted (close s) (Some h) w vs told c sofar ds (shown-more {d = d} {ds = older} all shown) =
      let asked = verdict_tells account w c.lowest c.verdict c.shown in
      let same : d ≡ c.verdict = one_answer (sym (all c.lowest asked.2) ∙ c.shown) in
      let last : verdicts_in (told ++ h ∷ []) ≡ verdicts_in told ++ c.verdict ∷ [] = verdicts_append told (h ∷ []) ∙ ap (λ x. verdicts_in told ++ verdicts_in (x ∷ [])) c.told in
      (λ i. same i ∷ sofar older shown i) ∙ sym (ap reverse last ∙ reverse_push (verdicts_in told) c.verdict)

  -- a call that is taken tells no refusal
  no_refusals : (k : Call K) (h : Option Happening) (w : View C) (told : List Happening) → Tells account w k h → refusals_in (told ++ told_of (Ok h)) ≡ refusals_in told
  no_refusals (begin s x) h w told tells = ap refusals_in (quiet told h tells)
  no_refusals (inject f) h w told tells = ap refusals_in (quiet told h tells)
  no_refusals (turn k) h w told tells = ap refusals_in (quiet told h tells)
  no_refusals (close s) None w told tells = absurd tells
  no_refusals (close s) (Some h) w told c = let e = refusals_append told (h ∷ []) ∙ ap (λ x. refusals_in told + refusals_in (x ∷ [])) c.told in omega arith

module _ {C K : Type 0} {account : Account C} {rules : Rules K} {u : View C} {reads : List ℕ → Option (Result K ValueFault)} {r : Reader} where
  -- the verdicts that all showed just before the closes are those that are told
  told_verdicts : {told : List Happening} {es : List (Event K)} {n m : ℕ} {at : Reader} {w : View C} (course : Course account rules reads r u told es n m at w)
      → (ds : List Verdict) → Shown account (closings (run_of course)) ds → ds ≡ reverse (verdicts_in told)
  unfolding run_of
  told_verdicts begun ds shown-none = refl
  told_verdicts (next {told = told} course some (unread is)) ds shown = told_verdicts course ds shown ∙ ap reverse (sym (verdicts_append told _ ∙ append-nil (verdicts_in told)))
  told_verdicts (next {told = told} course some (denied is fault)) ds shown = told_verdicts course ds shown ∙ ap reverse (sym (verdicts_append told _ ∙ append-nil (verdicts_in told)))
  told_verdicts (next {told = told} {w = w} course some (done {a = a} {h = h} is fault does tells)) ds shown = noted account (call_of a) h w (closings (run_of course)) told tells (told_verdicts course) ds shown

  told_refusals : {told : List Happening} {es : List (Event K)} {n m : ℕ} {at : Reader} {w : View C} → Course account rules reads r u told es n m at w → m ≡ refusals_in told
  told_refusals begun = refl
  told_refusals (next {told = told} course some (unread {e = e} is)) = let before = told_refusals course in let one = one_refusal told (line_of e) (text_layer e) (text_number e) in omega arith
  told_refusals (next {told = told} {at = at} course some (denied {e = e} is fault)) = let before = told_refusals course in let one = one_refusal told at.line (bench_layer e) (bench_number e) in omega arith
  told_refusals (next {told = told} {w = w} course some (done {a = a} {h = h} is fault does tells)) = let before = told_refusals course in let same = no_refusals account (call_of a) h w told tells in omega arith

  pub truthful : AllAgree account rules u → ((x : K) (c : ℕ) → rules.charge x ≡ Some c → c < 64) → (q : ℕ) {told : List Happening} {es : List (Event K)} {n m : ℕ} {at : Reader} {w : View C}
      (course : Course account rules reads r u told es n m at w) → Lowest (model_of account w).group q → Truthful account rules u course (out_at account w q)
  truthful law small q {told} {es} {n} {m} {at} {w} course low =
      record { judged = all_judged law course; pool = λ b. (told_out b, out_told b); shots = agreed.closed ∙ ap length order ∙ length-reverse (verdicts_in told); refusals = told_refusals course; lines = lines_counted course }
    where
      agreed : Agreed account rules u es (closings (run_of course)) w
      agreed = law es w (run_of course)

      order : agreed.verdicts ≡ reverse (verdicts_in told)
      order = told_verdicts course agreed.verdicts agreed.shown

      count : (b : ℕ) → times rules b agreed.verdicts ≡ times rules b (verdicts_in told)
      count b = ap (times rules b) order ∙ times_reverse rules b (verdicts_in told)

      ok : is_correct (model_of account u) q ≡ true
      ok = ap (λ g. correct g q) (sym agreed.group) ∙ low.0

      told_out : (b : ℕ) → Has (out_at account w q) b → 3 ≤ times rules b (verdicts_in told)
      told_out b h =
          let below = risen_has (λ b. full (tally_answer account w q b)) 64 b h in
          let three = (agreed.out q b ok below.0).1 (full_three _ below.1) in
          omega (arith, three, count b)

      out_told : (b : ℕ) → 3 ≤ times rules b (verdicts_in told) → Has (out_at account w q) b
      out_told b h =
          let below = charged_small rules b small (verdicts_in told) h in
          let three : 3 ≤ times rules b agreed.verdicts = omega (arith, count b) in
          has_risen (λ b. full (tally_answer account w q b)) 64 b below (ap full ((agreed.out q b ok below).0 three))
