-- What comes of a line, from what the calls answer, and that every line is one less. Assumes nothing.
use Rattle.std.proofs.Common.{◌≡◌, ℕ, ◌+◌, ◌<◌, List, [], ◌∷◌, ◌++◌, length, Some, None, Ok, Err, Option, Result, sym, refl, ap, ◌∙◌, subst, subst₂, arith}
use Rattle.std.specs.Result.{result_err, MatchResult}
use Rattle.faults.specs.declared.causes.ValueFault.{ValueFault}
use Rattle.carriage.specs.declared.meaning.Carriage.{Ghosts as Account}
use Rattle.agreement.specs.Faults.{bench_layer, bench_number}
use Rattle.agreement.specs.Steps.{Event, taken, refused, fault_of, Does}
use Rattle.agreement.specs.Views.{View, Rules}
use Rattle.agreement.specs.declared.bench_faults.BenchFault.{BenchFault}
use Rattle.lines.specs.declared.happenings.Happening.{Happening}
use Rattle.lines.specs.declared.happenings.Happening.TheVariants.{Refused}
use Rattle.report.specs.Courses.{Outcome, call_of, told_of, taken_by, refused_by, Line, unread, denied, done, LineRun, Tells, Course, begun, next}
use Rattle.report.specs.Texts.{act_reads, Act, line_of, text_layer, text_number, left, skipped, line_taken, TextFault, Reader}
use Rattle.report.specs.Truth.{lines_in}
use Rattle.report.proofs.Passing.{refused_stays, read_skips, skip_shrinks, skip_counts}

module _ {C K : Type 0} {account : Account C} {rules : Rules K} {reads : List ℕ → Option (Result K ValueFault)} where
  pub line_unread : (r s after : Reader) (v : View C) (e : TextFault) (h : Happening) → (Err e, s) ≡ line_taken (act_reads reads) r → after ≡ skipped s → h ≡ Refused (line_of e) (text_layer e) (text_number e)
      → LineRun account rules reads r v (Err h) after v
  line_unread r s after v e h is skip told =
      let stays = refused_stays (act_reads reads) r s e is in
      subst₂ (λ (k : Happening) (x : Reader). LineRun account rules reads r v (Err k) x v) (sym told) (sym (skip ∙ ap skipped stays)) (record { events = []; line = unread (sym is ∙ ap (λ k. (Err e, k)) stays) })

  pub line_denied : (r after : Reader) (v w : View C) (a : Act K) (e : BenchFault) (h : Happening) → (Ok a, after) ≡ line_taken (act_reads reads) r → Some e ≡ fault_of account rules v (call_of a) → w ≡ v
      → h ≡ Refused r.line (bench_layer e) (bench_number e) → LineRun account rules reads r v (Err h) after w
  line_denied r after v w a e h is fault same told =
      subst₂ (λ (k : Happening) (x : View C). LineRun account rules reads r v (Err k) after x) (sym told) (sym same) (record { events = refused (call_of a) ∷ []; line = denied (sym is) (sym fault) })

  pub line_done : (r after : Reader) (v w : View C) (a : Act K) (h : Option Happening) → (Ok a, after) ≡ line_taken (act_reads reads) r → None ≡ fault_of account rules v (call_of a)
      → Does account rules v (call_of a) w → Tells account v (call_of a) h → LineRun account rules reads r v (Ok h) after w
  line_done r after v w a h is fault does tells = record { events = taken (call_of a) ∷ []; line = done (sym is) (sym fault) does tells }

  -- the bench's answer to the act of a line, and what is made of it
  pub line_acted : {B : Type 0} (view : B → View C) (r after : Reader) (b d : B) (a : Act K) (p : Result (Option Happening) BenchFault) (o : Outcome)
      → (Ok a, after) ≡ line_taken (act_reads reads) r → result_err p ≡ fault_of account rules (view b) (call_of a)
      → MatchResult p (λ h. Does account rules (view b) (call_of a) (view d) × Tells account (view b) (call_of a) h) (λ _. d ≡ b)
      → MatchResult p (λ h. o ≡ Ok h) (λ e. o ≡ Err (Refused r.line (bench_layer e) (bench_number e)))
      → LineRun account rules reads r (view b) o after (view d)
  line_acted view r after b d a (Ok h) o is fault does made =
      subst (λ (k : Outcome). LineRun account rules reads r (view b) k after (view d)) (sym made) (line_done r after (view b) (view d) a h is fault does.0 does.1)
  line_acted view r after b d a (Err e) o is fault same made =
      subst (λ (k : Outcome). LineRun account rules reads r (view b) k after (view d)) (sym made) (line_denied r after (view b) (view d) a e _ is fault (ap view same) refl)

  -- whatever comes of a line, the reader then stands behind it
  pub line_passed : {r after : Reader} {v w : View C} {o : Outcome} {es : List (Event K)} → Line account rules reads r v o es after w → after ≡ skipped r
  line_passed (unread is) = refl
  line_passed {r} {after} (denied {a = a} is fault) = read_skips (act_reads reads) r after a (sym is)
  line_passed {r} {after} (done {a = a} is fault does tells) = read_skips (act_reads reads) r after a (sym is)

  pub line_shrinks : {r after : Reader} {v w : View C} {o : Outcome} {es : List (Event K)} → Line account rules reads r v o es after w → 0 < length (left r) → length (left after) < length (left r)
  line_shrinks {r} line some = let less = skip_shrinks r some in let same = ap (λ s. length (left s)) (line_passed line) in omega arith

  -- one line further
  pub course_more : {r at after : Reader} {v w x : View C} {told : List Happening} {es : List (Event K)} {n m : ℕ} {o : Outcome} (told' : List Happening) (n' m' : ℕ)
      → Course account rules reads r v told es n m at w → 0 < length (left at) → LineRun account rules reads at w o after x
      → told' ≡ told ++ told_of o → n' ≡ n + taken_by o → m' ≡ m + refused_by o → (fs : List (Event K)) × Course account rules reads r v told' fs n' m' after x
  course_more {r} {at} {after} {v} {w} {x} {told} {es} {n} {m} {o} told' n' m' course some run a b c =
      let fs = run.events ++ es in (
        fs,
        subst (λ (k : List Happening). Course account rules reads r v k fs n' m' after x) (sym a)
            (subst₂ (λ (k l : ℕ). Course account rules reads r v (told ++ told_of o) fs k l after x) (sym b) (sym c) (next course some run.line)),
      )

-- a line is either taken or refused
pub counted : (o : Outcome) → taken_by o + refused_by o ≡ 1
counted (Ok h) = refl
counted (Err h) = refl

module _ {C K : Type 0} {account : Account C} {rules : Rules K} {reads : List ℕ → Option (Result K ValueFault)} {r : Reader} {u : View C} where
  pub lines_counted : {told : List Happening} {es : List (Event K)} {n m : ℕ} {at : Reader} {w : View C} → Course account rules reads r u told es n m at w → n + m + lines_in (left at) ≡ lines_in (left r)
  lines_counted begun = omega arith
  lines_counted (next {at = at} {o = o} course some line) =
      let before = lines_counted course in
      let one = counted o in
      let less = skip_counts at some in
      let same = ap (λ s. lines_in (left s)) (line_passed line) in
      omega arith
