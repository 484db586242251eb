-- What a report tells of the acts of a campaign, line after line: the calls of the bench that the lines make, which of them
-- are taken, and what is told of each. Assumes nothing.
use Rattle.std.specs.Prelude.{◌≡◌, ℕ, ◌+◌, ◌<◌, List, [], ◌∷◌, ◌++◌, length, Some, None, Ok, Err, vec_items, Option, Result}
use Rattle.faults.specs.declared.causes.ValueFault.{ValueFault}
use Rattle.groups.specs.Groups.{Lowest}
use Rattle.carriage.specs.declared.frames.Frame.{Frame}
use Rattle.carriage.specs.declared.meaning.Carriage.{Ghosts as Account}
use Rattle.agreement.specs.Faults.{bench_layer, bench_number}
use Rattle.agreement.specs.Refusals.{verdict_answer}
use Rattle.agreement.specs.Steps.{Call, begin, inject, turn, close, Event, taken, refused, fault_of, Does}
use Rattle.agreement.specs.Views.{View, Rules, model_of}
use Rattle.agreement.specs.declared.bench_faults.BenchFault.{BenchFault}
use Rattle.agreement.specs.declared.moments.Verdict.{Verdict}
use Rattle.bench.specs.Views.{sender_of}
use Rattle.lines.specs.declared.happenings.Happening.{Happening}
use Rattle.lines.specs.declared.happenings.Happening.TheVariants.{Refused, Shot}
use Rattle.lines.specs.declared.happenings.Report.{Report}
use Rattle.report.specs.Texts.{act_reads, letter_byte, Act, Begin, Inject, Turn, Close, Injection, line_of, text_layer, text_number, left, skipped, line_taken, TextFault, Reader}

abbrev pub frame_of : Injection → Frame
frame_of x = record { from = x.from; to = x.to; triple = x.triple; letter = letter_byte x.letter }

-- the call of the bench that an act stands for
abbrev pub call_of : {K : Type 0} → Act K → Call K
call_of (Begin s x) = begin s x
call_of (Inject x) = inject (frame_of x)
call_of (Turn k) = turn k
call_of (Close s) = close s

-- what came of a line: an act that was taken, with what is told of it if anything is, or a refusal, which is told
abbrev pub Outcome : Type 0
Outcome = Result (Option Happening) Happening

-- what is told of a line, and how it is counted
abbrev pub told_of : Outcome → List Happening
told_of (Ok None) = []
told_of (Ok (Some h)) = h ∷ []
told_of (Err h) = h ∷ []

abbrev pub taken_by : Outcome → ℕ
taken_by (Ok h) = 1
taken_by (Err h) = 0

abbrev pub refused_by : Outcome → ℕ
refused_by (Ok h) = 0
refused_by (Err h) = 1

module _ {C : Type 0} (account : Account C) where
  -- of a close that is taken are told the shot, its sender, and the verdict that the lowest correct controller showed just
  -- before
  pub record Closes (v : View C) (shot : ℕ) (h : Happening) : Type 0 where
    pub lowest : ℕ
    pub sender : ℕ
    pub verdict : Verdict
    pub is_lowest : Lowest (model_of account v).group lowest
    pub sent : sender_of v ≡ Some sender
    pub shown : verdict_answer account v lowest ≡ Ok verdict
    pub told : h ≡ Shot shot sender verdict

  -- of another call that is taken nothing is told
  abbrev pub Tells : {K : Type 0} → View C → Call K → Option Happening → Type 0
  Tells v (begin s x) h = h ≡ None
  Tells v (inject f) h = h ≡ None
  Tells v (turn k) h = h ≡ None
  Tells v (close s) None = ⊥
  Tells v (close s) (Some h) = Closes v s h

module _ {C K : Type 0} (account : Account C) (rules : Rules K) (reads : List ℕ → Option (Result K ValueFault)) where
  -- one line, from the reader and the bench before it to those after it, with the calls that it makes
  pub data Line (r : Reader) (v : View C) : Outcome → List (Event K) → Reader → View C → Type 0 where
    -- it cannot be read: it is told with the fault's own line, and skipped
    unread : {e : TextFault} → line_taken (act_reads reads) r ≡ (Err e, r) → Line r v (Err (Refused (line_of e) (text_layer e) (text_number e))) [] (skipped r) v
    -- the bench refuses the act, and stays as it is
    denied : {a : Act K} {after : Reader} {e : BenchFault} → line_taken (act_reads reads) r ≡ (Ok a, after) → fault_of account rules v (call_of a) ≡ Some e
        → Line r v (Err (Refused r.line (bench_layer e) (bench_number e))) (refused (call_of a) ∷ []) after v
    -- the bench takes the act
    done : {a : Act K} {after : Reader} {w : View C} {h : Option Happening} → line_taken (act_reads reads) r ≡ (Ok a, after)
        → fault_of account rules v (call_of a) ≡ None → Does account rules v (call_of a) w → Tells account v (call_of a) h
        → Line r v (Ok h) (taken (call_of a) ∷ []) after w

  -- line after line: what is told, the calls with the newest first, how many acts are taken and how many lines refused. A
  -- line is there as long as the text has not ended
  pub data Course (r : Reader) (v : View C) : List Happening → List (Event K) → (taken refused : ℕ) → Reader → View C → Type 0 where
    begun : Course r v [] [] 0 0 r v
    next : {told : List Happening} {es fs : List (Event K)} {n m : ℕ} {at after : Reader} {w x : View C} {o : Outcome}
        → Course r v told es n m at w → 0 < length (left at) → Line at w o fs after x
        → Course r v (told ++ told_of o) (fs ++ es) (n + taken_by o) (m + refused_by o) after x

  -- a line with whatever calls it makes
  pub record LineRun (r : Reader) (v : View C) (o : Outcome) (after : Reader) (w : View C) : Type 0 where
    pub events : List (Event K)
    pub line : Line r v o events after w

  -- a course to the end of the text
  pub record ActsRun (r : Reader) (v : View C) (p : Report) (w : View C) : Type 0 where
    pub events : List (Event K)
    pub end : Reader
    pub course : Course r v (vec_items p.events) events p.taken p.refused end w
    pub ended : length (left end) ≡ 0
