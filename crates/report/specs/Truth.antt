-- What the shots and the blocks of a report stand for. A shot that is told names the sender of its begin, and the verdict that
-- all correct controllers showed just before its close; if the sender is correct, that is the place of the value given, or
-- sender faulty if none was. A block is told as out exactly when three of the told verdicts or more charge it. Assumes nothing.
use Rattle.std.specs.Prelude.{◌≡◌, ℕ, suc, ◌+◌, ◌≤◌, max, true, cond, List, [], ◌∷◌, length, Some, None, Option, Result, ◌==◌}
use Rattle.std.specs.List.{ContainsAt as Has}
use Rattle.faults.specs.declared.causes.ValueFault.{ValueFault}
use Rattle.carriage.specs.Model.{is_correct}
use Rattle.carriage.specs.declared.meaning.Carriage.{Ghosts as Account}
use Rattle.agreement.specs.Law.{AllShow, told_by, times}
use Rattle.agreement.specs.Refusals.{given}
use Rattle.agreement.specs.Runs.{Shot, shot_of}
use Rattle.agreement.specs.Steps.{Call, begin, inject, turn, close, Event}
use Rattle.agreement.specs.Views.{View, Rules, model_of}
use Rattle.agreement.specs.declared.moments.Verdict.{Verdict}
use Rattle.lines.specs.declared.happenings.Happening.{Happening}
use Rattle.lines.specs.declared.happenings.Happening.TheVariants.{Refused, Shot as ShotTold}
use Rattle.report.specs.Courses.{call_of, Course, begun, next, unread, denied, done}
use Rattle.report.specs.Texts.{left, Reader}

-- the verdicts that are told, the first shot first
abbrev pub verdicts_in : List Happening → List Verdict
verdicts_in [] = []
verdicts_in (Refused line layer number ∷ hs) = verdicts_in hs
verdicts_in (ShotTold shot sender verdict ∷ hs) = verdict ∷ verdicts_in hs

-- how many refusals are told
abbrev pub refusals_in : List Happening → ℕ
refusals_in [] = 0
refusals_in (Refused line layer number ∷ hs) = suc (refusals_in hs)
refusals_in (ShotTold shot sender verdict ∷ hs) = refusals_in hs

-- how many lines a text has: each line feed (10) ends one, and bytes behind the last line feed are one more
abbrev pub lines_in : List ℕ → ℕ
lines_in [] = 0
lines_in (x ∷ xs) = cond (x == 10) (suc (lines_in xs)) (max 1 (lines_in xs))

-- on a bench that was opened as u
module _ {C K : Type 0} (account : Account C) (rules : Rules K) (u : View C) where
  -- what is told of a close at v, where the calls es have led
  pub record Judged (es : List (Event K)) (v : View C) (number : ℕ) (h : Happening) : Type 0 where
    pub shot : Shot K
    pub verdict : Verdict
    pub running : shot_of es ≡ Some shot
    pub told : h ≡ ShotTold number shot.sender verdict
    pub shown : AllShow account v verdict
    pub meant : is_correct (model_of account u) shot.sender ≡ true → verdict ≡ told_by (given rules shot.value)

  abbrev pub JudgedBy : List (Event K) → View C → Call K → Option Happening → Type 0
  JudgedBy es v (begin s x) h = Unit {0}
  JudgedBy es v (inject f) h = Unit {0}
  JudgedBy es v (turn k) h = Unit {0}
  JudgedBy es v (close s) None = ⊥
  JudgedBy es v (close s) (Some h) = Judged es v s h

  module _ {reads : List ℕ → Option (Result K ValueFault)} {r : Reader} where
    -- that holds of every close of a course
    abbrev pub AllJudged : {told : List Happening} {es : List (Event K)} {n m : ℕ} {at : Reader} {w : View C} → Course account rules reads r u told es n m at w → Type 0
    AllJudged begun = Unit {0}
    AllJudged (next course some (unread is)) = AllJudged course
    AllJudged (next course some (denied is fault)) = AllJudged course
    AllJudged (next {es = es} {w = v} course some (done {a = a} {h = h} is fault does tells)) = AllJudged course × JudgedBy es v (call_of a) h

    -- a report of a course that tells these blocks as out
    pub record Truthful {told : List Happening} {es : List (Event K)} {n m : ℕ} {at : Reader} {w : View C} (course : Course account rules reads r u told es n m at w) (out : List ℕ) : Type 0 where
      pub judged : AllJudged course
      pub pool : (b : ℕ) → (Has out b → 3 ≤ times rules b (verdicts_in told)) × (3 ≤ times rules b (verdicts_in told) → Has out b)
      -- a shot is told for each close, and a refusal for each line that is refused; every line counts once
      pub shots : w.closed ≡ length (verdicts_in told)
      pub refusals : m ≡ refusals_in told
      pub lines : n + m + lines_in (left at) ≡ lines_in (left r)
