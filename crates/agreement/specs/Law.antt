-- The law of agreement: what holds after every run of a bench that was just opened. Assumes nothing.
use Rattle.std.specs.Prelude.{◌≡◌, ℕ, ◌+◌, ◌*◌, ◌<◌, ◌≤◌, min, true, false, cond, List, [], ◌∷◌, length, Some, None, Ok, Option}
use Rattle.carriage.specs.Model.{is_correct}
use Rattle.carriage.specs.declared.meaning.Carriage.{Ghosts as Account}
use Rattle.agreement.specs.Views.{View, Rules, model_of}
use Rattle.agreement.specs.Refusals.{given, verdict_answer, tally_answer}
use Rattle.agreement.specs.Steps.{Event, charges}
use Rattle.agreement.specs.Runs.{Run, Shot, shot_of, closings}
use Rattle.agreement.specs.declared.moments.Verdict.{Verdict}
use Rattle.agreement.specs.declared.moments.Verdict.TheVariants.{Place, SenderFaulty}

-- what a shot of a correct sender tells: the place of the value that was given, or sender faulty if none was
abbrev pub told_by : Option ℕ → Verdict
told_by None = SenderFaulty
told_by (Some p) = Place p

-- how many of the verdicts charged block b
unfoldable pub times : {K : Type 0} → Rules K → ℕ → List Verdict → ℕ
times rules b [] = 0
times rules b (d ∷ ds) = cond (charges rules d b) 1 0 + times rules b ds

module _ {C : Type 0} (account : Account C) where
  -- asked for its verdict, every correct controller answers d
  abbrev pub AllShow : View C → Verdict → Type 0
  AllShow v d = (q : ℕ) → is_correct (model_of account v) q ≡ true → verdict_answer account v q ≡ Ok d

  -- one verdict for each view: what the correct controllers showed there
  pub data Shown : List (View C) → List Verdict → Type 0 where
    none : Shown [] []
    more : {v : View C} {vs : List (View C)} {d : Verdict} {ds : List Verdict} → AllShow v d → Shown vs ds → Shown (v ∷ vs) (d ∷ ds)

module _ {C K : Type 0} (account : Account C) (rules : Rules K) where
  -- what holds of a bench opened as u when the events have led it to w; `before` has the views just before each close
  pub record Agreed (u : View C) (es : List (Event K)) (before : List (View C)) (w : View C) : Type 0 where
    -- group and list length stay
    pub group : (model_of account w).group ≡ (model_of account u).group
    pub len : (model_of account w).len ≡ (model_of account u).len
    -- the view knows the running shot: its sender, and a phase for each turn
    pub idle : shot_of es ≡ None → w.running ≡ false
    pub runs : (shot : Shot K) → shot_of es ≡ Some shot → (w.running ≡ true) × (w.sender ≡ shot.sender) × ((model_of account w).phase ≡ shot.turns + 1)
    -- once 2(t + 1) turns were taken since its begin, all correct controllers show the same verdict on the running
    -- shot; if its sender is correct, it is the place of the value given, or sender faulty if none was given
    pub agree : (shot : Shot K) → shot_of es ≡ Some shot → shot.turns ≡ 2 * ((model_of account u).group.t + 1)
        → (d : Verdict) × AllShow account w d × (is_correct (model_of account u) shot.sender ≡ true → d ≡ told_by (given rules shot.value))
    -- each closed shot has one verdict, which all correct controllers showed just before its close
    pub verdicts : List Verdict
    pub shown : Shown account before verdicts
    pub closed : w.closed ≡ length verdicts
    -- all correct controllers' registers are equal, block by block
    pub equal : (q r b : ℕ) → is_correct (model_of account u) q ≡ true → is_correct (model_of account u) r ≡ true → tally_answer account w q b ≡ tally_answer account w r b
    -- they have for each block how many closed shots charged it, up to 3
    pub tallies : (q b : ℕ) → is_correct (model_of account u) q ≡ true → b < 64 → tally_answer account w q b ≡ Ok (min 3 (times rules b verdicts))
    -- a block is out of the pool, charged by three closed shots or more, exactly where its tally is 3
    pub out : (q b : ℕ) → is_correct (model_of account u) q ≡ true → b < 64
        → (3 ≤ times rules b verdicts → tally_answer account w q b ≡ Ok 3) × (tally_answer account w q b ≡ Ok 3 → 3 ≤ times rules b verdicts)

  -- the law: all of that after every run, whatever its calls and their arguments
  abbrev pub AllAgree : View C → Type 0
  AllAgree u = (es : List (Event K)) (w : View C) (run : Run account rules u es w) → Agreed u es (closings run) w

-- a bench just opened over a carriage
abbrev pub opened : {C : Type 0} → C → View C
opened c = record { carriage = c; running = false; sender = 0; extracted = λ q v. false; tally = λ q b. 0; closed = 0 }
