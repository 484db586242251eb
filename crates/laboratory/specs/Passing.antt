-- Stretches of a run: a shot from its begin to its last phase, and to its close. Assumes nothing.
use Rattle.std.specs.Prelude.{◌≡◌, ℕ, suc, ◌+◌, ◌*◌, ◌≤◌, true, cond, List, [], Some, None, Option}
use Rattle.std.specs.Option.{option_map}
use Rattle.agreement.specs.Law.{opened}
use Rattle.agreement.specs.Refusals.{first, open_fault, begin_fault, inject_refusal, turn_refusal}
use Rattle.agreement.specs.Runs.{Run, closings, shot_of}
use Rattle.agreement.specs.Steps.{Event, Injected, TurnTaken}
use Rattle.agreement.specs.Views.{View, Rules, model_of, moment_of}
use Rattle.agreement.specs.declared.bench_faults.BenchFault.{BenchFault}
use Rattle.agreement.specs.declared.bench_faults.BenchFault.TheVariants.{List as ListCause, Value, Carriage}
use Rattle.agreement.specs.declared.moments.Moment.TheVariants.{Ended}
use Rattle.carriage.specs.Model.{Model, is_correct}
use Rattle.faults.specs.declared.causes.CarriageFault.TheVariants.{NotCorrect}
use Rattle.carriage.specs.declared.frames.Frame.{Frame}
use Rattle.carriage.specs.declared.meaning.Carriage.{Ghosts as Account}
use Rattle.values.specs.Ranges.{block_fault}

-- frames were taken and the phases 1 to k turned, one after the other
pub data Passed {C : Type 0} (account : Account C) (v : View C) : ℕ → View C → Type 0 where
  none : Passed account v 0 v
  injected : {w x : View C} {k : ℕ} (f : Frame) → Passed account v k w → inject_refusal account w f ≡ None → Injected account f w x → Passed account v k x
  turned : {w x : View C} {k : ℕ} → Passed account v k w → turn_refusal account w (suc k) ≡ None → TurnTaken account w x → Passed account v (suc k) x

-- a shot was just begun, and has so many phases or more
pub record Turnable {C : Type 0} (account : Account C) (u : View C) (count : ℕ) : Type 0 where
  pub running : u.running ≡ true
  pub phase : (model_of account u).phase ≡ 1
  pub few : count ≤ 2 * ((model_of account u).group.t + 1)

module _ {C K : Type 0} (account : Account C) (rules : Rules K) where
  -- a shot of this sender with this value led from v to w, where it has had its last phase
  pub record Played (s : ℕ) (x : Option K) (v w : View C) : Type 0 where
    pub events : List (Event K)
    pub run : Run account rules v events w
    pub unclosed : closings run ≡ []
    pub shot : shot_of events ≡ Some (record { sender = s; value = x; turns = 2 * ((model_of account v).group.t + 1) })
    pub ended : moment_of account w ≡ Ended
    pub group : (model_of account w).group ≡ (model_of account v).group
    pub len : (model_of account w).len ≡ (model_of account v).len
    pub closed : w.closed ≡ v.closed

-- only a correct controller is read
abbrev pub reader_at : Model → ℕ → Option BenchFault
reader_at m q = cond (is_correct m q) None (Some (Carriage NotCorrect))

-- what reading a controller's verdict and then its tally of a block is refused with, after the last phase
abbrev pub read_fault : Model → (q b : ℕ) → Option BenchFault
read_fault m q b = first (reader_at m q) (option_map Value (block_fault b))

-- opening a bench and beginning a shot may be refused; its frames and turns are not
abbrev pub shot_fault : {C K : Type 0} → Account C → Rules K → C → ℕ → Option K → Option BenchFault
shot_fault account rules c s x = first (option_map ListCause (open_fault (account.model c) rules)) (begin_fault account rules (opened c) s x)
