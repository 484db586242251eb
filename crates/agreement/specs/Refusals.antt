-- Which fault each call of a bench is refused with, if any, and what the reads answer. Assumes nothing.
use Rattle.std.specs.Prelude.{ℕ, Bool, true, false, cond, ◌&&◌, List, length, is_some, Some, None, Ok, Err, Option, Result, ◌==◌, nat_lt}
use Rattle.std.specs.Option.{option_map, option_or}
use Rattle.lists.specs.Lists.{place_of, list_fault}
use Rattle.values.specs.Ranges.{block_fault}
use Rattle.faults.specs.declared.causes.ListFault.{ListFault}
use Rattle.faults.specs.declared.causes.ListFault.TheVariants.{Length}
use Rattle.groups.specs.Groups.{marked}
use Rattle.carriage.specs.Model.{Model, is_correct, inject_fault}
use Rattle.carriage.specs.declared.frames.Frame.{Frame}
use Rattle.groups.specs.declared.members.Group.{Group}
use Rattle.faults.specs.declared.causes.CarriageFault.TheVariants.{NotCorrect}
use Rattle.carriage.specs.declared.meaning.Carriage.{Ghosts as Account}
use Rattle.agreement.specs.Views.{View, Rules, model_of, moment_of, fits}
use Rattle.agreement.specs.Extraction.{verdict_of}
use Rattle.agreement.specs.declared.bench_faults.BenchFault.{BenchFault}
use Rattle.agreement.specs.declared.bench_faults.BenchFault.TheVariants.{Moment as WrongMoment, Sender, MarkedSender, NotListed, Shots, Value, List as ListCause, Carriage}
use Rattle.agreement.specs.declared.moments.Act.{Act}
use Rattle.agreement.specs.declared.moments.Act.TheVariants.{Begin, Inject, Turn, Verdict, Close}
use Rattle.agreement.specs.declared.moments.Verdict.{Verdict as Outcome}

-- the first of two causes
abbrev pub first : Option BenchFault → Option BenchFault → Option BenchFault
first a b = option_or a b

-- a list must be as long as the carriage says; that length is 1 to 4
abbrev pub length_cause : {K : Type 0} → Model → List K → Option ListFault
length_cause m xs = cond (length xs == m.len) None (Some Length)

-- Open: the length, 1 to 4 and the carriage's, then two values that are the same
abbrev pub open_fault : {K : Type 0} → Model → Rules K → Option ListFault
open_fault m rules = option_or (length_cause m rules.values) (list_fault rules.same rules.values)

-- the place of the value that was given, if one was
abbrev pub given : {K : Type 0} → Rules K → Option K → Option ℕ
given rules None = None
given rules (Some w) = place_of rules.same w rules.values

-- a value was given and is not on the list
abbrev pub unlisted : {K : Type 0} → Rules K → Option K → Bool
unlisted rules None = false
unlisted rules (Some w) = elim (place_of rules.same w rules.values) [ None ↦ true | Some p ↦ false ]

abbrev pub value_fault : {K : Type 0} → Rules K → Option K → Option BenchFault
value_fault rules x = cond (unlisted rules x) (Some NotListed) None

-- a bench closes 999 shots
abbrev pub shots_fault : ℕ → Option BenchFault
shots_fault closed = cond (nat_lt closed 999) None (Some Shots)

-- the sender is in the group, and a marked one is given no value
abbrev pub sender_fault : Group → ℕ → Bool → Option BenchFault
sender_fault g s some = cond (nat_lt s g.n) (cond (marked g s && some) (Some MarkedSender) None) (Some Sender)

-- the fault, if there is one, else the value
abbrev pub answer_by : {T : Type 0} → Option BenchFault → T → Result T BenchFault
answer_by None x = Ok x
answer_by (Some e) x = Err e

module _ {C : Type 0} (account : Account C) where
  abbrev pub moment_fault : View C → Act → Option BenchFault
  moment_fault v act = cond (fits (moment_of account v) v.closed act) None (Some WrongMoment)

  -- Begin: the moment, the list's length, 999 closed shots, the sender, a marked sender's value, an unlisted value
  abbrev pub begin_fault : {K : Type 0} → Rules K → View C → ℕ → Option K → Option BenchFault
  begin_fault rules v s x =
      first (moment_fault v Begin)
      (first (option_map ListCause (length_cause (model_of account v) rules.values))
      (first (shots_fault v.closed)
      (first (sender_fault (model_of account v).group s (is_some x))
      (value_fault rules x))))

  -- Inject: the moment, then the carriage's own refusal
  abbrev pub inject_refusal : View C → Frame → Option BenchFault
  inject_refusal v f =
      first (moment_fault v Inject)
      (option_map Carriage (inject_fault (account.reads_letter v.carriage f) (account.knows_seal v.carriage f) (model_of account v) f))

  -- Turn: the moment, with the phase that the caller names
  abbrev pub turn_refusal : View C → ℕ → Option BenchFault
  turn_refusal v k = moment_fault v (Turn k)

  -- Close: the moment, with the shot that the caller names, then the list's length
  abbrev pub close_fault : {K : Type 0} → Rules K → View C → ℕ → Option BenchFault
  close_fault rules v s = first (moment_fault v (Close s)) (option_map ListCause (length_cause (model_of account v) rules.values))

  -- a controller whose verdict or register is read must be correct
  abbrev pub reader_fault : View C → ℕ → Option BenchFault
  reader_fault v q = cond (is_correct (model_of account v) q) None (Some (Carriage NotCorrect))

  -- the verdict of q's own extracted set
  abbrev pub verdict_at : View C → ℕ → Outcome
  verdict_at v q = verdict_of (model_of account v).len (v.extracted q)

  -- Verdict: the moment, then the controller
  abbrev pub verdict_answer : View C → ℕ → Result Outcome BenchFault
  verdict_answer v q = answer_by (first (moment_fault v Verdict) (reader_fault v q)) (verdict_at v q)

  -- Tally: the block, then the controller
  abbrev pub tally_answer : View C → ℕ → ℕ → Result ℕ BenchFault
  tally_answer v q b = answer_by (first (option_map Value (block_fault b)) (reader_fault v q)) (v.tally q b)
