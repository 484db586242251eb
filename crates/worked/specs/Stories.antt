-- A shot of a marked sender that tells two stories, call by call, and what becomes of it. Assumes nothing.
use Rattle.std.specs.Prelude.{◌≡◌, ℕ, ◌+◌, ◌*◌, ◌<◌, Bool, true, false, cond, List, [], ◌∷◌, length, Some, None, Ok, Option, ◌==◌, refl}
use Rattle.std.specs.Option.{option_or}
use Rattle.lists.specs.Lists.{list_fault}
use Rattle.faults.specs.declared.causes.ListFault.{ListFault}
use Rattle.faults.specs.declared.causes.ListFault.TheVariants.{Length}
use Rattle.groups.specs.Groups.{marked, correct}
use Rattle.carriage.specs.declared.frames.Frame.{Frame}
use Rattle.agreement.specs.Extraction.{triple}
use Rattle.agreement.specs.Law.{AllShow, AllAgree, opened}
use Rattle.agreement.specs.Refusals.{tally_answer}
use Rattle.agreement.specs.Runs.{Run, shot_of}
use Rattle.agreement.specs.Steps.{Event, taken, begin, inject, turn, close, charges}
use Rattle.agreement.specs.Views.{View, Rules}
use Rattle.agreement.specs.declared.moments.Verdict.TheVariants.{Place}
use Rattle.echo.specs.Echoes.{echo_account, state_of}
use Rattle.echo.specs.State.{State, fresh_state, init_letter, echo_letter}
use Rattle.echo.specs.declared.carrier.Echo.{Echo}
use Rattle.worked.specs.Four.{FourControllers}

-- the shot is played with two values that are not the same; the length is looked at first
abbrev pub pair_fault : {K : Type 0} → (K → K → Bool) → List K → Option ListFault
pair_fault same xs = option_or (cond (length xs == 2) None (Some Length)) (list_fault same xs)

-- controller 3 vouches, to one controller, for the value at a place as its own of round 1
abbrev pub story_told_to : (to letter place : ℕ) → Frame
story_told_to to letter place = record { from = 3; to = to; triple = triple 3 place 1; letter = letter }

-- its init frames: the first value to controller 0, the second to 1 and to 2
abbrev pub first_story : Frame
first_story = story_told_to 0 init_letter 0

abbrev pub second_story : ℕ → Frame
second_story to = story_told_to to init_letter 1

-- and in phase 2 the second value to controller 0 as well, in an e-frame
abbrev pub late_echo : Frame
late_echo = story_told_to 0 echo_letter 1

-- the shot up to the turn of its first phase, and up to that of its last, the newest call first
abbrev pub first_phase : {K : Type 0} → List (Event K)
first_phase = taken (turn 1) ∷ taken (inject (second_story 2)) ∷ taken (inject (second_story 1)) ∷ taken (inject first_story) ∷ taken (begin 3 None) ∷ []

abbrev pub both_stories : {K : Type 0} → List (Event K)
both_stories = taken (turn 4) ∷ taken (turn 3) ∷ taken (turn 2) ∷ taken (inject late_echo) ∷ first_phase

-- of the two stories of controller 3, q is a witness of the one for this place and not of the other
pub record Believes (s : State) (q place other : ℕ) : Type 0 where
  pub witness : s.witness q (triple 3 place 1) ≡ true
  pub not_other : s.witness q (triple 3 other 1) ≡ false

-- an echo carriage just made for four controllers, of which 3 is marked, and for lists of two values
pub record MadeForFour (c : Echo) : Type 0 where
  pub four : FourControllers c.stage.group
  pub fresh : state_of c ≡ fresh_state c.stage.group 2

-- the shot, on a bench just opened over such a carriage, with its close
pub record TwoStories {K : Type 0} (rules : Rules K) : Type 0 where
  pub carriage : Echo
  pub made : MadeForFour carriage
  -- the sender is marked, and tells controllers 0 and 1 different values
  pub sender : marked carriage.stage.group 3 ≡ true
  pub apart : first_story.triple.place ≡ (second_story 1).triple.place → ⊥
  -- after the first phase controller 0 is a witness of one story, 1 and 2 of the other
  pub early : View Echo
  pub begun : Run echo_account rules (opened carriage) first_phase early
  pub zero : Believes (state_of early.carriage) 0 0 1
  pub one : Believes (state_of early.carriage) 1 1 0
  pub two : Believes (state_of early.carriage) 2 1 0
  -- every call is taken
  pub ended : View Echo
  pub run : Run echo_account rules (opened carriage) both_stories ended
  -- every correct controller shows the second value
  pub shown : AllShow echo_account ended (Place 1)
  -- the law of agreement speaks of this shot, which has had its last phase, and the verdict that it speaks of is this one
  pub law : AllAgree echo_account rules (opened carriage)
  pub shot : shot_of {K = K} both_stories ≡ Some (record { sender = 3; value = None; turns = 2 * (carriage.stage.group.t + 1) })
  pub by_law : ((law both_stories ended run).agree _ shot refl).0 ≡ Place 1
  -- the close is taken too, and charges the second value's block at every correct controller, and no other
  pub after : View Echo
  pub closed : Run echo_account rules (opened carriage) (taken (close 1) ∷ both_stories) after
  pub tallies : (q b : ℕ) → correct carriage.stage.group q ≡ true → b < 64 → tally_answer echo_account after q b ≡ Ok (cond (charges rules (Place 1) b) 1 0)
