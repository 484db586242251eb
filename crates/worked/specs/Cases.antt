-- Worked cases: what the definitions that the contracts cite say of small examples. Assumes nothing.
use Rattle.std.specs.Prelude.{◌≡◌, ℕ, zero, suc, ◌*◌, ◌<◌, ◌≤◌, Bool, true, false, ◌||◌, List, [], ◌∷◌, Some, None, ◌==◌, nat_eq, refl}
use Rattle.std.proofs.Common.{lit<}
use Rattle.std.specs.Option.{option_map}
use Rattle.sets.specs.Sets.{count}
use Rattle.values.specs.Letters.{letter_f, letter_p}
use Rattle.values.specs.Notices.{same_notice}
use Rattle.values.specs.Pulses.{pulse_charge}
use Rattle.values.specs.declared.notices.Notice.{Notice}
use Rattle.values.specs.declared.pulses.PulseReport.{PulseReport}
use Rattle.faults.specs.Faults.{group_number}
use Rattle.groups.specs.Groups.{group_fault}
use Rattle.carriage.specs.Model.{Model}
use Rattle.carriage.specs.Triples.{same_triple}
use Rattle.carriage.specs.declared.frames.Triple.{Triple}
use Rattle.groups.specs.declared.members.Group.{Group}
use Rattle.groups.specs.declared.members.Marks.{Marks}
use Rattle.echo.specs.Steps.{becomes_witness, accepts}
use Rattle.agreement.specs.Extraction.{triple, extracts, verdict_of}
use Rattle.agreement.specs.Steps.{raised}
use Rattle.agreement.specs.declared.moments.Verdict.TheVariants.{Place, SenderFaulty}
use Rattle.worked.specs.Four.{Marked}

-- how many echoes a controller needs, from the second phase of a triple's round on: those of w different controllers to
-- become a witness, of a to accept, and one less will not do
pub record Thresholds (n t w a : ℕ) : Type 0 where
  pub witness : (k i : ℕ) (init : Bool) (echoes : ℕ → Bool) → 2 * i ≤ k → w ≤ count 16 echoes → becomes_witness t k i init echoes ≡ true
  pub no_witness : (k i : ℕ) (init : Bool) (echoes : ℕ → Bool) → 2 * i ≤ k → count 16 echoes < w → becomes_witness t k i init echoes ≡ false
  pub accept : (k i : ℕ) (echoes : ℕ → Bool) → 2 * i ≤ k → a ≤ count 16 echoes → accepts n t k i echoes ≡ true
  pub no_accept : (k i : ℕ) (echoes : ℕ → Bool) → 2 * i ≤ k → count 16 echoes < a → accepts n t k i echoes ≡ false

abbrev pub among : List Triple → Triple → Bool
among [] x = false
among (y ∷ ys) x = same_triple y x || among ys x

-- a carriage for lists of two values in which every controller has accepted just these triples
abbrev pub holding : Group → List Triple → Model
holding g xs = record { group = g; len = 2; phase = 5; offered = λ x. false; accepted = λ q x. among xs x }

-- the tally of a block after so many charges
abbrev pub tally_after : ℕ → ℕ
tally_after zero = 0
tally_after (suc n) = raised (tally_after n)

-- F,5,0 and F,5,17 and P,5,0
abbrev pub failed_at0 : Notice
failed_at0 = record { letter = letter_f; block = 5; tick = 0; lettered = refl; blocks = lit< tt }

abbrev pub failed_at17 : Notice
failed_at17 = record { letter = letter_f; block = 5; tick = 17; lettered = refl; blocks = lit< tt }

abbrev pub passed_at0 : Notice
passed_at0 = record { letter = letter_p; block = 5; tick = 0; lettered = refl; blocks = lit< tt }

pub record WorkedCases : Type 0 where
  -- four controllers of which one may be marked and 3 is: a group
  pub four_are_a_group : (m : Marks) → Marked m (λ k. nat_eq k 3) → group_fault 4 1 m ≡ None
  -- three bear no marked one: refused with 5, whatever the marks
  pub three_are_too_few : (m : Marks) → option_map group_number (group_fault 3 1 m) ≡ Some 5
  -- seventeen are no group, even where none may be marked: refused with 4
  pub seventeen_are_too_many : (m : Marks) → option_map group_number (group_fault 17 0 m) ≡ Some 4
  -- two marks where one is borne: refused with 6
  pub two_marks_are_too_many : (m : Marks) → Marked m (λ k. (k == 2) || k == 3) → option_map group_number (group_fault 4 1 m) ≡ Some 6
  -- of seven with two marked, 3 echoes make a witness and 5 are accepted
  pub seven_need_3_and_5 : Thresholds 7 2 3 5
  -- of sixteen with five marked, 6 and 11
  pub sixteen_need_6_and_11 : Thresholds 16 5 6 11
  -- in round 2, with 3 the sender: its own triples of both rounds are one origin, and do not extract
  pub the_sender_alone : (g : Group) → g.n ≡ 4 → extracts (holding g (triple 3 1 1 ∷ triple 3 1 2 ∷ [])) 0 1 3 2 ≡ false
  -- two origins do not extract without the sender's triple of round 1
  pub without_the_sender : (g : Group) → g.n ≡ 4 → extracts (holding g (triple 1 1 1 ∷ triple 2 1 2 ∷ [])) 0 1 3 2 ≡ false
  -- the sender's triple of round 1 and that of another origin for round 2 do
  pub the_sender_and_another : (g : Group) → g.n ≡ 4 → extracts (holding g (triple 3 1 1 ∷ triple 2 1 2 ∷ [])) 0 1 3 2 ≡ true
  -- of a list of four values: no place, one place, two places
  pub no_place : verdict_of 4 (λ k. false) ≡ SenderFaulty
  pub one_place : verdict_of 4 (λ k. nat_eq k 2) ≡ Place 2
  pub two_places : verdict_of 4 (λ k. (k == 0) || k == 2) ≡ SenderFaulty
  -- a tally counts charges and stops at 3
  pub two_charges : tally_after 2 ≡ 2
  pub three_charges : tally_after 3 ≡ 3
  pub four_charges : tally_after 4 ≡ 3
  -- the tick does not count, the letter does
  pub another_tick : same_notice failed_at0 failed_at17 ≡ true
  pub another_letter : same_notice failed_at0 passed_at0 ≡ false
  -- an erase that took 7 pulses charges no block, one given up after 8 its own
  pub seven_pulses : (v : PulseReport) → v.pulses ≡ 7 → pulse_charge v ≡ None
  pub eight_pulses : (v : PulseReport) → v.pulses ≡ 8 → pulse_charge v ≡ Some v.block
