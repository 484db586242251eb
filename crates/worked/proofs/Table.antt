-- The worked cases, one by one. Assumes nothing.
use Rattle.std.proofs.Common.{◌≡◌, ℕ, ◌+◌, ◌-◌, ◌*◌, ◌≤◌, Bool, true, false, cond, not, ◌&&◌, ◌||◌, eqb, ltb, leb, [], ◌∷◌, Some, None, Option, refl, ap, ◌∙◌, arith}
use mathlib.Core.Path.{fun_ext}
use Rattle.std.specs.Option.{option_map}
use Rattle.std.proofs.lemmas.Bool.{le-leb, lt-leb, ne_eqb}
use Rattle.sets.specs.Sets.{count, has}
use Rattle.faults.specs.Faults.{group_number}
use Rattle.groups.specs.Groups.{group_fault}
use Rattle.faults.specs.declared.causes.GroupFault.{GroupFault}
use Rattle.faults.specs.declared.causes.GroupFault.TheVariants.{Marks as TooMany}
use Rattle.groups.specs.declared.members.Group.{Group}
use Rattle.groups.specs.declared.members.Marks.{Marks}
use Rattle.echo.specs.Steps.{becomes_witness, accepts}
use Rattle.agreement.specs.Extraction.{triple, extracts, vouched, verdict_of, highest}
use Rattle.agreement.specs.declared.moments.Verdict.TheVariants.{Place, SenderFaulty}
use Rattle.worked.specs.Four.{Marked}
use Rattle.worked.specs.Cases.{Thresholds, WorkedCases, holding}

-- what four controllers with one marked are refused with, by who is marked
fault_by : (ℕ → Bool) → Option GroupFault
fault_by test = cond (eqb (count 16 (λ k. test k && not (ltb k 4))) 0 && leb (count 16 test) 1) None (Some TooMany)

marks_only : (m : Marks) (test : ℕ → Bool) → Marked m test → group_fault 4 1 m ≡ fault_by test
unfolding fault_by
marks_only m test e = ap fault_by (fun_ext e)

only_3 : fault_by (λ k. eqb k 3) ≡ None
unfolding fault_by count
only_3 = refl

pub four_group : (m : Marks) → Marked m (λ k. eqb k 3) → group_fault 4 1 m ≡ None
four_group m e = marks_only m (λ k. eqb k 3) e ∙ only_3

-- no marks, and then 3
pub with_3 : (m none : Marks) → ((k : ℕ) → has m.set k ≡ (eqb k 3 || has none.set k)) → ((k : ℕ) → has none.set k ≡ false) → Marked m (λ k. eqb k 3)
with_3 m none e empty k = e k ∙ go (eqb k 3) (empty k)
  where
    go : (b : Bool) → has none.set k ≡ false → (b || has none.set k) ≡ b
    go true f = refl
    go false f = f

both_2_and_3 : option_map group_number (fault_by (λ k. eqb k 2 || eqb k 3)) ≡ Some 6
unfolding fault_by count
both_2_and_3 = refl

-- the thresholds in general: t + 1 and n − t
module _ (n t : ℕ) where
  witnessing : (k i : ℕ) (init : Bool) (echoes : ℕ → Bool) → 2 * i ≤ k → becomes_witness t k i init echoes ≡ leb (t + 1) (count 16 echoes)
  witnessing k i init echoes late =
      ap (λ b. (b && init) || (leb (2 * i) k && leb (t + 1) (count 16 echoes))) (ne_eqb (k + 1) (2 * i) (λ e. omega arith))
      ∙ ap (λ b. b && leb (t + 1) (count 16 echoes)) (le-leb (2 * i) k late)

  accepting : (k i : ℕ) (echoes : ℕ → Bool) → 2 * i ≤ k → accepts n t k i echoes ≡ leb (n - t) (count 16 echoes)
  accepting k i echoes late = ap (λ b. b && leb (n - t) (count 16 echoes)) (le-leb (2 * i) k late)

  thresholds : Thresholds n t (t + 1) (n - t)
  thresholds = record {
    witness = λ k i init echoes late enough. witnessing k i init echoes late ∙ le-leb _ _ enough;
    no_witness = λ k i init echoes late few. witnessing k i init echoes late ∙ lt-leb _ _ few;
    accept = λ k i echoes late enough. accepting k i echoes late ∙ le-leb _ _ enough;
    no_accept = λ k i echoes late few. accepting k i echoes late ∙ lt-leb _ _ few;
  }

-- extraction in round 2 of place 1 by controller 0, with 3 the sender, over four controllers
module _ (g : Group) (four : g.n ≡ 4) where
  alone : extracts (holding g (triple 3 1 1 ∷ triple 3 1 2 ∷ [])) 0 1 3 2 ≡ false
  unfolding count vouched
  alone = ap (λ n. leb 2 (count n (vouched (holding g (triple 3 1 1 ∷ triple 3 1 2 ∷ [])) 0 1 2))) four

  another : extracts (holding g (triple 3 1 1 ∷ triple 2 1 2 ∷ [])) 0 1 3 2 ≡ true
  unfolding count vouched
  another = ap (λ n. leb 2 (count n (vouched (holding g (triple 3 1 1 ∷ triple 2 1 2 ∷ [])) 0 1 2))) four

no_places : verdict_of 4 (λ k. false) ≡ SenderFaulty
unfolding count highest
no_places = refl

place_2 : verdict_of 4 (λ k. eqb k 2) ≡ Place 2
unfolding count highest
place_2 = refl

places_0_and_2 : verdict_of 4 (λ k. eqb k 0 || eqb k 2) ≡ SenderFaulty
unfolding count highest
places_0_and_2 = refl

pub worked_cases : WorkedCases
worked_cases = record {
  four_are_a_group = four_group;
  three_are_too_few = λ m. refl;
  seventeen_are_too_many = λ m. refl;
  two_marks_are_too_many = λ m e. ap (option_map group_number) (marks_only m (λ k. eqb k 2 || eqb k 3) e) ∙ both_2_and_3;
  seven_need_3_and_5 = thresholds 7 2;
  sixteen_need_6_and_11 = thresholds 16 5;
  the_sender_alone = alone;
  without_the_sender = λ g four. refl;
  the_sender_and_another = another;
  no_place = no_places;
  one_place = place_2;
  two_places = places_0_and_2;
  two_charges = refl;
  three_charges = refl;
  four_charges = refl;
  another_tick = refl;
  another_letter = refl;
  seven_pulses = λ v e. ap (λ n. cond (eqb n 8) (Some v.block) None) e;
  eight_pulses = λ v e. ap (λ n. cond (eqb n 8) (Some v.block) None) e;
}
