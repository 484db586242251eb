-- The shot of two stories, call by call: how the bench stands after each, and that none is refused. Assumes nothing.
use Rattle.std.proofs.Common.{◌≡◌, ℕ, cond, eqb, length, Some, None, Option, refl, ap, ◌∙◌, subst}
use Rattle.std.specs.Option.{option_map}
use Rattle.faults.specs.declared.causes.ListFault.TheVariants.{Length}
use Rattle.sets.specs.Sets.{bit, count}
use Rattle.carriage.specs.declared.frames.Frame.{Frame}
use Rattle.echo.specs.Echoes.{echo_account}
use Rattle.echo.specs.State.{State, fresh_state}
use Rattle.echo.specs.declared.carrier.Echo.{Echo}
use Rattle.agreement.specs.Extraction.{vouched, place_offers, group_offers}
use Rattle.agreement.specs.Law.{opened}
use Rattle.agreement.specs.Refusals.{first, given, begin_fault, inject_refusal, turn_refusal}
use Rattle.agreement.specs.Runs.{Run, none, more}
use Rattle.agreement.specs.Steps.{Begun, Injected, TurnTaken}
use Rattle.agreement.specs.Views.{View, Rules}
use Rattle.agreement.specs.declared.bench_faults.BenchFault.TheVariants.{List as ListCause}
use Rattle.worked.specs.Stories.{first_story, second_story, late_echo, both_stories, Believes, MadeForFour}
use Rattle.worked.proofs.Four.{four, is_four}
use Rattle.worked.proofs.Replays.{state_account, image, after_begin, after_inject, after_turn, begin_image, inject_image, turn_image}

-- the bench before the shot and after each call of it
abbrev pub at0 : View State
at0 = opened (fresh_state four 2)

abbrev pub at1 : View State
at1 = after_begin 3 None at0

abbrev pub at2 : View State
at2 = after_inject first_story at1

abbrev pub at3 : View State
at3 = after_inject (second_story 1) at2

abbrev pub at4 : View State
at4 = after_inject (second_story 2) at3

abbrev pub at5 : View State
at5 = after_turn at4

abbrev pub at6 : View State
at6 = after_inject late_echo at5

abbrev pub at7 : View State
at7 = after_turn at6

abbrev pub at8 : View State
at8 = after_turn at7

abbrev pub at9 : View State
at9 = after_turn at8

-- no call is refused
pub fine1 : inject_refusal state_account at1 first_story ≡ None
unfolding bit
fine1 = refl

pub fine2 : inject_refusal state_account at2 (second_story 1) ≡ None
unfolding bit
fine2 = refl

pub fine3 : inject_refusal state_account at3 (second_story 2) ≡ None
unfolding bit
fine3 = refl

pub fine4 : turn_refusal state_account at4 1 ≡ None
fine4 = refl

pub fine5 : inject_refusal state_account at5 late_echo ≡ None
unfolding bit
fine5 = refl

pub fine6 : turn_refusal state_account at6 2 ≡ None
fine6 = refl

pub fine7 : turn_refusal state_account at7 3 ≡ None
unfolding bit count vouched place_offers group_offers
fine7 = refl

pub fine8 : turn_refusal state_account at8 4 ≡ None
unfolding bit count vouched place_offers group_offers
fine8 = refl

-- after the first phase the stories stand apart
pub apart0 : Believes at5.carriage 0 0 1
unfolding bit count
apart0 = record { witness = refl; not_other = refl }

pub apart1 : Believes at5.carriage 1 1 0
unfolding bit count
apart1 = record { witness = refl; not_other = refl }

pub apart2 : Believes at5.carriage 2 1 0
unfolding bit count
apart2 = record { witness = refl; not_other = refl }

-- a bench over the echo carriage stands so
pub record At (v : View Echo) (s : View State) : Type 0 where
  pub is : image v ≡ s

pub injected_to : {v w : View Echo} {s : View State} {f : Frame} → At v s → Injected echo_account f v w → At w (after_inject f s)
injected_to {v} {w} {s} {f} a i = record { is = inject_image f v w i ∙ ap (after_inject f) a.is }

pub turned_to : {v w : View Echo} {s : View State} → At v s → TurnTaken echo_account v w → At w (after_turn s)
turned_to {v} {w} a t = record { is = turn_image v w t ∙ ap after_turn a.is }

pub may_inject : {v : View Echo} {s : View State} (f : Frame) → At v s → inject_refusal state_account s f ≡ None → inject_refusal echo_account v f ≡ None
may_inject f a fine = ap (λ z. inject_refusal state_account z f) a.is ∙ fine

pub may_turn : {v : View Echo} {s : View State} (k : ℕ) → At v s → turn_refusal state_account s k ≡ None → turn_refusal echo_account v k ≡ None
may_turn k a fine = ap (λ z. turn_refusal state_account z k) a.is ∙ fine

-- a bench just opened over a carriage made for four
pub opened_at : (v : View Echo) → v ≡ opened v.carriage → MadeForFour v.carriage → At v at0
opened_at v e m = record { is = ap image e ∙ ap opened (m.fresh ∙ ap (λ g. fresh_state g 2) (is_four v.carriage.stage.group m.four)) }

module _ {K : Type 0} (rules : Rules K) where
  -- begun with no value
  pub begun_none : {v w : View Echo} (x : Option K) → x ≡ None → Begun echo_account 3 (given rules x) v w → Begun echo_account 3 None v w
  begun_none {v} {w} x e b = subst (λ o. Begun echo_account 3 (given rules o) v w) e b

  pub begun_at : {v w : View Echo} (x : Option K) → x ≡ None → At v at0 → Begun echo_account 3 (given rules x) v w → At w at1
  begun_at {v} {w} x none-given a b = record { is = begin_image 3 None v w (begun_none x none-given b) ∙ ap (after_begin 3 None) a.is }

  module _ (two : length rules.values ≡ 2) where
    pub may_begin : {v : View Echo} (x : Option K) → x ≡ None → At v at0 → begin_fault echo_account rules v 3 x ≡ None
    unfolding bit
    may_begin {v} x none-given a =
        ap (begin_fault echo_account rules v 3) none-given ∙ ap (λ z. begin_fault state_account rules z 3 None) a.is ∙ ap (λ n. first (option_map ListCause (cond (eqb n 2) None (Some Length))) None) two

    -- the whole shot
    pub told : {v w1 w2 w3 w4 w5 w6 w7 w8 w9 : View Echo} (x : Option K) → x ≡ None → At v at0 → Begun echo_account 3 (given rules x) v w1 → Injected echo_account first_story w1 w2
        → Injected echo_account (second_story 1) w2 w3 → Injected echo_account (second_story 2) w3 w4 → TurnTaken echo_account w4 w5 → Injected echo_account late_echo w5 w6 → TurnTaken echo_account w6 w7
        → TurnTaken echo_account w7 w8 → TurnTaken echo_account w8 w9 → Run echo_account rules v both_stories w9
    told x none-given a0 b i1 i2 i3 t1 i4 t2 t3 t4 =
        let a1 = begun_at x none-given a0 b in
        let a2 = injected_to a1 i1 in
        let a3 = injected_to a2 i2 in
        let a4 = injected_to a3 i3 in
        let a5 = turned_to a4 t1 in
        let a6 = injected_to a5 i4 in
        let a7 = turned_to a6 t2 in
        let a8 = turned_to a7 t3 in
        let start = more none (may_begin None refl a0, begun_none x none-given b) in
        let begun = more (more (more (more start (may_inject first_story a1 fine1, i1)) (may_inject (second_story 1) a2 fine2, i2)) (may_inject (second_story 2) a3 fine3, i3)) (may_turn 1 a4 fine4, t1) in
        let second = more (more begun (may_inject late_echo a5 fine5, i4)) (may_turn 2 a6 fine6, t2) in
        more (more second (may_turn 3 a7 fine7, t3)) (may_turn 4 a8 fine8, t4)
