-- The shot of two stories as a whole: opened, played and closed. Assumes nothing.
use Rattle.std.proofs.Common.{◌≡◌, ℕ, ◌+◌, ◌*◌, Bool, true, false, cond, eqb, List, ◌∷◌, length, Some, None, sym, refl, ap, ◌∙◌, subst, arith}
use Rattle.std.specs.Option.{option_or}
use Rattle.std.proofs.lemmas.Bool.{eqb-true}
use Rattle.lists.specs.Lists.{list_fault}
use Rattle.faults.specs.declared.causes.ListFault.TheVariants.{Length}
use Rattle.sets.specs.Sets.{bit}
use Rattle.groups.specs.Groups.{marked, correct}
use Rattle.groups.specs.declared.members.Group.{Group}
use Rattle.echo.specs.Echoes.{echo_account, echo_model, state_of}
use Rattle.echo.specs.State.{fresh_state}
use Rattle.echo.specs.declared.carrier.Echo.{Echo}
use Rattle.agreement.specs.Law.{AllAgree, opened}
use Rattle.agreement.specs.Refusals.{open_fault, tally_answer}
use Rattle.agreement.specs.Runs.{Run, more, shot_of}
use Rattle.agreement.specs.Steps.{Event, after_close}
use Rattle.agreement.specs.Views.{View, Rules}
use Rattle.worked.specs.Four.{FourControllers}
use Rattle.worked.specs.Stories.{pair_fault, first_phase, both_stories, Believes, MadeForFour, TwoStories}
use Rattle.worked.proofs.Four.{four, is_four}
use Rattle.worked.proofs.Replays.{image, replay, run_image}
use Rattle.worked.proofs.Telling.{At, at5, at9, apart0, apart1, apart2, opened_at}
use Rattle.worked.proofs.Ending.{all_show, only_place, may_close, one_charge}

pub made_for_four : (c : Echo) (g : Group) → state_of c ≡ fresh_state g 2 → FourControllers g → MadeForFour c
made_for_four c g e f =
    let same : g ≡ c.stage.group = sym (ap (λ s. s.group) e) in
    record { four = subst FourControllers same f; fresh = e ∙ ap (λ h. fresh_state h 2) same }

-- a run without its newest call
before : {K : Type 0} {rules : Rules K} {u w : View Echo} {e : Event K} {es : List (Event K)} → Run echo_account rules u (e ∷ es) w → (v : View Echo) × Run echo_account rules u es v
before (more {v = v} run step) = (v, run)

-- a bench that was opened over a carriage has it
pub over_it : (u : View Echo) (c : Echo) → u ≡ opened c → c ≡ u.carriage
over_it u c e = sym (ap (λ v. v.carriage) e)

module _ {K : Type 0} (rules : Rules K) where
  -- opening is refused as the shot is
  pub opens_as : (c : Echo) → MadeForFour c → open_fault (echo_model c) rules ≡ pair_fault rules.same rules.values
  opens_as c m = ap (λ n. option_or (cond (eqb (length rules.values) n) None (Some Length)) (list_fault rules.same rules.values)) (ap (λ s. s.len) m.fresh)

  pub two_values : pair_fault rules.same rules.values ≡ None → length rules.values ≡ 2
  two_values fine = go (eqb (length rules.values) 2) refl fine
    where
      go : (b : Bool) → eqb (length rules.values) 2 ≡ b → option_or (cond b None (Some Length)) (list_fault rules.same rules.values) ≡ None → length rules.values ≡ 2
      go true e f = eqb-true _ _ e
      go false e f = let z : ◌≡◌ {A = ℕ} 0 1 = cc in absurd (omega arith)

  module _ (c : Echo) (made : MadeForFour c) (u w : View Echo) (open-view : u ≡ opened c) (run : Run echo_account rules u both_stories w) where
    played : Run echo_account rules (opened c) both_stories w
    played = subst (λ z. Run echo_account rules z both_stories w) open-view run

    pub ends_at : At w at9
    ends_at = record { is = run_image rules played ∙ ap (replay rules both_stories) (opened_at (opened c) refl made).is }

    early : (v : View Echo) × Run echo_account rules (opened c) first_phase v
    early = before (before (before (before played).1).1).1

    early_at : image early.0 ≡ at5
    early_at = run_image rules early.1 ∙ ap (replay rules first_phase) (opened_at (opened c) refl made).is

    believes : (q place other : ℕ) → Believes at5.carriage q place other → Believes (state_of early.0.carriage) q place other
    believes q place other b = subst (λ z. Believes z.carriage q place other) (sym early_at) b

    group_four : c.stage.group ≡ four
    group_four = is_four c.stage.group made.four

    marked_3 : marked four 3 ≡ true
    unfolding bit
    marked_3 = refl

    law_from : AllAgree echo_account rules u → AllAgree echo_account rules (opened c)
    law_from law = subst (AllAgree echo_account rules) open-view law

    shot_had : shot_of {K = K} both_stories ≡ Some (record { sender = 3; value = None; turns = 2 * (c.stage.group.t + 1) })
    shot_had = ap (λ t. Some (record { sender = 3; value = None; turns = 2 * (t + 1) })) (sym made.four.t)

    pub two_stories_lem : length rules.values ≡ 2 → AllAgree echo_account rules u → (x : View Echo) → x ≡ after_close echo_account rules w → TwoStories rules
    two_stories_lem two law x after-it = record {
      carriage = c;
      made = made;
      sender = ap (λ g. marked g 3) group_four ∙ marked_3;
      apart = λ e. let z : ◌≡◌ {A = ℕ} 0 1 = e in omega arith;
      early = early.0;
      begun = early.1;
      zero = believes 0 0 1 apart0;
      one = believes 1 1 0 apart1;
      two = believes 2 1 0 apart2;
      ended = w;
      run = played;
      shown = all_show ends_at;
      law = law_from law;
      shot = shot_had;
      by_law = only_place ends_at _ ((law_from law both_stories w played).agree _ shot_had refl).1;
      after = x;
      closed = more played (may_close rules two ends_at, after-it);
      tallies = λ q b ok small. ap (λ z. tally_answer echo_account z q b) after-it ∙ one_charge rules ends_at q b (ap (λ g. correct g q) (sym group_four) ∙ ok) small;
    }
