-- How the shot of two stories ends: what is shown, what is charged, and that the close is taken. Assumes nothing.
use Rattle.std.proofs.Common.{◌≡◌, ℕ, ◌<◌, true, cond, eqb, length, Some, None, Ok, sym, refl, ap, ◌∙◌, subst, ⊎_elim}
use Rattle.std.specs.Option.{option_map}
use Rattle.std.proofs.lemmas.Bool.{lt-ltb}
use Rattle.faults.specs.declared.causes.ListFault.TheVariants.{Length}
use Rattle.faults.specs.declared.causes.ValueFault.TheVariants.{Block}
use Rattle.sets.specs.Sets.{bit, count}
use Rattle.groups.specs.Groups.{correct}
use Rattle.echo.specs.Echoes.{echo_account}
use Rattle.echo.specs.declared.carrier.Echo.{Echo}
use Rattle.agreement.specs.Extraction.{vouched, place_offers, group_offers, highest}
use Rattle.agreement.specs.Law.{AllShow}
use Rattle.agreement.specs.Refusals.{first, answer_by, close_fault, verdict_answer, tally_answer}
use Rattle.agreement.specs.Steps.{charges, after_close}
use Rattle.agreement.specs.Views.{View, Rules}
use Rattle.agreement.specs.declared.bench_faults.BenchFault.TheVariants.{Value, List as ListCause}
use Rattle.agreement.specs.declared.moments.Verdict.{Verdict}
use Rattle.agreement.specs.declared.moments.Verdict.TheVariants.{Place}
use Rattle.worked.proofs.Four.{four, three_correct}
use Rattle.worked.proofs.Replays.{state_account}
use Rattle.worked.proofs.Telling.{At, at9}

-- what holds of the three correct controllers holds of every correct one
by_three : (P : ℕ → Type 0) → P 0 → P 1 → P 2 → (q : ℕ) → correct four q ≡ true → P q
by_three P a b c q ok = ⊎_elim (λ e. subst P (sym e) a) (⊎_elim (λ e. subst P (sym e) b) (λ e. subst P (sym e) c)) (three_correct q ok)

shows : (q : ℕ) → correct four q ≡ true → verdict_answer state_account at9 q ≡ Ok (Place 1)
unfolding bit count vouched place_offers group_offers highest
shows = by_three (λ q. verdict_answer state_account at9 q ≡ Ok (Place 1)) refl refl refl

group_stays : at9.carriage.group ≡ four
unfolding bit count vouched place_offers group_offers
group_stays = refl

pub all_show : {w : View Echo} → At w at9 → AllShow echo_account w (Place 1)
all_show {w} a = subst (λ z. AllShow state_account z (Place 1)) (sym a.is) (λ q ok. shows q (ap (λ g. correct g q) (sym group_stays) ∙ ok))

zero_correct : correct four 0 ≡ true
unfolding bit
zero_correct = refl

pub only_place : {w : View Echo} → At w at9 → (d : Verdict) → AllShow echo_account w d → d ≡ Place 1
only_place {w} a d shown =
    let ok = ap (λ z. correct z.carriage.group 0) a.is ∙ ap (λ g. correct g 0) group_stays ∙ zero_correct in
    let one = shown 0 ok in
    let two = all_show a 0 ok in
    cc

shown_at : {w : View Echo} → At w at9 → (q : ℕ) → correct four q ≡ true → verdict_answer echo_account w q ≡ Ok (Place 1)
shown_at a q ok = ap (λ z. verdict_answer state_account z q) a.is ∙ shows q ok

pub shown0 : {w : View Echo} → At w at9 → verdict_answer echo_account w 0 ≡ Ok (Place 1)
unfolding bit
shown0 a = shown_at a 0 refl

pub shown1 : {w : View Echo} → At w at9 → verdict_answer echo_account w 1 ≡ Ok (Place 1)
unfolding bit
shown1 a = shown_at a 1 refl

pub shown2 : {w : View Echo} → At w at9 → verdict_answer echo_account w 2 ≡ Ok (Place 1)
unfolding bit
shown2 a = shown_at a 2 refl

module _ {K : Type 0} (rules : Rules K) where
  close9 : length rules.values ≡ 2 → close_fault state_account rules at9 1 ≡ None
  unfolding bit count vouched place_offers group_offers
  close9 two = ap (λ n. option_map ListCause (cond (eqb n 2) None (Some Length))) two

  pub may_close : {w : View Echo} → length rules.values ≡ 2 → At w at9 → close_fault echo_account rules w 1 ≡ None
  may_close two a = ap (λ z. close_fault state_account rules z 1) a.is ∙ close9 two

  charged9 : (q b : ℕ) → correct four q ≡ true → b < 64 → tally_answer state_account (after_close state_account rules at9) q b ≡ Ok (cond (charges rules (Place 1) b) 1 0)
  unfolding bit count vouched place_offers group_offers highest
  charged9 q b ok small =
      let one = ap (λ c. answer_by (first (option_map Value (cond c None (Some Block))) None) (cond (charges rules (Place 1) b) 1 0)) (lt-ltb b 64 small) in
      by_three (λ k. tally_answer state_account (after_close state_account rules at9) k b ≡ Ok (cond (charges rules (Place 1) b) 1 0)) one one one q ok

  pub one_charge : {w : View Echo} → At w at9 → (q b : ℕ) → correct four q ≡ true → b < 64 → tally_answer echo_account (after_close echo_account rules w) q b ≡ Ok (cond (charges rules (Place 1) b) 1 0)
  one_charge a q b ok small = ap (λ z. tally_answer state_account (after_close state_account rules z) q b) a.is ∙ charged9 q b ok small
