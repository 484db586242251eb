-- A turn: its moment, and that the first phase of a round adds and offers nothing; and a value that may be sent. Assumes nothing.
use Rattle.std.proofs.Common.{◌≡◌, ℕ, ◌+◌, ◌/◌, ◌%◌, ◌<◌, Bool, true, false, cond, ◌&&◌, ◌||◌, eqb, leb, [], Some, None, Option, sym, refl, ap, ◌∙◌}
use mathlib.Core.Path.{fun_ext}
use Rattle.std.proofs.lemmas.Bool.{both_ways, eqb-true, cond-false}
use Rattle.carriage.specs.Model.{Model, is_correct, end_phase, turn_fault}
use Rattle.agreement.specs.Extraction.{extracts, is_new_to, sets_after, group_offers, offers_after}
use Rattle.agreement.specs.Views.{moment_at, fits}
use Rattle.agreement.specs.declared.moments.Act.TheVariants.{Turn}
use Rattle.agreement.specs.declared.moments.Moment.TheVariants.{Running, Ended}
use Rattle.bench.specs.Inner.{Startable}

-- a value that was given has a correct sender and a place on the list
pub startable : (m : Model) (s : ℕ) (place : Option ℕ) → ((p : ℕ) → place ≡ Some p → (is_correct m s ≡ true) × (p < m.len)) → Startable m s place
startable m s None right = tt
startable m s (Some p) right = right p refl

-- a turn comes while a shot runs, in the phase that it names, and that is not past the last one
pub turn_now : (running : Bool) (m : Model) (closed p : ℕ) → fits (moment_at running m) closed (Turn p) ≡ true → (running ≡ true) × (p ≡ m.phase) × (turn_fault m ≡ None)
turn_now false m closed p e = absurd (both_ways false refl e)
turn_now true m closed p e = let w = go (eqb m.phase (end_phase m.group)) refl e in (refl, w.0, w.1)
  where
    go : (b : Bool) → eqb m.phase (end_phase m.group) ≡ b → fits (cond b Ended (Running m.phase)) closed (Turn p) ≡ true → (p ≡ m.phase) × (turn_fault m ≡ None)
    go true f h = absurd (both_ways false refl h)
    go false f h = (eqb-true p m.phase h, cond-false (eqb m.phase (end_phase m.group)) _ _ f)

module _ (n : Model) (s : ℕ) (before : ℕ → ℕ → Bool) (k : ℕ) where
  -- the first phase of a round
  pub odd_offers : eqb (k % 2) 0 ≡ false → [] ≡ offers_after n s before k
  odd_offers odd = ap (λ b. cond (b && leb (k / 2) n.group.t) (group_offers (is_new_to n s before (k / 2)) (k / 2 + 1) n.len n.group.n) []) (sym odd)

  pub odd_sets : eqb (k % 2) 0 ≡ false → before ≡ sets_after n s before k
  odd_sets odd = fun_ext (λ q. fun_ext (λ v. or_false (before q v) ∙ ap (λ b. before q v || (b && extracts n q v s (k / 2))) (sym odd)))
    where
      or_false : (x : Bool) → x ≡ (x || false)
      or_false true = refl
      or_false false = refl
