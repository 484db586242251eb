-- A bench between two calls: what it keeps, and which moment of a shot that is. Assumes nothing.
use Rattle.std.specs.Prelude.{ℕ, ◌+◌, Bool, true, false, cond, List, Option, ◌==◌}
use Rattle.carriage.specs.Model.{Model, end_phase}
use Rattle.carriage.specs.declared.meaning.Carriage.{Ghosts as Account}
use Rattle.agreement.specs.declared.moments.Moment.{Moment}
use Rattle.agreement.specs.declared.moments.Moment.TheVariants.{Idle, Running, Ended}
use Rattle.agreement.specs.declared.moments.Act.{Act}
use Rattle.agreement.specs.declared.moments.Act.TheVariants.{Begin, Inject, Turn, Verdict, Close}

-- the carriage itself, the running shot and its sender, who extracted which places, what each controller's register
-- holds for each block, and how many shots are closed
pub record View (C : Type 0) : Type 0 where
  pub carriage : C
  pub running : Bool
  pub sender : ℕ
  pub extracted : ℕ → ℕ → Bool
  pub tally : ℕ → ℕ → ℕ
  pub closed : ℕ

-- a kind of value, and the list of values that a bench works with
pub record Rules (K : Type 0) : Type 0 where
  pub same : K → K → Bool
  pub charge : K → Option ℕ
  pub values : List K

abbrev pub rules_of : {K : Type 0} → (K → K → Bool) → (K → Option ℕ) → List K → Rules K
rules_of same charge values = record { same = same; charge = charge; values = values }

-- all phases are had once the carriage is past the last one
abbrev pub moment_at : Bool → Model → Moment
moment_at running m = cond running (cond (m.phase == end_phase m.group) Ended (Running m.phase)) Idle

module _ {C : Type 0} (account : Account C) where
  abbrev pub model_of : View C → Model
  model_of v = account.model v.carriage

  abbrev pub moment_of : View C → Moment
  moment_of v = moment_at v.running (model_of v)

-- which acts fit which moment: a turn names the current phase, a close the current shot
abbrev pub fits : Moment → ℕ → Act → Bool
fits Idle closed Begin = true
fits Idle closed Inject = false
fits Idle closed (Turn k) = false
fits Idle closed Verdict = false
fits Idle closed (Close s) = false
fits (Running k) closed Begin = false
fits (Running k) closed Inject = true
fits (Running k) closed (Turn p) = p == k
fits (Running k) closed Verdict = false
fits (Running k) closed (Close s) = false
fits Ended closed Begin = false
fits Ended closed Inject = false
fits Ended closed (Turn k) = false
fits Ended closed Verdict = true
fits Ended closed (Close s) = s == closed + 1
