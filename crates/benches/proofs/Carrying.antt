-- A run of a bench takes its carriage through a run of its own. Assumes nothing.
use Rattle.std.proofs.Common.{◌≡◌, List, sym, subst}
use Rattle.agreement.specs.Runs.{Run, none, more}
use Rattle.agreement.specs.Steps.{Event, taken, refused, begin, inject, turn, close, Step, Offered}
use Rattle.agreement.specs.Views.{View, Rules}
use Rattle.carriage.specs.Runs.{Event as Carrying, Ran}
use Rattle.carriage.specs.declared.frames.Triple.{Triple}
use Rattle.carriage.specs.declared.meaning.Carriage.{Ghosts as Account}
use Rattle.benches.specs.Carried.{after_offers, carried_by, carried, CarriedOut}

module _ {C K : Type 0} (account : Account C) (rules : Rules K) where
  offers_ran : {b c d : C} {xs : List Triple} {es : List Carrying} → Offered account c xs d → Ran account b es c → Ran account b (after_offers xs es) d
  offers_ran Offered.none ran = ran
  offers_ran (Offered.more o rest) ran = offers_ran rest (Ran.offered ran o)

  step_ran : (e : Event K) (v w : View C) (step : Step account rules v e w) {b : C} {es : List Carrying} → Ran account b es v.carriage → Ran account b (carried_by account rules e v w step es) w.carriage
  step_ran (taken (begin s x)) v w step ran = offers_ran step.1.offers (Ran.started ran step.1.starts)
  step_ran (taken (inject f)) v w step ran = Ran.injected ran step.1.injects
  step_ran (taken (turn k)) v w step ran = offers_ran step.1.offers (Ran.turned ran step.1.turns)
  step_ran (taken (close s)) v w step {b} {es} ran = subst (λ z. Ran account b es z.carriage) (sym step.1) ran
  step_ran (refused c) v w step {b} {es} ran = subst (λ z. Ran account b es z.carriage) (sym step.2) ran

  pub carried_out : (u : View C) → CarriedOut account rules u
  carried_out u es w none = Ran.none
  carried_out u es w (more {v = v} {e = e} run step) = step_ran e v w step (carried_out u _ v run)

  -- what a carriage tells of every run of its own, it tells of the bench's runs
  pub told_through : (P : List Carrying → C → Type 0) (u : View C) (c : C) → u.carriage ≡ c → ((es : List Carrying) (d : C) → Ran account c es d → P es d)
      → (es : List (Event K)) (w : View C) (run : Run account rules u es w) → P (carried account rules run) w.carriage
  told_through P u c is tells es w run = tells (carried account rules run) w.carriage (subst (λ k. Ran account k (carried account rules run) w.carriage) is (carried_out u es w run))
