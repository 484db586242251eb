use Rattle.std.proofs.Common.{sym, refl, subst}
use Rattle.echo.specs.Consistent.{Consistent}
use Rattle.echo.specs.Kept.{fresh_consistent}
use Rattle.echo.proofs.Told.{tells_the_run}
use Rattle.echo.proofs.Views.{fresh_view}
use Rattle.echo.proofs.carrier.Echo.new.Goals as goal

pub invariant_of-result : goal.invariant_of-result
invariant_of-result c =
    let view = fresh_view c.args.group _ c.args.len _ _ c.in_ok-new.ensures.value _ c.blank.ensures _ c.new-2.ensures in
    record { consistent = ∣ subst Consistent (sym view) (fresh_consistent c.args.group c.args.len) ∣₁ }

pub returns-clause-value : goal.returns-clause-value
returns-clause-value c = fresh_view c.args.group _ c.args.len _ _ c.in_ok-new.ensures.value _ c.blank.ensures _ c.new-2.ensures

pub returns-clause-runs : goal.returns-clause-runs
returns-clause-runs c = tells_the_run _ (fresh_view _ _ _ _ _ (refl, refl, c.in_ok-new.ensures.value.2) _ c.blank.ensures _ c.new-2.ensures)
