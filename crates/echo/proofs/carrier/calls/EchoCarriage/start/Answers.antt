use Rattle.std.proofs.Common.{sym, subst}
use Rattle.echo.specs.Consistent.{Consistent}
use Rattle.echo.specs.Kept.{fresh_consistent}
use Rattle.echo.proofs.Views.{fresh_view}
use Rattle.echo.proofs.carrier.calls.EchoCarriage.start.Goals as goal

pub invariant_of-self : goal.invariant_of-self
invariant_of-self c =
    let s = c.args.self.now.stage in
    let view = fresh_view s.group _ s.len _ _ c.restart.ensures _ c.blank.ensures _ c.new-self.ensures in
    record { consistent = ∣ subst Consistent (sym view) (fresh_consistent s.group s.len) ∣₁ }

pub returns : goal.returns
returns c = let s = c.args.self.now.stage in fresh_view s.group _ s.len _ _ c.restart.ensures _ c.blank.ensures _ c.new-self.ensures
