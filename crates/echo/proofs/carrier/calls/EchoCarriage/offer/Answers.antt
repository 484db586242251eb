use Rattle.std.proofs.Common.{◌≡◌, rules, sym, subst}
use mathlib.Core.Logic.{∥∥₁_map}
use Rattle.carriage.proofs.Allowed.{offer_allowed}
use Rattle.echo.specs.Cells.{blank}
use Rattle.echo.specs.Echoes.{echo_model, state_of}
use Rattle.echo.specs.Consistent.{Consistent}
use Rattle.echo.specs.State.{offer_state}
use Rattle.echo.specs.View.{view_of}
use Rattle.echo.specs.Kept.{offer_consistent}
use Rattle.echo.proofs.Views.{offer_view}
use Rattle.echo.proofs.carrier.calls.EchoCarriage.offer.Goals as goal
use Rattle.echo.proofs.carrier.calls.EchoCarriage.offer.Goals.{After-update}

-- the table that the code leaves stands for the state after the call
view : (c : After-update) → let s = c.args.self.now in view_of s.stage.group s.stage.len s.stage.phase c.update.new.self.cells ≡ offer_state (state_of s) c.args.x
view c =
    let allowed = offer_allowed (echo_model c.args.self.now) c.args.x (sym c.in_ok-check_offer.ensures) in
    let made = c.update.ensures blank in
    offer_view c.args.self.now c.args.x allowed.0 made.0 c.update.new.self.cells made.2 (search rules)

pub invariant_of-self : goal.invariant_of-self
invariant_of-self c =
    let s = c.args.self.now in
    let allowed = offer_allowed (echo_model s) c.args.x (sym c.in_ok-check_offer.ensures) in
    record { consistent = ∥∥₁_map s.consistent (λ h. subst Consistent (sym (view c)) (offer_consistent (state_of s) h c.args.x allowed.0 allowed.1 allowed.2)) }

pub returns : goal.returns
returns c =
    let allowed = c.in_ok-check_offer.ensures in
    record { refusal = allowed; does = (sym allowed, view (goal.at.returns c).After-update) }
