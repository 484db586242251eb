use Rattle.std.proofs.Common.{◌≡◌, rules, sym, refl, subst}
use mathlib.Core.Logic.{∥∥₁_map}
use Rattle.carriage.proofs.Allowed.{inject_allowed}
use Rattle.echo.specs.Cells.{blank}
use Rattle.echo.specs.Echoes.{is_echo_letter, any_seal, echo_model, state_of}
use Rattle.echo.specs.Consistent.{Consistent}
use Rattle.echo.specs.State.{inject_state}
use Rattle.echo.specs.View.{view_of}
use Rattle.echo.specs.Kept.{inject_consistent}
use Rattle.echo.proofs.Views.{inject_view}
use Rattle.echo.proofs.carrier.calls.EchoCarriage.inject.Goals as goal
use Rattle.echo.proofs.carrier.calls.EchoCarriage.inject.Goals.{After-update}

-- the table that the code leaves stands for the state after the call
view : (c : After-update) → let s = c.args.self.now in view_of s.stage.group s.stage.len s.stage.phase c.update.new.self.cells ≡ inject_state (state_of s) c.args.f
view c =
    let s = c.args.self.now in
    let f = c.args.f in
    let allowed = inject_allowed (is_echo_letter f) (any_seal f) (echo_model s) f (sym c.in_ok-check_frame.ensures) in
    let made = c.update.ensures blank in
    inject_view s f.triple allowed.3 made.0 c.update.new.self.cells made.2 f refl allowed.1 (search rules)

pub invariant_of-self : goal.invariant_of-self
invariant_of-self c =
    let s = c.args.self.now in
    let f = c.args.f in
    let allowed = inject_allowed (is_echo_letter f) (any_seal f) (echo_model s) f (sym c.in_ok-check_frame.ensures) in
    record { consistent = ∥∥₁_map s.consistent (λ h. subst Consistent (sym (view c)) (inject_consistent (state_of s) h f allowed.0)) }

pub returns : goal.returns
returns c =
    let allowed = c.in_ok-check_frame.ensures in
    record { refusal = allowed; does = (sym allowed, view (goal.at.returns c).After-update) }
