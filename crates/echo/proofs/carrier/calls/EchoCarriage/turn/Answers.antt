use Rattle.std.proofs.Common.{◌≡◌, rules, sym, subst}
use mathlib.Core.Logic.{∥∥₁_map}
use Rattle.echo.specs.Cells.{blank}
use Rattle.echo.specs.Echoes.{state_of}
use Rattle.echo.specs.Consistent.{Consistent}
use Rattle.echo.specs.State.{turn_state}
use Rattle.echo.specs.View.{view_of}
use Rattle.echo.specs.Kept.{turn_consistent}
use Rattle.echo.proofs.Views.{turn_view}
use Rattle.echo.proofs.carrier.calls.EchoCarriage.turn.Goals as goal
use Rattle.echo.proofs.carrier.calls.EchoCarriage.turn.Goals.{After-turn}

-- the table that the code leaves stands for the state after the call
view : (c : After-turn) → let n = c.in_ok-next.next in view_of n.group n.len n.phase c.turn.new.self.cells ≡ turn_state (state_of c.args.self.now)
view c =
    turn_view c.args.self.now _ _ _ c.in_ok-next.ensures.value c.turn.new.self.cells (λ k l. let made = c.turn.ensures k blank l in search rules)

pub invariant_of-self : goal.invariant_of-self
invariant_of-self c =
    let s = c.args.self.now in
    record { consistent = ∥∥₁_map s.consistent (λ h. subst Consistent (sym (view c)) (turn_consistent (state_of s) h)) }

pub returns : goal.returns
returns c =
    let goes = c.in_ok-next.ensures.refusal in
    record { refusal = goes; does = (sym goes, view (goal.at.returns c).After-turn) }
