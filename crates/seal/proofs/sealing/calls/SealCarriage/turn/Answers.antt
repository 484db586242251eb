use Rattle.std.proofs.Common.{◌≡◌, rules, sym, ap, ◌∙◌, subst}
use mathlib.Core.Logic.{∥∥₁_map}
use Rattle.groups.specs.Groups.{correct}
use Rattle.seal.specs.Cells.{blank}
use Rattle.seal.specs.Seals.{state_of}
use Rattle.seal.specs.Sound.{Sound}
use Rattle.seal.specs.State.{turn_state}
use Rattle.seal.specs.View.{view_of}
use Rattle.seal.specs.Kept.{turn_sound}
use Rattle.seal.proofs.Views.{turn_view}
use Rattle.seal.proofs.sealing.calls.SealCarriage.turn.Goals as goal
use Rattle.seal.proofs.sealing.calls.SealCarriage.turn.Goals.{After-turn}

-- the table that the code leaves stands for the state after the call
view : (c : After-turn) → let n = c.in_ok-next.next in view_of n.group n.len n.phase c.turn.new.self.cells ≡ turn_state (state_of c.args.self.now)
view c =
    turn_view c.args.self.now _ _ _ c.in_ok-next.ensures.value c.correct_ones-correct.result (λ k. c.correct_ones-correct.ensures k ∙ ap (λ g. correct g k) c.group.ensures) c.turn.new.self.cells
    (λ k l. let made = c.turn.ensures k blank l in search rules)

pub invariant_of-self : goal.invariant_of-self
invariant_of-self c =
    let s = c.args.self.now in
    record { sound = ∥∥₁_map s.sound (λ h. subst Sound (sym (view c)) (turn_sound (state_of s) h)) }

pub returns : goal.returns
returns c =
    let goes = c.in_ok-next.ensures.refusal in
    record { refusal = goes; does = (sym goes, view (goal.at.returns c).After-turn) }
