use Rattle.std.proofs.Common.{◌≡◌, rules, sym, refl, subst}
use mathlib.Core.Logic.{∥∥₁_map}
use Rattle.carriage.proofs.Allowed.{inject_allowed}
use Rattle.groups.proofs.Marked.{correct_below}
use Rattle.seal.specs.Cells.{blank}
use Rattle.seal.specs.Seals.{is_seal, known_seal, seal_model, state_of}
use Rattle.seal.specs.Sound.{Sound}
use Rattle.seal.specs.State.{inject_state}
use Rattle.seal.specs.View.{view_of}
use Rattle.seal.specs.Kept.{inject_sound, known_offered}
use Rattle.seal.proofs.Views.{inject_view}
use Rattle.seal.proofs.sealing.calls.SealCarriage.inject.Goals as goal
use Rattle.seal.proofs.sealing.calls.SealCarriage.inject.Goals.{After-update}

-- the table that the code leaves stands for the state after the call
view : (c : After-update) → let s = c.args.self.now in view_of s.stage.group s.stage.len s.stage.phase c.update.new.self.cells ≡ inject_state (state_of s) c.args.f
view c =
    let s = c.args.self.now in
    let f = c.args.f in
    let allowed = inject_allowed (is_seal f) (known_seal (state_of s) f) (seal_model s) f (sym c.in_ok-check_frame.ensures) in
    let made = c.update.ensures blank in
    inject_view s f.triple allowed.3 made.0 c.update.new.self.cells made.2 f refl (correct_below s.stage.group f.to allowed.1) (search rules)

pub invariant_of-self : goal.invariant_of-self
invariant_of-self c =
    let s = c.args.self.now in
    let f = c.args.f in
    let allowed = inject_allowed (is_seal f) (known_seal (state_of s) f) (seal_model s) f (sym c.in_ok-check_frame.ensures) in
    record { sound = ∥∥₁_map s.sound (λ h. subst Sound (sym (view c)) (inject_sound (state_of s) h f (known_offered (state_of s) f allowed.4))) }

pub returns : goal.returns
returns c =
    let allowed = c.in_ok-check_frame.ensures in
    record { refusal = allowed; does = (sym allowed, view (goal.at.returns c).After-update) }
