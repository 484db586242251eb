use Rattle.std.proofs.Common.{◌≡◌, rules, sym, subst}
use mathlib.Core.Logic.{∥∥₁_map}
use Rattle.carriage.proofs.Allowed.{offer_allowed}
use Rattle.seal.specs.Cells.{blank}
use Rattle.seal.specs.Seals.{seal_model, state_of}
use Rattle.seal.specs.Sound.{Sound}
use Rattle.seal.specs.State.{offer_state}
use Rattle.seal.specs.View.{view_of}
use Rattle.seal.specs.Kept.{offer_sound}
use Rattle.seal.proofs.Views.{offer_view}
use Rattle.seal.proofs.sealing.calls.SealCarriage.offer.Goals as goal
use Rattle.seal.proofs.sealing.calls.SealCarriage.offer.Goals.{After-update}

-- the table that the code leaves stands for the state after the call
view : (c : After-update) → let s = c.args.self.now in view_of s.stage.group s.stage.len s.stage.phase c.update.new.self.cells ≡ offer_state (state_of s) c.args.x
view c =
    let allowed = offer_allowed (seal_model c.args.self.now) c.args.x (sym c.in_ok-check_offer.ensures) in
    let made = c.update.ensures blank in
    offer_view c.args.self.now c.args.x allowed.0 made.0 c.update.new.self.cells made.2 (search rules)

pub invariant_of-self : goal.invariant_of-self
invariant_of-self c =
    let s = c.args.self.now in
    let allowed = offer_allowed (seal_model s) c.args.x (sym c.in_ok-check_offer.ensures) in
    record { sound = ∥∥₁_map s.sound (λ h. subst Sound (sym (view c)) (offer_sound (state_of s) h c.args.x allowed.0 allowed.1 allowed.2)) }

pub returns : goal.returns
returns c =
    let allowed = c.in_ok-check_offer.ensures in
    record { refusal = allowed; does = (sym allowed, view (goal.at.returns c).After-update) }
