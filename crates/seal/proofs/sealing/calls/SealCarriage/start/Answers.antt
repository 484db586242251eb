use Rattle.std.proofs.Common.{sym, subst}
use Rattle.seal.specs.Sound.{Sound}
use Rattle.seal.specs.Kept.{fresh_sound}
use Rattle.seal.proofs.Views.{fresh_view}
use Rattle.seal.proofs.sealing.calls.SealCarriage.start.Goals as goal

pub invariant_of-self : goal.invariant_of-self
invariant_of-self c =
    let s = c.args.self.now.stage in
    let view = fresh_view s.group _ s.len _ _ c.restart.ensures _ c.blank.ensures _ c.new-self.ensures in
    record { sound = ∣ subst Sound (sym view) (fresh_sound s.group s.len) ∣₁ }

pub returns : goal.returns
returns c = let s = c.args.self.now.stage in fresh_view s.group _ s.len _ _ c.restart.ensures _ c.blank.ensures _ c.new-self.ensures
