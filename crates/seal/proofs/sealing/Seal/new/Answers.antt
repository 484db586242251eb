use Rattle.std.proofs.Common.{sym, refl, subst}
use Rattle.seal.specs.Sound.{Sound}
use Rattle.seal.specs.Kept.{fresh_sound}
use Rattle.seal.proofs.Told.{tells_the_run}
use Rattle.seal.proofs.Views.{fresh_view}
use Rattle.seal.proofs.sealing.Seal.new.Goals as goal

pub invariant_of-result : goal.invariant_of-result
invariant_of-result c =
    let view = fresh_view c.args.group _ c.args.len _ _ c.in_ok-new.ensures.value _ c.blank.ensures _ c.new-2.ensures in
    record { sound = ∣ subst Sound (sym view) (fresh_sound c.args.group c.args.len) ∣₁ }

pub returns-clause-value : goal.returns-clause-value
returns-clause-value c = fresh_view c.args.group _ c.args.len _ _ c.in_ok-new.ensures.value _ c.blank.ensures _ c.new-2.ensures

pub returns-clause-runs : goal.returns-clause-runs
returns-clause-runs c = tells_the_run _ (fresh_view _ _ _ _ _ (refl, refl, c.in_ok-new.ensures.value.2) _ c.blank.ensures _ c.new-2.ensures)
