use Rattle.std.proofs.Common.{◌+◌, ◌*◌, sym, ap, ◌∙◌}
use Rattle.agreement.proofs.Agreement.{Keeps}
use Rattle.laboratory.proofs.Moving.{turnable, played_by}
use Rattle.laboratory.proofs.passes.play.Given as given
use Rattle.laboratory.proofs.passes.play.Goals as goal

keeps : (g : given.Over) → Keeps g.C.Carriage
keeps g = let met = g.met.C.Carriage in record { lawful = met.lawful; starts = met.starts_afresh; offers = met.offers_one; injects = met.injects_nothing; turns = met.turns_on }

pub turn_all-requires : goal.turn_all-requires
turn_all-requires g c =
    turnable g.C.Carriage (keeps g) _ _ _ _ _ _ c.in_ok-begin.ensures.does c.inject_all.ensures (ap (λ t. 2 * (t + 1)) (c.t.ensures ∙ ap (λ k. k.t) c.group.ensures))

pub returns-clause-played : goal.returns-clause-played
returns-clause-played g c =
    let begun = c.in_ok-begin.ensures in
    played_by g.C.Carriage _ (keeps g) _ _ _ _ _ _ _ (sym begun.refusal) begun.does c.inject_all.ensures (ap (λ t. 2 * (t + 1)) (c.t.ensures ∙ ap (λ k. k.t) c.group.ensures))
    c.turn_all.ensures
