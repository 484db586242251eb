use Rattle.std.proofs.Common.{◌≡◌, ℕ, suc, ◌+◌, ◌-◌, sym, ap, ◌∙◌, subst, arith}
use Rattle.std.specs.Result.{result_err}
use Rattle.std.proofs.lemmas.Result.{MatchResult-at_ok}
use Rattle.agreement.specs.Refusals.{turn_refusal}
use Rattle.agreement.proofs.Agreement.{Keeps}
use Rattle.bench.specs.Views.{view_of}
use Rattle.bench.proofs.Chains.{taken}
use Rattle.laboratory.specs.Passing.{Passed}
use Rattle.laboratory.proofs.Moving.{next_fine}
use Rattle.laboratory.proofs.passes.turn_all.Goals as goal

pub loop-phase-init : goal.loop-phase-init
loop-phase-init g c = Passed.none

pub unwrap-requires : goal.unwrap-requires
unwrap-requires g c =
    let met = g.met.C.Carriage in
    let keeps : Keeps g.C.Carriage = record { lawful = met.lawful; starts = met.starts_afresh; offers = met.offers_one; injects = met.injects_nothing; turns = met.turns_on } in
    let here : c.loop-phase.phase - 1 + 1 ≡ c.loop-phase.phase = omega arith in
    taken c.turn.result _ c.turn.ensures.refusal
    (ap (turn_refusal g.C.Carriage (view_of c.loop-phase.bench)) (sym here) ∙ next_fine g.C.Carriage keeps (view_of c.args.bench.now) (view_of c.loop-phase.bench) c.args.count (c.loop-phase.phase - 1) c.requires (omega arith) c.loop-phase.invariant)

pub loop-phase-preserved : goal.loop-phase-preserved
loop-phase-preserved g c =
    let here : suc (c.loop-phase.phase - 1) ≡ c.loop-phase.phase = omega arith in
    let next : suc (c.loop-phase.phase - 1) ≡ c.loop-phase.phase + 1 - 1 = omega arith in
    let fine = ap (turn_refusal g.C.Carriage (view_of c.loop-phase.bench)) here ∙ sym c.turn.ensures.refusal ∙ ap result_err c.unwrap.ensures in
    subst (λ (k : ℕ). Passed g.C.Carriage (view_of c.args.bench.now) k (view_of c.turn.new.self)) next
    (Passed.turned c.loop-phase.invariant fine (MatchResult-at_ok _ _ c.unwrap.result c.unwrap.ensures c.turn.ensures.does))
