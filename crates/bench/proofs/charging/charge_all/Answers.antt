use Rattle.std.proofs.Common.{ℕ, Bool, false, cond, ◌&&◌, eqb, length, sym, ap, ◌∙◌}
use Rattle.groups.specs.Groups.{correct}
use Rattle.agreement.specs.Extraction.{verdict_of}
use Rattle.agreement.specs.Steps.{charges, raised}
use Rattle.agreement.specs.Views.{rules_of}
use Rattle.bench.specs.Tables.{in_set, tally_of}
use Rattle.bench.proofs.Charges.{charged_more, none_charged}
use Rattle.bench.proofs.charging.charge_all.Goals as goal
use Rattle.bench.proofs.charging.charge_all.Goals.{then-is_correct, else-is_correct}

pub loop-q-preserved : goal.loop-q-preserved
loop-q-preserved g c p b =
    let rules = rules_of g.K.Kind.same g.K.Kind.charge c.args.list.now in
    let verdict = λ (k : ℕ). verdict_of (length c.args.list.now) (in_set c.args.extracted.now k) in
    let test : ℕ → Bool = λ k. correct c.args.group.now k && charges rules (verdict k) b in
    let q = c.loop-q.q in
    let sofar = tally_of c.loop-q.registers p b in
    let old = tally_of c.args.registers.now p b in
    elim c.if-is_correct.branch [
      | then-is_correct w ↦
          charged_more test p old q sofar _ (charges rules (verdict q) b) (ap (λ x. x && charges rules (verdict q) b) (sym c.is_correct.ensures ∙ w.if-is_correct.true)) (c.loop-q.invariant p b)
          (ap (λ x. tally_of x p b) w.registers-is ∙ w.charge_one.ensures p b ∙ ap (λ d. cond (eqb p q && charges rules d b) (raised sofar) sofar) w.verdict-verdict.ensures)
      | else-is_correct w ↦
          charged_more test p old q sofar _ false (ap (λ x. x && charges rules (verdict q) b) (sym c.is_correct.ensures ∙ w.if-is_correct.false)) (c.loop-q.invariant p b)
          (ap (λ x. tally_of x p b) w.registers-is ∙ none_charged (eqb p q) sofar)
    ]
