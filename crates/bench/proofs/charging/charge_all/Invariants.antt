use Rattle.std.proofs.Common.{◌≡◌, ℕ, cond, ◌&&◌, ltb, length}
use Rattle.groups.specs.Groups.{correct}
use Rattle.agreement.specs.Extraction.{verdict_of}
use Rattle.agreement.specs.Steps.{charges, raised}
use Rattle.agreement.specs.Views.{rules_of}
use Rattle.bench.specs.Tables.{in_set, tally_of}
use Rattle.bench.proofs.charging.charge_all.Given as goal

abbrev pub invariant-loop-q : goal.invariant-loop-q
invariant-loop-q g l =
    (p b : ℕ) → tally_of l.registers p b ≡ cond (ltb p l.q && (correct l.group p && charges (rules_of g.K.Kind.same g.K.Kind.charge l.list) (verdict_of (length l.list) (in_set l.extracted p)) b)) (raised (tally_of l.initial.registers p b)) (tally_of l.initial.registers p b)
