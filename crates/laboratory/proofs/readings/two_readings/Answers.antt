use Rattle.std.proofs.Common.{◌∷◌, sym, ap, ◌∙◌}
use Rattle.std.specs.Result.{result_err}
use Rattle.std.proofs.lemmas.Result.{MatchResult-at_ok}
use Rattle.agreement.specs.Runs.{more}
use Rattle.agreement.specs.Steps.{taken, close}
use Rattle.agreement.specs.Views.{rules_of}
use Rattle.laboratory.proofs.Agreeing.{same_verdicts, same_tallies}
use Rattle.laboratory.proofs.readings.two_readings.Goals as goal

pub returns-clause-same : goal.returns-clause-same
returns-clause-same g c =
    let rules = rules_of g.K.Kind.same g.K.Kind.charge c.args.list.now in
    let open-bench = c.in_ok-bench.ensures in
    let played = c.in_ok-play.ensures in
    let told = open-bench.law played.played.events _ played.played.run in
    let closed = open-bench.law (taken (close 1) ∷ played.played.events) _ (more played.played.run (sym (sym (ap result_err c.unwrap.ensures) ∙ c.close.ensures.refusal), (MatchResult-at_ok _ _ c.unwrap.result c.unwrap.ensures c.close.ensures.does))) in (
      same_verdicts g.C.Carriage rules told c.args.q c.args.r _ _ (sym c.in_ok-first.ensures.is) (sym c.in_ok-second.ensures.is),
      same_tallies g.C.Carriage rules closed c.args.q c.args.r c.args.block _ _ (sym c.in_ok-first_tally.ensures) (sym c.in_ok-second_tally.ensures),
    )
