use Rattle.std.proofs.Common.{◌≡◌, false, sym, subst}
use Rattle.agreement.specs.Law.{AllAgree, opened}
use Rattle.agreement.specs.Views.{View, rules_of}
use Rattle.agreement.proofs.Agreement.{Keeps, agreement}
use Rattle.bench.specs.Tables.{in_set, tally_of}
use Rattle.bench.proofs.state.Bench.open.Goals as goal

pub returns-clause-law : goal.returns-clause-law
returns-clause-law g c =
    let rules = rules_of g.K.Kind.same g.K.Kind.charge c.args.list.now in
    let met = g.met.C.Carriage in
    let keeps : Keeps g.C.Carriage = record { lawful = met.lawful; starts = met.starts_afresh; offers = met.offers_one; injects = met.injects_nothing; turns = met.turns_on } in
    let view : ◌≡◌ {A = View g.row.C.Denot} (record { carriage = c.args.carriage; running = false; sender = 0; extracted = in_set c.empty.result; tally = tally_of c.empty-2.result; closed = 0 }) (opened c.args.carriage) =
    λ i. record { carriage = c.args.carriage; running = false; sender = 0; extracted = λ q v. c.empty.ensures q v i; tally = λ q b. c.empty-2.ensures q b i; closed = 0 } in
    subst (AllAgree g.C.Carriage rules) (sym view) (agreement g.C.Carriage rules keeps c.args.carriage)
