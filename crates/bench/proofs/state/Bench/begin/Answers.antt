use Rattle.std.proofs.Common.{sym, ◌∙◌}
use Rattle.std.specs.Option.{option_map}
use Rattle.agreement.specs.Views.{rules_of}
use Rattle.agreement.proofs.Beginning.{may_begin, given_right}
use Rattle.bench.specs.Views.{view_of}
use Rattle.bench.proofs.Turning.{startable}
use Rattle.bench.proofs.state.Bench.begin.Goals as goal

pub start-requires : goal.start-requires
start-requires g c =
    let rules = rules_of g.K.Kind.same g.K.Kind.charge c.args.list.now in
    let view = view_of c.args.self.now in
    let value = option_map (λ x. x.now) c.args.value in
    let found = c.in_ok-place.ensures in
    let may = may_begin g.C.Carriage rules view c.args.sender value (sym found.refusal) in
    (may.closed, startable (g.C.Carriage.model c.args.self.now.carriage) c.args.sender _ (λ p e. given_right g.C.Carriage rules view c.args.sender value may p (sym found.place ∙ e)))
