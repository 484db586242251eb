use Rattle.std.proofs.Common.{rules}
use Rattle.lists.specs.Lists.{FirstPlace}
use Rattle.lists.proofs.Places.{first_is}
use Rattle.lists.proofs.place.Goals as goal

pub returns-clause-is : goal.returns-clause-is
returns-clause-is g c =
    let first : FirstPlace g.K.Kind.same c.args.wanted.now c.args.values.now c.position.result = search rules in
    first_is g.K.Kind.same c.args.wanted.now c.args.values.now c.position.result first
