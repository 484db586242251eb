use Rattle.std.proofs.Common.{rules}
use Rattle.bench.specs.Tables.{holds}
use Rattle.bench.proofs.Single.{no_place, one_place, two_places}
use Rattle.bench.proofs.places.PlaceSet.verdict.Goals as goal

pub returns-in-Some-None : goal.returns-in-Some-None
returns-in-Some-None c =
    one_place _ _ (holds c.args.self.now) (λ x b q k. search rules) c.args.len c.filter-held.result c.next.new.self c.filter-held.ensures.source c.filter-held.ensures.closure c.next-2.new.self c.in-Some-None.place c.in-Some-None.ensures.steps c.in-Some-None.ensures'.steps

pub returns-in_default : goal.returns-in_default
returns-in_default c =
    two_places _ _ (holds c.args.self.now) (λ x b q k. search rules) c.args.len c.filter-held.result c.next.new.self c.filter-held.ensures.source c.filter-held.ensures.closure c.next-2.new.self c.in_default.field-0-0 c.in_default.field-0-1 c.in_default.ensures.steps c.in_default.ensures'.steps

pub returns-in_default-2 : goal.returns-in_default-2
returns-in_default-2 c =
    no_place _ _ (holds c.args.self.now) (λ x b q k. search rules) c.args.len c.filter-held.result c.next.new.self c.filter-held.ensures.source c.filter-held.ensures.closure (rw c.in_default.is-0 at c.next.ensures.steps)
