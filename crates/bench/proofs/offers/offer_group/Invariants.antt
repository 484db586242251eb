use Rattle.agreement.specs.Extraction.{group_offers}
use Rattle.agreement.specs.Steps.{Offered}
use Rattle.bench.specs.Tables.{in_set}
use Rattle.bench.proofs.offers.offer_group.Given as goal

abbrev pub invariant-loop-q : goal.invariant-loop-q
invariant-loop-q g l = Offered g.C.Carriage l.initial.carriage (group_offers (in_set l.news) l.round l.len l.q) l.carriage
