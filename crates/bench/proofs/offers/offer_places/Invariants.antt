use Rattle.agreement.specs.Extraction.{place_offers}
use Rattle.agreement.specs.Steps.{Offered}
use Rattle.bench.specs.Tables.{in_set}
use Rattle.bench.proofs.offers.offer_places.Given as goal

abbrev pub invariant-loop-v : goal.invariant-loop-v
invariant-loop-v g l = Offered g.C.Carriage l.initial.carriage (place_offers (in_set l.news) l.round l.q l.v) l.carriage
