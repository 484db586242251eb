use Rattle.bench.specs.Tables.{in_set}
use Rattle.bench.proofs.Chains.{group_start, group_then, still_can}
use Rattle.bench.proofs.offers.offer_group.Goals as goal

pub loop-q-init : goal.loop-q-init
loop-q-init g c = group_start g.C.Carriage (in_set c.args.news.now) c.args.round c.args.carriage.now c.args.len

pub loop-q-preserved : goal.loop-q-preserved
loop-q-preserved g c =
    group_then g.C.Carriage (in_set c.args.news.now) c.args.round c.args.carriage.now c.loop-q.carriage c.offer_places.new.carriage c.args.len c.loop-q.q c.loop-q.invariant c.offer_places.ensures

pub offer_places-requires : goal.offer_places-requires
offer_places-requires g c = still_can g.C.Carriage g.met.C.Carriage.offers_one c.loop-q.invariant (in_set c.args.news.now) c.args.round c.requires
