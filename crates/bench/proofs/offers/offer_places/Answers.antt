use Rattle.std.proofs.Common.{◌≡◌, ◌+◌, sym, ◌∙◌, subst, arith}
use Rattle.std.proofs.lemmas.Result.{MatchResult-at_ok}
use Rattle.agreement.specs.Extraction.{place_offers}
use Rattle.agreement.specs.Steps.{Offered}
use Rattle.bench.specs.Tables.{in_set}
use Rattle.bench.proofs.Chains.{place_start, place_then, place_else, still_can, offerable_taken, taken}
use Rattle.bench.proofs.offers.offer_places.Goals as goal
use Rattle.bench.proofs.offers.offer_places.Goals.{then-contains, else-contains}

pub loop-v-init : goal.loop-v-init
loop-v-init g c = place_start g.C.Carriage (in_set c.args.news.now) c.args.round c.args.carriage.now c.args.q

pub loop-v-preserved : goal.loop-v-preserved
loop-v-preserved g c =
    let test = in_set c.args.news.now in
    let start = c.args.carriage.now in
    elim c.if-contains.branch [
      | then-contains w ↦
          subst (Offered g.C.Carriage start (place_offers test c.args.round c.args.q (c.loop-v.v + 1))) (sym w.carriage-is)
          (place_then g.C.Carriage test c.args.round start c.loop-v.carriage _ c.args.q c.loop-v.v c.loop-v.invariant (sym c.contains.ensures ∙ w.if-contains.true) (MatchResult-at_ok _ _ w.unwrap.result w.unwrap.ensures w.offer.ensures.does))
      | else-contains w ↦
          subst (Offered g.C.Carriage start (place_offers test c.args.round c.args.q (c.loop-v.v + 1))) (sym w.carriage-is)
          (place_else g.C.Carriage test c.args.round start c.loop-v.carriage c.args.q c.loop-v.v c.loop-v.invariant (sym c.contains.ensures ∙ w.if-contains.false))
    ]

pub unwrap-requires : goal.unwrap-requires
unwrap-requires g c =
    let test = in_set c.args.news.now in
    let can = still_can g.C.Carriage g.met.C.Carriage.offers_one c.loop-v.invariant test c.args.round c.requires in
    taken c.offer.result _ c.offer.ensures.refusal (offerable_taken (g.C.Carriage.model c.loop-v.carriage) test c.args.round c.args.q c.loop-v.v can (sym c.if-contains.ensures))

pub returns : goal.returns
returns g c =
    let test = in_set c.args.news.now in
    let done : c.loop-v.v ≡ c.args.len = omega arith in
    subst (λ n. Offered g.C.Carriage c.args.carriage.now (place_offers test c.args.round c.args.q n) c.loop-v.carriage) done c.loop-v.invariant
