use Rattle.std.proofs.Common.{sym, subst}
use Rattle.std.proofs.lemmas.Result.{MatchResult-at_ok}
use Rattle.agreement.specs.Extraction.{first_offers}
use Rattle.agreement.specs.Steps.{Offered, none, more}
use Rattle.bench.proofs.offers.start_shot.Goals as goal

pub returns-in-Some : goal.returns-in-Some
returns-in-Some g c =
    let offered = MatchResult-at_ok _ _ c.unwrap.result c.unwrap.ensures c.offer.ensures.does in
    let offers = subst (λ p. Offered g.C.Carriage c.start.new.self (first_offers c.args.sender p) c.offer.new.self) (sym c.in-Some.is) (more offered none) in
    record { fresh = c.start.new.self; starts = c.start.ensures; offers = offers }

pub returns-in_default : goal.returns-in_default
returns-in_default g c =
    let offers = subst (λ p. Offered g.C.Carriage c.start.new.self (first_offers c.args.sender p) c.start.new.self) (sym c.in_default.is) none in
    record { fresh = c.start.new.self; starts = c.start.ensures; offers = offers }
