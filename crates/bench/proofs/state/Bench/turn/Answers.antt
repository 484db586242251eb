use Rattle.std.proofs.Common.{◌≡◌, ℕ, ◌%◌, false, eqb, List, None, sym, refl, ap, ◌∙◌, subst}
use Rattle.std.proofs.lemmas.Bool.{ne_eqb}
use Rattle.std.proofs.lemmas.Result.{MatchResult-at_ok}
use Rattle.carriage.specs.declared.frames.Triple.{Triple}
use Rattle.agreement.specs.Extraction.{sets_after, offers_after}
use Rattle.agreement.specs.Steps.{Offered, none}
use Rattle.agreement.proofs.Beginning.{passed}
use Rattle.bench.specs.Shots.{is_running, sender_in}
use Rattle.bench.specs.Tables.{in_set}
use Rattle.bench.proofs.Turning.{turn_now, odd_offers, odd_sets}
use Rattle.bench.proofs.state.Bench.turn.Goals as goal

pub returns-else-phase-eq0 : goal.returns-else-phase-eq0
returns-else-phase-eq0 g c =
    let self = c.args.self.now in
    let m = g.C.Carriage.model self.carriage in
    let s = sender_in self.progress.shot in
    let before = in_set self.extracted in
    let turned = c.turn.new.self in
    let n = g.C.Carriage.model turned in
    let now-is = turn_now (is_running self.progress.shot) m self.progress.closed c.args.phase (passed _ None _ (sym c.in_ok-check_moment.ensures)).0 in
    let odd : eqb (c.args.phase % 2) 0 ≡ false = ne_eqb (c.args.phase % 2) 0 c.if-phase-eq0.false in
    let listed = odd_offers n s before c.args.phase odd ∙ ap (λ (k : ℕ). offers_after n s before k) now-is.1 in
    record {
      refusal = c.in_ok-check_moment.ensures;
      does = record {
        turned = turned;
        turns = (MatchResult-at_ok _ _ c.unwrap.result c.unwrap.ensures c.turn.ensures.does);
        offers = subst (λ (xs : List Triple). Offered g.C.Carriage turned xs turned) listed none;
        running = refl;
        sender = refl;
        extracted = odd_sets n s before c.args.phase odd ∙ ap (λ (k : ℕ). sets_after n s before k) now-is.1;
        tally = refl;
        closed = refl;
      };
    }
