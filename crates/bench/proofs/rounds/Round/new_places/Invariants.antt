use Rattle.std.proofs.Common.{◌≡◌, ℕ, ◌&&◌, ltb}
use Rattle.agreement.specs.Extraction.{is_new_to}
use Rattle.bench.specs.Tables.{in_set}
use Rattle.bench.proofs.rounds.Round.new_places.Given as goal

abbrev pub invariant-loop-q : goal.invariant-loop-q
invariant-loop-q g l =
    (p w : ℕ) → in_set l.news p w ≡ (ltb p l.q && is_new_to (g.C.Carriage.model l.self.carriage.now) l.self.sender (in_set l.self.before.now) l.self.number p w)
