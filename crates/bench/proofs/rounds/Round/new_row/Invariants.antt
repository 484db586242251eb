use Rattle.std.proofs.Common.{◌≡◌, ℕ, ◌&&◌, ltb}
use Rattle.agreement.specs.Extraction.{is_new_to}
use Rattle.bench.specs.Tables.{holds, in_set}
use Rattle.bench.proofs.rounds.Round.new_row.Given as goal

abbrev pub invariant-loop-v : goal.invariant-loop-v
invariant-loop-v g l =
    (w : ℕ) → holds l.row w ≡ (ltb w l.v && is_new_to (g.C.Carriage.model l.self.carriage.now) l.self.sender (in_set l.self.before.now) l.self.number l.q w)
