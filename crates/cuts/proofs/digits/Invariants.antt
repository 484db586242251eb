use Rattle.std.proofs.Common.{◌≡◌, ◌<◌, drop}
use Rattle.cuts.specs.Cuts.{digits_from}
use Rattle.cuts.proofs.digits.Given as goal

abbrev pub invariant-loop-b : goal.invariant-loop-b
invariant-loop-b l = (l.n < 65536) × (digits_from 0 l.field ≡ digits_from l.n (drop l.b-index l.field))
