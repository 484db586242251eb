use Rattle.std.proofs.Common.{◌≡◌, ◌+◌, ◌-◌, ◌≤◌, [], length, vec_items, vec_len}
use Rattle.reader.specs.Lists.{acts_taken}
use Rattle.reader.specs.Reading.{left}
use Rattle.reader.proofs.Reader.acts.Given as goal

abbrev pub invariant-loop-self : goal.invariant-loop-self
invariant-loop-self g l =
    (length (left l.self) + vec_len l.acts ≤ length (left l.initial.self))
    × (acts_taken g.K.Written.reads (length (left l.initial.self)) [] l.initial.self
    ≡ acts_taken g.K.Written.reads (length (left l.initial.self) - vec_len l.acts) (vec_items l.acts) l.self)

abbrev pub decreases-loop-self : goal.decreases-loop-self
decreases-loop-self g l = length (left l.self)
