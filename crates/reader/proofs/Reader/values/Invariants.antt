use Rattle.std.proofs.Common.{◌≡◌, ◌+◌, ◌-◌, [], vec_items}
use Rattle.reader.specs.Lists.{values_taken}
use Rattle.reader.proofs.Reader.values.Given as goal

abbrev pub invariant-loop-i : goal.invariant-loop-i
invariant-loop-i g l =
    values_taken g.K.Written.reads g.K.Kind.same l.count [] l.initial.self
    ≡ values_taken g.K.Written.reads g.K.Kind.same (l.count + 1 - l._i) (vec_items l.values) l.self
