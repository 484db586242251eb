use Rattle.std.proofs.Common.{◌-◌}
use Rattle.bench.specs.Views.{view_of}
use Rattle.laboratory.specs.Passing.{Passed}
use Rattle.laboratory.proofs.passes.turn_all.Given as goal

abbrev pub invariant-loop-phase : goal.invariant-loop-phase
invariant-loop-phase g l = Passed g.C.Carriage (view_of l.initial.bench) (l.phase - 1) (view_of l.bench)
