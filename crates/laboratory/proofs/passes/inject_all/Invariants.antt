use Rattle.bench.specs.Views.{view_of}
use Rattle.laboratory.specs.Passing.{Passed}
use Rattle.laboratory.proofs.passes.inject_all.Given as goal

abbrev pub invariant-loop-frame : goal.invariant-loop-frame
invariant-loop-frame g l = Passed g.C.Carriage (view_of l.initial.bench) 0 (view_of l.bench)
