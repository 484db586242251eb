use Rattle.laboratory.specs.Passing.{Passed}
use Rattle.laboratory.proofs.Moving.{inject_more}
use Rattle.laboratory.proofs.passes.inject_all.Goals as goal

pub loop-frame-init : goal.loop-frame-init
loop-frame-init g c = Passed.none

pub loop-frame-preserved : goal.loop-frame-preserved
loop-frame-preserved g c = inject_more c.loop-frame.bench c.inject.new.self _ c.inject.result c.loop-frame.invariant c.inject.ensures.refusal c.inject.ensures.does
