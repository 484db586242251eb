use Rattle.std.proofs.Common.{◌+◌, ◌≤◌, List, length, vec_items}
use Rattle.agreement.specs.Steps.{Event}
use Rattle.agreement.specs.Views.{rules_of}
use Rattle.bench.specs.Views.{view_of}
use Rattle.report.specs.Courses.{Course}
use Rattle.report.specs.Texts.{left}
use Rattle.report.proofs.courses.run_acts.Given as goal

abbrev pub invariant-loop-reader : goal.invariant-loop-reader
invariant-loop-reader g l =
    (l.report.taken + l.report.refused + length (left l.reader) ≤ length (left l.initial.reader))
    × (es : List (Event g.row.K.Denot))
    × Course g.C.Carriage (rules_of g.K.Kind.same g.K.Kind.charge l.list) g.K.Written.reads l.initial.reader (view_of l.initial.bench) (vec_items l.report.events) es l.report.taken l.report.refused l.reader (view_of l.bench)

abbrev pub decreases-loop-reader : goal.decreases-loop-reader
decreases-loop-reader g l = length (left l.reader)
