use Rattle.std.proofs.Common.{◌<◌, List, [], length, vec_items, sym, subst, arith, length-drop}
use Rattle.std.proofs.lemmas.Bool.{eqb-true, eqb-false}
use Rattle.agreement.specs.Views.{rules_of}
use Rattle.bench.specs.Views.{view_of}
use Rattle.lines.specs.declared.happenings.Happening.{Happening}
use Rattle.report.specs.Courses.{Course, begun}
use Rattle.report.specs.Texts.{left}
use Rattle.report.proofs.Lined.{line_shrinks, course_more, counted}
use Rattle.report.proofs.courses.run_acts.Goals as goal

pub loop-reader-init : goal.loop-reader-init
loop-reader-init g c = (
  omega arith,
  [],
  subst (λ (told : List Happening).
      Course g.C.Carriage (rules_of g.K.Kind.same g.K.Kind.charge c.args.list.now) g.K.Written.reads c.args.reader (view_of c.args.bench.now) told [] 0 0 c.args.reader (view_of c.args.bench.now))
      (sym c.new.ensures.items) begun,
)

pub loop-reader-preserved : goal.loop-reader-preserved
loop-reader-preserved g c =
    let some : 0 < length (left c.loop-reader.reader) = omega (arith, eqb-false _ 0 (sym c.loop-reader-test.ensures)) in
    let noted = c.in_ok-note.ensures in
    let run = c.run_line-outcome.ensures in
    let shrinks = line_shrinks run.line some in
    let one = counted c.run_line-outcome.result in
    let more = course_more (vec_items c.note.new.report.events) c.note.new.report.taken c.note.new.report.refused c.loop-reader.invariant.2 some run noted.0 noted.1 noted.2 in
    (omega (arith, c.loop-reader.invariant.0, shrinks, one, noted.1, noted.2), more.0, more.1)

pub loop-reader-smaller : goal.loop-reader-smaller
loop-reader-smaller g c =
    let some : 0 < length (left c.loop-reader.reader) = omega (arith, eqb-false _ 0 (sym c.loop-reader-test.ensures)) in
    line_shrinks c.run_line-outcome.ensures.line some

pub note-requires : goal.note-requires
note-requires g c =
    let some : 0 < length (left c.loop-reader.reader) = omega (arith, eqb-false _ 0 (sym c.loop-reader-test.ensures)) in
    let all = length-drop c.args.reader.place c.args.reader.text.now in
    (omega (arith, c.loop-reader.invariant.0, all, c.ranges.reader.0), omega (arith, c.loop-reader.invariant.0, all, c.ranges.reader.0))

pub returns : goal.returns
returns g c = record { events = c.loop-reader.invariant.1; end = c.loop-reader.reader; course = c.loop-reader.invariant.2; ended = eqb-true _ 0 (sym c.loop-reader-test.ensures) }
