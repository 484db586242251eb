use Rattle.std.proofs.Common.{Some, vec_items, ap, subst}
use Rattle.std.proofs.lemmas.Result.{IfOk-at_ok}
use Rattle.agreement.specs.Law.{AllAgree}
use Rattle.agreement.specs.Views.{View, rules_of}
use Rattle.bench.specs.Views.{view_of}
use Rattle.report.specs.Courses.{Course}
use Rattle.report.proofs.Telling.{truthful}
use Rattle.report.proofs.whole.run_bench.Goals as goal

pub returns : goal.returns
returns g c =
    let rules = rules_of g.K.Kind.same g.K.Kind.charge c.args.list.now in
    let end = view_of c.run_acts.new.bench in
    let p = c.in_ok-report.report in
    let run = c.in_ok-report.ensures in
    let pool = c.in_ok-out_blocks.ensures in
    let u = (IfOk-at_ok _ c.unwrap-bench.ensures c.open.ensures.view) in
    let from-here : View g.row.C.Denot → Type 0 = λ u. Course g.C.Carriage rules g.K.Written.reads c.args.reader u (vec_items p.events) run.events p.taken p.refused run.end end in
    let course = subst from-here u run.course in
    record {
      last = end;
      acts = record { events = run.events; end = run.end; course = course; ended = run.ended };
      lowest = pool.0;
      is_lowest = pool.1;
      out = ap Some pool.2;
      truthful = truthful (subst (AllAgree g.C.Carriage rules) u (IfOk-at_ok _ c.unwrap-bench.ensures c.open.ensures.law)) g.met.K.Kind.small pool.0 course pool.1;
    }
