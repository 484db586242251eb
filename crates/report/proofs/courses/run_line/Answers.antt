use Rattle.std.proofs.Common.{◌≡◌, Ok, Err, rules}
use Rattle.std.specs.Result.{MatchResult}
use Rattle.agreement.specs.Faults.{bench_layer, bench_number}
use Rattle.bench.specs.Views.{view_of}
use Rattle.lines.specs.declared.happenings.Happening.TheVariants.{Refused}
use Rattle.report.proofs.Lined.{line_unread, line_acted}
use Rattle.report.proofs.courses.run_line.Goals as goal

pub returns-in-Err : goal.returns-in-Err
returns-in-Err g c =
    let fault = c.in-Err.fault in
    line_unread _ _ _ _ fault _ c.in-Err.ensures.is c.skip.ensures c.refusal.ensures

pub returns : goal.returns
returns g c =
    let made : MatchResult c.perform.result (λ h. c.map_err.result ≡ Ok h) (λ e. c.map_err.result ≡ Err (Refused c.args.reader.now.line (bench_layer e) (bench_number e))) = search rules in
    line_acted view_of c.args.reader.now c.act.new.self c.args.bench.now c.perform.new.bench c.in-Ok.act c.perform.result c.map_err.result c.in-Ok.ensures.is c.perform.ensures.refusal c.perform.ensures.does made
