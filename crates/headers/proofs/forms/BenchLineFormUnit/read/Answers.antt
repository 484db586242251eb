use Rattle.std.proofs.Common.{◌≡◌, codes, sym, ap, arith, rules}
use Rattle.std.proofs.lemmas.Slice.Eq.{text_from_reads}
use Rattle.headers.specs.Headers.{bench_reads}
use Rattle.headers.proofs.forms.BenchLineFormUnit.read.Goals as goal

pub returns-in-98 : goal.returns-in-98
returns-in-98 c =
    let line : c.args.line.now ≡ codes "bench=1" = text_from_reads _ _ (omega (arith, c.in-98)) (search rules) in
    ap bench_reads (sym line)
