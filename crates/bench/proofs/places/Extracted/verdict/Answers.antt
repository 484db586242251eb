use Rattle.std.proofs.Common.{sym, rules}
use Rattle.agreement.proofs.Verdicts.{verdict_none}
use Rattle.bench.specs.Tables.{in_set}
use Rattle.bench.proofs.places.Extracted.verdict.Goals as goal

pub returns-in-None : goal.returns-in-None
returns-in-None c = sym (verdict_none c.args.len (in_set c.args.self.now c.args.q) (λ k l. search rules))
