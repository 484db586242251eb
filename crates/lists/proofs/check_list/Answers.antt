use Rattle.std.proofs.Common.{sym}
use Rattle.lists.proofs.Places.{apart_from}
use Rattle.lists.proofs.check_list.Goals as goal

pub returns-clause-apart : goal.returns-clause-apart
returns-clause-apart g c = apart_from g.K.Kind.same c.args.values.now (sym c.if-not-all_distinct.ensures)
