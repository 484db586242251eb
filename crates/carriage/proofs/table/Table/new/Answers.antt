use Rattle.std.proofs.lemmas.List.{get_or-replicate}
use Rattle.carriage.proofs.table.Table.new.Goals as goal

pub returns : goal.returns
returns g c k d l = get_or-replicate 384 k c.args.cell d l
