use Rattle.std.proofs.Common.{◌+◌, ◌/◌, ◌∙◌, refl, arith, length-set, get_or-set_other}
use Rattle.carriage.specs.Cells.{Makes}
use Rattle.carriage.proofs.Sweeps.{sweep_more}
use Rattle.carriage.proofs.table.Table.turn.Goals as goal

pub loop-k-preserved : goal.loop-k-preserved
loop-k-preserved g c =
    let k = c.loop-k.k in
    let cells = c.loop-k.cell-items in
    let new = c.step.result in
    let inv = c.loop-k.invariant in
    record {
      turned = λ d. sweep_more (λ old j made. Makes g.F.Fn c.args.step old (j / 64 + 1) made) c.args.self.now.cells cells k new c.cell-item.result d (omega (arith, inv.long)) (inv.turned d) (inv.rest d) (record { shown = _; shows = refl; says = c.step.ensures });
      rest = λ d j l. get_or-set_other cells k j new d (λ e. omega arith) ∙ inv.rest d j (omega arith);
      long = length-set cells k new ∙ inv.long;
    }
