use Rattle.std.proofs.Common.{◌&&◌, eqb, leb, ap, ◌∙◌}
use Rattle.sets.specs.Sets.{has, size}
use Rattle.groups.proofs.Marked.{outside_counts}
use Rattle.groups.proofs.members.Marks.fits.Goals as goal

pub returns-then-is_empty : goal.returns-then-is_empty
returns-then-is_empty c =
    let s = c.args.self.set in
    let out = outside_counts (has s) (has c.without-outside.result) (has c.below.result) c.args.n c.without-outside.ensures c.below.ensures in
    ap (λ k. leb k c.args.t) c.len.ensures ∙ ap (λ b. b && leb (size s) c.args.t) (c.if-is_empty.ensures ∙ ap (λ k. eqb k 0) out)

pub returns-else-is_empty : goal.returns-else-is_empty
returns-else-is_empty c =
    let s = c.args.self.set in
    let out = outside_counts (has s) (has c.without-outside.result) (has c.below.result) c.args.n c.without-outside.ensures c.below.ensures in
    c.if-is_empty.false ∙ ap (λ b. b && leb (size s) c.args.t) (c.if-is_empty.ensures ∙ ap (λ k. eqb k 0) out)
