use Rattle.std.proofs.Common.{sym, arith}
use Rattle.std.proofs.lemmas.Bool.{and_parts, leb-true}
use Rattle.groups.proofs.Marked.{marks_inside}
use Rattle.groups.proofs.members.Group.new.Goals as goal

pub invariant_of-result : goal.invariant_of-result
invariant_of-result c =
    let fit = sym c.if-not-fits.ensures in
    record {
      some = omega arith;
      few = omega arith;
      tolerant = omega arith;
      inside = marks_inside c.args.n c.args.t c.args.marks (omega arith) fit;
      tolerated = leb-true _ _ (and_parts _ _ fit).1;
    }
