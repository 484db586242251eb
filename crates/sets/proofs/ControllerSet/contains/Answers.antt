use Rattle.std.proofs.Common.{◌/◌, ◌^◌, eqb, sym, ap, ◌∙◌, arith}
use Rattle.std.proofs.lemmas.Nat.{and_mask}
use Rattle.std.proofs.lemmas.Bool.{le-ltb}
use Rattle.sets.specs.Sets.{bit}
use Rattle.sets.proofs.Masks.{bit_high}
use Rattle.sets.proofs.ControllerSet.contains.Goals as goal

pub returns-then-q-lt16 : goal.returns-then-q-lt16
unfolding bit
returns-then-q-lt16 c = ap (λ n. eqb n 1) (and_mask (c.args.self.bits / 2 ^ c.args.q) 1)

pub returns-else-q-lt16 : goal.returns-else-q-lt16
returns-else-q-lt16 c =
    le-ltb c.args.q 16 c.if-q-lt16.false ∙ sym (bit_high 16 c.args.self.bits c.args.q (omega arith) c.if-q-lt16.false)
