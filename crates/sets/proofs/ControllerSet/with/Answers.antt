use Rattle.std.proofs.Common.{◌^◌, ◌&&◌, ◌||◌, eqb, sym, ap, ◌∙◌}
use lib.Bits.{bit_or}
use Rattle.std.proofs.lemmas.Nat.{one_shl}
use Rattle.std.proofs.lemmas.Bool.{lt-ltb}
use Rattle.sets.specs.Sets.{bit}
use Rattle.sets.proofs.Masks.{bit-or, bit_one, or_swap}
use Rattle.sets.proofs.ControllerSet.with.Goals as goal

pub returns : goal.returns
returns c k =
    let q = c.args.q in
    let b = c.args.self.bits in
    ap (λ m. bit (bit_or b m) k) (one_shl q 16 c.if-q-ge16.false) ∙ bit-or b (2 ^ q) k ∙ ap (λ x. bit b k || x) (bit_one q k)
    ∙ or_swap (bit b k) (eqb k q) ∙ ap (λ x. (x && eqb k q) || bit b k) (sym (lt-ltb q 16 c.if-q-ge16.false))
