use Rattle.std.proofs.Common.{◌≡◌, ◌-◌, ◌&&◌, ltb, ap, ◌∙◌, arith}
use Rattle.std.proofs.lemmas.Nat.{one_shl}
use Rattle.std.proofs.lemmas.Bool.Decides.{nat_tests}
use Rattle.sets.specs.Sets.{bit}
use Rattle.sets.proofs.Masks.{bit_ones}
use Rattle.sets.proofs.ControllerSet.below.Goals as goal

pub returns-then-n-ge16 : goal.returns-then-n-ge16
returns-then-n-ge16 c k =
    let n = c.args.n in
    let e : ltb k 16 ≡ (ltb k n && ltb k 16) = grind (arith, nat_tests) in
    bit_ones 16 k ∙ e

pub returns : goal.returns
returns c k =
    let n = c.args.n in
    let e : ltb k n ≡ (ltb k n && ltb k 16) = grind (arith, nat_tests) in
    ap (λ m. bit (m - 1) k) (one_shl n 16 c.if-n-ge16.false) ∙ bit_ones n k ∙ e
