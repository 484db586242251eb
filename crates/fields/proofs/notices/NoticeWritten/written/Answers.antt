use Rattle.std.proofs.Common.{◌<◌, [], ◌∷◌, ◌++◌, decimal, ap, ◌∙◌, arith}
use Rattle.std.proofs.lemmas.Result.{IfOk-weaker}
use Rattle.std.proofs.lemmas.Str.Ascii.{encode_ascii}
use Rattle.fields.specs.Back.{letter_range}
use Rattle.fields.proofs.notices.NoticeWritten.written.Goals as goal

pub returns : goal.returns
returns c =
    let v = c.args.self.now in
    let small : c.letter-letter.result < 128 = omega (arith, letter_range v.letter v.lettered) in
    let letter = encode_ascii _ small ∙ ap (λ x. x ∷ []) c.letter-letter.ensures in
    IfOk-weaker c.format.result _ _
    (λ t e. (e ∙ (λ i. letter i ++ (44 ∷ (decimal (c.block-block.ensures i) ++ 44 ∷ decimal (c.tick-tick.ensures i)))), omega arith))
    c.format.ensures.ok
