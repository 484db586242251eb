use Rattle.std.proofs.Common.{◌≡◌, ◌<◌, [], ◌∷◌, ◌++◌, codes, decimal, ap, ◌∙◌, arith}
use Rattle.std.proofs.lemmas.Result.{IfOk-weaker}
use Rattle.std.proofs.lemmas.Str.Ascii.{encode_ascii}
use Rattle.acts.specs.Acts.{letter_byte}
use Rattle.acts.proofs.ActLines.{letter_range}
use Rattle.acts.proofs.lines.injection_line.Goals as goal

pub returns : goal.returns
returns c =
    let x = c.args.x.now in
    let is : c.from-letter.result ≡ letter_byte x.letter = c.from-letter.ensures ∙ c.from.ensures in
    let small : c.from-letter.result < 128 = omega (arith, letter_range x.letter) in
    let letter = encode_ascii _ small ∙ ap (λ y. y ∷ []) is in
    IfOk-weaker c.format.result _ _
    (λ t e. (
      e ∙ (λ i. codes "inject=" ++ (decimal x.from ++ 44 ∷ (decimal x.to ++ 44 ∷ (letter i ++ 44 ∷ (decimal x.triple.origin ++ 44 ∷ (decimal x.triple.round ++ 44 ∷ decimal x.triple.place)))))),
      (omega arith, omega arith, omega arith, omega arith, omega arith),
    ))
    c.format.ensures.ok
