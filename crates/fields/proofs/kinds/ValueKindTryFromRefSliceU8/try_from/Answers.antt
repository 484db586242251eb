use Rattle.std.proofs.Common.{◌≡◌, Some, Ok, codes, sym, ap, arith, rules}
use Rattle.std.proofs.lemmas.Slice.Eq.{text_from_reads}
use Rattle.cuts.specs.Cuts.{bind}
use Rattle.fields.specs.Kinds.{kind_by}
use Rattle.fields.proofs.kinds.ValueKindTryFromRefSliceU8.try_from.Goals as goal

pub returns-in-notice : goal.returns-in-notice
returns-in-notice c =
    let word : c.args.word.now ≡ codes "notice" = text_from_reads _ _ (omega (arith, c.in-notice)) (search rules) in
    ap (λ w. bind (kind_by w) (λ k. Some (Ok k))) (sym word)
