use Rattle.std.proofs.Common.{◌≡◌, Some, codes, sym, ap, ◌∙◌, arith, rules}
use Rattle.std.proofs.lemmas.Slice.Eq.{text_from_reads}
use Rattle.cuts.specs.Cuts.{cut_at}
use Rattle.acts.specs.Acts.{inject_reads}
use Rattle.acts.proofs.ActLines.{act_injects}
use Rattle.acts.proofs.lines.act.Goals as goal

pub returns-in_ok-ok_or-in-inject : goal.returns-in_ok-ok_or-in-inject
returns-in_ok-ok_or-in-inject g c =
    let key : c.in_ok-key.key.now ≡ codes "inject" = text_from_reads _ _ (omega (arith, c.in-inject)) (search rules) in
    let whole : cut_at 61 c.args.line.now ≡ Some (c.in_ok-key.key.now, c.in_ok-key.body.now) = search rules in
    let x : inject_reads c.in_ok-key.body.now ≡ Some c.in_ok-ok_or-in-inject.field-0 = search rules in
    sym (act_injects g.K.Written.reads c.args.line.now c.in_ok-key.body.now _ (whole ∙ ap (λ k. Some (k, c.in_ok-key.body.now)) key) x)
