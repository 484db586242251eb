use Rattle.std.proofs.Common.{◌≡◌, Ok, sym, ap, ◌∙◌, inr}
use Rattle.std.specs.Option.{unwrap_or}
use Rattle.std.proofs.lemmas.Result.{err_from_is_err_and}
use Rattle.reader.specs.Reading.{at, next, taken}
use Rattle.reader.proofs.Reader.take_with.Goals as goal

pub returns-in_err-kept : goal.returns-in_err-kept
returns-in_err-kept g c =
    let r = c.args.self.now in
    let f = g.F.Form.meant c.args.form.now in
    let put_back : c.drop-guard-in_err-kept.new.self.0 ≡ r.place = c.drop-guard-in_err-kept.ensures ∙ ap (λ b. unwrap_or b c.read.new.self.place.now) (c.read.ensures.kept ∙ c.before-guard.ensures.2) in
    let read : taken f r ≡ (Ok c.in_ok-value.value, at r.text c.read.new.self.place.now (next r.line)) = (λ i. taken f (at r.text (sym c.before-guard.ensures.1 i) r.line)) ∙ c.in_ok-value.ensures.cases in
    let p = err_from_is_err_and c.from_residual-in_err-kept.result c.from_residual-in_err-kept.ensures.1 in
    rw (p.1, p.2) ((λ i. at r.text (put_back i) r.line), inr (c.in_ok-value.value, _, read, c.in_err-kept.ensures))
