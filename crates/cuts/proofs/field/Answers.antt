use Rattle.std.proofs.Common.{Some, None, sym, refl, ap, ◌∙◌}
use Rattle.cuts.specs.Cuts.{bind}
use Rattle.cuts.proofs.Fields.{bind_forth}
use Rattle.cuts.proofs.field.Goals as goal

pub returns-in_err-read : goal.returns-in_err-read
returns-in_err-read g c = rw c.from_residual-in_err-read.ensures (λ f h. bind_forth _ c.in_ok-front.ensures ∙ ap (λ o. bind o (λ x. Some (x, c.in_ok-front.rest.now))) (sym (h _ None (c.in_ok-front.front, c.in_err-read.ensures, refl))))

pub returns : goal.returns
returns g c = λ f h. bind_forth _ c.in_ok-front.ensures ∙ bind_forth _ (sym (h _ (Some c.in_ok-read.field-0) (c.in_ok-front.front, c.in_ok-read.ensures, refl)))
