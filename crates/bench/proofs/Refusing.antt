-- The first of several causes, and what a `?` hands on. Assumes nothing.
use Rattle.std.proofs.Common.{◌≡◌, IsErrAnd, Some, None, Err, Option, Result, sym, ap, ◌∙◌}
use Rattle.std.specs.Option.{option_or}
use Rattle.std.proofs.lemmas.Result.{err_from_is_err_and}

-- this cause is met
pub hit : {T : Type 0} (a b : Option T) (e : T) → Some e ≡ a → Some e ≡ option_or a b
hit a b e h = ap (λ o. option_or o b) h

-- this cause is not met
pub past : {T : Type 0} (a b : Option T) → None ≡ a → b ≡ option_or a b
past a b h = ap (λ o. option_or o b) h

-- what a `?` hands on is the fault that it found
pub handed : {T E : Type 0} (r : Result T E) (e : E) → IsErrAnd r (λ y. y ≡ e) → r ≡ Err e
handed r e h = let p = err_from_is_err_and r h in p.1 ∙ ap Err p.2

-- a cause that is not met is left out
pub without : {T : Type 0} (a b o : Option T) → None ≡ a → o ≡ option_or a b → o ≡ b
without a b o n h = h ∙ sym (past a b n)
