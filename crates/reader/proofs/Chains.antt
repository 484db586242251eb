-- One reading after another. Assumes nothing.
use Rattle.std.proofs.Common.{◌≡◌, IsErrAnd, Some, None, Ok, Err, Option, Result, sym, ap, subst, MatchResult}
use Rattle.std.proofs.lemmas.Result.{err_from_is_err_and}
use Rattle.cuts.specs.Cuts.{there}
use Rattle.reader.specs.Heads.{then}
use Rattle.text_faults.specs.declared.texts.TextFault.{TextFault}
use Rattle.reader.specs.declared.Reader.{Reader}

pub then_ok : {X Y : Type 0} {p : Result X TextFault × Reader} (f : X → Reader → Result Y TextFault × Reader) {x : X} {r : Reader} → (Ok x, r) ≡ p → then p f ≡ f x r
then_ok f e = ap (λ p. then p f) (sym e)

pub then_err : {X Y : Type 0} {p : Result X TextFault × Reader} (f : X → Reader → Result Y TextFault × Reader) {e : TextFault} {r : Reader} → (Err e, r) ≡ p → then p f ≡ (Err e, r)
then_err f e = ap (λ p. then p f) (sym e)

pub there_some : {A B : Type 0} {o : Option A} {x : A} (f : A → B) (d : B) → Some x ≡ o → there o f d ≡ f x
there_some f d e = ap (λ o. there o f d) (sym e)

pub there_none : {A B : Type 0} {o : Option A} (f : A → B) (d : B) → None ≡ o → there o f d ≡ d
there_none f d e = ap (λ o. there o f d) (sym e)

-- the exit of a `?` with the fault e
pub exit_by : {T E : Type 0} (r : Result T E) (P : T → Type 0) (Q : E → Type 0) (e : E) → IsErrAnd r (λ y. y ≡ e) → Q e → MatchResult r P Q
exit_by r P Q e b q = let p = err_from_is_err_and r b in subst (λ r. MatchResult r P Q) (sym p.1) (subst Q (sym p.2) q)
