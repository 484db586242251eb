-- Who vouched, as a search through the rounds. Assumes nothing.
use Rattle.std.proofs.Common.{zero, suc, [], ◌∷◌, ◌≡◌, ℕ, Bool, true, false, ◌||◌, refl, ap, ◌∙◌, arith}
use Rattle.std.specs.List.{list_any, range_with_len}
use Rattle.std.proofs.lemmas.List.Folds.{list_any-append}
use Rattle.carriage.specs.Model.{Model}
use Rattle.bench.proofs.Filled.{range_more}
use Rattle.agreement.specs.Extraction.{triple, vouched}

-- the rounds in which q may have accepted, one after the other
pub vouched_any : (m : Model) (q v i p : ℕ) → list_any (λ j. m.accepted q (triple p v j)) (range_with_len 1 i) ≡ vouched m q v i p
unfolding vouched
vouched_any m q v zero p = refl
vouched_any m q v (suc i) p =
    let test : ℕ → Bool = λ j. m.accepted q (triple p v j) in
    ap (list_any test) (range_more 1 i (suc i) (omega arith)) ∙ list_any-append test (range_with_len 1 i) (suc i ∷ []) ∙ turn_round (list_any test (range_with_len 1 i)) (test (suc i)) ∙ ap (λ b. test (suc i) || b) (vouched_any m q v i p)
  where
    turn_round : (x y : Bool) → (x || (y || false)) ≡ (y || x)
    turn_round true true = refl
    turn_round true false = refl
    turn_round false true = refl
    turn_round false false = refl
