-- The marks of a text. Assumes nothing.
use Rattle.std.proofs.Common.{◌≡◌, ℕ, zero, suc, ◌+◌, Bool, cond, filter, add-one, refl, ◌∷◌, ap, ◌∙◌}
use Rattle.std.specs.List.{range_with_len}
use Rattle.headers.specs.Lines.{list_from}

-- the numbers that a test marks, as a list that is filtered
pub filter_list : (w l : ℕ) (p : ℕ → Bool) → filter p (range_with_len l w) ≡ list_from w l p
unfolding list_from
filter_list zero l p = refl
filter_list (suc w) l p =
    let rest : filter p (range_with_len (l + 1) w) ≡ list_from w (suc l) p = filter_list w (l + 1) p ∙ ap (λ k. list_from w k p) (add-one l) in
    ap (λ ys. cond (p l) (l ∷ ys) ys) rest
