-- Numbers with commas between them. Assumes nothing.
use Rattle.std.proofs.Common.{◌≡◌, ℕ, ◌+◌, ◌<◌, List, [], ◌∷◌, ◌++◌, map, length, get_or, drop, decimal, sym, ap, ◌∙◌, append_assoc}
use Rattle.std.proofs.lemmas.List.{append-nil, drop_more}
use Rattle.headers.specs.Lines.{join_on, commaed, marks_shown}

pub join_commaed : (f : List ℕ) (gs : List (List ℕ)) → join_on f gs ≡ f ++ commaed gs
join_commaed f [] = sym (append-nil f)
join_commaed f (g ∷ gs) = ap (λ y. f ++ 44 ∷ y) (join_commaed g gs)

-- the first number, and then the others
pub first_shown : (ns : List ℕ) (n : ℕ) (more : List ℕ) → ns ≡ n ∷ more → decimal n ++ commaed (map decimal more) ≡ marks_shown ns
first_shown ns n more is = sym (join_commaed (decimal n) (map decimal more)) ∙ ap marks_shown (sym is)

-- one number further
pub number_step : (ns : List ℕ) (i d : ℕ) (done : List ℕ) → i < length ns → (done ++ 44 ∷ decimal (get_or ns i d)) ++ commaed (map decimal (drop (i + 1) ns)) ≡ done ++ commaed (map decimal (drop i ns))
number_step ns i d done l =
    append_assoc done (44 ∷ decimal (get_or ns i d)) (commaed (map decimal (drop (i + 1) ns))) ∙ ap (λ ys. done ++ commaed (map decimal ys)) (sym (drop_more ns i d l))
