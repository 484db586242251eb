-- One line further. Assumes nothing.
use Rattle.std.proofs.Common.{◌≡◌, ℕ, ◌+◌, ◌<◌, List, ◌∷◌, ◌++◌, [], map, length, get_or, drop, decimal, sym, ap, ◌∙◌, append_assoc}
use Rattle.std.proofs.lemmas.List.{drop_more}
use Rattle.lines.specs.Printed.{happening_text, happening_lines}
use Rattle.lines.specs.declared.happenings.Happening.{Happening}

pub happening_step : (hs : List Happening) (i : ℕ) (d : Happening) (done : List ℕ) → i < length hs
    → (done ++ (happening_text (get_or hs i d) ++ 10 ∷ [])) ++ happening_lines (drop (i + 1) hs) ≡ done ++ happening_lines (drop i hs)
happening_step hs i d done l =
    let h = get_or hs i d in
    let tail = happening_lines (drop (i + 1) hs) in
    append_assoc done (happening_text h ++ 10 ∷ []) tail ∙ ap (λ y. done ++ y) (append_assoc (happening_text h) (10 ∷ []) tail) ∙ ap (λ ys. done ++ happening_lines ys) (sym (drop_more hs i d l))
