-- The header lines as they are written, without their line feed. Assumes nothing.
use Rattle.std.specs.Prelude.{ℕ, zero, suc, Bool, cond, List, [], ◌∷◌, ◌++◌, map, codes, decimal}
use Rattle.headers.specs.Carriages.{carriage_word}
use Rattle.headers.specs.declared.carriages.CarriageKind.{CarriageKind}
use Rattle.fields.specs.Kinds.{kind_word}
use Rattle.fields.specs.declared.kinds.ValueKind.{ValueKind}

-- of w numbers from k on, those that p marks
unfoldable pub list_from : ℕ → ℕ → (ℕ → Bool) → List ℕ
list_from zero k p = []
list_from (suc w) k p = cond (p k) (k ∷ list_from w (suc k) p) (list_from w (suc k) p)

-- pieces with commas (44) between them
abbrev pub join_on : List ℕ → List (List ℕ) → List ℕ
join_on f [] = f
join_on f (g ∷ gs) = f ++ 44 ∷ join_on g gs

-- the same, a comma before each piece
abbrev pub commaed : List (List ℕ) → List ℕ
commaed [] = []
commaed (g ∷ gs) = 44 ∷ (g ++ commaed gs)

abbrev pub marks_shown : List ℕ → List ℕ
marks_shown [] = 45 ∷ []
marks_shown (m ∷ ms) = join_on (decimal m) (map decimal ms)

unfoldable pub line_of_marks : (ℕ → Bool) → List ℕ
line_of_marks p = codes "marks=" ++ marks_shown (list_from 16 0 p)

abbrev pub line_of_carriage : CarriageKind → List ℕ
line_of_carriage c = codes "carriage=" ++ carriage_word c

abbrev pub line_of_kind : ValueKind → List ℕ
line_of_kind k = codes "kind=" ++ kind_word k
