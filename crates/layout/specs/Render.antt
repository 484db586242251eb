-- The format: the text of a campaign, line by line, each with its line feed (10). Assumes nothing.
use Rattle.std.specs.Prelude.{ℕ, Bool, List, [], ◌∷◌, ◌++◌, length, codes, decimal}
use Rattle.acts.specs.Acts.{line_of_act}
use Rattle.acts.specs.declared.Act.{Act}
use Rattle.headers.specs.declared.carriages.CarriageKind.{CarriageKind}
use Rattle.headers.specs.Lines.{line_of_marks, line_of_carriage, line_of_kind}
use Rattle.fields.specs.declared.kinds.ValueKind.{ValueKind}

-- what a campaign says: a group by its numbers and who is marked, the carriage, the values and the acts
pub record Told (K : Type 0) : Type 0 where
  pub n : ℕ
  pub t : ℕ
  pub marks : ℕ → Bool
  pub carriage : CarriageKind
  pub values : List K
  pub acts : List (Act K)

module _ {K : Type 0} (shows : K → List ℕ) where
  abbrev pub value_lines : List K → List ℕ → List ℕ
  value_lines [] rest = rest
  value_lines (v ∷ vs) rest = (codes "v=" ++ shows v) ++ 10 ∷ value_lines vs rest

  abbrev pub act_lines : List (Act K) → List ℕ
  act_lines [] = []
  act_lines (a ∷ xs) = line_of_act shows a ++ 10 ∷ act_lines xs

  unfoldable pub render : ValueKind → Told K → List ℕ
  render k c =
      codes "bench=1" ++ 10 ∷ ((codes "n=" ++ decimal c.n) ++ 10 ∷ ((codes "t=" ++ decimal c.t) ++ 10 ∷ (line_of_marks c.marks ++ 10 ∷ (line_of_carriage c.carriage ++ 10 ∷ (line_of_kind k ++ 10
      ∷ ((codes "values=" ++ decimal (length c.values)) ++ 10 ∷ value_lines c.values (act_lines c.acts)))))))
