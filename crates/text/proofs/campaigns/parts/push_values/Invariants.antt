use Rattle.std.proofs.Common.{◌≡◌, ℕ, List, ◌++◌, take, drop, string_bytes}
use Rattle.std.specs.List.{AllByRecursion}
use Rattle.layout.specs.Render.{value_lines}
use Rattle.text.proofs.campaigns.parts.push_values.Given as goal

abbrev pub invariant-loop-v : goal.invariant-loop-v
invariant-loop-v g l =
    ((rest : List ℕ) → string_bytes l.text ++ value_lines g.K.Written.shows (drop l.v-index l.values) rest ≡ string_bytes l.initial.text ++ value_lines g.K.Written.shows l.values rest)
    × AllByRecursion g.K.Written.fits (take l.v-index l.values)
