use Rattle.std.proofs.Common.{◌≡◌, ◌++◌, take, drop, string_bytes}
use Rattle.std.specs.List.{AllByRecursion}
use Rattle.acts.specs.Acts.{ActFits}
use Rattle.layout.specs.Render.{act_lines}
use Rattle.text.proofs.campaigns.parts.push_acts.Given as goal

abbrev pub invariant-loop-a : goal.invariant-loop-a
invariant-loop-a g l =
    (string_bytes l.text ++ act_lines g.K.Written.shows (drop l.a-index l.acts) ≡ string_bytes l.initial.text ++ act_lines g.K.Written.shows l.acts)
    × AllByRecursion (ActFits g.K.Written.fits) (take l.a-index l.acts)
