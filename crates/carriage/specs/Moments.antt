-- Earlier moments of a run, by the events up to them (the newest first). Assumes nothing.
use Rattle.std.specs.Prelude.{List, ◌∷◌}
use Rattle.carriage.specs.Runs.{Event, offer, inject, turn}
use Rattle.carriage.specs.declared.frames.Triple.{Triple}
use Rattle.carriage.specs.declared.frames.Frame.{Frame}

-- the events before were followed by others up to es, and no start came since
pub data Since (before : List Event) : List Event → Type 0 where
  now : Since before before
  offered : {x : Triple} {es : List Event} → Since before es → Since before (offer x ∷ es)
  injected : {f : Frame} {es : List Event} → Since before es → Since before (inject f ∷ es)
  turned : {es : List Event} → Since before es → Since before (turn ∷ es)

-- the same, and no turn came since either
pub data SamePhase (before : List Event) : List Event → Type 0 where
  now : SamePhase before before
  offered : {x : Triple} {es : List Event} → SamePhase before es → SamePhase before (offer x ∷ es)
  injected : {f : Frame} {es : List Event} → SamePhase before es → SamePhase before (inject f ∷ es)
