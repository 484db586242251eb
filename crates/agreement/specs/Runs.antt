-- Runs of a bench, and what can be read off the list of its calls alone. Assumes nothing.
use Rattle.std.specs.Prelude.{ℕ, suc, List, [], ◌∷◌, Some, None, Option}
use Rattle.std.specs.Option.{option_map}
use Rattle.carriage.specs.declared.meaning.Carriage.{Ghosts as Account}
use Rattle.agreement.specs.Views.{View, Rules}
use Rattle.agreement.specs.Steps.{begin, inject, turn, close, Event, taken, refused, Step}

-- the view u becomes w by the events, of which the newest comes first
pub data Run {C K : Type 0} (account : Account C) (rules : Rules K) (u : View C) : List (Event K) → View C → Type 0 where
  none : Run account rules u [] u
  more : {v w : View C} {es : List (Event K)} {e : Event K} → Run account rules u es v → Step account rules v e w → Run account rules u (e ∷ es) w

-- a shot that runs: sender and value are those of its begin, and so many turns were taken since
pub record Shot (K : Type 0) : Type 0 where
  pub sender : ℕ
  pub value : Option K
  pub turns : ℕ

abbrev pub turned_on : {K : Type 0} → Shot K → Shot K
turned_on shot = record { sender = shot.sender; value = shot.value; turns = suc shot.turns }

-- a shot runs from a taken begin to the next taken close
abbrev pub shot_of : {K : Type 0} → List (Event K) → Option (Shot K)
shot_of [] = None
shot_of (taken (begin s x) ∷ es) = Some (record { sender = s; value = x; turns = 0 })
shot_of (taken (inject f) ∷ es) = shot_of es
shot_of (taken (turn k) ∷ es) = option_map turned_on (shot_of es)
shot_of (taken (close s) ∷ es) = None
shot_of (refused c ∷ es) = shot_of es

-- the views just before each taken close, the newest first
abbrev pub note_close : {C K : Type 0} → Event K → View C → List (View C) → List (View C)
note_close (taken (begin s x)) v vs = vs
note_close (taken (inject f)) v vs = vs
note_close (taken (turn k)) v vs = vs
note_close (taken (close s)) v vs = v ∷ vs
note_close (refused c) v vs = vs

abbrev pub closings : {C K : Type 0} {account : Account C} {rules : Rules K} {u w : View C} {es : List (Event K)} → Run account rules u es w → List (View C)
closings none = []
closings (more {v = v} {e = e} run step) = note_close e v (closings run)
