-- A run that goes on. Assumes nothing.
use Rattle.std.proofs.Common.{◌≡◌, List, ◌++◌, refl, ap, ◌∙◌}
use Rattle.agreement.specs.Runs.{Run, none, more, closings, note_close}
use Rattle.agreement.specs.Steps.{Event, taken, refused, begin, inject, turn, close}
use Rattle.agreement.specs.Views.{View, Rules}
use Rattle.carriage.specs.declared.meaning.Carriage.{Ghosts as Account}

note_joined : {C K : Type 0} (e : Event K) (v : View C) (xs ys : List (View C)) → note_close e v (xs ++ ys) ≡ note_close e v xs ++ ys
note_joined (taken (begin s x)) v xs ys = refl
note_joined (taken (inject f)) v xs ys = refl
note_joined (taken (turn k)) v xs ys = refl
note_joined (taken (close s)) v xs ys = refl
note_joined (refused c) v xs ys = refl

module _ {C K : Type 0} {account : Account C} {rules : Rules K} where
  pub joined : {u v w : View C} {es fs : List (Event K)} → Run account rules u es v → Run account rules v fs w → Run account rules u (fs ++ es) w
  joined a none = a
  joined a (more b s) = more (joined a b) s

  pub closings_joined : {u v w : View C} {es fs : List (Event K)} (a : Run account rules u es v) (b : Run account rules v fs w) → closings (joined a b) ≡ closings b ++ closings a
  unfolding joined
  closings_joined a none = refl
  closings_joined a (more {v = x} {e = e} b s) = ap (note_close e x) (closings_joined a b) ∙ note_joined e x (closings b) (closings a)
