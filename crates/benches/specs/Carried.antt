-- The calls that a run of a bench makes on its carriage, and that the carriage's own run is made of them. Assumes nothing.
use Rattle.std.specs.Prelude.{List, [], ◌∷◌}
use Rattle.agreement.specs.Extraction.{first_offers, offers_after}
use Rattle.agreement.specs.Refusals.{given}
use Rattle.agreement.specs.Runs.{Run, none, more}
use Rattle.agreement.specs.Steps.{Event, taken, refused, begin, inject, turn, close, Step}
use Rattle.agreement.specs.Views.{View, Rules, model_of}
use Rattle.carriage.specs.Runs.{Event as Carrying, start, offer, inject as injected, turn as turned, Ran}
use Rattle.carriage.specs.declared.frames.Triple.{Triple}
use Rattle.carriage.specs.declared.meaning.Carriage.{Ghosts as Account}

-- the triples are offered, the first of the list first; the newest call comes first
abbrev pub after_offers : List Triple → List Carrying → List Carrying
after_offers [] es = es
after_offers (x ∷ xs) es = after_offers xs (offer x ∷ es)

module _ {C K : Type 0} (account : Account C) (rules : Rules K) where
  -- a begin starts the carriage and offers the sender's value; a turn turns it and offers what is newly extracted
  abbrev pub carried_by : (e : Event K) (v w : View C) → Step account rules v e w → List Carrying → List Carrying
  carried_by (taken (begin s x)) v w step es = after_offers (first_offers s (given rules x)) (start ∷ es)
  carried_by (taken (inject f)) v w step es = injected f ∷ es
  carried_by (taken (turn k)) v w step es = after_offers (offers_after (account.model step.1.turned) v.sender v.extracted (model_of account v).phase) (turned ∷ es)
  carried_by (taken (close s)) v w step es = es
  carried_by (refused c) v w step es = es

  abbrev pub carried : {u w : View C} {es : List (Event K)} → Run account rules u es w → List Carrying
  carried none = []
  carried (more {v = v} {w = w} {e = e} run step) = carried_by e v w step (carried run)

  -- the carriage went through just these calls
  abbrev pub CarriedOut : View C → Type 0
  CarriedOut u = (es : List (Event K)) (w : View C) (run : Run account rules u es w) → Ran account u.carriage (carried run) w.carriage
