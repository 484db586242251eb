-- What a whole text is read as: its header, its v lines, its acts. Assumes nothing.
use Rattle.std.specs.Prelude.{◌≡◌, ℕ, Bool, true, false, cond, List, [], length, Ok, Err, Option, Result}
use Rattle.std.specs.Borrow.{Bor}
use Rattle.faults.specs.declared.causes.ValueFault.{ValueFault}
use Rattle.fields.specs.declared.kinds.ValueKind.{ValueKind}
use Rattle.fields.specs.declared.kinds.ValueKind.TheVariants.{Notices, Pulses}
use Rattle.reader.specs.Lists.{values_taken, acts_taken}
use Rattle.reader.specs.Heads.{then, head_taken}
use Rattle.headers.specs.Headers.{Head}
use Rattle.reader.specs.Reading.{left, start}
use Rattle.layout.specs.Render.{Told}
use Rattle.text_faults.specs.declared.texts.TextFault.{TextFault}
use Rattle.text_faults.specs.declared.causes.TextCause.TheVariants.{Form}
use Rattle.reader.specs.declared.Reader.{Reader}

abbrev pub is_same_kind : ValueKind → ValueKind → Bool
is_same_kind Notices Notices = true
is_same_kind Notices Pulses = false
is_same_kind Pulses Notices = false
is_same_kind Pulses Pulses = true

module _ {K : Type 0} (reads : List ℕ → Option (Result K ValueFault)) where
  module _ (same : K → K → Bool) (kind : ValueKind) where
    abbrev pub with_acts : Head → List K → Reader → Result (Told K) TextFault × Reader
    with_acts h vs r = then (acts_taken reads (length (left r)) [] r) (λ xs after. (Ok (record { n = h.n; t = h.t; marks = h.marks; carriage = h.carriage; values = vs; acts = xs }), after))

    -- the kind line, the sixth, has another form in a campaign of this kind
    abbrev pub with_values : Head → Reader → Result (Told K) TextFault × Reader
    with_values h r = cond (is_same_kind h.kind kind) (then (values_taken reads same h.count [] r) (with_acts h)) (Err (record { line = 6; cause = Form }), r)

    abbrev pub campaign_taken : Reader → Result (Told K) TextFault × Reader
    campaign_taken r = then (head_taken r) with_values

    -- wherever these bytes stand, a reader at their start takes them for this campaign
    abbrev pub ReadsAs : List ℕ → Told K → Type 0
    ReadsAs bytes c = (text : Bor (List ℕ)) → text.now ≡ bytes → (campaign_taken (start text)).0 ≡ Ok c
