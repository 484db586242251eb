-- How the fields of a notice and of a pulse report are written and read. A notice is its letter, block and tick; a pulse
-- report its block and pulses; commas stand between. A number out of range is told only where the form is right.
-- Assumes nothing.
use Rattle.std.specs.Prelude.{◌≡◌, ℕ, ◌<◌, ◌≤◌, true, List, ◌∷◌, ◌++◌, Some, Ok, Err, decimal, Option, Result, refl}
use Rattle.std.proofs.Math.Decide.{dec_lt, dec_le}
use Rattle.values.specs.Letters.{letter_of, is_letter, outcome_by}
use Rattle.faults.specs.declared.causes.ValueFault.{ValueFault}
use Rattle.faults.specs.declared.causes.ValueFault.TheVariants.{Block, Pulses}
use Rattle.values.specs.declared.notices.Notice.{Notice}
use Rattle.values.specs.declared.notices.Outcome.{Outcome}
use Rattle.values.specs.declared.notices.Outcome.TheVariants.{Failed, Passed}
use Rattle.values.specs.declared.pulses.PulseReport.{PulseReport}
use Rattle.cuts.specs.Cuts.{bind, decode, field_number, field_letter}

abbrev pub notice_shows : Notice → List ℕ
notice_shows v = v.letter ∷ 44 ∷ (decimal v.block ++ 44 ∷ decimal v.tick)

-- a tick is at most 65535
abbrev pub NoticeFits : Notice → Type 0
NoticeFits v = v.tick < 65536

abbrev pub lettered : (o : Outcome) → is_letter (letter_of o) ≡ true
lettered Failed = refl
lettered Passed = refl

abbrev pub notice_in : (o : Outcome) (b t : ℕ) → Dec (b < 64) → Result Notice ValueFault
notice_in o b t (yes p) = Ok (record { letter = letter_of o; block = b; tick = t; lettered = lettered o; blocks = p })
notice_in o b t (no q) = Err Block

abbrev pub notice_of : Outcome → ℕ → ℕ → Result Notice ValueFault
notice_of o b t = notice_in o b t (dec_lt b 64)

abbrev pub notice_reads : List ℕ → Option (Result Notice ValueFault)
notice_reads s = bind (field_letter s) (λ p. bind (outcome_by p.0) (λ o. bind (field_number p.1) (λ q. bind (decode q.1) (λ t. Some (notice_of o q.0 t)))))

abbrev pub pulse_shows : PulseReport → List ℕ
pulse_shows v = decimal v.block ++ 44 ∷ decimal v.pulses

abbrev pub PulseFits : PulseReport → Type 0
PulseFits v = Unit {0}

abbrev pub pulse_in : (b p : ℕ) → Dec (b < 64) → Dec (1 ≤ p) → Dec (p ≤ 8) → Result PulseReport ValueFault
pulse_in b p (no q) x y = Err Block
pulse_in b p (yes q) (no x) y = Err Pulses
pulse_in b p (yes q) (yes x) (no y) = Err Pulses
pulse_in b p (yes q) (yes x) (yes y) = Ok (record { block = b; pulses = p; blocks = q; some = x; few = y })

abbrev pub pulse_of : ℕ → ℕ → Result PulseReport ValueFault
pulse_of b p = pulse_in b p (dec_lt b 64) (dec_le 1 p) (dec_le p 8)

abbrev pub pulse_reads : List ℕ → Option (Result PulseReport ValueFault)
pulse_reads s = bind (field_number s) (λ q. bind (decode q.1) (λ p. Some (pulse_of q.0 p)))
