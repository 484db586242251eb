-- The lines of a campaign's acts, without their line feed, and what a line is read as:
--   begin=SENDER,VALUE or begin=SENDER,-   inject=FROM,TO,LETTER,ORIGIN,ROUND,PLACE   turn=PHASE   close=SHOT
-- with the letter i, e or s. A line is read as nothing where it has none of these forms. Assumes nothing.
use Rattle.std.specs.Prelude.{◌≡◌, ℕ, ◌<◌, cond, List, [], ◌∷◌, ◌++◌, Some, None, Ok, Err, codes, decimal, Option, Result}
use Rattle.std.specs.Str.{bytes_eq}
use Rattle.faults.specs.declared.causes.ValueFault.{ValueFault}
use Rattle.carriage.specs.declared.frames.Frame.{Frame}
use Rattle.cuts.specs.Cuts.{bind, decode, field_number, field_letter, keyed, there}
use Rattle.acts.specs.declared.Act.{Act}
use Rattle.acts.specs.declared.Act.TheVariants.{Begin, Inject, Turn, Close}
pub use Rattle.acts.specs.Letters.{letter_byte, letter_by}
use Rattle.acts.specs.declared.Injection.{Injection}

abbrev pub inject_line : Injection → List ℕ
inject_line x = codes "inject=" ++ (decimal x.from ++ 44 ∷ (decimal x.to ++ 44 ∷ (letter_byte x.letter ∷ 44 ∷ (decimal x.triple.origin ++ 44 ∷ (decimal x.triple.round ++ 44 ∷ decimal x.triple.place)))))

abbrev pub inject_reads : List ℕ → Option Injection
inject_reads s =
    bind (field_number s) (λ a. bind (field_number a.1) (λ b. bind (field_letter b.1) (λ c. bind (letter_by c.0) (λ l.
    bind (field_number c.1) (λ d. bind (field_number d.1) (λ e. bind (decode e.1) (λ p.
    Some (record { from = a.0; to = b.0; letter = l; triple = record { origin = d.0; place = p; round = e.0 } }))))))))

-- the frame that is injected
abbrev pub IsFrameOf : Injection → Frame → Type 0
IsFrameOf x f = (f.from ≡ x.from) × (f.to ≡ x.to) × (f.letter ≡ letter_byte x.letter) × (f.triple ≡ x.triple)

-- every number is one that the format can write
abbrev pub InjectFits : Injection → Type 0
InjectFits x = (x.from < 65536) × (x.to < 65536) × (x.triple.origin < 65536) × (x.triple.round < 65536) × (x.triple.place < 65536)

-- over a kind of value whose fields are written by `shows` and read by `reads`
module _ {K : Type 0} (shows : K → List ℕ) where
  abbrev pub value_field : Option K → List ℕ
  value_field None = 45 ∷ []
  value_field (Some v) = shows v

  abbrev pub line_of_act : Act K → List ℕ
  line_of_act (Begin s v) = codes "begin=" ++ (decimal s ++ 44 ∷ value_field v)
  line_of_act (Inject x) = inject_line x
  line_of_act (Turn p) = codes "turn=" ++ decimal p
  line_of_act (Close s) = codes "close=" ++ decimal s

-- a begin with a value whose form is right
abbrev pub begins_by : {K : Type 0} → ℕ → Result K ValueFault → Result (Act K) ValueFault
begins_by s (Ok v) = Ok (Begin s (Some v))
begins_by s (Err e) = Err e

module _ {K : Type 0} (reads : List ℕ → Option (Result K ValueFault)) where
  abbrev pub begin_reads : List ℕ → Option (Result (Act K) ValueFault)
  begin_reads b = bind (field_number b) (λ p. cond (bytes_eq p.1 (45 ∷ [])) (Some (Ok (Begin p.0 None))) (bind (reads p.1) (λ r. Some (begins_by p.0 r))))

  -- a fault is a number of the value out of range
  abbrev pub act_reads : List ℕ → Option (Result (Act K) ValueFault)
  act_reads s =
      there (keyed (codes "begin") s) begin_reads
      (there (keyed (codes "inject") s) (λ b. bind (inject_reads b) (λ x. Some (Ok (Inject x))))
      (there (keyed (codes "turn") s) (λ b. bind (decode b) (λ n. Some (Ok (Turn n))))
      (there (keyed (codes "close") s) (λ b. bind (decode b) (λ n. Some (Ok (Close n)))) None)))

module _ {K : Type 0} (fits : K → Type 0) where
  abbrev pub ValueFits : Option K → Type 0
  ValueFits None = Unit {0}
  ValueFits (Some v) = fits v

  -- every number of the act is one that the format can write
  abbrev pub ActFits : Act K → Type 0
  ActFits (Begin s v) = (s < 65536) × ValueFits v
  ActFits (Inject x) = InjectFits x
  ActFits (Turn p) = p < 65536
  ActFits (Close s) = s < 65536
