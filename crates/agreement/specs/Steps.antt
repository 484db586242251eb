-- What each call of a bench does when it is taken, and a step: a call that is taken, or refused. Assumes nothing.
use Rattle.std.specs.Prelude.{◌≡◌, ℕ, ◌+◌, Bool, true, false, cond, ◌&&◌, List, [], ◌∷◌, Some, None, Option, ◌==◌, nat_lt}
use Rattle.std.specs.List.{slice_get}
use Rattle.carriage.specs.Model.{is_correct}
use Rattle.carriage.specs.declared.frames.Frame.{Frame}
use Rattle.carriage.specs.declared.frames.Triple.{Triple}
use Rattle.carriage.specs.declared.meaning.Carriage.{Ghosts as Account}
use Rattle.agreement.specs.Views.{View, Rules, model_of}
use Rattle.agreement.specs.Extraction.{first_sets, first_offers, sets_after, offers_after}
use Rattle.agreement.specs.Refusals.{given, begin_fault, inject_refusal, turn_refusal, close_fault, verdict_at}
use Rattle.agreement.specs.declared.bench_faults.BenchFault.{BenchFault}
use Rattle.agreement.specs.declared.moments.Verdict.{Verdict}
use Rattle.agreement.specs.declared.moments.Verdict.TheVariants.{Place, SenderFaulty}

-- the triples are offered one after the other, the first of the list first
pub data Offered {C : Type 0} (account : Account C) : C → List Triple → C → Type 0 where
  none : {c : C} → Offered account c [] c
  more : {c d e : C} {x : Triple} {xs : List Triple} → account.offers c x d → Offered account d xs e → Offered account c (x ∷ xs) e

-- the block that a verdict charges: that of the value at its place; sender faulty charges none
abbrev pub charge_of : {K : Type 0} → Rules K → Option K → Option ℕ
charge_of rules None = None
charge_of rules (Some x) = rules.charge x

abbrev pub block_of : {K : Type 0} → Rules K → Verdict → Option ℕ
block_of rules (Place p) = charge_of rules (slice_get rules.values p)
block_of rules SenderFaulty = None

abbrev pub is_block : Option ℕ → ℕ → Bool
is_block None b = false
is_block (Some c) b = c == b

abbrev pub charges : {K : Type 0} → Rules K → Verdict → ℕ → Bool
charges rules d b = is_block (block_of rules d) b

-- one charge more; a tally stops at 3
abbrev pub raised : ℕ → ℕ
raised n = cond (nat_lt n 3) (n + 1) n

module _ {C : Type 0} (account : Account C) where
  -- Begin: the carriage starts; the sender's value, if one was given, is the only one extracted, and is offered
  pub record Begun (s : ℕ) (place : Option ℕ) (v w : View C) : Type 0 where
    pub fresh : C
    pub starts : account.starts v.carriage fresh
    pub offers : Offered account fresh (first_offers s place) w.carriage
    pub running : w.running ≡ true
    pub sender : w.sender ≡ s
    pub extracted : w.extracted ≡ first_sets s place
    pub tally : w.tally ≡ v.tally
    pub closed : w.closed ≡ v.closed

  -- Inject: the carriage takes the frame
  pub record Injected (f : Frame) (v w : View C) : Type 0 where
    pub injects : account.injects v.carriage f w.carriage
    pub running : w.running ≡ v.running
    pub sender : w.sender ≡ v.sender
    pub extracted : w.extracted ≡ v.extracted
    pub tally : w.tally ≡ v.tally
    pub closed : w.closed ≡ v.closed

  -- Turn: the carriage turns, correct controllers extract by what they then hold, and offer what is new
  pub record TurnTaken (v w : View C) : Type 0 where
    pub turned : C
    pub turns : account.turns v.carriage turned
    pub offers : Offered account turned (offers_after (account.model turned) v.sender v.extracted (model_of account v).phase) w.carriage
    pub running : w.running ≡ v.running
    pub sender : w.sender ≡ v.sender
    pub extracted : w.extracted ≡ sets_after (account.model turned) v.sender v.extracted (model_of account v).phase
    pub tally : w.tally ≡ v.tally
    pub closed : w.closed ≡ v.closed

  -- Close: every correct controller charges, in its own register, the block of its own verdict
  abbrev pub tallies_after : {K : Type 0} → Rules K → View C → ℕ → ℕ → ℕ
  tallies_after rules v q b = cond (is_correct (model_of account v) q && charges rules (verdict_at account v q) b) (raised (v.tally q b)) (v.tally q b)

  abbrev pub after_close : {K : Type 0} → Rules K → View C → View C
  after_close rules v =
      record { carriage = v.carriage; running = false; sender = v.sender; extracted = v.extracted; tally = tallies_after rules v; closed = v.closed + 1 }

-- the calls that change a bench, with all their arguments; begin and close are handed the list as well
pub data Call (K : Type 0) : Type 0 where
  begin : ℕ → Option K → Call K
  inject : Frame → Call K
  turn : ℕ → Call K
  close : ℕ → Call K

pub data Event (K : Type 0) : Type 0 where
  taken : Call K → Event K
  refused : Call K → Event K

module _ {C K : Type 0} (account : Account C) (rules : Rules K) where
  abbrev pub fault_of : View C → Call K → Option BenchFault
  fault_of v (begin s x) = begin_fault account rules v s x
  fault_of v (inject f) = inject_refusal account v f
  fault_of v (turn k) = turn_refusal account v k
  fault_of v (close s) = close_fault account rules v s

  abbrev pub Does : View C → Call K → View C → Type 0
  Does v (begin s x) w = Begun account s (given rules x) v w
  Does v (inject f) w = Injected account f v w
  Does v (turn k) w = TurnTaken account v w
  Does v (close s) w = w ≡ after_close account rules v

  -- a call is taken exactly when it has no fault, and a refused one changes nothing
  abbrev pub Step : View C → Event K → View C → Type 0
  Step v (taken c) w = (fault_of v c ≡ None) × Does v c w
  Step v (refused c) w = (e : BenchFault) × (fault_of v c ≡ Some e) × (w ≡ v)
