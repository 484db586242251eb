-- Runs that repeat: where a carriage's own account leaves nothing open, the same calls have the same answers. Assumes nothing.
use Rattle.std.specs.Prelude.{◌≡◌, ℕ, List, [], ◌∷◌, Option}
use Rattle.carriage.specs.declared.frames.Frame.{Frame}
use Rattle.carriage.specs.declared.frames.Triple.{Triple}
use Rattle.carriage.specs.declared.meaning.Carriage.{Ghosts as Account}
use Rattle.agreement.specs.Views.{View, Rules}
use Rattle.agreement.specs.Refusals.{verdict_answer, tally_answer}
use Rattle.agreement.specs.Steps.{Call, Event, taken, refused, fault_of}
use Rattle.agreement.specs.Runs.{Run, none, more}
use Rattle.agreement.specs.declared.bench_faults.BenchFault.{BenchFault}

-- carriages in equal states stand for the same and go on to equal states
pub record Settled {C S : Type 0} (account : Account C) (state : C → S) : Type 0 where
  pub model : (c d : C) → state c ≡ state d → account.model c ≡ account.model d
  pub letter : (c d : C) (f : Frame) → state c ≡ state d → account.reads_letter c f ≡ account.reads_letter d f
  pub seal : (c d : C) (f : Frame) → state c ≡ state d → account.knows_seal c f ≡ account.knows_seal d f
  pub starts : (c d b e : C) → state c ≡ state d → account.starts c b → account.starts d e → state b ≡ state e
  pub offers : (c d b e : C) (x : Triple) → state c ≡ state d → account.offers c x b → account.offers d x e → state b ≡ state e
  pub injects : (c d b e : C) (f : Frame) → state c ≡ state d → account.injects c f b → account.injects d f e → state b ≡ state e
  pub turns : (c d b e : C) → state c ≡ state d → account.turns c b → account.turns d e → state b ≡ state e

-- two views that differ in nothing but what the state leaves out
pub record Alike {C S : Type 0} (state : C → S) (v w : View C) : Type 0 where
  pub carriage : state v.carriage ≡ state w.carriage
  pub running : v.running ≡ w.running
  pub sender : v.sender ≡ w.sender
  pub extracted : v.extracted ≡ w.extracted
  pub tally : v.tally ≡ w.tally
  pub closed : v.closed ≡ w.closed

abbrev pub call_of : {K : Type 0} → Event K → Call K
call_of (taken c) = c
call_of (refused c) = c

abbrev pub calls_of : {K : Type 0} → List (Event K) → List (Call K)
calls_of [] = []
calls_of (e ∷ es) = call_of e ∷ calls_of es

-- the answers of a run, the newest first: no fault, or which
abbrev pub answers_of : {C K : Type 0} {account : Account C} {rules : Rules K} {u w : View C} {es : List (Event K)} → Run account rules u es w → List (Option BenchFault)
answers_of none = []
answers_of {account = account} {rules = rules} (more {v = v} {e = e} run step) = fault_of account rules v (call_of e) ∷ answers_of run

module _ {C K S : Type 0} (account : Account C) (rules : Rules K) (state : C → S) where
  -- two runs of the same calls
  pub record Same {u v : View C} {es fs : List (Event K)} {w z : View C} (one : Run account rules u es w) (two : Run account rules v fs z) : Type 0 where
    pub events : es ≡ fs
    pub answers : answers_of one ≡ answers_of two
    pub views : Alike state w z
    pub verdicts : (q : ℕ) → verdict_answer account w q ≡ verdict_answer account z q
    pub tallies : (q b : ℕ) → tally_answer account w q b ≡ tally_answer account z q b

  abbrev pub AllRepeat : Type 0
  AllRepeat = (u v : View C) → Alike state u v → (es fs : List (Event K)) (w z : View C) (one : Run account rules u es w) (two : Run account rules v fs z) → calls_of es ≡ calls_of fs → Same one two
