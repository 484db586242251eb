-- The same calls have the same answers, over a carriage whose account leaves nothing open. Assumes nothing.
use Rattle.std.proofs.Common.{◌≡◌, ℕ, ◌+◌, Bool, cond, ◌&&◌, List, ◌∷◌, is_some, Some, None, Option, sym, refl, ap, ◌∙◌, subst, arith}
use Rattle.std.specs.Option.{option_map}
use Rattle.values.specs.Ranges.{block_fault}
use Rattle.faults.specs.declared.causes.CarriageFault.TheVariants.{NotCorrect}
use Rattle.carriage.specs.Model.{Model, is_correct, inject_fault}
use Rattle.carriage.specs.declared.frames.Frame.{Frame}
use Rattle.carriage.specs.declared.frames.Triple.{Triple}
use Rattle.carriage.specs.declared.meaning.Carriage.{Ghosts as Account}
use Rattle.agreement.specs.Views.{View, Rules, model_of, moment_at, fits}
use Rattle.agreement.specs.Extraction.{verdict_of, sets_after, offers_after}
use Rattle.agreement.specs.Refusals.{first, answer_by, length_cause, shots_fault, sender_fault, value_fault, given, moment_fault, verdict_answer, tally_answer}
use Rattle.agreement.specs.Steps.{Offered, none as no_offer, more as offer-more, Begun, Injected, TurnTaken, charges, raised, after_close, Call, begin, inject, turn, close, Event, taken, refused, fault_of, Does, Step}
use Rattle.agreement.specs.Runs.{Run, none, more}
use Rattle.agreement.specs.Repeats.{Settled, Alike, call_of, calls_of, answers_of, Same, AllRepeat}
use Rattle.agreement.specs.declared.bench_faults.BenchFault.TheVariants.{Moment as WrongMoment, Carriage, Value, List as ListCause}
use Rattle.agreement.specs.declared.moments.Act.TheVariants.{Begin, Inject, Turn, Verdict, Close}

-- what a definition of these parts of a view says is the same of alike views
module _ {C S : Type 0} (account : Account C) (state : C → S) (settled : Settled account state) (v w : View C) (alike : Alike state v w) where
  same_model : model_of account v ≡ model_of account w
  same_model = settled.model v.carriage w.carriage alike.carriage

  by_parts : {T : Type 0} (f : Model → Bool → ℕ → (ℕ → ℕ → Bool) → (ℕ → ℕ → ℕ) → ℕ → T)
      → f (model_of account v) v.running v.sender v.extracted v.tally v.closed ≡ f (model_of account w) w.running w.sender w.extracted w.tally w.closed
  by_parts f = λ i. f (same_model i) (alike.running i) (alike.sender i) (alike.extracted i) (alike.tally i) (alike.closed i)

  same_fault : {K : Type 0} (rules : Rules K) (c : Call K) → fault_of account rules v c ≡ fault_of account rules w c
  same_fault rules (begin s x) = by_parts (λ m r _ e t n. first (cond (fits (moment_at r m) n Begin) None (Some WrongMoment)) (first (option_map ListCause (length_cause m rules.values)) (first (shots_fault n) (first (sender_fault m.group s (is_some x)) (value_fault rules x)))))
  same_fault rules (inject f) =
      ap (λ o. first o (option_map Carriage (inject_fault (account.reads_letter v.carriage f) (account.knows_seal v.carriage f) (model_of account v) f))) (by_parts (λ m r _ e t n. cond (fits (moment_at r m) n Inject) None (Some WrongMoment)))
      ∙ ap (λ o. first (moment_fault account w Inject) (option_map Carriage o)) rest
    where
      rest : inject_fault (account.reads_letter v.carriage f) (account.knows_seal v.carriage f) (model_of account v) f ≡ inject_fault (account.reads_letter w.carriage f) (account.knows_seal w.carriage f) (model_of account w) f
      rest = λ i. inject_fault (settled.letter v.carriage w.carriage f alike.carriage i) (settled.seal v.carriage w.carriage f alike.carriage i) (same_model i) f
  same_fault rules (turn k) = by_parts (λ m r _ e t n. cond (fits (moment_at r m) n (Turn k)) None (Some WrongMoment))
  same_fault rules (close s) = by_parts (λ m r _ e t n. first (cond (fits (moment_at r m) n (Close s)) None (Some WrongMoment)) (option_map ListCause (length_cause m rules.values)))

  same_verdict : (q : ℕ) → verdict_answer account v q ≡ verdict_answer account w q
  same_verdict q = by_parts (λ m r _ e t n. answer_by (first (cond (fits (moment_at r m) n Verdict) None (Some WrongMoment)) (cond (is_correct m q) None (Some (Carriage NotCorrect)))) (verdict_of m.len (e q)))

  same_tally : (q b : ℕ) → tally_answer account v q b ≡ tally_answer account w q b
  same_tally q b = by_parts (λ m r _ e t n. answer_by (first (option_map Value (block_fault b)) (cond (is_correct m q) None (Some (Carriage NotCorrect)))) (t q b))

  same_close : {K : Type 0} (rules : Rules K) → Alike state (after_close account rules v) (after_close account rules w)
  same_close rules =
      record {
        carriage = alike.carriage;
        running = refl;
        sender = alike.sender;
        extracted = alike.extracted;
        tally = by_parts (λ m r _ e t n. λ q b. cond (is_correct m q && charges rules (verdict_of m.len (e q)) b) (raised (t q b)) (t q b));
        closed = ap (λ n. n + 1) alike.closed;
      }

module _ {C S : Type 0} (account : Account C) (state : C → S) (settled : Settled account state) where
  same_offers : {c b d e : C} {xs : List Triple} → Offered account c xs b → Offered account d xs e → state c ≡ state d → state b ≡ state e
  same_offers no_offer no_offer p = p
  same_offers (offer-more {c = c} {d = b} {x = x} a o) (offer-more {c = d} {d = e} a' o') p = same_offers o o' (settled.offers c d b e x p a a')

  module _ {K : Type 0} (rules : Rules K) (v z w y : View C) (alike : Alike state v z) where
    same_begin : (s : ℕ) (place : Option ℕ) → Begun account s place v w → Begun account s place z y → Alike state w y
    same_begin s place a b =
        record {
          carriage = same_offers a.offers b.offers (settled.starts v.carriage z.carriage a.fresh b.fresh alike.carriage a.starts b.starts);
          running = a.running ∙ sym b.running;
          sender = a.sender ∙ sym b.sender;
          extracted = a.extracted ∙ sym b.extracted;
          tally = a.tally ∙ alike.tally ∙ sym b.tally;
          closed = a.closed ∙ alike.closed ∙ sym b.closed;
        }

    same_inject : (f : Frame) → Injected account f v w → Injected account f z y → Alike state w y
    same_inject f a b =
        record {
          carriage = settled.injects v.carriage z.carriage w.carriage y.carriage f alike.carriage a.injects b.injects;
          running = a.running ∙ alike.running ∙ sym b.running;
          sender = a.sender ∙ alike.sender ∙ sym b.sender;
          extracted = a.extracted ∙ alike.extracted ∙ sym b.extracted;
          tally = a.tally ∙ alike.tally ∙ sym b.tally;
          closed = a.closed ∙ alike.closed ∙ sym b.closed;
        }

    same_turn : TurnTaken account v w → TurnTaken account z y → Alike state w y
    same_turn a b =
        record {
          carriage = same_offers (subst (λ xs. Offered account a.turned xs w.carriage) lists a.offers) b.offers turned;
          running = a.running ∙ alike.running ∙ sym b.running;
          sender = a.sender ∙ alike.sender ∙ sym b.sender;
          extracted = a.extracted ∙ sets ∙ sym b.extracted;
          tally = a.tally ∙ alike.tally ∙ sym b.tally;
          closed = a.closed ∙ alike.closed ∙ sym b.closed;
        }
      where
        turned : state a.turned ≡ state b.turned
        turned = settled.turns v.carriage z.carriage a.turned b.turned alike.carriage a.turns b.turns

        model : account.model a.turned ≡ account.model b.turned
        model = settled.model a.turned b.turned turned

        phase : (model_of account v).phase ≡ (model_of account z).phase
        phase = ap (λ m. m.phase) (same_model account state settled v z alike)

        lists : offers_after (account.model a.turned) v.sender v.extracted (model_of account v).phase ≡ offers_after (account.model b.turned) z.sender z.extracted (model_of account z).phase
        lists = λ i. offers_after (model i) (alike.sender i) (alike.extracted i) (phase i)

        sets : sets_after (account.model a.turned) v.sender v.extracted (model_of account v).phase ≡ sets_after (account.model b.turned) z.sender z.extracted (model_of account z).phase
        sets = λ i. sets_after (model i) (alike.sender i) (alike.extracted i) (phase i)

    same_does : (c : Call K) → Does account rules v c w → Does account rules z c y → Alike state w y
    same_does (begin s x) a b = same_begin s (given rules x) a b
    same_does (inject f) a b = same_inject f a b
    same_does (turn k) a b = same_turn a b
    same_does (close s) a b =
        subst (λ k. Alike state w k) (sym b) (subst (λ k. Alike state k (after_close account rules z)) (sym a) (same_close account state settled v z alike rules))

    same_step : (e f : Event K) → call_of e ≡ call_of f → Step account rules v e w → Step account rules z f y → (e ≡ f) × Alike state w y
    same_step (taken c) (taken d) p a b = (ap taken p, same_does c a.1 (subst (λ k. Does account rules z k y) (sym p) b.1))
    same_step (taken c) (refused d) p a b =
        let f = a.0 in
        let h = b.1 in
        let k = same_fault account state settled v z alike rules c in
        let l = ap (fault_of account rules z) p in
        let q : ◌≡◌ {A = ℕ} 0 1 = cc in
        absurd (omega arith)
    same_step (refused c) (taken d) p a b =
        let f = a.1 in
        let h = b.0 in
        let k = same_fault account state settled v z alike rules c in
        let l = ap (fault_of account rules z) p in
        let q : ◌≡◌ {A = ℕ} 0 1 = cc in
        absurd (omega arith)
    same_step (refused c) (refused d) p a b = (ap refused p, subst (λ k. Alike state w k) (sym b.2) (subst (λ k. Alike state k z) (sym a.2) alike))

  module _ {K : Type 0} (rules : Rules K) (u v : View C) (alike : Alike state u v) where
    same : {es fs : List (Event K)} {w z : View C} (one : Run account rules u es w) (two : Run account rules v fs z) → Alike state w z → es ≡ fs → answers_of one ≡ answers_of two → Same account rules state one two
    same {w = w} {z = z} one two views events answers =
        record { events = events; answers = answers; views = views; verdicts = same_verdict account state settled w z views; tallies = same_tally account state settled w z views }

    repeat : {es fs : List (Event K)} {w z : View C} (one : Run account rules u es w) (two : Run account rules v fs z) → calls_of es ≡ calls_of fs → Same account rules state one two
    repeat none none p = same none none alike refl refl
    repeat none (more run st) p = let q : ◌≡◌ {A = ℕ} 0 1 = cc in absurd (omega arith)
    repeat (more run st) none p = let q : ◌≡◌ {A = ℕ} 0 1 = cc in absurd (omega arith)
    repeat (more {v = a} {w = w} {es = es} {e = e} run st) (more {v = b} {w = z} {es = fs} {e = f} run' st') p =
        let heads : call_of e ≡ call_of f = cc in
        let tails : calls_of es ≡ calls_of fs = cc in
        let before = repeat run run' tails in
        let now = same_step rules a b w z before.views e f heads st st' in
        let answer = same_fault account state settled a b before.views rules (call_of e) ∙ ap (fault_of account rules b) heads in
        same (more run st) (more run' st') now.1 (λ i. now.0 i ∷ before.events i) (λ i. answer i ∷ before.answers i)

-- the same calls have the same answers
pub repeating : {C K S : Type 0} (account : Account C) (rules : Rules K) (state : C → S) → Settled account state → AllRepeat account rules state
repeating account rules state settled u v alike es fs w z one two p = repeat account state settled rules u v alike one two p
