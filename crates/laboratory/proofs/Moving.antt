-- What frames and turns move, and that the turns of a shot are taken. Assumes nothing.
use Rattle.std.proofs.Common.{◌≡◌, ℕ, suc, ◌+◌, ◌*◌, ◌<◌, cond, eqb, List, [], ◌∷◌, Some, None, Ok, Err, Option, Result, sym, refl, ap, ◌∙◌, subst, arith, MatchResult}
use Rattle.std.specs.Option.{option_map}
use Rattle.std.specs.Result.{result_err}
use Rattle.std.proofs.lemmas.Bool.{eq-eqb, ne_eqb, cond-true, cond-false}
use Rattle.agreement.specs.Refusals.{given, begin_fault, inject_refusal, turn_refusal}
use Rattle.agreement.specs.Runs.{Run, none as ran-none, more as ran-more, closings, shot_of, turned_on}
use Rattle.agreement.specs.Steps.{Event, taken, begin, inject, turn, Begun, Injected}
use Rattle.agreement.specs.Views.{View, Rules, model_of, moment_of, fits}
use Rattle.agreement.specs.declared.bench_faults.BenchFault.{BenchFault}
use Rattle.agreement.specs.declared.bench_faults.BenchFault.TheVariants.{Moment as WrongMoment}
use Rattle.agreement.specs.declared.moments.Act.TheVariants.{Turn}
use Rattle.agreement.specs.declared.moments.Moment.TheVariants.{Running}
use Rattle.agreement.proofs.Agreement.{Keeps}
use Rattle.agreement.proofs.Offering.{chain_offers}
use Rattle.bench.specs.Views.{view_of}
use Rattle.bench.specs.declared.state.Bench.{Bench}
use Rattle.carriage.specs.Model.{end_phase}
use Rattle.carriage.specs.declared.frames.Frame.{Frame}
use Rattle.carriage.specs.declared.meaning.Carriage.{Ghosts as Account}
use Rattle.laboratory.specs.Passing.{Passed, Turnable, Played}

-- one frame more, taken or refused
pub inject_more : {C : Type 0} {account : Account C} {v : View C} {k : ℕ} (b d : Bench C) (f : Frame) (r : Result (Unit {0}) BenchFault)
    → Passed account v k (view_of b) → result_err r ≡ inject_refusal account (view_of b) f → MatchResult r (λ _. Injected account f (view_of b) (view_of d)) (λ _. d ≡ b) → Passed account v k (view_of d)
inject_more b d f (Ok x) p e s = Passed.injected f p (sym e) s
inject_more {C} {account} {v} {k} b d f (Err x) p e s = subst (λ z. Passed account v k (view_of z)) (sym s) p

module _ {C : Type 0} (account : Account C) (keeps : Keeps account) where
  -- the phase moves with the turns, and nothing else that is looked at here
  pub record Moved (v w : View C) (k : ℕ) : Type 0 where
    pub phase : (model_of account w).phase ≡ (model_of account v).phase + k
    pub group : (model_of account w).group ≡ (model_of account v).group
    pub len : (model_of account w).len ≡ (model_of account v).len
    pub running : w.running ≡ v.running
    pub closed : w.closed ≡ v.closed

  pub moved : {v w : View C} {k : ℕ} → Passed account v k w → Moved v w k
  moved Passed.none = record { phase = omega arith; group = refl; len = refl; running = refl; closed = refl }
  moved (Passed.injected {w = w} {x = x} f p e i) =
      let before = moved p in
      let same = keeps.injects w.carriage f x.carriage i.injects in
      record {
        phase = ap (λ m. m.phase) same ∙ before.phase;
        group = ap (λ m. m.group) same ∙ before.group;
        len = ap (λ m. m.len) same ∙ before.len;
        running = i.running ∙ before.running;
        closed = i.closed ∙ before.closed;
      }
  moved (Passed.turned {w = w} {k = k} p e t) =
      let before = moved p in
      let turns = keeps.turns w.carriage t.turned t.turns in
      let offers = chain_offers account keeps.offers t.offers in
      record {
        phase = omega (arith, offers.phase, turns.phase, before.phase);
        group = offers.group ∙ turns.group ∙ before.group;
        len = offers.len ∙ turns.len ∙ before.len;
        running = t.running ∙ before.running;
        closed = t.closed ∙ before.closed;
      }

  -- the next turn of a shot that has more phases is taken
  pub next_fine : (u w : View C) (count k : ℕ) → Turnable account u count → k < count → Passed account u k w → turn_refusal account w (k + 1) ≡ None
  next_fine u w count k can l p =
      let m = model_of account w in
      let by = moved p in
      let here : k + 1 ≡ m.phase = omega (arith, by.phase, can.phase) in
      let t : m.group.t ≡ (model_of account u).group.t = ap (λ g. g.t) by.group in
      let inside : m.phase ≡ end_phase m.group → ⊥ = λ e. omega (arith, can.few) in
      let moment : moment_of account w ≡ Running m.phase = cond-true w.running _ _ (by.running ∙ can.running) ∙ cond-false (eqb m.phase (end_phase m.group)) _ _ (ne_eqb _ _ inside) in
      ap (λ o. cond (fits o w.closed (Turn (k + 1))) None (Some WrongMoment)) moment ∙ cond-true (eqb (k + 1) m.phase) _ _ (eq-eqb _ _ here)

  -- a shot just begun
  pub begun_moves : (s : ℕ) (place : Option ℕ) (v w : View C) → Begun account s place v w
      → ((model_of account w).phase ≡ 1) × ((model_of account w).group ≡ (model_of account v).group) × ((model_of account w).len ≡ (model_of account v).len)
  begun_moves s place v w b =
      let only = chain_offers account keeps.offers b.offers in
      let fresh = keeps.starts v.carriage b.fresh b.starts in
      (only.phase ∙ ap (λ m. m.phase) fresh, only.group ∙ ap (λ m. m.group) fresh, only.len ∙ ap (λ m. m.len) fresh)

  pub turnable : (s : ℕ) (place : Option ℕ) (u v w : View C) (count : ℕ) → Begun account s place u v → Passed account v 0 w → count ≡ 2 * ((model_of account w).group.t + 1) → Turnable account w count
  turnable s place u v w count b p all =
      let by = moved p in
      record { running = by.running ∙ b.running; phase = omega (arith, by.phase, (begun_moves s place u v b).0); few = omega arith }

module _ {C K : Type 0} (account : Account C) (rules : Rules K) where
  -- a stretch of a shot of this sender with this value, so many turns after its begin
  record Stretch (s : ℕ) (x : Option K) (k : ℕ) (u w : View C) : Type 0 where
    events : List (Event K)
    run : Run account rules u events w
    unclosed : closings run ≡ []
    shot : shot_of events ≡ Some (record { sender = s; value = x; turns = k })

  on : (s : ℕ) (x : Option K) (n : ℕ) (u v : View C) → Stretch s x n u v → {k : ℕ} {w : View C} → Passed account v k w → Stretch s x (n + k) u w
  on s x n u v a Passed.none = record { events = a.events; run = a.run; unclosed = a.unclosed; shot = a.shot ∙ ap (λ (t : ℕ). Some (record { sender = s; value = x; turns = t })) (omega arith) }
  on s x n u v a (Passed.injected f p e i) = let b = on s x n u v a p in record { events = taken (inject f) ∷ b.events; run = ran-more b.run (e, i); unclosed = b.unclosed; shot = b.shot }
  on s x n u v a (Passed.turned {k = k} p e t) =
      let b = on s x n u v a p in
      record {
        events = taken (turn (suc k)) ∷ b.events;
        run = ran-more b.run (e, t);
        unclosed = b.unclosed;
        shot = ap (option_map turned_on) b.shot ∙ ap (λ (t : ℕ). Some (record { sender = s; value = x; turns = t })) (omega arith);
      }

  pub played_by : Keeps account → (s : ℕ) (x : Option K) (u v y w : View C) (count : ℕ) → begin_fault account rules u s x ≡ None → Begun account s (given rules x) u v → Passed account v 0 y → count ≡ 2 * ((model_of account y).group.t + 1)
      → Passed account y count w → Played account rules s x u w
  played_by keeps s x u v y w count fine b frames all turns =
      let began = begun_moves account keeps s (given rules x) u v b in
      let first = moved account keeps frames in
      let then = moved account keeps turns in
      let start : Stretch s x 0 u v = record { events = taken (begin s x) ∷ []; run = ran-more ran-none (fine, b); unclosed = refl; shot = refl } in
      let whole = on s x 0 u y (on s x 0 u v start frames) turns in
      let group = then.group ∙ first.group ∙ began.1 in
      let t : (model_of account y).group.t ≡ (model_of account u).group.t = ap (λ g. g.t) (first.group ∙ began.1) in
      let t-end : (model_of account w).group.t ≡ (model_of account u).group.t = ap (λ g. g.t) group in
      let end : (model_of account w).phase ≡ end_phase (model_of account w).group = omega (arith, then.phase, first.phase, began.0) in
      record {
        events = whole.events;
        run = whole.run;
        unclosed = whole.unclosed;
        shot = whole.shot ∙ ap (λ (k : ℕ). Some (record { sender = s; value = x; turns = k })) (omega arith);
        ended = cond-true w.running _ _ (then.running ∙ first.running ∙ b.running) ∙ cond-true (eqb (model_of account w).phase (end_phase (model_of account w).group)) _ _ (eq-eqb _ _ end);
        group = group;
        len = then.len ∙ first.len ∙ began.2;
        closed = then.closed ∙ first.closed ∙ b.closed;
      }
