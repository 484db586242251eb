-- The law of agreement, for every carriage that keeps its meaning: by induction over the run. Assumes nothing.
use Rattle.std.proofs.Common.{◌≡◌, ℕ, ◌+◌, ◌*◌, ◌<◌, min, Bool, true, false, cond, ◌&&◌, eqb, ltb, List, [], ◌∷◌, length, Some, None, Ok, Option, sym, refl, ap, ◌∙◌, subst, ⊎_elim, arith}
use Rattle.std.specs.Option.{option_map}
use Rattle.std.proofs.lemmas.Bool.{cond-true, both_ways, eq-eqb, eqb-true, cases_Bool, lt-ltb, ltb-true, ltb-false}
use Rattle.values.specs.Ranges.{block_fault}
use Rattle.faults.specs.declared.causes.ValueFault.TheVariants.{Block}
use Rattle.groups.specs.Groups.{correct}
use Rattle.carriage.specs.Model.{Model, Lawful, Turned, is_correct, afresh, after_offer, end_phase}
use Rattle.faults.specs.declared.causes.CarriageFault.TheVariants.{NotCorrect}
use Rattle.carriage.specs.declared.frames.Frame.{Frame}
use Rattle.carriage.specs.declared.frames.Triple.{Triple}
use Rattle.carriage.specs.declared.meaning.Carriage.{Ghosts as Account}
use Rattle.groups.proofs.Marked.{someone_correct}
use Rattle.agreement.specs.Views.{View, Rules, model_of, moment_at, moment_of, fits}
use Rattle.agreement.specs.Extraction.{first_offers, offers_after}
use Rattle.agreement.specs.Refusals.{given, first, answer_by, reader_fault, begin_fault, close_fault, verdict_at, verdict_answer, tally_answer}
use Rattle.agreement.specs.Steps.{Begun, Injected, TurnTaken, after_close, charges, raised, Event, taken, refused, begin, inject, turn, close, Step}
use Rattle.agreement.specs.Runs.{Run, none as ran-none, more as ran-more, Shot, turned_on, shot_of, note_close, closings}
use Rattle.agreement.specs.Law.{told_by, times, AllShow, Shown, none as shown-none, more as shown-more, Agreed, AllAgree, opened}
use Rattle.agreement.specs.declared.bench_faults.BenchFault.TheVariants.{Moment as WrongMoment, Value, Carriage}
use Rattle.agreement.specs.declared.moments.Act.TheVariants.{Verdict as AskVerdict, Close}
use Rattle.agreement.specs.declared.moments.Moment.TheVariants.{Running, Ended}
use Rattle.agreement.specs.declared.moments.Verdict.{Verdict}
use Rattle.agreement.proofs.Offering.{OnlyOffers, chain_offers}
use Rattle.agreement.proofs.Keeping.{Kept, turn_keeps}
use Rattle.agreement.proofs.Verdicts.{bool_same, verdict_same, verdict_one, verdict_none}
use Rattle.agreement.proofs.Beginning.{first_none, passed, may_begin, given_right, begin_keeps}

times_more : {K : Type 0} (rules : Rules K) (b : ℕ) (d : Verdict) (ds : List Verdict) → cond (charges rules d b) 1 0 + times rules b ds ≡ times rules b (d ∷ ds)
unfolding times
times_more rules b d ds = refl

times_none : {K : Type 0} (rules : Rules K) (b : ℕ) → 0 ≡ min 3 (times rules b [])
unfolding times
times_none rules b = refl

-- the laws that every carriage keeps
pub record Keeps {C : Type 0} (account : Account C) : Type 0 where
  pub lawful : (c : C) → Lawful (account.model c)
  pub starts : (c d : C) → account.starts c d → account.model d ≡ afresh (account.model c)
  pub offers : (c : C) (x : Triple) (d : C) → account.offers c x d → account.model d ≡ after_offer (account.model c) x
  pub injects : (c : C) (f : Frame) (d : C) → account.injects c f d → account.model d ≡ account.model c
  pub turns : (c d : C) → account.turns c d → Turned (account.model c) (account.model d)

module _ {C K : Type 0} (account : Account C) (rules : Rules K) where
  -- the view of a running shot
  pub record Goes (w : View C) (shot : Shot K) : Type 0 where
    pub running : w.running ≡ true
    pub sender : w.sender ≡ shot.sender
    pub phase : (model_of account w).phase ≡ shot.turns + 1
    pub kept : Kept (model_of account w) w.sender (given rules shot.value) w.extracted

  abbrev pub Stands : View C → Option (Shot K) → Type 0
  Stands w None = w.running ≡ false
  Stands w (Some shot) = Goes w shot

  -- what is kept along a run
  pub record Along (u : View C) (running : Option (Shot K)) (before : List (View C)) (w : View C) : Type 0 where
    pub group : (model_of account w).group ≡ (model_of account u).group
    pub len : (model_of account w).len ≡ (model_of account u).len
    pub stands : Stands w running
    pub verdicts : List Verdict
    pub shown : Shown account before verdicts
    pub closed : w.closed ≡ length verdicts
    pub tallies : (q b : ℕ) → is_correct (model_of account u) q ≡ true → w.tally q b ≡ min 3 (times rules b verdicts)

  -- all phases had: the moment, and what a correct controller answers then
  ended : (v : View C) → v.running ≡ true → (model_of account v).phase ≡ end_phase (model_of account v).group → moment_of account v ≡ Ended
  ended v run end = cond-true v.running _ _ run ∙ cond-true (eqb (model_of account v).phase (end_phase (model_of account v).group)) _ _ (eq-eqb _ _ end)

  shows : (v : View C) (q : ℕ) → moment_of account v ≡ Ended → is_correct (model_of account v) q ≡ true → verdict_answer account v q ≡ Ok (verdict_at account v q)
  shows v q e ok =
      ap (λ o. answer_by (first (cond (fits o v.closed AskVerdict) None (Some WrongMoment)) (reader_fault account v q)) (verdict_at account v q)) e
      ∙ ap (λ o. answer_by o (verdict_at account v q)) (cond-true (is_correct (model_of account v) q) None _ ok)

  module _ (v : View C) (shot : Shot K) (goes : Goes v shot) (end : (model_of account v).phase ≡ end_phase (model_of account v).group) where
    sets_same : (q r : ℕ) → is_correct (model_of account v) q ≡ true → is_correct (model_of account v) r ≡ true → verdict_at account v q ≡ verdict_at account v r
    sets_same q r a b =
        verdict_same (model_of account v).len (v.extracted q) (v.extracted r)
        (λ p l. bool_same _ _ (λ e. goes.kept.same end q p e r b) (λ e. goes.kept.same end r p e q a))

    -- of a correct sender the verdict is what it was given
    tells_value : is_correct (model_of account v) v.sender ≡ true → verdict_at account v v.sender ≡ told_by (given rules shot.value)
    tells_value ok = go (given rules shot.value) refl
      where
        go : (o : Option ℕ) → given rules shot.value ≡ o → verdict_at account v v.sender ≡ told_by o
        go None e =
            verdict_none (model_of account v).len (v.extracted v.sender)
            (λ k l. ⊎_elim (λ f. let h = goes.kept.honest ok v.sender k f in let z : ◌≡◌ {A = ℕ} 0 1 = cc in absurd (omega arith)) (λ f. f) (cases_Bool (v.extracted v.sender k)))
        go (Some p) e =
            let has = goes.kept.sent p e in
            verdict_one (model_of account v).len (v.extracted v.sender) p (goes.kept.who v.sender p has).1 has
            (λ k l f. let h = goes.kept.honest ok v.sender k f in let same : k ≡ p = cc in same)

    all_show : (d : Verdict) × AllShow account v d × (is_correct (model_of account v) shot.sender ≡ true → d ≡ told_by (given rules shot.value))
    all_show =
        let w = someone_correct (model_of account v).group in (
          verdict_at account v w.0,
          λ q ok. shows v q (ended v goes.running end) ok ∙ ap Ok (sets_same q w.0 ok w.2),
          λ ok. let mine = ap (is_correct (model_of account v)) goes.sender ∙ ok in sets_same w.0 v.sender w.2 mine ∙ tells_value mine,
        )

kept_at : (m : Model) (s z : ℕ) (place : Option ℕ) (f h : ℕ → ℕ → Bool) → z ≡ s → h ≡ f → Kept m s place f → Kept m z place h
kept_at m s z place f h a b k = subst (λ g. Kept m z place g) (sym b) (subst (λ y. Kept m y place f) (sym a) k)

-- one charge more or none, of a tally that stops at 3
charged_more : (c : Bool) (t n : ℕ) → t ≡ min 3 n → cond c (raised t) t ≡ min 3 (cond c 1 0 + n)
charged_more true t n e = go (ltb t 3) refl
  where
    go : (b : Bool) → ltb t 3 ≡ b → cond b (t + 1) t ≡ min 3 (1 + n)
    go true f = omega (arith, ltb-true t 3 f)
    go false f = omega (arith, ltb-false t 3 f)
charged_more false t n e = omega arith

-- a close comes when all phases are had
pub close_ended : (running : Bool) (m : Model) (closed s : ℕ) → fits (moment_at running m) closed (Close s) ≡ true → (running ≡ true) × (m.phase ≡ end_phase m.group)
close_ended false m closed s e = absurd (both_ways false refl e)
close_ended true m closed s e = go (eqb m.phase (end_phase m.group)) refl e
  where
    go : (b : Bool) → eqb m.phase (end_phase m.group) ≡ b → fits (cond b Ended (Running m.phase)) closed (Close s) ≡ true → (true ≡ true) × (m.phase ≡ end_phase m.group)
    go true f h = (refl, eqb-true _ _ f)
    go false f h = absurd (both_ways false refl h)

module _ {C K : Type 0} (account : Account C) (rules : Rules K) (keeps : Keeps account) (u : View C) where
  along_begin : (v w : View C) (s : ℕ) (x : Option K) (old : Option (Shot K)) (vs : List (View C)) → begin_fault account rules v s x ≡ None → Begun account s (given rules x) v w
      → Along account rules u old vs v → Along account rules u (Some (record { sender = s; value = x; turns = 0 })) vs w
  along_begin v w s x old vs fine b a =
      let made : OnlyOffers (afresh (model_of account v)) (model_of account w) (first_offers s (given rules x)) =
      subst (λ m. OnlyOffers m (model_of account w) (first_offers s (given rules x))) (keeps.starts v.carriage b.fresh b.starts) (chain_offers account keeps.offers b.offers) in
      record {
        group = made.group ∙ a.group;
        len = made.len ∙ a.len;
        stands = record {
          running = b.running;
          sender = b.sender;
          phase = made.phase;
          kept = kept_at (model_of account w) s w.sender (given rules x) _ w.extracted b.sender b.extracted
              (begin_keeps (model_of account v) (model_of account w) s (given rules x) made (given_right account rules v s x (may_begin account rules v s x fine)));
        };
        verdicts = a.verdicts;
        shown = a.shown;
        closed = b.closed ∙ a.closed;
        tallies = λ q c ok. ap (λ f. f q c) b.tally ∙ a.tallies q c ok;
      }

  along_inject : (v w : View C) (f : Frame) (shot : Option (Shot K)) (vs : List (View C)) → Injected account f v w → Along account rules u shot vs v → Along account rules u shot vs w
  along_inject v w f shot vs i a =
      record {
        group = ap (λ m. m.group) same ∙ a.group;
        len = ap (λ m. m.len) same ∙ a.len;
        stands = go shot a.stands;
        verdicts = a.verdicts;
        shown = a.shown;
        closed = i.closed ∙ a.closed;
        tallies = λ q c ok. ap (λ f. f q c) i.tally ∙ a.tallies q c ok;
      }
    where
      same : model_of account w ≡ model_of account v
      same = keeps.injects v.carriage f w.carriage i.injects

      go : (o : Option (Shot K)) → Stands account rules v o → Stands account rules w o
      go None st = i.running ∙ st
      go (Some sh) st =
          record {
            running = i.running ∙ st.running;
            sender = i.sender ∙ st.sender;
            phase = ap (λ m. m.phase) same ∙ st.phase;
            kept = kept_at (model_of account w) v.sender w.sender _ _ w.extracted i.sender i.extracted (subst (λ m. Kept m v.sender (given rules sh.value) v.extracted) (sym same) st.kept);
          }

  along_turn : (v w : View C) (shot : Option (Shot K)) (vs : List (View C)) → TurnTaken account v w → Along account rules u shot vs v → Along account rules u (option_map turned_on shot) vs w
  along_turn v w shot vs t a =
      record {
        group = offers.group ∙ turned.group ∙ a.group;
        len = offers.len ∙ turned.len ∙ a.len;
        stands = go shot a.stands;
        verdicts = a.verdicts;
        shown = a.shown;
        closed = t.closed ∙ a.closed;
        tallies = λ q c ok. ap (λ f. f q c) t.tally ∙ a.tallies q c ok;
      }
    where
      turned : Turned (model_of account v) (account.model t.turned)
      turned = keeps.turns v.carriage t.turned t.turns

      offers : OnlyOffers (account.model t.turned) (model_of account w) (offers_after (account.model t.turned) v.sender v.extracted (model_of account v).phase)
      offers = chain_offers account keeps.offers t.offers

      go : (o : Option (Shot K)) → Stands account rules v o → Stands account rules w (option_map turned_on o)
      go None st = t.running ∙ st
      go (Some sh) st =
          record {
            running = t.running ∙ st.running;
            sender = t.sender ∙ st.sender;
            phase = omega (arith, offers.phase, turned.phase, st.phase);
            kept = kept_at (model_of account w) v.sender w.sender _ _ w.extracted t.sender t.extracted
                (turn_keeps (model_of account v) (account.model t.turned) v.sender (given rules sh.value) v.extracted (keeps.lawful v.carriage) (keeps.lawful t.turned) turned st.kept (model_of account w) offers);
          }

  along_close : (v : View C) (s : ℕ) (shot : Option (Shot K)) (vs : List (View C)) → close_fault account rules v s ≡ None → Along account rules u shot vs v
      → Along account rules u None (v ∷ vs) (after_close account rules v)
  along_close v s shot vs fine a = go shot a.stands
    where
      when : (v.running ≡ true) × ((model_of account v).phase ≡ end_phase (model_of account v).group)
      when = close_ended v.running (model_of account v) v.closed s (passed _ None _ (first_none _ _ fine).0).0

      go : (o : Option (Shot K)) → Stands account rules v o → Along account rules u None (v ∷ vs) (after_close account rules v)
      go None st = absurd (both_ways v.running st when.0)
      go (Some sh) st =
          let all = all_show account rules v sh st when.1 in
          record {
            group = a.group;
            len = a.len;
            stands = refl;
            verdicts = all.0 ∷ a.verdicts;
            shown = shown-more all.1 a.shown;
            closed = omega (arith, a.closed);
            tallies = λ q b ok.
                let here : is_correct (model_of account v) q ≡ true = ap (λ g. correct g q) a.group ∙ ok in
                let answers = shows account rules v q (ended account rules v when.0 when.1) here in
                let shown-too = all.1 q here in
                let same : verdict_at account v q ≡ all.0 = cc in
                ap (λ c. cond (c && charges rules (verdict_at account v q) b) (raised (v.tally q b)) (v.tally q b)) here
                ∙ ap (λ d. cond (charges rules d b) (raised (v.tally q b)) (v.tally q b)) same
                ∙ charged_more (charges rules all.0 b) (v.tally q b) (times rules b a.verdicts) (a.tallies q b ok)
                ∙ ap (min 3) (times_more rules b all.0 a.verdicts);
          }

  along_step : (v w : View C) (es : List (Event K)) (e : Event K) (vs : List (View C)) → Step account rules v e w → Along account rules u (shot_of es) vs v
      → Along account rules u (shot_of (e ∷ es)) (note_close e v vs) w
  along_step v w es (taken (begin s x)) vs st a = along_begin v w s x (shot_of es) vs st.0 st.1 a
  along_step v w es (taken (inject f)) vs st a = along_inject v w f (shot_of es) vs st.1 a
  along_step v w es (taken (turn k)) vs st a = along_turn v w (shot_of es) vs st.1 a
  along_step v w es (taken (close s)) vs st a = subst (λ z. Along account rules u None (v ∷ vs) z) (sym st.1) (along_close v s (shot_of es) vs st.0 a)
  along_step v w es (refused c) vs st a = subst (λ z. Along account rules u (shot_of es) vs z) (sym st.2) a

  along_run : Along account rules u None [] u → {es : List (Event K)} {w : View C} (run : Run account rules u es w) → Along account rules u (shot_of es) (closings run) w
  along_run start ran-none = start
  along_run start (ran-more {v = v} {w = w} {es = es} {e = e} run st) = along_step v w es e (closings run) st (along_run start run)

  tally_read : (w : View C) (q b : ℕ) → is_correct (model_of account w) q ≡ true → b < 64 → tally_answer account w q b ≡ Ok (w.tally q b)
  tally_read w q b ok small =
      ap (λ c. answer_by (first (option_map Value (cond c None (Some Block))) (reader_fault account w q)) (w.tally q b)) (lt-ltb b 64 small)
      ∙ ap (λ c. answer_by (cond c None (Some (Carriage NotCorrect))) (w.tally q b)) ok

  -- what is kept along a run is the law
  agreed : (es : List (Event K)) (vs : List (View C)) (w : View C) → Along account rules u (shot_of es) vs w → Agreed account rules u es vs w
  agreed es vs w a =
      record {
        group = a.group;
        len = a.len;
        idle = λ e. subst (Stands account rules w) e a.stands;
        runs = λ shot e. let g = goes shot e in (g.running, g.sender, g.phase);
        agree = agree;
        verdicts = a.verdicts;
        shown = a.shown;
        closed = a.closed;
        equal = equal;
        tallies = tallies;
        out = λ q b ok small. (λ three. tallies q b ok small ∙ ap Ok (omega arith), λ e. let t = tallies q b ok small in let z : min 3 (times rules b a.verdicts) ≡ 3 = cc in omega arith);
      }
    where
      goes : (shot : Shot K) → shot_of es ≡ Some shot → Goes account rules w shot
      goes shot e = subst (Stands account rules w) e a.stands

      agree : (shot : Shot K) → shot_of es ≡ Some shot → shot.turns ≡ 2 * ((model_of account u).group.t + 1)
          → (d : Verdict) × AllShow account w d × (is_correct (model_of account u) shot.sender ≡ true → d ≡ told_by (given rules shot.value))
      agree shot e all =
          let same_t : (model_of account w).group.t ≡ (model_of account u).group.t = ap (λ g. g.t) a.group in
          let g = goes shot e in
          let r = all_show account rules w shot g (omega (arith, g.phase)) in
          (r.0, r.1, λ ok. r.2 (ap (λ g. correct g shot.sender) a.group ∙ ok))

      equal : (q r b : ℕ) → is_correct (model_of account u) q ≡ true → is_correct (model_of account u) r ≡ true → tally_answer account w q b ≡ tally_answer account w r b
      equal q r b one two =
          ap (λ c. answer_by (first (option_map Value (block_fault b)) (cond c None (Some (Carriage NotCorrect)))) (w.tally q b)) (here q one ∙ sym (here r two))
          ∙ ap (λ n. answer_by (first (option_map Value (block_fault b)) (reader_fault account w r)) n) (a.tallies q b one ∙ sym (a.tallies r b two))
        where
          here : (p : ℕ) → is_correct (model_of account u) p ≡ true → is_correct (model_of account w) p ≡ true
          here p ok = ap (λ g. correct g p) a.group ∙ ok

      tallies : (q b : ℕ) → is_correct (model_of account u) q ≡ true → b < 64 → tally_answer account w q b ≡ Ok (min 3 (times rules b a.verdicts))
      tallies q b ok small = tally_read w q b (ap (λ g. correct g q) a.group ∙ ok) small ∙ ap Ok (a.tallies q b ok)

-- the law of agreement: a bench just opened over a carriage that keeps its meaning agrees for ever
pub agreement : {C K : Type 0} (account : Account C) (rules : Rules K) → Keeps account → (c : C) → AllAgree account rules (opened c)
agreement account rules keeps c es w run = agreed account rules keeps (opened c) es (closings run) w (along_run account rules keeps (opened c) start run)
  where
    start : Along account rules (opened c) None [] (opened c)
    start = record { group = refl; len = refl; stands = refl; verdicts = []; shown = shown-none; closed = refl; tallies = λ q b ok. times_none rules b }
