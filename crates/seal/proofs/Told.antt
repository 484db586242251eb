-- After every run the carriage's state is what the run's events say, and the events say it in words. Assumes nothing.
use Rattle.std.proofs.Common.{◌≡◌, ℕ, suc, ◌+◌, ◌*◌, ◌≤◌, Bool, true, false, not, ◌&&◌, ◌||◌, eqb, leb, List, [], ◌∷◌, sym, refl, ap, ◌∙◌, subst, inl, inr, ⊎_elim, add-one, arith}
use mathlib.Core.Bool.{Bool-set}
use mathlib.Core.Logic.{∥∥₁_elim}
use Rattle.std.proofs.lemmas.Bool.{and_parts, and_from, and_left, and_right, or_cases, or_left, or_right, both_ways, eq-eqb, ne_eqb, leb-true, le-leb, cases_Bool, not-true, not_from_false, false≢true}
use Rattle.sets.specs.Sets.{count}
use Rattle.sets.proofs.Counts.{someone_in, in_someone}
use Rattle.groups.specs.Groups.{correct}
use Rattle.carriage.specs.Triples.{in_range, same_triple}
use Rattle.carriage.specs.Runs.{Event, start, offer, inject, turn, Ran, none, started, offered, injected, turned, phase_after, was_offered, offered_now, injected_now}
use Rattle.carriage.specs.Moments.{Since, SamePhase}
use Rattle.groups.specs.declared.members.Group.{Group}
use Rattle.carriage.specs.declared.frames.Triple.{Triple}
use Rattle.carriage.proofs.Allowed.{offer_allowed}
use Rattle.groups.proofs.Marked.{correct_below}
use Rattle.carriage.proofs.Slots.{same_is}
use Rattle.seal.specs.Seals.{seal_account, seal_model, state_of}
use Rattle.seal.specs.Sound.{Sound}
use Rattle.seal.specs.State.{State, fresh_state, start_state, offer_state, inject_state, turn_state, takes}
use Rattle.seal.specs.Story.{brings_to, hears_now, steps_now, has_accepted, newly_accepted, OnePhaseEarlier, Hears, Heard, TellsTheRun}
use Rattle.seal.specs.declared.sealing.Seal.{Seal}

module _ (g : Group) (len : ℕ) where
  -- the state that the events tell of
  abbrev story_state : List Event → State
  story_state es = record {
    group = g;
    len = len;
    phase = phase_after es;
    offered = was_offered es;
    accepted = has_accepted g len es;
    fresh = newly_accepted g len es;
    told = λ q x. injected_now es (brings_to q x);
  }

  -- along a run: the state, and that an offer was made in the current phase exactly when this is its round's first phase
  record Along (es : List Event) (d : Seal) : Type 0 where
    is : state_of d ≡ story_state es
    first : (x : Triple) → (was_offered es x && eqb (2 * x.round) (phase_after es + 1)) ≡ offered_now es x

  turn_story : (es : List Event) → ((x : Triple) → (was_offered es x && eqb (2 * x.round) (phase_after es + 1)) ≡ offered_now es x) → turn_state (story_state es) ≡ story_state (turn ∷ es)
  turn_story es first = λ i. record {
    group = g;
    len = len;
    phase = add-one (phase_after es) i;
    offered = was_offered es;
    accepted = λ q x. has_accepted g len es q x || steps_with (first x i) q x;
    fresh = λ q x. steps_with (first x i) q x && not (has_accepted g len es q x);
    told = λ q x. false;
  }
    where
      steps_with : Bool → ℕ → Triple → Bool
      steps_with now q x = in_range g len x && (correct g q && takes (phase_after es) x.round ((now || not (eqb (count 16 (λ p. newly_accepted g len es p x)) 0)) || injected_now es (brings_to q x)))

  offer_first : (es : List Event) (y : Triple) → phase_after es + 1 ≡ 2 * y.round
      → ((x : Triple) → (was_offered es x && eqb (2 * x.round) (phase_after es + 1)) ≡ offered_now es x)
      → (x : Triple) → (was_offered (offer y ∷ es) x && eqb (2 * x.round) (phase_after es + 1)) ≡ offered_now (offer y ∷ es) x
  offer_first es y at first x = go (same_triple y x) refl
    where
      go : (b : Bool) → same_triple y x ≡ b → ((b || was_offered es x) && eqb (2 * x.round) (phase_after es + 1)) ≡ (b || offered_now es x)
      go true e = eq-eqb _ _ (sym (at ∙ ap (λ z. 2 * z.round) (same_is y x e)))
      go false e = first x

  turn_first : (d : Seal) (es : List Event) → state_of d ≡ story_state es → (x : Triple) → (was_offered es x && eqb (2 * x.round) (suc (phase_after es) + 1)) ≡ false
  turn_first d es is x = ⊎_elim early (λ e. and_left _ _ e) (cases_Bool (was_offered es x))
    where
      bound : was_offered es x ≡ true → Sound (state_of d) → 2 * x.round ≤ phase_after es + 1
      bound e h = ((subst Sound is h).offers x e).2

      early : was_offered es x ≡ true → (was_offered es x && eqb (2 * x.round) (suc (phase_after es) + 1)) ≡ false
      early e = ∥∥₁_elim d.sound (Bool-set _ _) (λ h. let le = bound e h in and_right (was_offered es x) _ (ne_eqb (2 * x.round) (suc (phase_after es) + 1) (λ k. omega arith)))

  along : {c d : Seal} {es : List Event} → state_of c ≡ fresh_state g len → Ran seal_account c es d → Along es d
  along fresh none = record { is = fresh; first = λ x. refl }
  along fresh (started r s) = record { is = s ∙ ap start_state (along fresh r).is; first = λ x. refl }
  along fresh (offered {d = d} {es = es} {x = x} r s) =
      let a = along fresh r in
      let at : phase_after es + 1 ≡ 2 * x.round = ap (λ k. k + 1) (sym (ap (λ z. z.phase) a.is)) ∙ (offer_allowed (seal_model d) x s.0).2 in
      record { is = s.1 ∙ ap (λ z. offer_state z x) a.is; first = offer_first es x at a.first }
  along fresh (injected {f = f} r s) = let a = along fresh r in record { is = s.1 ∙ ap (λ z. inject_state z f) a.is; first = a.first }
  along fresh (turned {d = d} {es = es} r s) = let a = along fresh r in record { is = s.1 ∙ ap turn_state a.is ∙ turn_story es a.first; first = turn_first d es a.is }

  stepped : (newly : ℕ → Triple → Bool) (es : List Event) (q : ℕ) (x : Triple) → steps_now g len newly es q x ≡ true
      → (correct g q ≡ true) × (2 * x.round ≤ phase_after es + 1) × (hears_now newly es q x ≡ true)
  stepped newly es q x e =
      let a = and_parts (in_range g len x) _ e in
      let b = and_parts (correct g q) _ a.1 in
      let c = and_parts (leb (2 * x.round) (phase_after es + 1)) (hears_now newly es q x) b.1 in
      (b.0, leb-true _ _ c.0, c.1)

  -- who accepted at the last turn is correct, and accepted one phase earlier
  newly_earlier : (es : List Event) (p : ℕ) (x : Triple) → newly_accepted g len es p x ≡ true → (correct g p ≡ true) × OnePhaseEarlier g len es p x
  newly_earlier [] p x e = absurd (false≢true e)
  newly_earlier (start ∷ es) p x e = absurd (false≢true e)
  newly_earlier (offer y ∷ es) p x e = let w = newly_earlier es p x e in (w.0, (w.1.0, SamePhase.offered w.1.1, w.1.2, w.1.3))
  newly_earlier (inject f ∷ es) p x e = let w = newly_earlier es p x e in (w.0, (w.1.0, SamePhase.injected w.1.1, w.1.2, w.1.3))
  newly_earlier (turn ∷ es) p x e =
      let a = and_parts (steps_now g len (newly_accepted g len es) es p x) (not (has_accepted g len es p x)) e in
      ((stepped (newly_accepted g len es) es p x a.0).0, (es, SamePhase.now, or_right (has_accepted g len es p x) _ a.0, not-true _ a.1))

  earlier_newly : {before es : List Event} → SamePhase (turn ∷ before) es → (p : ℕ) (x : Triple) → has_accepted g len (turn ∷ before) p x ≡ true → has_accepted g len before p x ≡ false → newly_accepted g len es p x ≡ true
  earlier_newly {before} SamePhase.now p x e f = ⊎_elim (λ old. absurd (both_ways _ f old)) (λ step. and_from _ _ step (not_from_false _ f)) (or_cases (has_accepted g len before p x) _ e)
  earlier_newly (SamePhase.offered s) p x e f = earlier_newly s p x e f
  earlier_newly (SamePhase.injected s) p x e f = earlier_newly s p x e f

  hears_how : (es : List Event) (q : ℕ) (x : Triple) → hears_now (newly_accepted g len es) es q x ≡ true → Hears g len es q x
  hears_how es q x e =
      ⊎_elim
      (λ sent. ⊎_elim inl (λ some. let w = in_someone 16 (λ p. newly_accepted g len es p x) some in inr (inl (w.0, (newly_earlier es w.0 x w.2).0, (newly_earlier es w.0 x w.2).1))) (or_cases (offered_now es x) _ sent))
      (λ told. inr (inr told))
      (or_cases (offered_now es x || not (eqb (count 16 (λ p. newly_accepted g len es p x)) 0)) _ e)

  how_hears : (es : List Event) (q : ℕ) (x : Triple) → Hears g len es q x → hears_now (newly_accepted g len es) es q x ≡ true
  how_hears es q x (inl o) = or_left _ _ (or_left _ _ o)
  how_hears es q x (inr (inl w)) = or_left _ _ (or_right _ _ (someone_in 16 (λ p. newly_accepted g len es p x) w.0 (correct_below g w.0 w.1) (earlier_newly w.2.1 w.0 x w.2.2 w.2.3)))
  how_hears es q x (inr (inr t)) = or_right _ _ t

  -- nothing accepted is lost until the next start
  lasts : {before es : List Event} → Since before es → (q : ℕ) (x : Triple) → has_accepted g len before q x ≡ true → has_accepted g len es q x ≡ true
  lasts Since.now q x e = e
  lasts (Since.offered s) q x e = lasts s q x e
  lasts (Since.injected s) q x e = lasts s q x e
  lasts (Since.turned s) q x e = or_left _ _ (lasts s q x e)

  heard : (es : List Event) (q : ℕ) (x : Triple) → has_accepted g len es q x ≡ true → Heard g len es q x
  heard [] q x e = absurd (false≢true e)
  heard (start ∷ es) q x e = absurd (false≢true e)
  heard (offer y ∷ es) q x e = let w = heard es q x e in (w.0, Since.offered w.1, w.2, w.3)
  heard (inject f ∷ es) q x e = let w = heard es q x e in (w.0, Since.injected w.1, w.2, w.3)
  heard (turn ∷ es) q x e =
      ⊎_elim (λ old. let w = heard es q x old in (w.0, Since.turned w.1, w.2, w.3))
      (λ step. let t = stepped (newly_accepted g len es) es q x step in (es, Since.now, t.1, hears_how es q x t.2))
      (or_cases (has_accepted g len es q x) _ e)

  accepts : (es : List Event) (q : ℕ) (x : Triple) → correct g q ≡ true → in_range g len x ≡ true → Heard g len es q x → has_accepted g len es q x ≡ true
  accepts es q x c known w =
      lasts w.1 q x (or_right (has_accepted g len w.0 q x) _ (and_from _ _ known (and_from _ _ c (and_from _ _ (le-leb _ _ w.2) (how_hears w.0 q x w.3)))))

pub tells_the_run : (c : Seal) → state_of c ≡ fresh_state c.stage.group c.stage.len → TellsTheRun c
tells_the_run c fresh es d run =
    let is = (along c.stage.group c.stage.len fresh run).is in
    record {
      phase = ap (λ s. s.phase) is;
      offered = λ x. ap (λ s. s.offered x) is;
      accepted = λ q x. ap (λ s. s.accepted q x) is;
      words = λ q x k known. (λ e. heard c.stage.group c.stage.len es q x (sym (ap (λ s. s.accepted q x) is) ∙ e), λ w. ap (λ s. s.accepted q x) is ∙ accepts c.stage.group c.stage.len es q x k known w);
    }
