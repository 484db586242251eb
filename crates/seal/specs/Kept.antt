-- Every call keeps what is sound, and what is sound keeps the laws of a carriage. Assumes nothing.
use Rattle.std.specs.Prelude.{◌≡◌, ℕ, ◌+◌, ◌*◌, ◌≤◌, Bool, true, false, not, ◌&&◌, ◌||◌, ◌==◌, nat_le, refl}
use Rattle.std.proofs.Common.{sym, ap, ◌∙◌, ⊎_elim, arith}
use Rattle.std.proofs.Math.Bool.{Bool-set}
use Rattle.std.proofs.Math.Logic.{∥∥₁_elim}
use Rattle.std.proofs.lemmas.Bool.{and_parts, and_from, or_cases, or_left, or_right, eq-eqb, leb-true, le-leb, cases_Bool, cases_lt, false≢true}
use Rattle.sets.proofs.Counts.{someone_in, in_someone}
use Rattle.groups.specs.Groups.{correct}
use Rattle.carriage.specs.Triples.{in_range}
use Rattle.carriage.specs.Model.{Lawful, Turned, end_phase}
use Rattle.groups.specs.declared.members.Group.{Group}
use Rattle.carriage.specs.declared.frames.Triple.{Triple}
use Rattle.carriage.specs.declared.frames.Frame.{Frame}
use Rattle.carriage.proofs.Slots.{same_is}
use Rattle.groups.proofs.Marked.{correct_below}
use Rattle.seal.specs.State.{State, model_of, fresh_state, offer_state, inject_state, turn_state, sent_to_all, hears, steps}
use Rattle.seal.specs.Seals.{known_seal}
use Rattle.seal.specs.Sound.{Sound}

pub lawful : (s : State) → 1 ≤ s.len → s.len ≤ 4 → 1 ≤ s.phase → s.phase ≤ end_phase s.group → Sound s → Lawful (model_of s)
lawful s some few begun ends h = record {
  some = some;
  few = few;
  begun = begun;
  ends = ends;
  offers = h.offers;
  accepts = λ q x e. let a = h.accepts q x e in (a.0, a.1);
  unforgeable = h.unforgeable;
  valid = λ q x e l. h.valid q x e (omega arith);
}

pub fresh_sound : (g : Group) (len : ℕ) → Sound (fresh_state g len)
fresh_sound g len = record {
  offers = λ x e. absurd (false≢true e);
  accepts = λ q x e. absurd (false≢true e);
  freshly = λ q x e. absurd (false≢true e);
  spread = λ q r x e. absurd (false≢true e);
  sealed = λ q x e. absurd (false≢true e);
  unforgeable = λ q x e. absurd (false≢true e);
  valid = λ q x e. absurd (false≢true e);
}

pub known_offered : (s : State) (f : Frame) → known_seal s f ≡ true → correct s.group f.triple.origin ≡ true → s.offered f.triple ≡ true
known_offered s f = go (correct s.group f.triple.origin) (s.offered f.triple)
  where
    go : (a b : Bool) → (not a || b) ≡ true → a ≡ true → b ≡ true
    go true b e c = e
    go false b e c = absurd (false≢true c)

module _ (s : State) (h : Sound s) where
  -- the offered triple is in range, of a correct origin, in the first phase of its round
  pub offer_sound : (x : Triple) → in_range s.group s.len x ≡ true → correct s.group x.origin ≡ true → s.phase + 1 ≡ 2 * x.round → Sound (offer_state s x)
  offer_sound x known origin first = record {
    offers = λ y e. ⊎_elim (λ same. let is = same_is x y same in (ap (in_range s.group s.len) (sym is) ∙ known, ap (λ z. correct s.group z.origin) (sym is) ∙ origin, omega (arith, ap (λ z. z.round) is))) (h.offers y) (or_cases _ _ e);
    accepts = h.accepts;
    freshly = h.freshly;
    spread = h.spread;
    sealed = λ q y e c. or_right _ _ (h.sealed q y e c);
    unforgeable = λ q y e c. or_right _ _ (h.unforgeable q y e c);
    valid = λ q y e l c. ⊎_elim (λ same. absurd (omega (arith, ap (λ z. z.round) (same_is x y same)))) (λ o. h.valid q y o l c) (or_cases _ _ e);
  }

  -- a seal of a correct origin is injected only where it was offered
  pub inject_sound : (f : Frame) → (correct s.group f.triple.origin ≡ true → s.offered f.triple ≡ true) → Sound (inject_state s f)
  inject_sound f known = record {
    offers = h.offers;
    accepts = h.accepts;
    freshly = h.freshly;
    spread = h.spread;
    sealed = λ q x e c. ⊎_elim (λ this. let is = same_is f.triple x (and_parts _ _ this).1 in ap s.offered (sym is) ∙ known (ap (λ z. correct s.group z.origin) is ∙ c)) (λ old. h.sealed q x old c) (or_cases _ _ e);
    unforgeable = h.unforgeable;
    valid = h.valid;
  }

  -- a seal on the way to all is taken by every correct controller
  all_step : (r : ℕ) (x : Triple) → in_range s.group s.len x ≡ true → correct s.group r ≡ true → 2 * x.round ≤ s.phase + 1 → sent_to_all s x ≡ true → steps s r x ≡ true
  all_step r x known c ready sent = and_from _ _ known (and_from _ _ c (and_from _ _ (le-leb _ _ ready) (or_left _ _ sent)))

  -- what one correct controller had accepted, every correct one has after the turn
  pub relayed : (q r : ℕ) (x : Triple) → s.accepted q x ≡ true → correct s.group r ≡ true → (turn_state s).accepted r x ≡ true
  relayed q r x e c = ⊎_elim newly earlier (cases_Bool (s.fresh q x))
    where
      a : (correct s.group q ≡ true) × (in_range s.group s.len x ≡ true) × (2 * x.round ≤ s.phase)
      a = h.accepts q x e

      earlier : s.fresh q x ≡ false → (turn_state s).accepted r x ≡ true
      earlier f = or_left _ _ (h.spread q r x e f c)

      newly : s.fresh q x ≡ true → (turn_state s).accepted r x ≡ true
      newly f = or_right _ _ (all_step r x a.1 c (omega (arith, a.2)) (or_right _ _ (someone_in 16 (λ p. s.fresh p x) q (correct_below s.group q a.0) f)))

  stepped : (q : ℕ) (x : Triple) → steps s q x ≡ true → (in_range s.group s.len x ≡ true) × (correct s.group q ≡ true) × (2 * x.round ≤ s.phase + 1) × (hears s q x ≡ true)
  stepped q x e =
      let a = and_parts (in_range s.group s.len x) _ e in
      let b = and_parts (correct s.group q) _ a.1 in
      let c = and_parts (nat_le (2 * x.round) (s.phase + 1)) (hears s q x) b.1 in
      (a.0, b.0, leb-true _ _ c.0, c.1)

  -- who has accepted after a turn, and not at it, had accepted before
  had : (q : ℕ) (x : Triple) → (turn_state s).accepted q x ≡ true → (turn_state s).fresh q x ≡ false → s.accepted q x ≡ true
  had q x = go (s.accepted q x) (steps s q x)
    where
      go : (a b : Bool) → (a || b) ≡ true → (b && not a) ≡ false → a ≡ true
      go true b e f = refl
      go false true e f = sym f
      go false false e f = e

  -- a seal of a correct origin that is heard was offered
  heard_offered : (q : ℕ) (x : Triple) → hears s q x ≡ true → correct s.group x.origin ≡ true → s.offered x ≡ true
  heard_offered q x e c = ⊎_elim sent (λ told. h.sealed q x told c) (or_cases (sent_to_all s x) (s.told q x) e)
    where
      sent : sent_to_all s x ≡ true → s.offered x ≡ true
      sent f =
          ⊎_elim (λ o. (and_parts (s.offered x) _ o).0)
          (λ n. let w = in_someone 16 (λ p. s.fresh p x) n in h.unforgeable w.0 x (h.freshly w.0 x w.2) c)
          (or_cases (s.offered x && 2 * x.round == s.phase + 1) _ f)

  valid_after : (q : ℕ) (x : Triple) → s.offered x ≡ true → 2 * x.round ≤ s.phase + 1 → correct s.group q ≡ true → (turn_state s).accepted q x ≡ true
  valid_after q x e l c = ⊎_elim (λ early. or_left _ _ (h.valid q x e (omega arith) c)) now_sent (cases_lt (2 * x.round) (s.phase + 1))
    where
      now_sent : s.phase + 1 ≤ 2 * x.round → (turn_state s).accepted q x ≡ true
      now_sent g =
          let first : 2 * x.round ≡ s.phase + 1 = omega arith in
          or_right _ _ (all_step q x (h.offers x e).0 c l (or_left _ _ (and_from _ _ e (eq-eqb _ _ first))))

  pub turn_sound : Sound (turn_state s)
  turn_sound = record {
    offers = λ x e. let o = h.offers x e in (o.0, o.1, omega (arith, o.2));
    accepts = λ q x e. ⊎_elim (λ old. let a = h.accepts q x old in (a.0, a.1, omega (arith, a.2))) (λ new. let t = stepped q x new in (t.1, t.0, t.2)) (or_cases (s.accepted q x) (steps s q x) e);
    freshly = λ q x e. or_right (s.accepted q x) (steps s q x) (and_parts (steps s q x) _ e).0;
    spread = λ q r x e f c. relayed q r x (had q x e f) c;
    sealed = λ q x e. absurd (false≢true e);
    unforgeable = λ q x e c. ⊎_elim (λ old. h.unforgeable q x old c) (λ new. heard_offered q x (stepped q x new).3 c) (or_cases (s.accepted q x) (steps s q x) e);
    valid = λ q x e l c. valid_after q x e l c;
  }

pub turns_on_lem : (s : State) → ∥ Sound s ∥₁ → Turned (model_of s) (model_of (turn_state s))
turns_on_lem s h = record {
  group = refl;
  len = refl;
  phase = refl;
  offered = refl;
  grows = λ q x e. or_left (s.accepted q x) (steps s q x) e;
  relay = λ q r x e c. ∥∥₁_elim h (Bool-set _ _) (λ sound. relayed s sound q r x e c);
}
