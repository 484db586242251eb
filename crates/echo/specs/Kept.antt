-- Every call keeps a carriage consistent, and a consistent one keeps the laws of a carriage. Assumes nothing.
use Rattle.std.specs.Prelude.{◌≡◌, ℕ, ◌+◌, ◌-◌, ◌*◌, ◌<◌, ◌≤◌, Bool, true, not, ◌&&◌, ◌⊎◌, ◌==◌, nat_le, nat_lt, refl}
use Rattle.std.proofs.Common.{sym, ap, ◌∙◌, inl, inr, ⊎_elim, arith}
use Rattle.std.proofs.Math.Bool.{Bool-set}
use Rattle.std.proofs.Math.Logic.{∥∥₁_elim}
use Rattle.std.proofs.lemmas.Bool.{and_parts, and_from, or_cases, or_left, or_right, both_ways, eqb-true, eq-eqb, leb-true, le-leb, cases_lt, not-true, false≢true}
use Rattle.sets.specs.Sets.{count}
use Rattle.sets.proofs.Counts.{count_mono}
use Rattle.groups.specs.Groups.{correct, marked}
use Rattle.carriage.specs.Triples.{in_range, same_triple}
use Rattle.carriage.specs.Model.{Lawful, Turned, end_phase}
use Rattle.groups.specs.declared.members.Group.{Group}
use Rattle.carriage.specs.declared.frames.Triple.{Triple}
use Rattle.carriage.specs.declared.frames.Frame.{Frame}
use Rattle.carriage.proofs.Slots.{same_is}
use Rattle.groups.proofs.Quorums.{correct_many, many_correct, one_unmarked}
use Rattle.echo.specs.State.{State, model_of, fresh_state, offer_state, hear_frame, inject_state, turn_state, hears_init, heard_echo, takes_part, new_witness, new_accepted, init_letter, counts_as_init, counts_as_echo}
use Rattle.echo.specs.Consistent.{Consistent}

pub lawful : (s : State) → 1 ≤ s.len → s.len ≤ 4 → 1 ≤ s.phase → s.phase ≤ end_phase s.group → Consistent s → Lawful (model_of s)
lawful s some few begun ends h = record {
  some = some;
  few = few;
  begun = begun;
  ends = ends;
  offers = h.offers;
  accepts = λ q x e. let a = and_parts (in_range s.group s.len x) _ (h.accepts q x e) in (a.1, a.0);
  unforgeable = λ q x e. h.unforged q x (h.backed q q x e (and_parts (in_range s.group s.len x) _ (h.accepts q x e)).1);
  valid = h.valid;
}

pub fresh_consistent : (g : Group) (len : ℕ) → Consistent (fresh_state g len)
fresh_consistent g len = record {
  offers = λ x e. absurd (false≢true e);
  tells = λ q x e. absurd (false≢true e);
  echoes = λ q p x e. absurd (false≢true e);
  witnesses = λ q x e. absurd (false≢true e);
  accepts = λ q x e. absurd (false≢true e);
  unforged = λ q x e. absurd (false≢true e);
  spread = λ q x e. absurd (false≢true e);
  valid = λ q x e. absurd (false≢true e);
  backed = λ q r x e. absurd (false≢true e);
}

module _ (s : State) (h : Consistent s) where
  -- the offered triple is in range, of a correct origin, in the first phase of its round
  pub offer_consistent : (x : Triple) → in_range s.group s.len x ≡ true → correct s.group x.origin ≡ true → s.phase + 1 ≡ 2 * x.round → Consistent (offer_state s x)
  offer_consistent x known origin first = record {
    offers = λ y e. ⊎_elim (λ same. let is = same_is x y same in (ap (in_range s.group s.len) (sym is) ∙ known, ap (λ z. correct s.group z.origin) (sym is) ∙ origin, omega (arith, ap (λ z. z.round) is))) (h.offers y) (or_cases _ _ e);
    tells = h.tells;
    echoes = h.echoes;
    witnesses = h.witnesses;
    accepts = h.accepts;
    unforged = λ q y e c. or_right _ _ (h.unforged q y e c);
    spread = λ q y e l c. ⊎_elim (λ (same : same_triple x y ≡ true). absurd (omega (arith, ap (λ z. z.round) (same_is x y same)))) (λ o. h.spread q y o l c) (or_cases _ _ e);
    valid = λ q y e l c. ⊎_elim (λ (same : same_triple x y ≡ true). absurd (omega (arith, ap (λ z. z.round) (same_is x y same)))) (λ o. h.valid q y o l c) (or_cases _ _ e);
    backed = h.backed;
  }

  -- a marked controller's frame is heard; an init frame comes from the origin, in the first phase of its round
  hear_consistent : (init echo : Bool) (f : Frame) → marked s.group f.from ≡ true → (init ≡ true → (f.from ≡ f.triple.origin) × (s.phase + 1 ≡ 2 * f.triple.round)) → Consistent (hear_frame init echo s f)
  hear_consistent init echo f m origin = record {
    offers = h.offers;
    tells = λ q x e. ⊎_elim (told q x) (h.tells q x) (or_cases ((init && q == f.to) && same_triple f.triple x) (s.told q x) e);
    echoes = λ q p x e. ⊎_elim (echoed q p x) (h.echoes q p x) (or_cases ((echo && (q == f.to && p == f.from)) && same_triple f.triple x) (s.echoed q p x) e);
    witnesses = h.witnesses;
    accepts = h.accepts;
    unforged = h.unforged;
    spread = h.spread;
    valid = h.valid;
    backed = h.backed;
  }
    where
      told : (q : ℕ) (x : Triple) → ((init && q == f.to) && same_triple f.triple x) ≡ true → (marked s.group x.origin ≡ true) × (2 * x.round ≤ s.phase + 1)
      told q x e =
          let a = and_parts (init && q == f.to) (same_triple f.triple x) e in
          let o = origin (and_parts init (q == f.to) a.0).0 in
          let is = same_is f.triple x a.1 in
          (ap (marked s.group) (sym (o.0 ∙ ap (λ z. z.origin) is)) ∙ m, omega (arith, o.1, ap (λ z. z.round) is))

      echoed : (q p : ℕ) (x : Triple) → ((echo && (q == f.to && p == f.from)) && same_triple f.triple x) ≡ true → marked s.group p ≡ true
      echoed q p x e =
          let a = and_parts (echo && (q == f.to && p == f.from)) (same_triple f.triple x) e in
          let b = and_parts echo (q == f.to && p == f.from) a.0 in
          let c = and_parts (q == f.to) (p == f.from) b.1 in
          ap (marked s.group) (eqb-true p f.from c.1) ∙ m

  pub inject_consistent : (f : Frame) → marked s.group f.from ≡ true → Consistent (inject_state s f)
  inject_consistent f m = hear_consistent (counts_as_init s.phase f) (counts_as_echo s.phase f) f m origin
    where
      origin : counts_as_init s.phase f ≡ true → (f.from ≡ f.triple.origin) × (s.phase + 1 ≡ 2 * f.triple.round)
      origin e =
          let a = and_parts (f.letter == init_letter) _ e in
          let b = and_parts (f.from == f.triple.origin) (s.phase + 1 == 2 * f.triple.round) a.1 in
          (eqb-true f.from f.triple.origin b.0, eqb-true (s.phase + 1) (2 * f.triple.round) b.1)

  -- a new witness: it heard the init frame in the first phase of the round, or enough echoes later
  joined : (q : ℕ) (x : Triple) → new_witness s q x ≡ true
      → (takes_part s q x ≡ true) × (((s.phase + 1 ≡ 2 * x.round) × (hears_init s q x ≡ true)) ⊎ ((2 * x.round ≤ s.phase) × (s.group.t + 1 ≤ count 16 (heard_echo s q x))))
  joined q x e =
      let a = and_parts (takes_part s q x) _ e in (
        a.0,
        ⊎_elim (λ i. let b = and_parts (s.phase + 1 == 2 * x.round) (hears_init s q x) i in inl (eqb-true (s.phase + 1) (2 * x.round) b.0, b.1))
            (λ i. let b = and_parts (nat_le (2 * x.round) s.phase) _ i in inr (leb-true (2 * x.round) s.phase b.0, leb-true _ _ b.1))
            (or_cases (s.phase + 1 == 2 * x.round && hears_init s q x) _ a.1),
      )

  took : (q : ℕ) (x : Triple) → new_accepted s q x ≡ true → (takes_part s q x ≡ true) × (2 * x.round ≤ s.phase) × (s.group.n - s.group.t ≤ count 16 (heard_echo s q x))
  took q x e =
      let a = and_parts (takes_part s q x) _ e in
      let b = and_parts (nat_le (2 * x.round) s.phase) _ a.1 in
      (a.0, leb-true (2 * x.round) s.phase b.0, leb-true _ _ b.1)

  -- where all correct controllers are witnesses, each of them accepts
  all_take : (q : ℕ) (x : Triple) → takes_part s q x ≡ true → 2 * x.round ≤ s.phase → ((r : ℕ) → correct s.group r ≡ true → s.witness r x ≡ true) → new_accepted s q x ≡ true
  all_take q x part begun every =
      and_from _ _ part (and_from _ _ (le-leb _ _ begun) (le-leb _ _ (correct_many s.group (heard_echo s q x) (λ k c. or_left _ _ (every k c)))))

  -- what one has heard n − t echoes of, t + 1 witnesses sent to all: so every correct controller is a witness after the turn
  all_join : (q r : ℕ) (x : Triple) → new_accepted s q x ≡ true → correct s.group r ≡ true → new_witness s r x ≡ true
  all_join q r x e c =
      let t = took q x e in
      let sent = many_correct s.group (heard_echo s q x) (λ p. s.witness p x) (λ k hears. ⊎_elim inl (λ i. inr (h.echoes q k x i)) (or_cases (s.witness k x) (s.echoed q k x) hears)) t.2 in
      let more = count_mono 16 (λ p. s.witness p x) (heard_echo s r x) (λ k l w. or_left _ _ w) in
      and_from _ _ (and_from _ _ (and_parts (in_range s.group s.len x) _ t.0).0 c) (or_right _ _ (and_from _ _ (le-leb _ _ t.1) (le-leb _ _ (omega arith))))

  backed_after : (q r : ℕ) (x : Triple) → (turn_state s).accepted q x ≡ true → correct s.group r ≡ true → (turn_state s).witness r x ≡ true
  backed_after q r x e c = ⊎_elim (λ old. or_left _ _ (h.backed q r x old c)) (λ new. or_right _ _ (all_join q r x new c)) (or_cases (s.accepted q x) (new_accepted s q x) e)

  -- the first witness of a triple heard it from its origin: an init frame that is no offer comes from a marked one, and
  -- of t + 1 echoes one comes from an earlier witness
  joined_offered : (q : ℕ) (x : Triple) → new_witness s q x ≡ true → correct s.group x.origin ≡ true → s.offered x ≡ true
  joined_offered q x e c = ⊎_elim (λ i. by_init i.1) (λ i. by_echoes i.1) (joined q x e).1
    where
      by_init : hears_init s q x ≡ true → s.offered x ≡ true
      by_init i = ⊎_elim (λ o. o) (λ t. absurd (both_ways (marked s.group x.origin) (not-true (marked s.group x.origin) (and_parts (nat_lt x.origin s.group.n) (not (marked s.group x.origin)) c).1) (h.tells q x t).0)) (or_cases (s.offered x) (s.told q x) i)

      by_echoes : s.group.t + 1 ≤ count 16 (heard_echo s q x) → s.offered x ≡ true
      by_echoes i =
          let w = one_unmarked s.group (heard_echo s q x) i in
          ⊎_elim (λ old. h.unforged w.0 x old c) (λ inj. absurd (both_ways (marked s.group w.0) w.2 (h.echoes q w.0 x inj))) (or_cases (s.witness w.0 x) (s.echoed q w.0 x) w.1)

  spread_after : (q : ℕ) (x : Triple) → s.offered x ≡ true → 2 * x.round ≤ s.phase + 1 → correct s.group q ≡ true → (turn_state s).witness q x ≡ true
  spread_after q x e l c = ⊎_elim (λ early. or_left _ _ (h.spread q x e (omega arith) c)) first (cases_lt (2 * x.round) (s.phase + 1))
    where
      first : s.phase + 1 ≤ 2 * x.round → (turn_state s).witness q x ≡ true
      first g =
          let is : s.phase + 1 ≡ 2 * x.round = omega arith in
          or_right _ _ (and_from _ _ (and_from _ _ (h.offers x e).0 c) (or_left _ _ (and_from _ _ (eq-eqb _ _ is) (or_left _ _ e))))

  valid_after : (q : ℕ) (x : Triple) → s.offered x ≡ true → 2 * x.round < s.phase + 1 → correct s.group q ≡ true → (turn_state s).accepted q x ≡ true
  valid_after q x e l c = or_right _ _ (all_take q x (and_from _ _ (h.offers x e).0 c) (omega arith) (λ r d. h.spread r x e (omega arith) d))

  -- what one had accepted, every correct controller has accepted after the turn
  pub relayed : (q r : ℕ) (x : Triple) → s.accepted q x ≡ true → correct s.group r ≡ true → (turn_state s).accepted r x ≡ true
  relayed q r x e c =
      let w = h.witnesses r x (h.backed q r x e c) in
      or_right _ _ (all_take r x w.0 w.1 (λ p d. h.backed q p x e d))

  pub turn_consistent : Consistent (turn_state s)
  turn_consistent = record {
    offers = λ x e. let o = h.offers x e in (o.0, o.1, omega (arith, o.2));
    tells = λ q x e. let o = h.tells q x e in (o.0, omega (arith, o.1));
    echoes = h.echoes;
    witnesses = λ q x e. ⊎_elim (λ old. let w = h.witnesses q x old in (w.0, omega (arith, w.1))) (λ new. let j = joined q x new in (j.0, ⊎_elim (λ i. omega (arith, i.0)) (λ i. omega (arith, i.0)) j.1)) (or_cases (s.witness q x) (new_witness s q x) e);
    accepts = λ q x e. ⊎_elim (h.accepts q x) (λ new. (took q x new).0) (or_cases (s.accepted q x) (new_accepted s q x) e);
    unforged = λ q x e c. ⊎_elim (λ old. h.unforged q x old c) (λ new. joined_offered q x new c) (or_cases (s.witness q x) (new_witness s q x) e);
    spread = spread_after;
    valid = valid_after;
    backed = backed_after;
  }

pub turns_on_lem : (s : State) → ∥ Consistent s ∥₁ → Turned (model_of s) (model_of (turn_state s))
turns_on_lem s h = record {
  group = refl;
  len = refl;
  phase = refl;
  offered = refl;
  grows = λ q x e. or_left (s.accepted q x) (new_accepted s q x) e;
  relay = λ q r x e c. ∥∥₁_elim h (Bool-set _ _) (λ consistent. relayed s consistent q r x e c);
}
