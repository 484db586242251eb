-- After every run the carriage's state is what the run's events say. Assumes nothing.
use Rattle.std.proofs.Common.{◌≡◌, ℕ, suc, ◌+◌, ◌*◌, ◌≤◌, Bool, true, false, not, ◌&&◌, ◌||◌, eqb, leb, ◌⊎◌, List, [], ◌∷◌, sym, refl, ap, ◌∙◌, subst, inl, inr, ⊎_elim, add-one, arith}
use mathlib.Core.Bool.{Bool-set}
use mathlib.Core.Logic.{∥∥₁_elim}
use Rattle.std.proofs.lemmas.Bool.{and_left, or_cases, cases_Bool, both_ways, ne_eqb, le-leb}
use Rattle.sets.specs.Sets.{count}
use Rattle.groups.specs.Groups.{correct}
use Rattle.carriage.specs.Triples.{in_range, same_triple}
use Rattle.carriage.specs.Runs.{Event, start, offer, inject, turn, Ran, none, started, offered, injected, turned, phase_after, was_offered, offered_now, injected_now}
use Rattle.groups.specs.declared.members.Group.{Group}
use Rattle.carriage.specs.declared.frames.Triple.{Triple}
use Rattle.carriage.specs.declared.frames.Frame.{Frame}
use Rattle.carriage.proofs.Slots.{same_is}
use Rattle.echo.specs.Consistent.{Consistent}
use Rattle.echo.specs.Echoes.{echo_account, state_of}
use Rattle.echo.specs.State.{State, init_letter, echo_letter, fresh_state, start_state, offer_state, inject_state, turn_state, counts_as_init, counts_as_echo}
use Rattle.echo.specs.Steps.{accepts}
use Rattle.echo.specs.Story.{init_to, echo_to, hears_init_now, joins_now, is_witness, has_heard, has_accepted, TellsTheRun}
use Rattle.echo.specs.declared.carrier.Echo.{Echo}
use Rattle.echo.proofs.Sentences.{joined_late, echo_rules}

-- the injected frames that count, as the carriage keeps them
abbrev told_by : List Event → ℕ → Triple → Bool
told_by [] q x = false
told_by (start ∷ es) q x = false
told_by (offer y ∷ es) q x = told_by es q x
told_by (inject f ∷ es) q x = ((counts_as_init (phase_after es) f && eqb q f.to) && same_triple f.triple x) || told_by es q x
told_by (turn ∷ es) q x = told_by es q x

abbrev echoed_by : List Event → (q p : ℕ) → Triple → Bool
echoed_by [] q p x = false
echoed_by (start ∷ es) q p x = false
echoed_by (offer y ∷ es) q p x = echoed_by es q p x
echoed_by (inject f ∷ es) q p x = ((counts_as_echo (phase_after es) f && (eqb q f.to && eqb p f.from)) && same_triple f.triple x) || echoed_by es q p x
echoed_by (turn ∷ es) q p x = echoed_by es q p x

-- a frame that counts for x is one of the frames that the events tell of
init_same : (k : ℕ) (f : Frame) (q : ℕ) (x : Triple)
    → (eqb (k + 1) (2 * x.round) && ((counts_as_init k f && eqb q f.to) && same_triple f.triple x)) ≡ (eqb (k + 1) (2 * x.round) && init_to q x f)
init_same k f q x = go (same_triple f.triple x) refl
  where
    shuffle : (e l o t : Bool) → (e && (((l && (o && e)) && t) && true)) ≡ (e && (l && (o && (t && true))))
    shuffle true true true t = refl
    shuffle true true false t = refl
    shuffle true false o t = refl
    shuffle false l o t = refl

    none : (e b l o t : Bool) → (e && (b && false)) ≡ (e && (l && (o && (t && false))))
    none true true true true true = refl
    none true true true true false = refl
    none true true true false t = refl
    none true true false o t = refl
    none true false true true true = refl
    none true false true true false = refl
    none true false true false t = refl
    none true false false o t = refl
    none false b l o t = refl

    go : (s : Bool) → same_triple f.triple x ≡ s
        → (eqb (k + 1) (2 * x.round) && ((counts_as_init k f && eqb q f.to) && s)) ≡ (eqb (k + 1) (2 * x.round) && (eqb f.letter init_letter && (eqb f.from x.origin && (eqb q f.to && s))))
    go true e =
        ap (λ z. eqb (k + 1) (2 * x.round) && (((eqb f.letter init_letter && (eqb f.from z.origin && eqb (k + 1) (2 * z.round))) && eqb q f.to) && true)) (same_is f.triple x e)
        ∙ shuffle (eqb (k + 1) (2 * x.round)) (eqb f.letter init_letter) (eqb f.from x.origin) (eqb q f.to)
    go false e = none (eqb (k + 1) (2 * x.round)) (counts_as_init k f && eqb q f.to) (eqb f.letter init_letter) (eqb f.from x.origin) (eqb q f.to)

echo_same : (k : ℕ) (f : Frame) (q p : ℕ) (x : Triple)
    → (leb (2 * x.round) k && echo_to q p x f) ≡ ((counts_as_echo k f && (eqb q f.to && eqb p f.from)) && same_triple f.triple x)
echo_same k f q p x = go (same_triple f.triple x) refl
  where
    shuffle : (e l o t : Bool) → (e && (l && (o && (t && true)))) ≡ (((l && e) && (t && o)) && true)
    shuffle true true true true = refl
    shuffle true true true false = refl
    shuffle true true false true = refl
    shuffle true true false false = refl
    shuffle true false o t = refl
    shuffle false true o t = refl
    shuffle false false o t = refl

    none : (e b l o t : Bool) → (e && (l && (o && (t && false)))) ≡ (b && false)
    none true true true true true = refl
    none true true true true false = refl
    none true true true false t = refl
    none true true false o t = refl
    none true false true true true = refl
    none true false true true false = refl
    none true false true false t = refl
    none true false false o t = refl
    none false true l o t = refl
    none false false l o t = refl

    go : (s : Bool) → same_triple f.triple x ≡ s
        → (leb (2 * x.round) k && (eqb f.letter echo_letter && (eqb p f.from && (eqb q f.to && s)))) ≡ ((counts_as_echo k f && (eqb q f.to && eqb p f.from)) && s)
    go true e =
        shuffle (leb (2 * x.round) k) (eqb f.letter echo_letter) (eqb p f.from) (eqb q f.to)
        ∙ ap (λ z. ((eqb f.letter echo_letter && leb (2 * z.round) k) && (eqb q f.to && eqb p f.from)) && true) (sym (same_is f.triple x e))
    go false e = none (leb (2 * x.round) k) (counts_as_echo k f && (eqb q f.to && eqb p f.from)) (eqb f.letter echo_letter) (eqb p f.from) (eqb q f.to)

module _ (g : Group) (len : ℕ) where
  -- the state that the events tell of
  abbrev story_state : List Event → State
  story_state es = record {
    group = g;
    len = len;
    phase = phase_after es;
    offered = was_offered es;
    told = told_by es;
    witness = is_witness g len es;
    accepted = has_accepted g len es;
    echoed = echoed_by es;
  }

  -- in the first phase of the round of x, what was offered or told was so in this phase
  abbrev First : List Event → Type 0
  First es = (q : ℕ) (x : Triple) → (eqb (phase_after es + 1) (2 * x.round) && (was_offered es x || told_by es q x)) ≡ (eqb (phase_after es + 1) (2 * x.round) && hears_init_now es q x)

  -- the echoes that q has heard are those of the witnesses and those injected
  heard_is : (es : List Event) (q p : ℕ) (x : Triple) → (is_witness g len es p x || echoed_by es q p x) ≡ has_heard g len es q p x
  heard_is [] q p x = refl
  heard_is (start ∷ es) q p x = refl
  heard_is (offer y ∷ es) q p x = heard_is es q p x
  heard_is (inject f ∷ es) q p x =
      swap (is_witness g len es p x) _ (echoed_by es q p x) ∙ ap (λ z. z || (is_witness g len es p x || echoed_by es q p x)) (sym (echo_same (phase_after es) f q p x))
      ∙ ap (λ z. (leb (2 * x.round) (phase_after es) && echo_to q p x f) || z) (heard_is es q p x)
    where
      swap : (w a b : Bool) → (w || (a || b)) ≡ (a || (w || b))
      swap true true b = refl
      swap true false b = refl
      swap false a b = refl
  heard_is (turn ∷ es) q p x =
      go (is_witness g len es p x) (joins_now g len (has_heard g len es) es p x) (echoed_by es q p x) (leb (2 * x.round) (phase_after es + 1)) (λ e. le-leb _ _ (joined_late g len es p x e))
      ∙ ap (λ z. (leb (2 * x.round) (phase_after es + 1) && (joins_now g len (has_heard g len es) es p x && not (is_witness g len es p x))) || z) (heard_is es q p x)
    where
      go : (w j e l : Bool) → (j ≡ true → l ≡ true) → ((w || j) || e) ≡ ((l && (j && not w)) || (w || e))
      go true true e true h = refl
      go true true e false h = refl
      go true false e true h = refl
      go true false e false h = refl
      go false true e true h = refl
      go false true e false h = absurd (both_ways false refl (h refl))
      go false false e true h = refl
      go false false e false h = refl

  turn_story : (es : List Event) → First es → turn_state (story_state es) ≡ story_state (turn ∷ es)
  turn_story es first = λ i. record {
    group = g;
    len = len;
    phase = add-one (phase_after es) i;
    offered = was_offered es;
    told = told_by es;
    witness = λ q x. is_witness g len es q x || joins (first q x i) (λ p. heard_is es q p x i) q x;
    accepted = λ q x. has_accepted g len es q x || ((in_range g len x && correct g q) && accepts g.n g.t (phase_after es) x.round (λ p. heard_is es q p x i));
    echoed = echoed_by es;
  }
    where
      joins : Bool → (ℕ → Bool) → ℕ → Triple → Bool
      joins init echoes q x = (in_range g len x && correct g q) && (init || (leb (2 * x.round) (phase_after es) && leb (g.t + 1) (count 16 echoes)))

  offer_first : (es : List Event) (y : Triple) → First es → First (offer y ∷ es)
  offer_first es y first q x = go (eqb (phase_after es + 1) (2 * x.round)) (same_triple y x) (was_offered es x) (told_by es q x) (offered_now es x) (injected_now es (init_to q x)) (first q x)
    where
      go : (e b o t n j : Bool) → (e && (o || t)) ≡ (e && (n || j)) → (e && ((b || o) || t)) ≡ (e && ((b || n) || j))
      go true true o t n j h = refl
      go true false o t n j h = h
      go false b o t n j h = refl

  inject_first : (es : List Event) (f : Frame) → First es → First (inject f ∷ es)
  inject_first es f first q x =
      go (eqb (phase_after es + 1) (2 * x.round)) (was_offered es x) ((counts_as_init (phase_after es) f && eqb q f.to) && same_triple f.triple x) (told_by es q x) (offered_now es x) (init_to q x f) (injected_now es (init_to q x))
      (init_same (phase_after es) f q x) (first q x)
    where
      over : (a o t : Bool) → (o || (a || t)) ≡ (a || (o || t))
      over true true t = refl
      over true false t = refl
      over false o t = refl

      go : (e o a t n b j : Bool) → (e && a) ≡ (e && b) → (e && (o || t)) ≡ (e && (n || j)) → (e && (o || (a || t))) ≡ (e && (n || (b || j)))
      go true o a t n b j h k = over a o t ∙ ap (λ z. z || (o || t)) h ∙ ap (λ z. b || z) k ∙ sym (over b n j)
      go false o a t n b j h k = refl

  turn_first : (d : Echo) (es : List Event) → state_of d ≡ story_state es → First (turn ∷ es)
  turn_first d es is q x = ⊎_elim (λ e. late (or_cases (was_offered es x) (told_by es q x) e)) (λ e. ap (λ z. eqb (suc (phase_after es) + 1) (2 * x.round) && z) e) (cases_Bool (was_offered es x || told_by es q x))
    where
      bound : (was_offered es x ≡ true) ⊎ (told_by es q x ≡ true) → Consistent (story_state es) → 2 * x.round ≤ phase_after es + 1
      bound (inl o) h = (h.offers x o).2
      bound (inr t) h = (h.tells q x t).1

      late : (was_offered es x ≡ true) ⊎ (told_by es q x ≡ true) → (eqb (suc (phase_after es) + 1) (2 * x.round) && (was_offered es x || told_by es q x)) ≡ (eqb (suc (phase_after es) + 1) (2 * x.round) && (false || false))
      late e =
          ∥∥₁_elim d.consistent (Bool-set _ _)
          (λ h. let le = bound e (subst Consistent is h) in let ne = ne_eqb (suc (phase_after es) + 1) (2 * x.round) (λ k. omega arith) in and_left _ _ ne ∙ sym (and_left _ _ ne))

  -- along a run
  record Along (es : List Event) (d : Echo) : Type 0 where
    is : state_of d ≡ story_state es
    first : First es

  along : {c d : Echo} {es : List Event} → state_of c ≡ fresh_state g len → Ran echo_account c es d → Along es d
  along fresh none = record { is = fresh; first = λ q x. refl }
  along fresh (started r s) = record { is = s ∙ ap start_state (along fresh r).is; first = λ q x. refl }
  along fresh (offered {es = es} {x = x} r s) = let a = along fresh r in record { is = s.1 ∙ ap (λ z. offer_state z x) a.is; first = offer_first es x a.first }
  along fresh (injected {es = es} {f = f} r s) = let a = along fresh r in record { is = s.1 ∙ ap (λ z. inject_state z f) a.is; first = inject_first es f a.first }
  along fresh (turned {d = d} {es = es} r s) = let a = along fresh r in record { is = s.1 ∙ ap turn_state a.is ∙ turn_story es a.first; first = turn_first d es a.is }

pub tells_the_run : (c : Echo) → state_of c ≡ fresh_state c.stage.group c.stage.len → TellsTheRun c
tells_the_run c fresh = record {
  says = λ es d run.
      let is = (along c.stage.group c.stage.len fresh run).is in
      record {
        group = ap (λ s. s.group) is;
        length = ap (λ s. s.len) is;
        phase = ap (λ s. s.phase) is;
        offered = λ x. ap (λ s. s.offered x) is;
        witness = λ q x. ap (λ s. s.witness q x) is;
        accepted = λ q x. ap (λ s. s.accepted q x) is;
      };
  rules = echo_rules c.stage.group c.stage.len;
}
