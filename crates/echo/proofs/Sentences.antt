-- What the events of a run say, in sentences. Assumes nothing.
use Rattle.std.proofs.Common.{◌≡◌, ℕ, ◌+◌, ◌-◌, ◌*◌, ◌≤◌, Bool, true, false, not, ◌&&◌, ◌||◌, eqb, leb, ◌⊎◌, List, [], ◌∷◌, inl, inr, ⊎_elim, arith}
use Rattle.std.proofs.lemmas.Bool.{and_parts, and_from, or_cases, or_left, or_right, both_ways, eqb-true, eq-eqb, leb-true, le-leb, not-true, not_from_false, false≢true}
use Rattle.sets.specs.Sets.{count}
use Rattle.sets.proofs.Counts.{count_mono}
use Rattle.groups.specs.Groups.{correct}
use Rattle.carriage.specs.Triples.{in_range}
use Rattle.carriage.specs.Runs.{Event, start, offer, inject, turn, phase_after, offered_now, injected_now}
use Rattle.carriage.specs.Moments.{Since, SamePhase}
use Rattle.groups.specs.declared.members.Group.{Group}
use Rattle.carriage.specs.declared.frames.Triple.{Triple}
use Rattle.echo.specs.Story.{echo_to, hears_init_now, joins_now, is_witness, has_heard, has_accepted, AtLeast, HearsInit, HeardEcho, BecameWitness, HeardEnough, EchoRules}

same_since : {before es : List Event} → SamePhase before es → Since before es
same_since SamePhase.now = Since.now
same_since (SamePhase.offered s) = Since.offered (same_since s)
same_since (SamePhase.injected s) = Since.injected (same_since s)

-- many pass the test, so many have what the test tells; and back
pub some_have : (k : ℕ) (test : ℕ → Bool) (P : ℕ → Type 0) → ((p : ℕ) → test p ≡ true → P p) → k ≤ count 16 test → AtLeast k P
some_have k test P tells le = (test, le, tells)

pub some_pass : (k : ℕ) (test : ℕ → Bool) (P : ℕ → Type 0) → ((p : ℕ) → P p → test p ≡ true) → AtLeast k P → k ≤ count 16 test
some_pass k test P tells w =
    let le = w.1 in
    let more = count_mono 16 w.0 test (λ p l e. tells p (w.2 p e)) in
    omega arith

module _ (g : Group) (len : ℕ) where
  -- nothing is forgotten until the next start
  witness_lasts : {before es : List Event} → Since before es → (q : ℕ) (x : Triple) → is_witness g len before q x ≡ true → is_witness g len es q x ≡ true
  witness_lasts Since.now q x e = e
  witness_lasts (Since.offered s) q x e = witness_lasts s q x e
  witness_lasts (Since.injected s) q x e = witness_lasts s q x e
  witness_lasts (Since.turned s) q x e = or_left _ _ (witness_lasts s q x e)

  accepted_lasts : {before es : List Event} → Since before es → (q : ℕ) (x : Triple) → has_accepted g len before q x ≡ true → has_accepted g len es q x ≡ true
  accepted_lasts Since.now q x e = e
  accepted_lasts (Since.offered s) q x e = accepted_lasts s q x e
  accepted_lasts (Since.injected s) q x e = accepted_lasts s q x e
  accepted_lasts (Since.turned s) q x e = or_left _ _ (accepted_lasts s q x e)

  heard_lasts : {before es : List Event} → Since before es → (q p : ℕ) (x : Triple) → has_heard g len before q p x ≡ true → has_heard g len es q p x ≡ true
  heard_lasts Since.now q p x e = e
  heard_lasts (Since.offered s) q p x e = heard_lasts s q p x e
  heard_lasts (Since.injected s) q p x e = or_right _ _ (heard_lasts s q p x e)
  heard_lasts (Since.turned s) q p x e = or_right _ _ (heard_lasts s q p x e)

  -- who becomes a witness takes part, and heard the init frame in phase 2i − 1 or enough echoes later
  pub joined : (es : List Event) (q : ℕ) (x : Triple) → joins_now g len (has_heard g len es) es q x ≡ true
      → ((in_range g len x && correct g q) ≡ true)
      × (((phase_after es + 1 ≡ 2 * x.round) × (hears_init_now es q x ≡ true)) ⊎ ((2 * x.round ≤ phase_after es) × (g.t + 1 ≤ count 16 (λ p. has_heard g len es q p x))))
  joined es q x e =
      let a = and_parts (in_range g len x && correct g q) _ e in (
        a.0,
        ⊎_elim (λ i. let b = and_parts (eqb (phase_after es + 1) (2 * x.round)) (hears_init_now es q x) i in inl (eqb-true (phase_after es + 1) (2 * x.round) b.0, b.1))
            (λ i. let b = and_parts (leb (2 * x.round) (phase_after es)) _ i in inr (leb-true (2 * x.round) (phase_after es) b.0, leb-true _ _ b.1))
            (or_cases (eqb (phase_after es + 1) (2 * x.round) && hears_init_now es q x) _ a.1),
      )

  pub joined_late : (es : List Event) (q : ℕ) (x : Triple) → joins_now g len (has_heard g len es) es q x ≡ true → 2 * x.round ≤ phase_after es + 1
  joined_late es q x e = ⊎_elim (λ i. omega (arith, i.0)) (λ i. omega (arith, i.0)) (joined es q x e).1

  -- how an e-frame was heard
  echo_when : (es : List Event) (q p : ℕ) (x : Triple) → has_heard g len es q p x ≡ true → HeardEcho g len es q p x
  echo_when [] q p x e = absurd (false≢true e)
  echo_when (start ∷ es) q p x e = absurd (false≢true e)
  echo_when (offer y ∷ es) q p x e = let w = echo_when es q p x e in (w.0, Since.offered w.1, w.2, w.3)
  echo_when (inject f ∷ es) q p x e =
      ⊎_elim (λ new. let a = and_parts (leb (2 * x.round) (phase_after es)) (echo_to q p x f) new in (inject f ∷ es, Since.now, leb-true _ _ a.0, inl (or_left _ _ a.1)))
      (λ old. let w = echo_when es q p x old in (w.0, Since.injected w.1, w.2, w.3))
      (or_cases (leb (2 * x.round) (phase_after es) && echo_to q p x f) (has_heard g len es q p x) e)
  echo_when (turn ∷ es) q p x e =
      ⊎_elim
      (λ new.
      let a = and_parts (leb (2 * x.round) (phase_after es + 1)) (joins_now g len (has_heard g len es) es p x && not (is_witness g len es p x)) new in
      let b = and_parts (joins_now g len (has_heard g len es) es p x) (not (is_witness g len es p x)) a.1 in
      let late = leb-true (2 * x.round) (phase_after es + 1) a.0 in
      (turn ∷ es, Since.now, omega arith, inr (es, SamePhase.now, or_right (is_witness g len es p x) _ b.0, not-true _ b.1)))
      (λ old. let w = echo_when es q p x old in (w.0, Since.turned w.1, w.2, w.3))
      (or_cases (leb (2 * x.round) (phase_after es + 1) && (joins_now g len (has_heard g len es) es p x && not (is_witness g len es p x))) (has_heard g len es q p x) e)

  injected_heard : (es : List Event) (q p : ℕ) (x : Triple) → injected_now es (echo_to q p x) ≡ true → 2 * x.round ≤ phase_after es → has_heard g len es q p x ≡ true
  injected_heard [] q p x e le = absurd (false≢true e)
  injected_heard (start ∷ es) q p x e le = absurd (false≢true e)
  injected_heard (offer y ∷ es) q p x e le = injected_heard es q p x e le
  injected_heard (inject f ∷ es) q p x e le =
      ⊎_elim (λ new. or_left _ _ (and_from _ _ (le-leb _ _ le) new)) (λ old. or_right _ _ (injected_heard es q p x old le)) (or_cases (echo_to q p x f) (injected_now es (echo_to q p x)) e)
  injected_heard (turn ∷ es) q p x e le = absurd (false≢true e)

  new_heard : (es : List Event) (q p : ℕ) (x : Triple) → is_witness g len (turn ∷ es) p x ≡ true → is_witness g len es p x ≡ false → has_heard g len (turn ∷ es) q p x ≡ true
  new_heard es q p x e f =
      ⊎_elim (λ old. absurd (both_ways (is_witness g len es p x) f old))
      (λ new. or_left _ _ (and_from _ _ (le-leb _ _ (joined_late es p x new)) (and_from _ _ new (not_from_false _ f))))
      (or_cases (is_witness g len es p x) (joins_now g len (has_heard g len es) es p x) e)

  when_echo : (es : List Event) (q p : ℕ) (x : Triple) → HeardEcho g len es q p x → has_heard g len es q p x ≡ true
  when_echo es q p x w =
      heard_lasts w.1 q p x
      (⊎_elim (λ i. injected_heard w.0 q p x i w.2) (λ n. heard_lasts (same_since n.1) q p x (new_heard n.0 q p x n.2 n.3)) w.3)

  became : (es : List Event) (q : ℕ) (x : Triple) → is_witness g len es q x ≡ true → (correct g q ≡ true) × (in_range g len x ≡ true) × BecameWitness g len es q x
  became [] q x e = absurd (false≢true e)
  became (start ∷ es) q x e = absurd (false≢true e)
  became (offer y ∷ es) q x e = let w = became es q x e in (w.0, w.1, (w.2.0, Since.offered w.2.1, w.2.2))
  became (inject f ∷ es) q x e = let w = became es q x e in (w.0, w.1, (w.2.0, Since.injected w.2.1, w.2.2))
  became (turn ∷ es) q x e =
      ⊎_elim (λ old. let w = became es q x old in (w.0, w.1, (w.2.0, Since.turned w.2.1, w.2.2)))
      (λ new.
      let j = joined es q x new in
      let a = and_parts (in_range g len x) (correct g q) j.0 in
      (a.1, a.0, (es, Since.now, ⊎_elim (λ i. inl (i.0, or_cases (offered_now es x) _ i.1)) (λ i. inr (i.0, some_have (g.t + 1) (λ p. has_heard g len es q p x) (λ p. HeardEcho g len es q p x) (λ p. echo_when es q p x) i.1)) j.1)))
      (or_cases (is_witness g len es q x) (joins_now g len (has_heard g len es) es q x) e)

  becomes : (es : List Event) (q : ℕ) (x : Triple) → correct g q ≡ true → in_range g len x ≡ true → BecameWitness g len es q x → is_witness g len es q x ≡ true
  becomes es q x c known w = witness_lasts w.1 q x (or_right (is_witness g len w.0 q x) _ (and_from _ _ (and_from _ _ known c) (⊎_elim by_init by_echoes w.2)))
    where
      by_init : (phase_after w.0 + 1 ≡ 2 * x.round) × HearsInit w.0 q x
          → ((eqb (phase_after w.0 + 1) (2 * x.round) && hears_init_now w.0 q x) || (leb (2 * x.round) (phase_after w.0) && leb (g.t + 1) (count 16 (λ p. has_heard g len w.0 q p x)))) ≡ true
      by_init i = or_left _ _ (and_from _ _ (eq-eqb _ _ i.0) (⊎_elim (λ o. or_left _ _ o) (λ t. or_right _ _ t) i.1))

      by_echoes : (2 * x.round ≤ phase_after w.0) × AtLeast (g.t + 1) (λ p. HeardEcho g len w.0 q p x)
          → ((eqb (phase_after w.0 + 1) (2 * x.round) && hears_init_now w.0 q x) || (leb (2 * x.round) (phase_after w.0) && leb (g.t + 1) (count 16 (λ p. has_heard g len w.0 q p x)))) ≡ true
      by_echoes i = or_right _ _ (and_from _ _ (le-leb _ _ i.0) (le-leb _ _ (some_pass (g.t + 1) (λ p. has_heard g len w.0 q p x) (λ p. HeardEcho g len w.0 q p x) (λ p. when_echo w.0 q p x) i.1)))

  enough : (es : List Event) (q : ℕ) (x : Triple) → has_accepted g len es q x ≡ true → (correct g q ≡ true) × (in_range g len x ≡ true) × HeardEnough g len es q x
  enough [] q x e = absurd (false≢true e)
  enough (start ∷ es) q x e = absurd (false≢true e)
  enough (offer y ∷ es) q x e = let w = enough es q x e in (w.0, w.1, (w.2.0, Since.offered w.2.1, w.2.2, w.2.3))
  enough (inject f ∷ es) q x e = let w = enough es q x e in (w.0, w.1, (w.2.0, Since.injected w.2.1, w.2.2, w.2.3))
  enough (turn ∷ es) q x e =
      ⊎_elim (λ old. let w = enough es q x old in (w.0, w.1, (w.2.0, Since.turned w.2.1, w.2.2, w.2.3)))
      (λ new.
      let a = and_parts (in_range g len x && correct g q) _ new in
      let b = and_parts (in_range g len x) (correct g q) a.0 in
      let c = and_parts (leb (2 * x.round) (phase_after es)) (leb (g.n - g.t) (count 16 (λ p. has_heard g len es q p x))) a.1 in
      (b.1, b.0, (es, Since.now, leb-true _ _ c.0, some_have (g.n - g.t) (λ p. has_heard g len es q p x) (λ p. HeardEcho g len es q p x) (λ p. echo_when es q p x) (leb-true _ _ c.1))))
      (or_cases (has_accepted g len es q x) _ e)

  takes : (es : List Event) (q : ℕ) (x : Triple) → correct g q ≡ true → in_range g len x ≡ true → HeardEnough g len es q x → has_accepted g len es q x ≡ true
  takes es q x c known w =
      accepted_lasts w.1 q x
      (or_right (has_accepted g len w.0 q x) _
      (and_from _ _ (and_from _ _ known c) (and_from _ _ (le-leb _ _ w.2) (le-leb _ _ (some_pass (g.n - g.t) (λ p. has_heard g len w.0 q p x) (λ p. HeardEcho g len w.0 q p x) (λ p. when_echo w.0 q p x) w.3)))))

  pub echo_rules : EchoRules g len
  echo_rules = record {
    witness = λ es q x c known. (λ e. (became es q x e).2, becomes es q x c known);
    heard = λ es q p x. (echo_when es q p x, when_echo es q p x);
    accepted = λ es q x c known. (λ e. (enough es q x e).2, takes es q x c known);
    correct_witness = λ es q x e. let w = became es q x e in (w.0, w.1);
    correct_accepted = λ es q x e. let w = enough es q x e in (w.0, w.1);
  }
