-- What holds of a running shot at every moment, and that a turn keeps it. Assumes nothing.
use Rattle.std.proofs.Common.{◌≡◌, ℕ, ◌+◌, ◌*◌, ◌/◌, ◌%◌, ◌<◌, ◌≤◌, Bool, true, false, not, ◌&&◌, eqb, ltb, ◌⊎◌, Some, Option, sym, refl, ap, ◌∙◌, inl, inr, ⊎_elim, arith}
use Rattle.std.proofs.lemmas.Bool.{or_cases, or_left, or_right, cases_eq, cases_lt, both_ways, and_parts, and_from, eqb-true, eq-eqb, ne_eqb, leb-true, le-leb, ltb-true, cases_Bool, not-true, not_from_false}
use Rattle.sets.specs.Sets.{count}
use Rattle.sets.proofs.Counts.{count_same, count_mono, count_wider, someone}
use Rattle.sets.proofs.Strict.{count_strict, count_some}
use Rattle.groups.specs.Groups.{marked, correct}
use Rattle.carriage.specs.Model.{Model, Lawful, Turned, is_correct, end_phase}
use Rattle.carriage.specs.declared.frames.Triple.{Triple}
use Rattle.carriage.proofs.Slots.{range_fits}
use Rattle.groups.proofs.Marked.{correct_from}
use Rattle.agreement.specs.Extraction.{triple, vouched, extracts, sets_after, is_new_to, offers_after}
use Rattle.agreement.proofs.Vouching.{vouched_in, vouched_by}
use Rattle.agreement.proofs.Offering.{OnlyOffers, offers_tell, offers_have}

-- p vouched for v in a round up to i, as q heard it, and is not q itself
abbrev pub others : Model → (q v i p : ℕ) → Bool
others m q v i p = not (eqb p q) && vouched m q v i p

-- why q offered v in round j: it is the sender with its own value, or it had enough other origins one round before
pub record Later (m : Model) (s q v j : ℕ) : Type 0 where
  pub round : ℕ
  pub next : j ≡ round + 1
  pub some : 1 ≤ round
  pub senders : m.accepted q (triple s v 1) ≡ true
  pub enough : round ≤ count m.group.n (others m q v round)

pub record First (s : ℕ) (place : Option ℕ) (q v j : ℕ) : Type 0 where
  pub round : j ≡ 1
  pub sender : q ≡ s
  pub value : place ≡ Some v

abbrev pub Why : Model → (s : ℕ) → Option ℕ → (q v j : ℕ) → Type 0
Why m s place q v j = First s place q v j ⊎ Later m s q v j

-- the running shot of sender s, who was given the value at a place or none; `has` are the extracted sets
pub record Kept (m : Model) (s : ℕ) (place : Option ℕ) (has : ℕ → ℕ → Bool) : Type 0 where
  -- who offered a value has extracted it
  pub own : (q v j : ℕ) → m.offered (triple q v j) ≡ true → has q v ≡ true
  -- what was offered in a round that is over all have extracted
  pub spread : (q v j : ℕ) → m.offered (triple q v j) ≡ true → 2 * j < m.phase → (r : ℕ) → is_correct m r ≡ true → has r v ≡ true
  -- until the last turn, who extracted a value offered it
  pub told : (q v : ℕ) → has q v ≡ true → m.phase ≤ 2 * m.group.t + 2 → (j : ℕ) × (m.offered (triple q v j) ≡ true)
  pub why : (q v j : ℕ) → m.offered (triple q v j) ≡ true → Why m s place q v j
  -- of a correct sender nothing is extracted but the value it was given
  pub honest : is_correct m s ≡ true → (q v : ℕ) → has q v ≡ true → place ≡ Some v
  pub sent : (v : ℕ) → place ≡ Some v → has s v ≡ true
  -- after the last turn all have extracted the same
  pub same : m.phase ≡ end_phase m.group → (q v : ℕ) → has q v ≡ true → (r : ℕ) → is_correct m r ≡ true → has r v ≡ true
  pub who : (q v : ℕ) → has q v ≡ true → (is_correct m q ≡ true) × (v < m.len)

-- more acceptances bring no fewer origins
others_grow : (m n : Model) (q v i : ℕ) → n.group ≡ m.group → ((x : Triple) → m.accepted q x ≡ true → n.accepted q x ≡ true)
    → count m.group.n (others m q v i) ≤ count n.group.n (others n q v i)
others_grow m n q v i group grows =
    let same_n : count n.group.n (others n q v i) ≡ count m.group.n (others n q v i) = ap (λ g. count g.n (others n q v i)) group in
    omega (arith, same_n, count_mono m.group.n (others m q v i) (others n q v i) (λ p l e. let a = and_parts (not (eqb p q)) (vouched m q v i p) e in and_from _ _ a.0 (heard p a.1)))
  where
    heard : (p : ℕ) → vouched m q v i p ≡ true → vouched n q v i p ≡ true
    heard p e = let h = vouched_in m q v i p e in vouched_by n q v i p h.0 h.1 h.2 (grows (triple p v h.0) h.3)

module _ (m n : Model) (s : ℕ) (place : Option ℕ) (has : ℕ → ℕ → Bool) (lm : Lawful m) (ln : Lawful n) (turned : Turned m n) (kept : Kept m s place has) where
  after : ℕ → ℕ → Bool
  after q v = sets_after n s has m.phase q v

  was : (x : Triple) → n.offered x ≡ true → m.offered x ≡ true
  was x e = ap (λ f. f x) (sym turned.offered) ∙ e

  -- a place is extracted if it was before, or if this is the second phase of a round and it is extracted now
  extracted_cases : (q v : ℕ) → after q v ≡ true → (has q v ≡ true) ⊎ ((m.phase % 2 ≡ 0) × (extracts n q v s (m.phase / 2) ≡ true))
  unfolding after
  extracted_cases q v e = ⊎_elim inl (λ b. let a = and_parts _ _ b in inr (eqb-true _ _ a.0, a.1)) (or_cases _ _ e)

  still : (q v : ℕ) → has q v ≡ true → after q v ≡ true
  unfolding after
  still q v e = or_left _ _ e

  now_too : (q v : ℕ) → m.phase % 2 ≡ 0 → extracts n q v s (m.phase / 2) ≡ true → after q v ≡ true
  unfolding after
  now_too q v even e = or_right _ _ (and_from _ _ (eq-eqb _ _ even) e)

  -- what one correct controller had of others, all have after the turn, and q's own offer besides
  enough_all : (q v j r : ℕ) → n.offered (triple q v j) ≡ true → 2 * j < n.phase → is_correct n r ≡ true → Later m s q v j → extracts n r v s j ≡ true
  enough_all q v j r off over ok later =
      and_from _ _ (turned.relay q r (triple s v 1) later.senders ok_before) (le-leb j _ (omega (arith, more, later.enough, later.next, same_n)))
    where
      ok_before : is_correct m r ≡ true
      ok_before = ap (λ g. correct g r) (sym turned.group) ∙ ok

      same_n : count m.group.n (others m q v later.round) ≡ count n.group.n (others m q v later.round)
      same_n = ap (λ g. count g.n (others m q v later.round)) (sym turned.group)

      here : vouched n r v j q ≡ true
      here = vouched_by n r v j q j (omega (arith, later.next)) (omega arith) (ln.valid r (triple q v j) off over ok)

      more : count n.group.n (others m q v later.round) < count n.group.n (vouched n r v j)
      more =
          count_strict n.group.n (others m q v later.round) (vouched n r v j)
          (λ p l e. let w = vouched_in m q v later.round p (and_parts (not (eqb p q)) (vouched m q v later.round p) e).1 in vouched_by n r v j p w.0 w.1 (omega (arith, w.2, later.next)) (turned.relay q r (triple p v w.0) w.3 ok_before))
          q (range_fits n.group n.len (triple q v j) (ln.offers (triple q v j) off).0).origin
          (ap (λ b. not b && vouched m q v later.round q) (eq-eqb q q refl)) here

  enough_first : (q v j r : ℕ) → n.offered (triple q v j) ≡ true → 2 * j < n.phase → is_correct n r ≡ true → First s place q v j → extracts n r v s j ≡ true
  enough_first q v j r off over ok first =
      and_from _ _ senders (le-leb j _ (omega (arith, first.round, count_some n.group.n (vouched n r v j) s inside heard)))
    where
      holds : n.accepted r (triple q v j) ≡ true
      holds = ln.valid r (triple q v j) off over ok

      senders : n.accepted r (triple s v 1) ≡ true
      senders = ap (λ p. n.accepted r (triple p v 1)) (sym first.sender) ∙ ap (λ i. n.accepted r (triple q v i)) (sym first.round) ∙ holds

      inside : s < n.group.n
      inside = (range_fits n.group n.len (triple s v 1) (ln.accepts r (triple s v 1) senders).1).origin

      heard : vouched n r v j s ≡ true
      heard = vouched_by n r v j s 1 (omega arith) (omega (arith, first.round)) senders

  -- what was offered in a round that is over now, every correct controller has extracted
  spreads : (q v j : ℕ) → m.offered (triple q v j) ≡ true → 2 * j < m.phase + 1 → (r : ℕ) → is_correct n r ≡ true → after r v ≡ true
  spreads q v j off over r ok = ⊎_elim early late (cases_lt (2 * j) m.phase)
    where
      ok_before : is_correct m r ≡ true
      ok_before = ap (λ g. correct g r) (sym turned.group) ∙ ok

      early : 2 * j < m.phase → after r v ≡ true
      early l = still r v (kept.spread q v j off l r ok_before)

      off_after : n.offered (triple q v j) ≡ true
      off_after = ap (λ f. f (triple q v j)) turned.offered ∙ off

      late : m.phase ≤ 2 * j → after r v ≡ true
      late l =
          let over-after : 2 * j < n.phase = omega (arith, turned.phase) in
          let half : m.phase / 2 ≡ j = omega arith in
          let even : m.phase % 2 ≡ 0 = omega arith in
          now_too r v even (ap (λ i. extracts n r v s i) half ∙ ⊎_elim (enough_first q v j r off_after over-after ok) (enough_all q v j r off_after over-after ok) (kept.why q v j off))

  -- of t + 1 origins one is correct, and what it vouched for it offered
  one_offered : (q v i : ℕ) → m.group.t < count n.group.n (vouched n q v i) → (p : ℕ) × (j : ℕ) × (j ≤ i) × (m.offered (triple p v j) ≡ true)
  one_offered q v i many =
      let few = count_wider n.group.n 16 (marked n.group) n.group.few in
      let allowed = n.group.tolerated in
      let same_t : n.group.t ≡ m.group.t = ap (λ g. g.t) turned.group in
      let fewer : count n.group.n (marked n.group) < count n.group.n (vouched n q v i) = omega (arith, few, allowed, same_t, many) in
      let w = someone n.group.n (vouched n q v i) (marked n.group) fewer in
      let h = vouched_in n q v i w.0 w.2 in
      (w.0, h.0, h.2, was (triple w.0 v h.0) (ln.unforgeable q (triple w.0 v h.0) h.3 (correct_from n.group w.0 w.1 w.3)))

  -- q did not vouch for a value that it extracts only now
  not_self : (q v i : ℕ) → is_correct n q ≡ true → has q v ≡ false → vouched n q v i q ≡ false
  not_self q v i ok lacks = ⊎_elim (λ e. absurd (both_ways (has q v) lacks (held e))) (λ f. f) (cases_Bool (vouched n q v i q))
    where
      held : vouched n q v i q ≡ true → has q v ≡ true
      held e = let h = vouched_in n q v i q e in kept.own q v h.0 (was (triple q v h.0) (ln.unforgeable q (triple q v h.0) h.3 ok))

  all_others : (q v i : ℕ) → is_correct n q ≡ true → has q v ≡ false → count n.group.n (vouched n q v i) ≡ count n.group.n (others n q v i)
  all_others q v i ok lacks = count_same n.group.n (vouched n q v i) (others n q v i) (λ p l. ⊎_elim (itself p) (another p) (cases_eq p q))
    where
      itself : (p : ℕ) → p ≡ q → vouched n q v i p ≡ others n q v i p
      itself p e = let f = ap (vouched n q v i) e ∙ not_self q v i ok lacks in f ∙ ap (λ b. not b && vouched n q v i p) (sym (eq-eqb p q e))

      another : (p : ℕ) → (p ≡ q → ⊥) → vouched n q v i p ≡ others n q v i p
      another p e = ap (λ b. not b && vouched n q v i p) (sym (ne_eqb p q e))

  -- after the last turn all correct controllers have extracted the same
  all_same : m.phase + 1 ≡ end_phase m.group → (q v : ℕ) → after q v ≡ true → (r : ℕ) → is_correct n r ≡ true → after r v ≡ true
  all_same end q v e r ok = ⊎_elim old new (extracted_cases q v e)
    where
      old : has q v ≡ true → after r v ≡ true
      old h =
          let w = kept.told q v h (omega (arith, end)) in
          let fits = range_fits m.group m.len (triple q v w.0) (lm.offers (triple q v w.0) w.1).0 in
          spreads q v w.0 w.1 (omega (arith, fits.last, end)) r ok

      new : (m.phase % 2 ≡ 0) × (extracts n q v s (m.phase / 2) ≡ true) → after r v ≡ true
      new h =
          let many = leb-true (m.phase / 2) (count n.group.n (vouched n q v (m.phase / 2))) (and_parts (n.accepted q (triple s v 1)) _ h.1).1 in
          let w = one_offered q v (m.phase / 2) (omega (arith, many, end)) in
          spreads w.0 v w.1 w.3 (omega (arith, w.2)) r ok

  -- who extracts v holds the sender's own triple of it
  holds_it : (q v i : ℕ) → extracts n q v s i ≡ true → n.accepted q (triple s v 1) ≡ true
  holds_it q v i e = (and_parts (n.accepted q (triple s v 1)) _ e).0

  who_extracts : (q v i : ℕ) → extracts n q v s i ≡ true → (is_correct n q ≡ true) × (q < n.group.n) × (v < n.len)
  who_extracts q v i e =
      let a = ln.accepts q (triple s v 1) (holds_it q v i e) in
      (a.0, ltb-true q n.group.n (and_parts (ltb q n.group.n) _ a.0).0, (range_fits n.group n.len (triple s v 1) a.1).place)

  module _ (o : Model) (offers : OnlyOffers n o (offers_after n s has m.phase)) where
    offered_cases : (q v j : ℕ) → o.offered (triple q v j) ≡ true
        → (m.offered (triple q v j) ≡ true) ⊎ ((m.phase % 2 ≡ 0) × (j ≡ m.phase / 2 + 1) × (is_new_to n s has (m.phase / 2) q v ≡ true))
    offered_cases q v j e =
        ⊎_elim (λ a. let w = offers_tell n s has m.phase (triple q v j) a in inr (w.0, w.2.round, w.2.fresh)) (λ b. inl (was (triple q v j) b)) (or_cases _ _ (sym (offers.offered (triple q v j)) ∙ e))

    stays : (x : Triple) → m.offered x ≡ true → o.offered x ≡ true
    stays x e = offers.offered x ∙ or_right _ _ (ap (λ f. f x) turned.offered ∙ e)

    correct_too : (r : ℕ) → is_correct o r ≡ true → is_correct n r ≡ true
    correct_too r e = ap (λ g. correct g r) (sym offers.group) ∙ e

    known : (q : ℕ) (x : Triple) → n.accepted q x ≡ true → o.accepted q x ≡ true
    known q x e = ap (λ f. f q x) offers.accepted ∙ e

    -- a reason in m is one in o
    why_still : (q v j : ℕ) → Why m s place q v j → Why o s place q v j
    why_still q v j = ⊎_elim inl (λ w. inr (later w))
      where
        later : Later m s q v j → Later o s q v j
        later w =
            record {
              round = w.round;
              next = w.next;
              some = w.some;
              senders = known q (triple s v 1) (turned.grows q (triple s v 1) w.senders);
              enough = omega (arith, w.enough, others_grow m o q v w.round (offers.group ∙ turned.group) (λ x e. known q x (turned.grows q x e)));
            }

    new_why : (q v j : ℕ) → m.phase % 2 ≡ 0 → j ≡ m.phase / 2 + 1 → is_new_to n s has (m.phase / 2) q v ≡ true → Later o s q v j
    new_why q v j even next fresh =
        let a = and_parts (extracts n q v s (m.phase / 2)) (not (has q v)) fresh in
        let lacks = not-true (has q v) a.1 in
        let senders = holds_it q v (m.phase / 2) a.0 in
        let ok = (who_extracts q v (m.phase / 2) a.0).0 in
        let many = leb-true (m.phase / 2) (count n.group.n (vouched n q v (m.phase / 2))) (and_parts (n.accepted q (triple s v 1)) _ a.0).1 in
        record {
          round = m.phase / 2;
          next = next;
          some = omega (arith, lm.begun);
          senders = known q (triple s v 1) senders;
          enough = omega (arith, many, all_others q v (m.phase / 2) ok lacks, others_grow n o q v (m.phase / 2) offers.group (known q));
        }

    turn_told : (q v : ℕ) → after q v ≡ true → m.phase + 1 ≤ 2 * m.group.t + 2 → (j : ℕ) × (o.offered (triple q v j) ≡ true)
    turn_told q v e early = ⊎_elim old new (extracted_cases q v e)
      where
        old : has q v ≡ true → (j : ℕ) × (o.offered (triple q v j) ≡ true)
        old h = let w = kept.told q v h (omega arith) in (w.0, stays (triple q v w.0) w.1)

        same_t : n.group.t ≡ m.group.t
        same_t = ap (λ g. g.t) turned.group

        first : m.phase % 2 ≡ 0 → extracts n q v s (m.phase / 2) ≡ true → has q v ≡ false → (j : ℕ) × (o.offered (triple q v j) ≡ true)
        first even x lacks =
            let w = who_extracts q v (m.phase / 2) x in
            let fresh = and_from _ _ x (not_from_false (has q v) lacks) in
            (m.phase / 2 + 1, offers.offered (triple q v (m.phase / 2 + 1)) ∙ or_left _ _ (offers_have n s has m.phase q v even (omega (arith, same_t)) w.1 w.2 fresh))

        new : (m.phase % 2 ≡ 0) × (extracts n q v s (m.phase / 2) ≡ true) → (j : ℕ) × (o.offered (triple q v j) ≡ true)
        new h = ⊎_elim old (first h.0 h.1) (cases_Bool (has q v))

    turn_honest : is_correct n s ≡ true → (q v : ℕ) → after q v ≡ true → place ≡ Some v
    turn_honest ok q v e = ⊎_elim (kept.honest (ap (λ g. correct g s) (sym turned.group) ∙ ok) q v) new (extracted_cases q v e)
      where
        reason : Why m s place s v 1 → place ≡ Some v
        reason = ⊎_elim (λ f. f.value) (λ w. absurd (omega (arith, w.next, w.some)))

        new : (m.phase % 2 ≡ 0) × (extracts n q v s (m.phase / 2) ≡ true) → place ≡ Some v
        new h = reason (kept.why s v 1 (was (triple s v 1) (ln.unforgeable q (triple s v 1) (holds_it q v (m.phase / 2) h.1) ok)))

    -- a turn keeps all of it
    pub turn_keeps : Kept o s place (sets_after n s has m.phase)
    unfolding after
    turn_keeps =
        let phase : o.phase ≡ m.phase + 1 = offers.phase ∙ turned.phase in
        let same_t : o.group.t ≡ m.group.t = ap (λ g. g.t) (offers.group ∙ turned.group) in
        record {
          own = λ q v j e. ⊎_elim (λ old. still q v (kept.own q v j old)) (λ w. now_too q v w.0 (and_parts (extracts n q v s (m.phase / 2)) _ w.2).0) (offered_cases q v j e);
          spread = λ q v j e over r ok. ⊎_elim (λ old. spreads q v j old (omega arith) r (correct_too r ok)) (λ w. absurd (omega (arith, w.0, w.1))) (offered_cases q v j e);
          told = λ q v e early. turn_told q v e (omega arith);
          why = λ q v j e. ⊎_elim (λ old. why_still q v j (kept.why q v j old)) (λ w. inr (new_why q v j w.0 w.1 w.2)) (offered_cases q v j e);
          honest = λ ok q v e. turn_honest (correct_too s ok) q v e;
          sent = λ v e. still s v (kept.sent v e);
          same = λ end q v e r ok. all_same (omega arith) q v e r (correct_too r ok);
          who = λ q v e. ⊎_elim (λ old. let w = kept.who q v old in (ap (λ g. correct g q) (offers.group ∙ turned.group) ∙ w.0, omega (arith, w.1, offers.len, turned.len)))
              (λ w. let a = who_extracts q v (m.phase / 2) w.1 in (ap (λ g. correct g q) offers.group ∙ a.0, omega (arith, a.2, offers.len))) (extracted_cases q v e);
        }
