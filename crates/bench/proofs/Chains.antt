-- Offers that cannot be refused, one after the other. Assumes nothing.
use Rattle.std.proofs.Common.{◌≡◌, ℕ, ◌+◌, ◌*◌, ◌<◌, ◌≤◌, Bool, true, false, cond, ◌&&◌, eqb, ltb, List, [], ◌∷◌, ◌++◌, Some, None, Ok, Err, IsOk, Option, Result, refl, sym, ap, ◌∙◌, subst, add-one, arith}
use Rattle.std.specs.Result.{result_err}
use Rattle.std.proofs.lemmas.Option.{none-some}
use Rattle.std.proofs.lemmas.Bool.{cond-true, and_from, and_parts, lt-ltb, le-leb, eq-eqb}
use Rattle.groups.specs.Groups.{correct}
use Rattle.carriage.specs.Model.{Model, is_correct, knows, offer_fault, after_offer}
use Rattle.carriage.specs.declared.frames.Triple.{Triple}
use Rattle.carriage.specs.declared.meaning.Carriage.{Ghosts as Account}
use Rattle.agreement.specs.Extraction.{triple, place_offers, group_offers}
use Rattle.agreement.specs.Steps.{Offered, none, more}
use Rattle.agreement.proofs.Offering.{OnlyOffers, chain_offers}
use Rattle.bench.specs.Inner.{Offerable}

-- a triple of a correct controller, in range and in the first phase of its round, is not refused
pub not_refused : (m : Model) (q v i : ℕ) → is_correct m q ≡ true → v < m.len → m.phase + 1 ≡ 2 * i → i ≤ m.group.t + 1 → offer_fault m (triple q v i) ≡ None
not_refused m q v i ok l p r =
    cond-true (knows m (triple q v i)) _ _ (and_from _ _ (and_parts (ltb q m.group.n) _ ok).0 (and_from _ _ (lt-ltb v m.len l) (and_from _ _ (le-leb 1 i (omega arith)) (le-leb i _ r))))
    ∙ cond-true (is_correct m q && eqb (m.phase + 1) (2 * i)) _ _ (and_from _ _ ok (eq-eqb _ _ p))

pub offerable_taken : (m : Model) (test : ℕ → ℕ → Bool) (i q v : ℕ) → Offerable m test i → test q v ≡ true → offer_fault m (triple q v i) ≡ None
offerable_taken m test i q v can e = let w = can.who q v e in not_refused m q v i w.0 w.1 can.phase can.last

-- offers leave the others possible
pub offerable_still : (m n : Model) (xs : List Triple) (test : ℕ → ℕ → Bool) (i : ℕ) → OnlyOffers m n xs → Offerable m test i → Offerable n test i
offerable_still m n xs test i only can =
    record {
      phase = omega (arith, only.phase, can.phase);
      last = omega (arith, ap (λ g. g.t) only.group, can.last);
      who = λ q v e. let w = can.who q v e in (ap (λ g. correct g q) only.group ∙ w.0, omega (arith, w.1, only.len));
    }

module _ {C : Type 0} (account : Account C) where
  pub join : {c d e : C} {xs ys : List Triple} → Offered account c xs d → Offered account d ys e → Offered account c (xs ++ ys) e
  join none rest = rest
  join (more o one) rest = more o (join one rest)

  module _ (test : ℕ → ℕ → Bool) (i : ℕ) where
    -- one place further
    pub place_then : (c d e : C) (q v : ℕ) → Offered account c (place_offers test i q v) d → test q v ≡ true → account.offers d (triple q v i) e → Offered account c (place_offers test i q (v + 1)) e
    unfolding place_offers
    place_then c d e q v sofar yes-it o =
        subst (λ k. Offered account c (place_offers test i q k) e) (sym (add-one v))
        (join sofar (subst (λ b. Offered account d (cond b (triple q v i ∷ []) []) e) (sym yes-it) (more o none)))

    pub place_else : (c d : C) (q v : ℕ) → Offered account c (place_offers test i q v) d → test q v ≡ false → Offered account c (place_offers test i q (v + 1)) d
    unfolding place_offers
    place_else c d q v sofar not-it =
        subst (λ k. Offered account c (place_offers test i q k) d) (sym (add-one v))
        (join sofar (subst (λ b. Offered account d (cond b (triple q v i ∷ []) []) d) (sym not-it) none))

    pub place_start : (c : C) (q : ℕ) → Offered account c (place_offers test i q 0) c
    unfolding place_offers
    place_start c q = none

    -- one controller further
    pub group_then : (c d e : C) (len q : ℕ) → Offered account c (group_offers test i len q) d → Offered account d (place_offers test i q len) e → Offered account c (group_offers test i len (q + 1)) e
    unfolding group_offers
    group_then c d e len q sofar here = subst (λ k. Offered account c (group_offers test i len k) e) (sym (add-one q)) (join sofar here)

    pub group_start : (c : C) (len : ℕ) → Offered account c (group_offers test i len 0) c
    unfolding group_offers
    group_start c len = none

  pub still_can : ((c : C) (x : Triple) (d : C) → account.offers c x d → account.model d ≡ after_offer (account.model c) x) → {c d : C} {xs : List Triple} → Offered account c xs d
      → (test : ℕ → ℕ → Bool) (i : ℕ) → Offerable (account.model c) test i → Offerable (account.model d) test i
  still_can one {c} {d} {xs} o test i can = offerable_still (account.model c) (account.model d) xs test i (chain_offers account one o) can

-- a call that has no fault was taken
pub taken : {T E : Type 0} (r : Result T E) (o : Option E) → result_err r ≡ o → o ≡ None → IsOk r
taken (Ok x) o a b = refl
taken (Err e) o a b = absurd (none-some e (sym (a ∙ b)))

-- the same of a fault that was met
pub no_refusal : {T : Type 0} (e : T) (o : Option T) → Some e ≡ o → o ≡ None → ⊥
no_refusal e o a b = none-some e (sym (a ∙ b))
