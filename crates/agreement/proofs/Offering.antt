-- Offers made one after the other, and what they add to the offered triples. Assumes nothing.
use Rattle.std.proofs.Common.{◌≡◌, ℕ, zero, suc, ◌+◌, ◌/◌, ◌%◌, ◌<◌, ◌≤◌, Bool, true, false, cond, ◌&&◌, ◌||◌, eqb, leb, List, [], ◌∷◌, ◌++◌, sym, refl, ap, ◌∙◌, subst, ⊎_elim, arith}
use Rattle.std.proofs.lemmas.Bool.{or_cases, or_left, or_right, cases_eq, both_ways, and_parts, and_from, eqb-true, eq-eqb, leb-true, le-leb}
use Rattle.carriage.specs.Triples.{same_triple}
use Rattle.carriage.specs.Model.{Model, after_offer}
use Rattle.carriage.specs.declared.frames.Triple.{Triple}
use Rattle.carriage.specs.declared.meaning.Carriage.{Ghosts as Account}
use Rattle.carriage.proofs.Slots.{same_is, same_refl}
use Rattle.agreement.specs.Extraction.{triple, is_new_to, place_offers, group_offers, offers_after}
use Rattle.agreement.specs.Steps.{Offered, none, more}

abbrev pub after_offers : Model → List Triple → Model
after_offers m [] = m
after_offers m (x ∷ xs) = after_offers (after_offer m x) xs

-- y is one of the triples
abbrev pub among : List Triple → Triple → Bool
among [] y = false
among (x ∷ xs) y = same_triple x y || among xs y

-- offers change the offered triples and nothing else
pub record OnlyOffers (m n : Model) (xs : List Triple) : Type 0 where
  pub group : n.group ≡ m.group
  pub len : n.len ≡ m.len
  pub phase : n.phase ≡ m.phase
  pub accepted : n.accepted ≡ m.accepted
  pub offered : (y : Triple) → n.offered y ≡ (among xs y || m.offered y)

regroup : (a b c : Bool) → (a || (b || c)) ≡ ((b || a) || c)
regroup true true c = refl
regroup true false c = refl
regroup false true c = refl
regroup false false c = refl

pub only_offers : (m : Model) (xs : List Triple) → OnlyOffers m (after_offers m xs) xs
only_offers m [] = record { group = refl; len = refl; phase = refl; accepted = refl; offered = λ y. refl }
only_offers m (x ∷ xs) =
    let r = only_offers (after_offer m x) xs in
    record { group = r.group; len = r.len; phase = r.phase; accepted = r.accepted; offered = λ y. r.offered y ∙ regroup (among xs y) (same_triple x y) (m.offered y) }

module _ {C : Type 0} (account : Account C) (one : (c : C) (x : Triple) (d : C) → account.offers c x d → account.model d ≡ after_offer (account.model c) x) where
  -- the model after a chain of offers
  pub chain_model : {c d : C} {xs : List Triple} → Offered account c xs d → account.model d ≡ after_offers (account.model c) xs
  chain_model none = refl
  chain_model (more {c = c} {d = d} {x = x} {xs = xs} o rest) = chain_model rest ∙ ap (λ m. after_offers m xs) (one c x d o)

  pub chain_offers : {c d : C} {xs : List Triple} → Offered account c xs d → OnlyOffers (account.model c) (account.model d) xs
  chain_offers {c} {d} {xs} o = subst (λ m. OnlyOffers (account.model c) m xs) (sym (chain_model o)) (only_offers (account.model c) xs)

among_join : (xs ys : List Triple) (y : Triple) → among (xs ++ ys) y ≡ (among xs y || among ys y)
among_join [] ys y = refl
among_join (x ∷ xs) ys y = ap (λ b. same_triple x y || b) (among_join xs ys y) ∙ assoc (same_triple x y) (among xs y) (among ys y)
  where
    assoc : (a b c : Bool) → (a || (b || c)) ≡ ((a || b) || c)
    assoc true b c = refl
    assoc false b c = refl

-- the list has one triple, or none
among_one : (b : Bool) (x y : Triple) → among (cond b (x ∷ []) []) y ≡ true → (b ≡ true) × (x ≡ y)
among_one true x y e = (refl, same_is x y (⊎_elim (λ a. a) (λ f. absurd (both_ways false refl f)) (or_cases _ _ e)))
among_one false x y e = absurd (both_ways false refl e)

module _ (test : ℕ → ℕ → Bool) (i : ℕ) where
  -- what stands on the list of new offers
  pub record New (len n : ℕ) (y : Triple) : Type 0 where
    pub origin : y.origin < n
    pub place : y.place < len
    pub round : y.round ≡ i
    pub fresh : test y.origin y.place ≡ true

  among_places : (q len : ℕ) (y : Triple) → among (place_offers test i q len) y ≡ true → New len (suc q) y
  unfolding place_offers
  among_places q zero y e = absurd (both_ways false refl e)
  among_places q (suc v) y e =
      ⊎_elim (λ a. wider (among_places q v y a)) (λ b. last (among_one (test q v) (triple q v i) y b)) (or_cases _ _ (sym (among_join (place_offers test i q v) _ y) ∙ e))
    where
      wider : New v (suc q) y → New (suc v) (suc q) y
      wider w = record { origin = w.origin; place = omega (arith, w.place); round = w.round; fresh = w.fresh }

      last : (test q v ≡ true) × (triple q v i ≡ y) → New (suc v) (suc q) y
      last w = subst (New (suc v) (suc q)) w.1 (record { origin = omega arith; place = omega arith; round = refl; fresh = w.0 })

  among_group : (len n : ℕ) (y : Triple) → among (group_offers test i len n) y ≡ true → New len n y
  unfolding group_offers
  among_group len zero y e = absurd (both_ways false refl e)
  among_group len (suc q) y e =
      ⊎_elim (λ a. wider (among_group len q y a)) (λ b. among_places q len y b) (or_cases _ _ (sym (among_join (group_offers test i len q) _ y) ∙ e))
    where
      wider : New len q y → New len (suc q) y
      wider w = record { origin = omega (arith, w.origin); place = w.place; round = w.round; fresh = w.fresh }

  places_have : (q len v : ℕ) → v < len → test q v ≡ true → among (place_offers test i q len) (triple q v i) ≡ true
  unfolding place_offers
  places_have q zero v l e = absurd (omega arith)
  places_have q (suc u) v l e =
      among_join (place_offers test i q u) _ (triple q v i) ∙ ⊎_elim (λ same. or_right _ _ (here same)) (λ other. or_left _ _ (places_have q u v (omega arith) e)) (cases_eq v u)
    where
      here : v ≡ u → among (cond (test q u) (triple q u i ∷ []) []) (triple q v i) ≡ true
      here same =
          ap (λ b. among (cond b (triple q u i ∷ []) []) (triple q v i)) (ap (test q) (sym same) ∙ e)
          ∙ or_left _ _ (ap (λ k. same_triple (triple q k i) (triple q v i)) (sym same) ∙ same_refl (triple q v i))

  group_has : (len n q v : ℕ) → q < n → v < len → test q v ≡ true → among (group_offers test i len n) (triple q v i) ≡ true
  unfolding group_offers
  group_has len zero q v l k e = absurd (omega arith)
  group_has len (suc p) q v l k e =
      among_join (group_offers test i len p) _ (triple q v i) ∙ ⊎_elim (λ same. or_right _ _ (here same)) (λ other. or_left _ _ (group_has len p q v (omega arith) k e)) (cases_eq q p)
    where
      here : q ≡ p → among (place_offers test i p len) (triple q v i) ≡ true
      here same = ap (λ r. among (place_offers test i r len) (triple q v i)) (sym same) ∙ places_have q len v k e

module _ (m : Model) (s : ℕ) (before : ℕ → ℕ → Bool) (k : ℕ) where
  -- what is offered after the turn of phase k: the second phase of a round that is not the last one
  pub offers_tell : (y : Triple) → among (offers_after m s before k) y ≡ true
      → (k % 2 ≡ 0) × (k / 2 ≤ m.group.t) × New (is_new_to m s before (k / 2)) (k / 2 + 1) m.len m.group.n y
  offers_tell y e = go (eqb (k % 2) 0 && leb (k / 2) m.group.t) refl e
    where
      go : (b : Bool) → (eqb (k % 2) 0 && leb (k / 2) m.group.t) ≡ b → among (cond b (group_offers (is_new_to m s before (k / 2)) (k / 2 + 1) m.len m.group.n) []) y ≡ true
          → (k % 2 ≡ 0) × (k / 2 ≤ m.group.t) × New (is_new_to m s before (k / 2)) (k / 2 + 1) m.len m.group.n y
      go true f h = let a = and_parts _ _ f in (eqb-true _ _ a.0, leb-true _ _ a.1, among_group (is_new_to m s before (k / 2)) (k / 2 + 1) m.len m.group.n y h)
      go false f h = absurd (both_ways false refl h)

  pub offers_have : (q v : ℕ) → k % 2 ≡ 0 → k / 2 ≤ m.group.t → q < m.group.n → v < m.len → is_new_to m s before (k / 2) q v ≡ true
      → among (offers_after m s before k) (triple q v (k / 2 + 1)) ≡ true
  offers_have q v even below l h e =
      ap (λ b. among (cond b (group_offers (is_new_to m s before (k / 2)) (k / 2 + 1) m.len m.group.n) []) (triple q v (k / 2 + 1))) (and_from _ _ (eq-eqb _ _ even) (le-leb _ _ below))
      ∙ group_has (is_new_to m s before (k / 2)) (k / 2 + 1) m.len m.group.n q v l h e
