-- Triples in range, and the cells of a table that keep them: no two share a cell. Assumes nothing.
use Rattle.std.proofs.Common.{◌≡◌, ℕ, ◌+◌, ◌-◌, ◌*◌, ◌/◌, ◌%◌, ◌<◌, ◌≤◌, true, eqb, sym, refl, ap, ◌∙◌, arith}
use Rattle.std.proofs.lemmas.Bool.{and_parts, and_from, ltb-true, leb-true, eqb-true, eq-eqb}
use Rattle.carriage.specs.Triples.{in_range, same_triple, slot_of}
use Rattle.groups.specs.declared.members.Group.{Group}
use Rattle.carriage.specs.declared.frames.Triple.{Triple}

pub record Fits (g : Group) (len : ℕ) (x : Triple) : Type 0 where
  pub origin : x.origin < g.n
  pub place : x.place < len
  pub first : 1 ≤ x.round
  pub last : x.round ≤ g.t + 1

pub range_fits : (g : Group) (len : ℕ) (x : Triple) → in_range g len x ≡ true → Fits g len x
range_fits g len x e =
    let a = and_parts _ _ e in
    let b = and_parts _ _ a.1 in
    let c = and_parts _ _ b.1 in
    record { origin = ltb-true _ _ a.0; place = ltb-true _ _ b.0; first = leb-true _ _ c.0; last = leb-true _ _ c.1 }

pub same_is : (x y : Triple) → same_triple x y ≡ true → x ≡ y
same_is x y e =
    let a = and_parts (eqb x.origin y.origin) _ e in
    let b = and_parts (eqb x.place y.place) (eqb x.round y.round) a.1 in
    let o : x.origin ≡ y.origin = eqb-true x.origin y.origin a.0 in
    let p : x.place ≡ y.place = eqb-true x.place y.place b.0 in
    let r : x.round ≡ y.round = eqb-true x.round y.round b.1 in
    λ i. record { origin = o i; place = p i; round = r i }

pub same_refl : (x : Triple) → same_triple x x ≡ true
same_refl x = and_from _ _ (eq-eqb x.origin x.origin refl) (and_from _ _ (eq-eqb x.place x.place refl) (eq-eqb x.round x.round refl))

pub slot_small : (x : Triple) → slot_of x < 384
slot_small x = omega arith

module _ (g : Group) (len : ℕ) (few : len ≤ 4) where
  flat : (x : Triple) → in_range g len x ≡ true → slot_of x ≡ x.origin + 16 * x.place + 64 * (x.round - 1)
  flat x e =
      let f = range_fits g len x e in
      let tolerant : 3 * g.t < g.n = g.tolerant in
      let sixteen : g.n ≤ 16 = g.few in
      let o : x.origin % 16 ≡ x.origin = omega arith in
      let p : x.place % 4 ≡ x.place = omega arith in
      let r : (x.round + 5) % 6 ≡ x.round - 1 = omega arith in
      omega arith

  -- the round can be read off the cell's number
  pub slot_round : (x : Triple) → in_range g len x ≡ true → slot_of x / 64 + 1 ≡ x.round
  slot_round x e =
      let f = range_fits g len x e in
      let sixteen : g.n ≤ 16 = g.few in
      omega (arith, flat x e)

  slot_place : (x : Triple) → in_range g len x ≡ true → slot_of x % 64 / 16 ≡ x.place
  slot_place x e =
      let f = range_fits g len x e in
      let sixteen : g.n ≤ 16 = g.few in
      omega (arith, flat x e)

  slot_origin : (x : Triple) → in_range g len x ≡ true → slot_of x % 16 ≡ x.origin
  slot_origin x e =
      let f = range_fits g len x e in
      let sixteen : g.n ≤ 16 = g.few in
      omega (arith, flat x e)

  pub slot_apart : (x y : Triple) → in_range g len x ≡ true → in_range g len y ≡ true → slot_of x ≡ slot_of y → same_triple x y ≡ true
  slot_apart x y e f s =
      let o : x.origin ≡ y.origin = sym (slot_origin x e) ∙ ap (λ k. k % 16) s ∙ slot_origin y f in
      let p : x.place ≡ y.place = sym (slot_place x e) ∙ ap (λ k. k % 64 / 16) s ∙ slot_place y f in
      let r : x.round ≡ y.round = sym (slot_round x e) ∙ ap (λ k. k / 64 + 1) s ∙ slot_round y f in
      and_from _ _ (eq-eqb _ _ o) (and_from _ _ (eq-eqb _ _ p) (eq-eqb _ _ r))
