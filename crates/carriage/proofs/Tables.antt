-- A table with a cell for each triple, of which all cells are the same or one is written. Assumes nothing.
use Rattle.std.proofs.Common.{◌≡◌, ℕ, ◌<◌, ◌≤◌, Bool, true, false, ◌&&◌, ◌||◌, List, length, get_or, set, sym, refl, ap, ◌∙◌, ⊎_elim, arith, get_or-set_other, get_or-set_same}
use Rattle.std.proofs.lemmas.Bool.{and_right, cases_eq, both_ways}
use Rattle.carriage.specs.Triples.{in_range, same_triple, slot_of}
use Rattle.groups.specs.declared.members.Group.{Group}
use Rattle.carriage.specs.declared.frames.Triple.{Triple}
use Rattle.carriage.proofs.Slots.{same_is, slot_small, slot_apart}

-- an equation that is wanted of triples in range only
pub where_known : (b p q : Bool) → (b ≡ true → p ≡ q) → (b && p) ≡ (b && q)
where_known true p q h = h refl
where_known false p q h = refl

-- where every cell is the same, what does not hold of it holds of no triple
pub none_known : {A : Type 0} (g : Group) (len : ℕ) (d cell : A) (cells : List A) → ((k : ℕ) (e : A) → k < 384 → get_or cells k e ≡ cell) → (f : A → Bool) → f cell ≡ false
    → (x : Triple) → (in_range g len x && f (get_or cells (slot_of x) d)) ≡ false
none_known g len d cell cells all f e x = ap (λ c. in_range g len x && f c) (all (slot_of x) d (slot_small x)) ∙ and_right (in_range g len x) _ e

-- the cell of x becomes new
module _ {A : Type 0} (g : Group) (len : ℕ) (d : A) (cells : List A) (long : length cells ≡ 384) (x : Triple) (new : A) (after : List A) (written : after ≡ set cells (slot_of x) new) where
  here : get_or after (slot_of x) d ≡ new
  here = ap (λ l. get_or l (slot_of x) d) written ∙ get_or-set_same cells (slot_of x) new d (let small = slot_small x in omega arith)

  there : (y : Triple) → (slot_of y ≡ slot_of x → ⊥) → get_or after (slot_of y) d ≡ get_or cells (slot_of y) d
  there y apart = ap (λ l. get_or l (slot_of y) d) written ∙ get_or-set_other cells (slot_of x) (slot_of y) new d apart

  -- what the new cell has in common with the old one is unchanged everywhere
  pub kept : (f : A → Bool) → f new ≡ f (get_or cells (slot_of x) d) → (y : Triple) → (in_range g len y && f (get_or after (slot_of y) d)) ≡ (in_range g len y && f (get_or cells (slot_of y) d))
  kept f same y = ap (λ b. in_range g len y && b) (⊎_elim this (λ n. ap f (there y n)) (cases_eq (slot_of y) (slot_of x)))
    where
      this : slot_of y ≡ slot_of x → f (get_or after (slot_of y) d) ≡ f (get_or cells (slot_of y) d)
      this e = ap (λ k. f (get_or after k d)) e ∙ ap f here ∙ same ∙ ap (λ k. f (get_or cells k d)) (sym e)

  -- what the new cell adds is added at the triple itself
  pub added : len ≤ 4 → in_range g len x ≡ true → (f : A → Bool) (b : Bool) → f new ≡ (b || f (get_or cells (slot_of x) d)) → (y : Triple)
      → (in_range g len y && f (get_or after (slot_of y) d)) ≡ ((b && same_triple x y) || (in_range g len y && f (get_or cells (slot_of y) d)))
  added few known f b is y = go (same_triple x y) (in_range g len y) refl refl
    where
      now : Bool
      now = f (get_or after (slot_of y) d)

      before : Bool
      before = f (get_or cells (slot_of y) d)

      or_false : (c : Bool) (r : Bool) → r ≡ ((c && false) || r)
      or_false true r = refl
      or_false false r = refl

      and_true : (c : Bool) → (c && true) ≡ c
      and_true true = refl
      and_true false = refl

      at_this : same_triple x y ≡ true → now ≡ (b || before)
      at_this s =
          let e = same_is x y s in
          ap (λ z. f (get_or after (slot_of z) d)) (sym e) ∙ ap f here ∙ is ∙ ap (λ z. b || f (get_or cells (slot_of z) d)) e

      go : (s r : Bool) → same_triple x y ≡ s → in_range g len y ≡ r → (r && now) ≡ ((b && s) || (r && before))
      go true true s r = at_this s ∙ ap (λ c. c || before) (sym (and_true b))
      go true false s r = absurd (both_ways (in_range g len y) r (ap (in_range g len) (sym (same_is x y s)) ∙ known))
      go false true s r = ap f (there y (λ same. both_ways (same_triple x y) s (slot_apart g len few x y known r (sym same)))) ∙ or_false b before
      go false false s r = or_false b false
