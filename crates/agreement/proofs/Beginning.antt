-- What a taken begin has found, and that a beginning shot keeps what every running shot does. Assumes nothing.
use Rattle.std.proofs.Common.{◌≡◌, ℕ, suc, ◌<◌, Bool, true, false, cond, ◌&&◌, eqb, List, [], ◌∷◌, length, is_some, Some, None, Option, sym, refl, ap, ◌∙◌, inl, ⊎_elim, arith}
use Rattle.std.specs.Option.{option_map, option_or}
use Rattle.std.proofs.lemmas.Bool.{or_cases, or_left, and_parts, and_from, eqb-true, eq-eqb, ltb-true, both_ways}
use Rattle.lists.specs.Lists.{place_of}
use Rattle.groups.specs.Groups.{marked, correct}
use Rattle.carriage.specs.Triples.{same_triple}
use Rattle.carriage.specs.Model.{Model, is_correct, afresh}
use Rattle.carriage.specs.declared.meaning.Carriage.{Ghosts as Account}
use Rattle.groups.proofs.Marked.{correct_from}
use Rattle.carriage.proofs.Slots.{same_is}
use Rattle.agreement.specs.Views.{View, Rules, model_of, moment_of, fits}
use Rattle.agreement.specs.Extraction.{triple, first_sets, first_offers}
use Rattle.agreement.specs.Refusals.{given, begin_fault, unlisted}
use Rattle.agreement.specs.declared.moments.Act.TheVariants.{Begin}
use Rattle.agreement.proofs.Offering.{OnlyOffers}
use Rattle.agreement.proofs.Keeping.{Kept}

-- no fault of several causes is none of each
pub first_none : {T : Type 0} (a b : Option T) → option_or a b ≡ None → (a ≡ None) × (b ≡ None)
first_none None b e = (refl, e)
first_none (Some x) b e = let z : ◌≡◌ {A = ℕ} 0 1 = cc in absurd (omega arith)

pub passed : {T : Type 0} (b : Bool) (o : Option T) (x : T) → cond b o (Some x) ≡ None → (b ≡ true) × (o ≡ None)
passed true o x e = (refl, e)
passed false o x e = let z : ◌≡◌ {A = ℕ} 0 1 = cc in absurd (omega arith)

pub spared : {T : Type 0} (b : Bool) (o : Option T) (x : T) → cond b (Some x) o ≡ None → (b ≡ false) × (o ≡ None)
spared true o x e = let z : ◌≡◌ {A = ℕ} 0 1 = cc in absurd (omega arith)
spared false o x e = (refl, e)

pub mapped_none : {T U : Type 0} (f : T → U) (o : Option T) → option_map f o ≡ None → o ≡ None
mapped_none f None e = refl
mapped_none f (Some x) e = let z : ◌≡◌ {A = ℕ} 0 1 = cc in absurd (omega arith)

pub place_below : {K : Type 0} (same : K → K → Bool) (w : K) (xs : List K) (p : ℕ) → place_of same w xs ≡ Some p → p < length xs
place_below same w [] p e = let z : ◌≡◌ {A = ℕ} 0 1 = cc in absurd (omega arith)
place_below same w (x ∷ xs) p e = go (same x w) (place_of same w xs) refl e (place_below same w xs)
  where
    go : (b : Bool) (o : Option ℕ) → place_of same w xs ≡ o → cond b (Some 0) (option_map suc o) ≡ Some p → ((i : ℕ) → place_of same w xs ≡ Some i → i < length xs) → p < suc (length xs)
    go true o f h below = let z : 0 ≡ p = cc in omega arith
    go false None f h below = let z : ◌≡◌ {A = ℕ} 0 1 = cc in absurd (omega arith)
    go false (Some i) f h below = let z : suc i ≡ p = cc in omega (arith, below i f)

-- what a begin without fault has found
pub record MayBegin {C K : Type 0} (account : Account C) (rules : Rules K) (v : View C) (s : ℕ) (x : Option K) : Type 0 where
  pub moment : fits (moment_of account v) v.closed Begin ≡ true
  pub length : length rules.values ≡ (model_of account v).len
  pub closed : v.closed < 999
  pub sender : s < (model_of account v).group.n
  pub unmarked : (marked (model_of account v).group s && is_some x) ≡ false
  pub listed : unlisted rules x ≡ false

module _ {C K : Type 0} (account : Account C) (rules : Rules K) (v : View C) (s : ℕ) (x : Option K) where
  pub may_begin : begin_fault account rules v s x ≡ None → MayBegin account rules v s x
  may_begin e =
      let a = first_none _ _ e in
      let b = first_none _ _ a.1 in
      let c = first_none _ _ b.1 in
      let d = first_none _ _ c.1 in
      let f = passed _ _ _ d.0 in
      record {
        moment = (passed _ None _ a.0).0;
        length = eqb-true _ _ (passed _ None _ (mapped_none _ _ b.0)).0;
        closed = ltb-true _ _ (passed _ None _ c.0).0;
        sender = ltb-true _ _ f.0;
        unmarked = (spared _ None _ f.1).0;
        listed = (spared _ None _ d.1).0;
      }

  -- a value that was given is on the list, and its sender is correct
  pub given_right : MayBegin account rules v s x → (p : ℕ) → given rules x ≡ Some p → (is_correct (model_of account v) s ≡ true) × (p < (model_of account v).len)
  given_right may p e = go x may.unmarked e
    where
      go : (y : Option K) → (marked (model_of account v).group s && is_some y) ≡ false → given rules y ≡ Some p → (is_correct (model_of account v) s ≡ true) × (p < (model_of account v).len)
      go None f h = let z : ◌≡◌ {A = ℕ} 0 1 = cc in absurd (omega arith)
      go (Some w) f h = (correct_from (model_of account v).group s may.sender (clear (marked (model_of account v).group s) f), omega (arith, place_below rules.same w rules.values p h, may.length))
        where
          clear : (b : Bool) → (b && true) ≡ false → b ≡ false
          clear true g = g
          clear false g = refl

-- in a beginning shot the sender alone has extracted and offered its value
pub begin_keeps : (m n : Model) (s : ℕ) (place : Option ℕ) → OnlyOffers (afresh m) n (first_offers s place)
    → ((p : ℕ) → place ≡ Some p → (is_correct m s ≡ true) × (p < m.len)) → Kept n s place (first_sets s place)
begin_keeps m n s None offers right =
    let none : (q v j : ℕ) → n.offered (triple q v j) ≡ true → ⊥ = λ q v j e. both_ways false refl (sym (offers.offered (triple q v j)) ∙ e) in
    record {
      own = λ q v j e. absurd (none q v j e);
      spread = λ q v j e over r ok. absurd (none q v j e);
      told = λ q v e early. absurd (both_ways false refl e);
      why = λ q v j e. absurd (none q v j e);
      honest = λ ok q v e. absurd (both_ways false refl e);
      sent = λ v e. let z : ◌≡◌ {A = ℕ} 0 1 = cc in absurd (omega arith);
      same = λ end q v e r ok. absurd (both_ways false refl e);
      who = λ q v e. absurd (both_ways false refl e);
    }
begin_keeps m n s (Some p) offers right =
    let ok-s : is_correct n s ≡ true = ap (λ g. correct g s) offers.group ∙ (right p refl).0 in
    record {
      own = λ q v j e. let w = only q v j e in and_from _ _ (eq-eqb q s w.0) (eq-eqb v p w.1);
      spread = λ q v j e over r ok. let w = only q v j e in absurd (omega (arith, w.2, offers.phase));
      told = λ q v e early. let a = and_parts (eqb q s) (eqb v p) e in (1, offers.offered (triple q v 1) ∙ or_left _ _ (or_left _ _ (is_first q v (eqb-true q s a.0) (eqb-true v p a.1))));
      why = λ q v j e. let w = only q v j e in inl (record { round = w.2; sender = w.0; value = ap Some (sym w.1) });
      honest = λ ok q v e. ap Some (sym (eqb-true v p (and_parts (eqb q s) (eqb v p) e).1));
      sent = λ v e. let same : v ≡ p = cc in and_from _ _ (eq-eqb s s refl) (eq-eqb v p same);
      same = λ end q v e r ok. absurd (omega (arith, end, offers.phase));
      who = λ q v e.
          let a = and_parts (eqb q s) (eqb v p) e in
          (ap (λ k. correct n.group k) (eqb-true q s a.0) ∙ ok-s, omega (arith, eqb-true v p a.1, (right p refl).1, offers.len));
    }
  where
    only : (q v j : ℕ) → n.offered (triple q v j) ≡ true → (q ≡ s) × (v ≡ p) × (j ≡ 1)
    only q v j e =
        ⊎_elim (λ a. ⊎_elim (λ b. let w = same_is (triple s p 1) (triple q v j) b in (sym (ap (λ x. x.origin) w), sym (ap (λ x. x.place) w), sym (ap (λ x. x.round) w))) (λ b. absurd (both_ways false refl b)) (or_cases _ _ a))
        (λ b. absurd (both_ways false refl b)) (or_cases _ _ (sym (offers.offered (triple q v j)) ∙ e))

    is_first : (q v : ℕ) → q ≡ s → v ≡ p → same_triple (triple s p 1) (triple q v 1) ≡ true
    is_first q v a b = and_from _ _ (eq-eqb s q (sym a)) (and_from _ _ (eq-eqb p v (sym b)) (eq-eqb 1 1 refl))
