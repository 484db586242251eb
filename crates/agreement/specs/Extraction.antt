-- What correct controllers extract after a turn, what they offer then, and the verdict of a set. Assumes nothing.
use Rattle.std.specs.Prelude.{◌≡◌, ℕ, zero, suc, ◌+◌, ◌/◌, ◌%◌, ◌<◌, Bool, true, false, cond, not, ◌&&◌, ◌||◌, List, [], ◌∷◌, ◌++◌, Some, None, Option, ◌==◌, ◌≢◌, nat_le}
use Rattle.sets.specs.Sets.{count}
use Rattle.carriage.specs.Model.{Model}
use Rattle.carriage.specs.declared.frames.Triple.{Triple}
use Rattle.agreement.specs.declared.moments.Verdict.{Verdict}
use Rattle.agreement.specs.declared.moments.Verdict.TheVariants.{Place, SenderFaulty}

abbrev pub triple : ℕ → ℕ → ℕ → Triple
triple p v i = record { origin = p; place = v; round = i }

-- a beginning shot: the sender's own value, if one was given, is in its set and is offered for round 1
abbrev pub first_sets : ℕ → Option ℕ → ℕ → ℕ → Bool
first_sets s None q v = false
first_sets s (Some p) q v = q == s && v == p

abbrev pub first_offers : ℕ → Option ℕ → List Triple
first_offers s None = []
first_offers s (Some p) = triple s p 1 ∷ []

module _ (m : Model) (q v : ℕ) where
  -- q has accepted (p, v, j) for some round j from 1 to i
  unfoldable pub vouched : ℕ → ℕ → Bool
  vouched zero p = false
  vouched (suc i) p = m.accepted q (triple p v (suc i)) || vouched i p

  -- from how many different origins
  abbrev pub origins : ℕ → ℕ
  origins i = count m.group.n (vouched i)

  -- after round i, q extracts v if it holds the sender's own triple and enough origins; a marked controller holds nothing
  abbrev pub extracts : (s i : ℕ) → Bool
  extracts s i = m.accepted q (triple s v 1) && nat_le i (origins i)

-- what q offers for a round: each place below len that passes the test, in their order
unfoldable pub place_offers : (test : ℕ → ℕ → Bool) (round q len : ℕ) → List Triple
place_offers test round q zero = []
place_offers test round q (suc v) = place_offers test round q v ++ cond (test q v) (triple q v round ∷ []) []

-- what the controllers below n offer, in their order
unfoldable pub group_offers : (test : ℕ → ℕ → Bool) (round len n : ℕ) → List Triple
group_offers test round len zero = []
group_offers test round len (suc q) = group_offers test round len q ++ place_offers test round q len

module _ (m : Model) (s : ℕ) (before : ℕ → ℕ → Bool) where
  -- the extracted sets after the turn of phase k: only the second phase of a round adds to them
  abbrev pub sets_after : (k q v : ℕ) → Bool
  sets_after k q v = before q v || (k % 2 == 0 && extracts m q v s (k / 2))

  -- q extracts v after round i and had not before
  abbrev pub is_new_to : (i q v : ℕ) → Bool
  is_new_to i q v = extracts m q v s i && not (before q v)

  -- the offers after the turn of phase k: all that is new, for the next round; there are none after the last round
  abbrev pub offers_after : (k : ℕ) → List Triple
  offers_after k = cond (k % 2 == 0 && nat_le (k / 2) m.group.t) (group_offers (is_new_to (k / 2)) (k / 2 + 1) m.len m.group.n) []

-- the highest number below n that passes the test
unfoldable pub highest : ℕ → (ℕ → Bool) → ℕ
highest zero p = 0
highest (suc n) p = cond (p n) n (highest n p)

-- the verdict of a set of places below len: the one place in it, or sender faulty if there is none or several
abbrev pub verdict_of : ℕ → (ℕ → Bool) → Verdict
verdict_of len set = cond ((count len set) == 1) (Place (highest len set)) SenderFaulty

-- the same in other words: the place is in the set and no other is; or every place in the set has another beside it
abbrev pub Tells : ℕ → (ℕ → Bool) → Verdict → Type 0
Tells len set (Place p) = (p < len) × (set p ≡ true) × ((k : ℕ) → k < len → set k ≡ true → k ≡ p)
Tells len set SenderFaulty = (p : ℕ) → p < len → set p ≡ true → (k : ℕ) × (k < len) × (set k ≡ true) × (k ≢ p)
