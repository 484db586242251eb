-- Three closed shots after one another, and what the law says of the tallies between them. Assumes nothing.
use Rattle.std.proofs.Common.{◌≡◌, ℕ, ◌+◌, min, Bool, true, cond, List, [], ◌∷◌, ◌++◌, sym, refl, ap, ◌∙◌, subst}
use Rattle.agreement.specs.Law.{AllAgree, times}
use Rattle.agreement.specs.Runs.{Run, closings}
use Rattle.agreement.specs.Steps.{Event, charges}
use Rattle.agreement.specs.Views.{View, Rules}
use Rattle.agreement.specs.declared.moments.Verdict.{Verdict}
use Rattle.carriage.specs.declared.meaning.Carriage.{Ghosts as Account}
use Rattle.laboratory.specs.Retiring.{PassedOnce, Retires}
use Rattle.laboratory.specs.declared.readings.Passage.{Passage}
use Rattle.laboratory.proofs.Agreeing.{Seen, nothing, then, tally_by}
use Rattle.laboratory.proofs.Joining.{joined, closings_joined}

module _ {C K : Type 0} (account : Account C) (rules : Rules K) (q b : ℕ) where
  -- a run from u to w, with the views just before its closes and what q showed there
  pub record Sofar (u w : View C) (ds : List Verdict) : Type 0 where
    pub events : List (Event K)
    pub run : Run account rules u events w
    pub before : List (View C)
    pub are : closings run ≡ before
    pub seen : Seen account q before ds

  pub first_pass : {u v : View C} {p : Passage} → PassedOnce account rules q b p u v → Sofar u v (p.verdict ∷ [])
  first_pass c = record { events = c.events; run = c.run; before = c.before ∷ []; are = c.once; seen = then c.shown nothing }

  pub next_pass : {u v w : View C} {p : Passage} {ds : List Verdict} → Sofar u v ds → PassedOnce account rules q b p v w → Sofar u w (p.verdict ∷ ds)
  next_pass s c =
      record {
        events = c.events ++ s.events;
        run = joined s.run c.run;
        before = c.before ∷ s.before;
        are = closings_joined s.run c.run ∙ (λ i. c.once i ++ s.are i);
        seen = then c.shown s.seen;
      }

  pub tally_there : {u w : View C} {v : View C} {p : Passage} {ds : List Verdict} → AllAgree account rules u → Sofar u w ds → PassedOnce account rules q b p v w → p.tally ≡ min 3 (times rules b ds)
  tally_there {p = p} {ds = ds} law s a =
      let told = law s.events _ s.run in
      tally_by account rules told q b p.tally ds (subst (λ vs. Seen account q vs ds) (sym s.are) s.seen) a.tally

-- one more verdict that charges the block
counts_one : {K : Type 0} (rules : Rules K) (b : ℕ) (d : Verdict) (ds : List Verdict) → charges rules d b ≡ true → times rules b (d ∷ ds) ≡ 1 + times rules b ds
unfolding times
counts_one rules b d ds e = ap (λ (t : Bool). cond t 1 0 + times rules b ds) e

counts_none : {K : Type 0} (rules : Rules K) (b : ℕ) → times rules b [] ≡ 0
unfolding times
counts_none rules b = refl

pub retires : {C K : Type 0} (account : Account C) (rules : Rules K) (q b : ℕ) {u v w z : View C} (p r s : Passage) → AllAgree account rules u → PassedOnce account rules q b p u v → PassedOnce account rules q b r v w → PassedOnce account rules q b s w z
    → Retires rules b (record { first = p; second = r; third = s })
retires account rules q b p r s law x y z =
    let one-run = first_pass account rules q b x in
    let two_run = next_pass account rules q b one-run y in
    let one = tally_there account rules q b law one-run x in
    let two = tally_there account rules q b law two_run y in
    let three = tally_there account rules q b law (next_pass account rules q b two_run z) z in
    let none = counts_none rules b in
    record {
      one = one;
      two = two;
      three = three;
      still = λ c d. two ∙ ap (min 3) (counts_one rules b r.verdict _ d ∙ ap (λ n. 1 + n) (counts_one rules b p.verdict [] c ∙ ap (λ n. 1 + n) none));
      out = λ c d e. three ∙ ap (min 3) (counts_one rules b s.verdict _ e ∙ ap (λ n. 1 + n) (counts_one rules b r.verdict _ d ∙ ap (λ n. 1 + n) (counts_one rules b p.verdict [] c ∙ ap (λ n. 1 + n) none)));
    }
