-- The close of a played shot is not refused, and what it then shows. Assumes nothing.
use Rattle.std.proofs.Common.{◌≡◌, ℕ, ◌+◌, cond, eqb, ◌∷◌, length, Some, None, Ok, Option, sym, refl, ap, ◌∙◌}
use Rattle.std.specs.Option.{option_map}
use Rattle.std.proofs.lemmas.Bool.{eq-eqb}
use Rattle.agreement.specs.Refusals.{first, length_cause, begin_fault, close_fault, verdict_answer, tally_answer}
use Rattle.agreement.specs.Runs.{more}
use Rattle.agreement.specs.Steps.{taken, close, after_close}
use Rattle.agreement.specs.Views.{View, Rules, model_of, fits}
use Rattle.agreement.specs.declared.bench_faults.BenchFault.TheVariants.{Moment as WrongMoment, List as ListCause}
use Rattle.agreement.specs.declared.moments.Act.TheVariants.{Close}
use Rattle.agreement.proofs.Beginning.{first_none}
use Rattle.carriage.specs.declared.meaning.Carriage.{Ghosts as Account}
use Rattle.faults.specs.declared.causes.ListFault.TheVariants.{Length}
use Rattle.laboratory.specs.Passing.{Played}
use Rattle.laboratory.specs.Retiring.{PassedOnce}
use Rattle.laboratory.specs.declared.readings.Passage.{Passage}

module _ {C K : Type 0} (account : Account C) (rules : Rules K) {s : ℕ} {x : Option K} {v w : View C} (played : Played account rules s x v w) where
  -- the list was as long as the carriage says where the shot was begun
  pub close_fine : begin_fault account rules v s x ≡ None → close_fault account rules w (w.closed + 1) ≡ None
  close_fine fine =
      let long = (first_none _ _ (first_none _ _ fine).1).0 in
      ap (λ o. first (cond (fits o w.closed (Close (w.closed + 1))) None (Some WrongMoment)) (option_map ListCause (length_cause (model_of account w) rules.values))) played.ended
      ∙ ap (λ b. first (cond b None (Some WrongMoment)) (option_map ListCause (length_cause (model_of account w) rules.values))) (eq-eqb (w.closed + 1) (w.closed + 1) refl)
      ∙ ap (λ n. option_map ListCause (cond (eqb (length rules.values) n) None (Some Length))) played.len ∙ long

  module _ (fine : begin_fault account rules v s x ≡ None) (n : ℕ) (is : n ≡ w.closed + 1) (z : View C) (does : z ≡ after_close account rules w) where
    pub passed_once : (q b : ℕ) (p : Passage) → Ok p.verdict ≡ verdict_answer account w q → Ok p.tally ≡ tally_answer account z q b → PassedOnce account rules q b p v z
    passed_once q b p shown tally = record {
      events = taken (close n) ∷ played.events;
      run = more played.run (ap (close_fault account rules w) is ∙ close_fine fine, does);
      before = w;
      once = ap (λ vs. w ∷ vs) played.unclosed;
      shown = sym shown;
      tally = sym tally;
      idle = ap (λ t. t.running) does;
      group = ap (λ t. (model_of account t).group) does ∙ played.group;
      len = ap (λ t. (model_of account t).len) does ∙ played.len;
      closed = ap (λ t. t.closed) does ∙ ap (λ k. k + 1) played.closed;
    }
