-- A block that three shots charge is out of the pool at the third, and not before. Assumes nothing.
use Rattle.std.specs.Prelude.{◌≡◌, ℕ, ◌+◌, min, true, false, List, [], ◌∷◌, Ok}
use Rattle.agreement.specs.Law.{times}
use Rattle.agreement.specs.Refusals.{verdict_answer, tally_answer}
use Rattle.agreement.specs.Runs.{Run, closings}
use Rattle.agreement.specs.Steps.{Event, charges}
use Rattle.agreement.specs.Views.{View, Rules, model_of}
use Rattle.carriage.specs.declared.meaning.Carriage.{Ghosts as Account}
use Rattle.laboratory.specs.declared.readings.Passage.{Passage}
use Rattle.laboratory.specs.declared.readings.Passages.{Passages}

-- one shot was played and closed; q showed the verdict just before the close, and has the tally after it
pub record PassedOnce {C K : Type 0} (account : Account C) (rules : Rules K) (q b : ℕ) (p : Passage) (v w : View C) : Type 0 where
  pub events : List (Event K)
  pub run : Run account rules v events w
  pub before : View C
  pub once : closings run ≡ before ∷ []
  pub shown : verdict_answer account before q ≡ Ok p.verdict
  pub tally : tally_answer account w q b ≡ Ok p.tally
  pub idle : w.running ≡ false
  pub group : (model_of account w).group ≡ (model_of account v).group
  pub len : (model_of account w).len ≡ (model_of account v).len
  pub closed : w.closed ≡ v.closed + 1

pub record Retires {K : Type 0} (rules : Rules K) (b : ℕ) (p : Passages) : Type 0 where
  -- after each close the tally is the number of shots so far whose verdict charged the block, up to 3
  pub one : p.first.tally ≡ min 3 (times rules b (p.first.verdict ∷ []))
  pub two : p.second.tally ≡ min 3 (times rules b (p.second.verdict ∷ p.first.verdict ∷ []))
  pub three : p.third.tally ≡ min 3 (times rules b (p.third.verdict ∷ p.second.verdict ∷ p.first.verdict ∷ []))
  -- so a block that all three charge is in the pool after the second, and out of it after the third
  pub still : charges rules p.first.verdict b ≡ true → charges rules p.second.verdict b ≡ true → p.second.tally ≡ 2
  pub out : charges rules p.first.verdict b ≡ true → charges rules p.second.verdict b ≡ true → charges rules p.third.verdict b ≡ true → p.third.tally ≡ 3
