-- The v lines of a text, and all its acts. Assumes nothing.
use Rattle.std.specs.Prelude.{ℕ, zero, suc, Bool, cond, List, [], ◌∷◌, ◌++◌, length, Ok, Err, codes, Option, Result, ◌==◌}
use Rattle.lists.specs.Lists.{list_fault}
use Rattle.faults.specs.declared.causes.ValueFault.{ValueFault}
use Rattle.acts.specs.Acts.{act_reads}
use Rattle.cuts.specs.Cuts.{bind, keyed, there}
use Rattle.acts.specs.declared.Act.{Act}
use Rattle.reader.specs.Heads.{then}
use Rattle.reader.specs.Reading.{fault_at, left, taken}
use Rattle.text_faults.specs.declared.texts.TextFault.{TextFault}
use Rattle.text_faults.specs.declared.causes.TextCause.TheVariants.{List as OfList}
use Rattle.reader.specs.declared.Reader.{Reader}

module _ {K : Type 0} (reads : List ℕ → Option (Result K ValueFault)) where
  abbrev pub value_reads : List ℕ → Option (Result K ValueFault)
  value_reads s = bind (keyed (codes "v") s) reads

  module _ (same : K → K → Bool) where
    -- a list that is none refuses its last line
    abbrev pub listed : List K → Reader → K → Reader → Result (List K) TextFault × Reader
    listed vs r v after = there (list_fault same (vs ++ v ∷ [])) (λ e. (Err (fault_at r (OfList e)), r)) (Ok (vs ++ v ∷ []), after)

    abbrev pub last_taken : List K → Reader → Result (List K) TextFault × Reader
    last_taken vs r = then (taken value_reads r) (listed vs r)

    -- that many values more, of which there is one at least
    abbrev pub values_taken : ℕ → List K → Reader → Result (List K) TextFault × Reader
    values_taken zero vs r = last_taken vs r
    values_taken (suc zero) vs r = last_taken vs r
    values_taken (suc (suc n)) vs r = then (taken value_reads r) (λ v after. values_taken (suc n) (vs ++ v ∷ []) after)

  -- acts up to the end of the text; every line takes a byte at least, so that as many turns as there are bytes are enough
  abbrev pub acts_taken : ℕ → List (Act K) → Reader → Result (List (Act K)) TextFault × Reader
  acts_taken zero acts r = (Ok acts, r)
  acts_taken (suc n) acts r = cond (length (left r) == 0) (Ok acts, r) (then (taken (act_reads reads) r) (λ a after. acts_taken n (acts ++ a ∷ []) after))
