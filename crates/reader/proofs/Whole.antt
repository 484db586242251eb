-- What is read from a text stood in it as it would be written. Assumes nothing.
use Rattle.std.proofs.Common.{◌≡◌, ℕ, List, ◌∷◌, ◌++◌, IfOk, Some, Ok, Err, Option, Result, sym, ap, ◌∙◌}
use Rattle.faults.specs.declared.causes.ValueFault.{ValueFault}
use Rattle.acts.specs.Acts.{line_of_act, act_reads}
use Rattle.reader.specs.Reading.{left, taken}
use Rattle.acts.specs.declared.Act.{Act}
use Rattle.text_faults.specs.declared.texts.TextFault.{TextFault}
use Rattle.reader.specs.declared.Reader.{Reader}
use Rattle.reader.proofs.Standing.{taken_back}
use Rattle.acts.proofs.ActLines.{act_back}

module _ {K : Type 0} (shows : K → List ℕ) (reads : List ℕ → Option (Result K ValueFault)) (fits : K → Type 0)
    (back : (s : List ℕ) (v : K) → reads s ≡ Some (Ok v) → (s ≡ shows v) × fits v) where
  pub act_lined : (r after : Reader) (a : Result (Act K) TextFault) → (a, after) ≡ taken (act_reads reads) r → IfOk a (λ a. left r ≡ line_of_act shows a ++ 10 ∷ left after)
  act_lined r after (Ok a) e =
      let w = taken_back (act_reads reads) r after a (sym e) in
      w.1 ∙ ap (λ s. s ++ 10 ∷ left after) (act_back shows reads fits back w.0 a w.2).0
  act_lined r after (Err e) h = tt
