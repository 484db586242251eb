use Rattle.std.proofs.Common.{◌≡◌, ◌<◌, ◌≤◌, ◌||◌, [], refl, ⊎_elim, rules, arith}
use Rattle.std.proofs.lemmas.Bool.{cases_lt}
use Rattle.std.proofs.lemmas.List.{get_or_past}
use Rattle.bench.specs.Tables.{in_set}
use Rattle.bench.specs.declared.places.Extracted.{Extracted}
use Rattle.bench.specs.declared.places.PlaceSet.{PlaceSet}
use Rattle.bench.proofs.places.Extracted.add.Goals as goal

pub returns : goal.returns
returns c q v =
    let new : Extracted = record { rows = c.from_fn-self.result } in
    let none : PlaceSet = record { places = [] } in
    let inside : q < 16 → in_set new q v ≡ (in_set c.args.self.now q v || in_set c.args.other.now q v) = λ l. search rules in
    let outside : 16 ≤ q → in_set new q v ≡ (in_set c.args.self.now q v || in_set c.args.other.now q v) = λ l.
    rw (get_or_past c.from_fn-self.result q none (omega arith), get_or_past c.args.self.now.rows q none (omega arith), get_or_past c.args.other.now.rows q none (omega arith)) refl in
    ⊎_elim inside outside (cases_lt q 16)
