use Rattle.std.proofs.Common.{◌≡◌, ℕ, true, false, Some, sym, refl, subst, rules}
use Rattle.std.specs.Option.{IsSome}
use Rattle.std.proofs.lemmas.Iterator.{first_from_Range}
use borrow.Author.Tests.{tests}
use Rattle.groups.specs.Groups.{correct, Lowest}
use Rattle.groups.proofs.Marked.{lowest_found}
use Rattle.groups.proofs.members.Group.lowest_correct.Goals as goal
use Rattle.groups.proofs.members.Group.lowest_correct.Goals.{After-find}

found : (c : After-find) → (q : ℕ) × (c.find.result ≡ Some q) × Lowest c.args.self.now q
found c =
    let g = c.args.self.now in
    lowest_found g c.find.result (first_from_Range _ _ _ c.find.result (λ q. correct g q ≡ true) (λ q. correct g q ≡ false) c.find.ensures.ran (λ x q k. search (rules, tests)) (λ x q k. search (rules, tests)))

pub unwrap-requires : goal.unwrap-requires
unwrap-requires c = subst IsSome (sym (found c).1) refl

pub returns : goal.returns
returns c =
    let w = found (goal.at.returns c).After-find in
    let e : w.0 ≡ c.unwrap.result = cc (w.1, c.unwrap.ensures) in
    subst (Lowest c.args.self.now) e w.2
