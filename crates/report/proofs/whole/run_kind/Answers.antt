use Rattle.std.proofs.Common.{◌≡◌, List, [], length, None, Err, vec_items, sym, ap, ◌∙◌, subst, arith}
use Rattle.std.proofs.lemmas.Result.{IfOk-weaker, IfOk-at_ok}
use Rattle.lists.specs.Lists.{length_fault, list_fault}
use Rattle.agreement.specs.Refusals.{open_fault}
use Rattle.agreement.specs.Views.{rules_of}
use Rattle.bench.proofs.Chains.{taken}
use Rattle.echo.specs.Echoes.{echo_account, echo_model}
use Rattle.echo.specs.State.{fresh_state as fresh_echo}
use Rattle.seal.specs.Seals.{seal_account, seal_model}
use Rattle.seal.specs.State.{fresh_state as fresh_seal}
use Rattle.report.specs.Reports.{unlisted, echoed, sealed, Ran}
use Rattle.report.specs.Texts.{Faulted, values_taken, ReadError}
use Rattle.report.proofs.Listing.{values_fine, fine_length, opens}
use Rattle.report.proofs.whole.run_kind.Given as given
use Rattle.report.proofs.whole.run_kind.Goals as goal
use Rattle.report.proofs.whole.run_kind.Goals.{After-len-len, at-unwrap-carriage-requires, at-run_bench-requires, at-returns-in-Echo, at-unwrap-carriage-requires-in-Seal, at-run_bench-requires-in-Seal, at-returns}

-- the list was read, so it is a value list, and the carriage is made for its length
fine : (g : given.Over) (c : goal.After-len-len g) → list_fault g.K.Kind.same (vec_items c.in-Ok.list) ≡ None
fine g c = values_fine g.K.Written.reads g.K.Kind.same c.args.header.now.count [] c.args.reader c.values.new.self (vec_items c.in-Ok.list) c.in-Ok.ensures

len : (g : given.Over) (c : goal.After-len-len g) → c.len-len.result ≡ length (vec_items c.in-Ok.list)
len g c = c.len-len.ensures ∙ c.in-Ok.list.ok.0

lawful : (g : given.Over) (c : goal.After-len-len g) → length_fault c.len-len.result ≡ None
lawful g c = ap length_fault (len g c) ∙ (fine_length g.K.Kind.same (vec_items c.in-Ok.list) (fine g c)).0

pub returns-in-Err : goal.returns-in-Err
returns-in-Err g c =
    let read = c.in-Err.ensures in
    IfOk-weaker c.unread.result _ _ (λ p s. unlisted (subst (λ (e : ReadError). Faulted e (λ f. values_taken g.K.Written.reads g.K.Kind.same c.args.header.now.count [] c.args.reader ≡ (Err f, c.values.new.self))) s.1 read) s.2) c.unread.ensures

pub overflow_cast-len : goal.overflow_cast-len
overflow_cast-len g c = let few = (fine_length g.K.Kind.same (vec_items c.in-Ok.list) (fine g c)).1 in omega (arith, few, len g c)

pub unwrap-carriage-requires : goal.unwrap-carriage-requires
unwrap-carriage-requires g c = taken c.new.result _ c.new.ensures.refusal (lawful g (at-unwrap-carriage-requires g c).After-len-len)

pub run_bench-requires : goal.run_bench-requires
run_bench-requires g c =
    let here = (at-run_bench-requires g c).After-len-len in
    let made-for = ap (λ s. s.len) (IfOk-at_ok _ c.unwrap-carriage.ensures c.new.ensures.value) ∙ len g here in
    subst (λ (xs : List g.row.K.Denot). open_fault (echo_model c.unwrap-carriage.result) (rules_of g.K.Kind.same g.K.Kind.charge xs) ≡ None) (sym c.deref.ensures.value)
    (opens (echo_model c.unwrap-carriage.result) (rules_of g.K.Kind.same g.K.Kind.charge (vec_items c.in-Ok.list)) made-for (fine g here))

pub returns-in-Echo : goal.returns-in-Echo
returns-in-Echo g c =
    let here = (at-returns-in-Echo g c).After-len-len in
    let fresh = (IfOk-at_ok _ c.unwrap-carriage.ensures c.new.ensures.value) ∙ ap (fresh_echo c.args.header.now.group) (len g here) in
    IfOk-weaker c.run_bench.result _ _
    (λ p ran. echoed c.in-Ok.ensures c.in-Echo.is fresh
    (subst (λ (xs : List g.row.K.Denot). Ran echo_account (rules_of g.K.Kind.same g.K.Kind.charge xs) g.K.Written.reads c.values.new.self c.unwrap-carriage.result p) c.deref.ensures.value ran))
    c.run_bench.ensures

pub unwrap-carriage-requires-in-Seal : goal.unwrap-carriage-requires-in-Seal
unwrap-carriage-requires-in-Seal g c = taken c.new-in-Seal.result _ c.new-in-Seal.ensures.refusal (lawful g (at-unwrap-carriage-requires-in-Seal g c).After-len-len)

pub run_bench-requires-in-Seal : goal.run_bench-requires-in-Seal
run_bench-requires-in-Seal g c =
    let here = (at-run_bench-requires-in-Seal g c).After-len-len in
    let made-for = ap (λ s. s.len) (IfOk-at_ok _ c.unwrap-carriage-in-Seal.ensures c.new-in-Seal.ensures.value) ∙ len g here in
    subst (λ (xs : List g.row.K.Denot). open_fault (seal_model c.unwrap-carriage-in-Seal.result) (rules_of g.K.Kind.same g.K.Kind.charge xs) ≡ None) (sym c.deref-in-Seal.ensures.value)
    (opens (seal_model c.unwrap-carriage-in-Seal.result) (rules_of g.K.Kind.same g.K.Kind.charge (vec_items c.in-Ok.list)) made-for (fine g here))

pub returns : goal.returns
returns g c =
    let here = (at-returns g c).After-len-len in
    let fresh = (IfOk-at_ok _ c.unwrap-carriage-in-Seal.ensures c.new-in-Seal.ensures.value) ∙ ap (fresh_seal c.args.header.now.group) (len g here) in
    IfOk-weaker c.run_bench-in-Seal.result _ _
    (λ p ran. sealed c.in-Ok.ensures c.in-Seal.is fresh
    (subst (λ (xs : List g.row.K.Denot). Ran seal_account (rules_of g.K.Kind.same g.K.Kind.charge xs) g.K.Written.reads c.values.new.self c.unwrap-carriage-in-Seal.result p) c.deref-in-Seal.ensures.value ran))
    c.run_bench-in-Seal.ensures
