use Rattle.std.proofs.Common.{◌≡◌, ◌+◌, ◌-◌, [], ◌∷◌, ◌++◌, vec_items, sym, refl, ◌∙◌, arith}
use Rattle.std.proofs.lemmas.Slice.{pushed}
use Rattle.reader.specs.Lists.{values_taken}
use Rattle.reader.proofs.Chains.{exit_by}
use Rattle.reader.proofs.Taking.{values_more, values_stop, values_last, moved}
use Rattle.reader.proofs.Reader.values.Goals as goal

pub loop-i-preserved : goal.loop-i-preserved
loop-i-preserved g c =
    let reads = g.K.Written.reads in
    let same = g.K.Kind.same in
    let p : c.args.count + 1 - c.loop-i._i - 1 ≡ c.args.count + 1 - (c.loop-i._i + 1) = omega arith in
    let items : vec_items c.push.new.self ≡ vec_items c.loop-i.values ++ c.in_ok-v.v ∷ [] = pushed (c.in_ok-v.v ∷ []) refl c.in_ok-push.was c.push.ensures.items in
    c.loop-i.invariant
    ∙ values_more reads same (c.args.count + 1 - c.loop-i._i) (vec_items c.loop-i.values) c.loop-i.self c.take.new.self c.in_ok-v.v (omega arith) c.in_ok-v.ensures
    ∙ (λ i. values_taken reads same (p i) (sym items i) c.take.new.self)

pub returns-in_err-v : goal.returns-in_err-v
returns-in_err-v g c =
    exit_by c.from_residual.result _ _ _ c.from_residual.ensures.1
    (c.loop-i.invariant ∙ values_stop g.K.Written.reads g.K.Kind.same (c.args.count + 1 - c.loop-i._i) (vec_items c.loop-i.values) c.loop-i.self c.take.new.self _ (omega arith) c.in_err-v.ensures)

pub returns : goal.returns
returns g c = moved c.last_value.result _ _ (c.loop-i.invariant ∙ values_last g.K.Written.reads g.K.Kind.same (c.args.count + 1 - c.loop-i._i) (vec_items c.loop-i.values) c.loop-i.self (omega arith)) c.last_value.ensures
