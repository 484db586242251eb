use Rattle.std.proofs.Common.{None, refl, ap, ◌∙◌, subst}
use Rattle.agreement.specs.Steps.{Call, fault_of, Does}
use Rattle.agreement.specs.Views.{rules_of}
use Rattle.bench.specs.Views.{view_of}
use Rattle.bench.proofs.Refusing.{handed}
use Rattle.report.specs.Courses.{Tells}
use Rattle.report.proofs.Framing.{injection_call}
use Rattle.report.proofs.acting.perform.Goals as goal

pub returns-in_err-inject-in-Inject : goal.returns-in_err-inject-in-Inject
returns-in_err-inject-in-Inject g c =
    let rules = rules_of g.K.Kind.same g.K.Kind.charge c.args.list.now in
    let call = injection_call c.args.act.now c.in-Inject.injection c.into.result c.in-Inject.is c.into.ensures in
    let met = c.in_err-inject-in-Inject.ensures in
    rw (handed c.from_residual-in_err-inject-in-Inject.result _ c.from_residual-in_err-inject-in-Inject.ensures.1)
    (record { refusal = met.refusal ∙ ap (fault_of g.C.Carriage rules (view_of c.args.bench.now)) call; does = met.does })

pub returns-in_ok-inject-in-Inject : goal.returns-in_ok-inject-in-Inject
returns-in_ok-inject-in-Inject g c =
    let rules = rules_of g.K.Kind.same g.K.Kind.charge c.args.list.now in
    let v = view_of c.args.bench.now in
    let w = view_of c.inject.new.self in
    let call = injection_call c.args.act.now c.in-Inject.injection c.into.result c.in-Inject.is c.into.ensures in
    let met = c.in_ok-inject-in-Inject.ensures in
    record {
      refusal = met.refusal ∙ ap (fault_of g.C.Carriage rules v) call;
      does = subst (λ (k : Call g.row.K.Denot). Does g.C.Carriage rules v k w × Tells g.C.Carriage v k None) call (met.does, refl);
    }
