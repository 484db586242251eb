use Rattle.std.proofs.Common.{ap, refl, subst₂}
use Rattle.std.proofs.lemmas.Result.{IfOk-weaker}
use Rattle.agreement.specs.Views.{rules_of}
use Rattle.agreement.proofs.Repeating.{repeating}
use Rattle.bench.specs.Views.{view_of}
use Rattle.seal.specs.Seals.{seal_account, state_of}
use Rattle.seal.specs.Story.{Says}
use Rattle.benches.specs.Carried.{carried}
use Rattle.benches.proofs.Carrying.{told_through}
use Rattle.benches.proofs.Settling.{seal_settled}
use Rattle.benches.proofs.open_seal.Goals as goal

pub returns : goal.returns
returns g c =
    let rules = rules_of g.K.Kind.same g.K.Kind.charge c.args.list.now in
    let over = c.open_over.ensures in
    record {
      refusal = over.refusal;
      law = over.law;
      protocol =
          IfOk-weaker c.open_over.result _ _
          (λ b made es w run.
          subst₂ (λ k n. Says k n (carried seal_account rules run) w.carriage) (ap (λ s. s.group) made.1.1.0) (ap (λ s. s.len) made.1.1.0)
          (told_through seal_account rules (Says b.carriage.stage.group b.carriage.stage.len) (view_of b) b.carriage refl made.1.1.1 es w run))
          over.made;
      repeats = IfOk-weaker c.open_over.result _ _ (λ b made. repeating seal_account rules state_of seal_settled) over.made;
    }
