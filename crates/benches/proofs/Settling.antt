-- The accounts of the two carriages leave nothing open. Assumes nothing.
use Rattle.std.proofs.Common.{sym, refl, ap, ◌∙◌}
use Rattle.agreement.specs.Repeats.{Settled}
use Rattle.echo.specs.Echoes.{echo_account, state_of as echo_state}
use Rattle.echo.specs.State.{model_of as echo_model, start_state as echo_start, offer_state as echo_offer, inject_state as echo_inject, turn_state as echo_turn}
use Rattle.seal.specs.Seals.{seal_account, known_seal, state_of as seal_state}
use Rattle.seal.specs.State.{model_of as seal_model, start_state as seal_start, offer_state as seal_offer, inject_state as seal_inject, turn_state as seal_turn}

pub echo_settled : Settled echo_account echo_state
echo_settled = record {
  model = λ c d e. ap echo_model e;
  letter = λ c d f e. refl;
  seal = λ c d f e. refl;
  starts = λ c d b z e s t. s ∙ ap echo_start e ∙ sym t;
  offers = λ c d b z x e s t. s.1 ∙ ap (λ k. echo_offer k x) e ∙ sym t.1;
  injects = λ c d b z f e s t. s.1 ∙ ap (λ k. echo_inject k f) e ∙ sym t.1;
  turns = λ c d b z e s t. s.1 ∙ ap echo_turn e ∙ sym t.1;
}

pub seal_settled : Settled seal_account seal_state
seal_settled = record {
  model = λ c d e. ap seal_model e;
  letter = λ c d f e. refl;
  seal = λ c d f e. ap (λ s. known_seal s f) e;
  starts = λ c d b z e s t. s ∙ ap seal_start e ∙ sym t;
  offers = λ c d b z x e s t. s.1 ∙ ap (λ k. seal_offer k x) e ∙ sym t.1;
  injects = λ c d b z f e s t. s.1 ∙ ap (λ k. seal_inject k f) e ∙ sym t.1;
  turns = λ c d b z e s t. s.1 ∙ ap seal_turn e ∙ sym t.1;
}
