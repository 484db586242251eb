-- The laws of a carriage can hold in one way only, so that they can be read out of a truncated invariant. Assumes nothing.
use mathlib.Core.Bool.{Bool-set}
use native.Mathlib.Bridge.{le_prop}
use Rattle.carriage.specs.Model.{Model, Lawful}

pub lawful_prop : (m : Model) → IsProp (Lawful m)
lawful_prop m a b = λ i. record {
  some = le_prop a.some b.some i;
  few = le_prop a.few b.few i;
  begun = le_prop a.begun b.begun i;
  ends = le_prop a.ends b.ends i;
  offers = λ x e. (Bool-set _ _ (a.offers x e).0 (b.offers x e).0 i, Bool-set _ _ (a.offers x e).1 (b.offers x e).1 i, le_prop (a.offers x e).2 (b.offers x e).2 i);
  accepts = λ q x e. (Bool-set _ _ (a.accepts q x e).0 (b.accepts q x e).0 i, Bool-set _ _ (a.accepts q x e).1 (b.accepts q x e).1 i);
  unforgeable = λ q x e c. Bool-set _ _ (a.unforgeable q x e c) (b.unforgeable q x e c) i;
  valid = λ q x e l c. Bool-set _ _ (a.valid q x e l c) (b.valid q x e l c) i;
}
