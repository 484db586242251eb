use Rattle.std.proofs.Common.{◌≡◌, refl}
use Rattle.bench.proofs.Filled.{filled}
use Rattle.bench.proofs.tallies.Register.empty.Goals as goal

pub returns : goal.returns
returns c b = filled 64 b 0 0 (λ x. x ≡ 0) refl refl
