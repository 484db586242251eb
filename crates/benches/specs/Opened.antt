-- What holds of a bench over the echo or the seal carriage, besides the law of agreement. Assumes nothing.
use Rattle.std.specs.Prelude.{◌≡◌, ℕ, List, IfOk, Result}
use Rattle.std.specs.Result.{result_err}
use Rattle.lists.specs.Lists.{length_fault}
use Rattle.faults.specs.declared.causes.ListFault.{ListFault}
use Rattle.carriage.specs.declared.meaning.Carriage.{Ghosts as Account}
use Rattle.agreement.specs.Runs.{Run}
use Rattle.agreement.specs.Steps.{Event}
use Rattle.agreement.specs.Views.{View, Rules}
use Rattle.groups.specs.declared.members.Group.{Group}
use Rattle.echo.specs.Echoes.{echo_account}
use Rattle.echo.specs.Story.{Says as EchoSays}
use Rattle.echo.specs.declared.carrier.Echo.{Echo}
use Rattle.seal.specs.Seals.{seal_account}
use Rattle.seal.specs.Story.{Says as SealSays}
use Rattle.seal.specs.declared.sealing.Seal.{Seal}
use Rattle.benches.specs.Carried.{carried}

-- a carriage is made for every length but those that no list has, and has the length that it is made for
abbrev pub MadeFor : {C : Type 0} → Account C → ℕ → Result C ListFault → Type 0
MadeFor account len r = (result_err r ≡ length_fault len) × IfOk r (λ c. (account.model c).len ≡ len)

-- after every run of the bench, witnesses and accepted triples are those of the protocol: what the carriage's rules say of
-- the starts, offers, frames and turns that the run made
abbrev pub EchoProtocol : {K : Type 0} → Rules K → Group → ℕ → View Echo → Type 0
EchoProtocol {K} rules g len u = (es : List (Event K)) (w : View Echo) (run : Run echo_account rules u es w) → EchoSays g len (carried echo_account rules run) w.carriage

abbrev pub SealProtocol : {K : Type 0} → Rules K → Group → ℕ → View Seal → Type 0
SealProtocol {K} rules g len u = (es : List (Event K)) (w : View Seal) (run : Run seal_account rules u es w) → SealSays g len (carried seal_account rules run) w.carriage
