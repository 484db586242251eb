-- What the report of a campaign text says: a refusal of its header, or what comes of its acts on a bench over a fresh carriage
-- of the make that the header names. Assumes nothing.
use Rattle.std.specs.Prelude.{◌≡◌, ℕ, Bool, List, [], ◌∷◌, length, Some, None, Ok, Err, vec_items, Option, Result}
use Rattle.std.specs.Borrow.{Bor}
use Rattle.std.specs.Option.{option_map}
use Rattle.values.specs.Notices.{same_notice, notice_charge}
use Rattle.values.specs.Pulses.{same_pulses, pulse_charge}
use Rattle.faults.specs.declared.causes.ValueFault.{ValueFault}
use Rattle.groups.specs.Groups.{Lowest}
use Rattle.carriage.specs.declared.meaning.Carriage.{Ghosts as Account}
use Rattle.echo.specs.Echoes.{echo_account, state_of as echo_state}
use Rattle.echo.specs.State.{fresh_state as fresh_echo}
use Rattle.echo.specs.declared.carrier.Echo.{Echo as EchoCarriage}
use Rattle.seal.specs.Seals.{seal_account, state_of as seal_state}
use Rattle.seal.specs.State.{fresh_state as fresh_seal}
use Rattle.seal.specs.declared.sealing.Seal.{Seal as SealCarriage}
use Rattle.agreement.specs.Law.{opened}
use Rattle.agreement.specs.Views.{View, Rules, rules_of, model_of}
use Rattle.lines.specs.declared.happenings.Happening.TheVariants.{Refused}
use Rattle.lines.specs.declared.happenings.Report.{Report}
use Rattle.report.specs.Courses.{ActsRun}
use Rattle.report.specs.Pool.{out_at}
use Rattle.report.specs.Truth.{Truthful}
use Rattle.report.specs.Texts.{notice_reads, pulse_reads, Notices, Pulses, values_taken, line_of, text_layer, text_number, head_of, head_taken, start, TextFault, Echo, Seal, Header, Reader}

-- a refused header is told, and nothing else
pub record Stopped (e : TextFault) (p : Report) : Type 0 where
  pub told : vec_items p.events ≡ Refused (line_of e) (text_layer e) (text_number e) ∷ []
  pub out : p.out ≡ None
  pub taken : p.taken ≡ 0
  pub refused : p.refused ≡ 0

-- the acts from a reader on were run on a bench opened over c
pub record Ran {C K : Type 0} (account : Account C) (rules : Rules K) (reads : List ℕ → Option (Result K ValueFault)) (r : Reader) (c : C) (p : Report) : Type 0 where
  pub last : View C
  pub acts : ActsRun account rules reads r (opened c) p last
  -- the blocks that are out are those of the lowest correct controller
  pub lowest : ℕ
  pub is_lowest : Lowest (model_of account last).group lowest
  pub out : option_map vec_items p.out ≡ Some (out_at account last lowest)
  pub truthful : Truthful account rules (opened c) acts.course (out_at account last lowest)

-- from the value lines on, in a campaign of this kind
pub data Listed {K : Type 0} (reads : List ℕ → Option (Result K ValueFault)) (same : K → K → Bool) (charge : K → Option ℕ) (h : Header) (r : Reader) (p : Report) : Type 0 where
  unlisted : {e : TextFault} {after : Reader} → values_taken reads same h.count [] r ≡ (Err e, after) → Stopped e p → Listed reads same charge h r p
  echoed : {values : List K} {after : Reader} {c : EchoCarriage} → values_taken reads same h.count [] r ≡ (Ok values, after) → h.carriage ≡ Echo
      → echo_state c ≡ fresh_echo h.group (length values) → Ran echo_account (rules_of same charge values) reads after c p → Listed reads same charge h r p
  sealed : {values : List K} {after : Reader} {c : SealCarriage} → values_taken reads same h.count [] r ≡ (Ok values, after) → h.carriage ≡ Seal
      → seal_state c ≡ fresh_seal h.group (length values) → Ran seal_account (rules_of same charge values) reads after c p → Listed reads same charge h r p

-- a whole text
pub data Reported (text : Bor (List ℕ)) (p : Report) : Type 0 where
  unheaded : {e : TextFault} {after : Reader} → head_taken (start text) ≡ (Err e, after) → Stopped e p → Reported text p
  notices : {h : Header} {after : Reader} → head_taken (start text) ≡ (Ok (head_of h), after) → h.kind ≡ Notices → Listed notice_reads same_notice notice_charge h after p → Reported text p
  pulses : {h : Header} {after : Reader} → head_taken (start text) ≡ (Ok (head_of h), after) → h.kind ≡ Pulses → Listed pulse_reads same_pulses pulse_charge h after p → Reported text p
