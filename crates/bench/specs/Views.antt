-- The view of a bench: its carriage, and what its tables say. Assumes nothing.
use Rattle.std.specs.Prelude.{ℕ, cond, Some, None, Option}
use Rattle.agreement.specs.Views.{View}
use Rattle.bench.specs.Shots.{is_running, sender_in}
use Rattle.bench.specs.Tables.{in_set, tally_of}
use Rattle.bench.specs.declared.state.Bench.{Bench}

abbrev pub view_of : {C : Type 0} → Bench C → View C
view_of b = record {
  carriage = b.carriage;
  running = is_running b.progress.shot;
  sender = sender_in b.progress.shot;
  extracted = in_set b.extracted;
  tally = tally_of b.registers;
  closed = b.progress.closed;
}

-- the sender of the running shot
abbrev pub sender_of : {C : Type 0} → View C → Option ℕ
sender_of v = cond v.running (Some v.sender) None
