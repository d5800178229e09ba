-- What a packet's read leaves of a journal and its bay, and how many bytes of the journal a replay reads.
use Rattle.std.specs.Prelude.{◌≡◌, ℕ, ◌+◌, ◌-◌, Option, Some, None, Result, Ok, Err}
use Rattle.lert_gatelog.specs.Gated.{Log}
use Rattle.lert_bay.specs.Kept.{Bays, ReadsBay}
use Rattle.lert_spec.specs.declared.numbers.Numbers.{Numbers}
use Rattle.lert_cone.specs.{declared.refusal.ReplayFault.ReplayFault}
use Rattle.lert_journal.specs.Payload.{most_payload}

-- the journal stays the same file with the same greatest payload, the entry keeps its room, and the bay is only read
pub record OnlyReadsJournal {B : Type 0} (bays : Bays B) (bay bay_after : B) (journal journal_after : Log) (room room_after : ℕ) (Failed : Type 0) : Type 0 where
  pub file : journal_after.file ≡ journal.file
  pub most : journal_after.most ≡ journal.most
  pub roomy : room_after ≡ room
  pub reads : ReadsBay bays bay bay_after Failed

-- the record at a gate, up to the next one; gate and length where it is closed; and as many as the greatest record has, where the
-- replay is refused
abbrev pub replay_cost : ℕ → Numbers → ℕ → Result (Option ℕ) ReplayFault → ℕ
replay_cost version s gate (Ok (Some next)) = next - gate
replay_cost version s gate (Ok None) = 5
replay_cost version s gate (Err fault) = 5 + most_payload version s
