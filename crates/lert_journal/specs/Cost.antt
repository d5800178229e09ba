-- How many bytes of a journal a read of a packet hands out at most.
use Rattle.std.specs.Prelude.{ℕ, ◌+◌, Bool, true, false, Result, Ok, Err, length}
use Rattle.lert_base.specs.Packet.{Packet}
use Rattle.lert_gatelog.specs.{declared.fault.LogFault.LogFault, declared.fault.LogFault.TheVariants.{Failed, Malformed}}
use Rattle.lert_journal.specs.Payload.{payload_of}

-- the gate, the length and the payload of the record that gave this packet; gate and length where none came; and as many as the
-- greatest record has, where it leaves the format
abbrev pub entry_cost : ℕ → ℕ → Packet → Result Bool LogFault → ℕ
entry_cost version most packet (Ok true) = 5 + length (payload_of version packet)
entry_cost version most packet (Ok false) = 5
entry_cost version most packet (Err Failed) = 5
entry_cost version most packet (Err (Malformed at)) = 5 + most
