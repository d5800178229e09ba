-- How many bytes a read of a packet hands out, beside the read of its record.
use Rattle.std.proofs.Common.{ℕ, ◌≤◌, Err, arith}
use Rattle.lert_base.specs.Packet.{Packet}
use Rattle.lert_gatelog.specs.{Cost.read_cost, declared.fault.LogFault.LogFault, declared.fault.LogFault.TheVariants.{Failed, Malformed}}
use Rattle.lert_journal.specs.Cost.{entry_cost}

-- a refused record costs the same
pub fault_cost : (version most : ℕ) (packet : Packet) (fault : LogFault) → read_cost most (Err fault) ≤ entry_cost version most packet (Err fault)
fault_cost version most packet Failed = omega arith
fault_cost version most packet (Malformed at) = omega arith
