-- What a cone took: packets in their order.
use Rattle.std.specs.Prelude.{ℕ, ◌+◌, ◌*◌, List, length}
use Rattle.lert_journal.specs.Payload.{item_len}
use Rattle.lert_base.specs.Packet.{Packet, events_of}

-- The greatest version: that of the files that a cone makes, and that of the packets that are handed in, whose items weigh 1 to
-- 255, also where the cone's files are of an older version.
abbrev pub most_version : ℕ
most_version = 2

-- where the closed gate behind these packets stands: a packet takes 13 bytes, and besides what its items take in the version
abbrev pub end_of : ℕ → List Packet → ℕ
end_of version history = 32 + 13 * length history + item_len version * length (events_of history)
