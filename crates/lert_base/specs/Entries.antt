-- What an entry is seen as.
use Rattle.lert_base.specs.{Packet.Packet, declared.entry.Entry.Entry}

-- the packet that an entry carries: two entries are compared by it, so without their rooms
abbrev pub packet_of : Entry → Packet
packet_of entry = record { by = entry.by; trace = entry.trace; items = entry.keys.items }
