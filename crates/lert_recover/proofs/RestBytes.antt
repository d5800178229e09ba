-- Packets and the bytes of their records, and how many of a journal are still to be read.
use Rattle.std.proofs.{Common.{◌≡◌, ℕ, ◌+◌, ◌*◌, ◌<◌, ◌≤◌, List, ◌++◌, All, length, ap, ◌∙◌, arith, length-append}, lemmas.Grind.flat_map-append}
use Rattle.lert_base.specs.Packet.{Packet, events_of}
use Rattle.lert_cone.specs.{History.end_of, Replay.IsPast, Short.few}
use Rattle.lert_cone.proofs.ItemLaws.{items_add, items_most}
use Rattle.lert_journal.specs.Payload.{item_len}
use Rattle.lert_spec.specs.declared.item.Item.{Item}

-- how many bytes the records of these packets take in a journal of a version
abbrev pub bytes_of : ℕ → List Packet → ℕ
bytes_of version packets = 13 * length packets + item_len version * length (events_of packets)

pub events_split : (done rest : List Packet) → length (events_of (done ++ rest)) ≡ length (events_of done) + length (events_of rest)
events_split done rest =
    ap (length {A = Item}) (flat_map-append (λ (packet : Packet). packet.items) done rest) ∙ length-append (events_of done) (events_of rest)

-- so far behind the first packets the journal ends
pub ends_ahead : (version : ℕ) (done rest : List Packet) → end_of version (done ++ rest) ≡ end_of version done + bytes_of version rest
ends_ahead version done rest =
    let items = ap (λ n. item_len version * n) (events_split done rest) ∙ items_add version (length (events_of done)) (length (events_of rest)) in
    omega (arith, length-append done rest, items)

-- what a replay has still to read is the records of the packets behind those that it took
pub past_ahead : {version : ℕ} (history done : List Packet) (events : List Item) (gate : ℕ) (past : IsPast version history done events gate) →
    end_of version history ≡ gate + bytes_of version past.rest
past_ahead {version = version} history done events gate past = omega (arith, ap (end_of version) past.is, ends_ahead version done past.rest, past.gate_is)

-- a packet has an item at least, so an item takes 22 bytes at most
pub bytes_few : (version : ℕ) (packets : List Packet) → All (λ packet. 0 < length packet.items) packets → bytes_of version packets ≤ 22 * length (events_of packets)
bytes_few version packets some = omega (arith, few packets some, items_most version (length (events_of packets)))
