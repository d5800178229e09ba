-- What a region is seen as, and the packets that it stands for.
use Rattle.std.specs.Prelude.{◌≡◌, ℕ, ◌+◌, ◌<◌, ◌≤◌, ◌^◌, All, List, fold, length, map}
use Rattle.lert_base.specs.{Packet.{Packet, events_of}, declared.cone_fault.ConeFault.ConeFault, declared.cone_fault.ConeFault.TheVariants.{CapacityFull}}
use Rattle.lert_cqf.specs.{Contents.Contents, Standing.Stands, declared.cursor.CqfCursor.CqfCursor}
use Rattle.lert_journal.specs.Payload.{IsJournaled}
use Rattle.lert_spec.specs.{declared.item.Item.Item, declared.numbers.Numbers.Numbers, declared.piece.Piece.Piece, declared.report.Report.Report}
use Rattle.lert_spec.specs.{Bins.tally, Counts.weighed, Edges.{key_limit, tail_bits}, Limits.IsValid, Mix.{cone_of, tail_of}, Table.{plus, IsTable}}
use Rattle.lert_spec.proofs.TailLaws.{key_with}

-- its settings, its number, and its table
pub record Census : Type 0 where
  pub settings : Numbers
  pub region : ℕ
  pub table : Contents

-- the key of a piece, and in place of a position its count
abbrev pub line_with : Numbers → ℕ → Piece → Report
line_with s region piece = record { key = key_with s region piece.tail; at = piece.count }

-- the lines of a region: a key and its sum for each piece of its table
abbrev pub lines_of : Census → List Report
lines_of census = map (line_with census.settings census.region) census.table.pieces

-- a cursor of a region: the region, and the lines that are still to come
pub record Walk : Type 0 where
  pub region : Census
  pub left : List Report

-- where a cursor stands in a region: in its table, whose tails ascend
pub record IsWalking (region : Census) (at : CqfCursor) : Type 0 where
  pub stands : Stands region.table at
  pub ascends : IsTable (2 ^ (region.table.quotient_bits + region.table.width)) region.table.pieces

-- the least number of bits from 6 on that give each of so many items a quotient of its own
pub record AreFewest (bits items : ℕ) : Type 0 where
  pub least : 6 ≤ bits
  pub each : items ≤ 2 ^ bits
  pub fewest : (fewer : ℕ) → 6 ≤ fewer → items ≤ 2 ^ fewer → bits ≤ fewer

-- what is so of every region: there is room for as many items as the settings say, and the table counts whole tails
pub record IsRegion (s : Numbers) (region : ℕ) (table : Contents) : Type 0 where
  pub named : region < 2 ^ s.cone_bits
  pub valid : IsValid s
  pub roomy : table.room ≡ s.room
  pub quotients : AreFewest table.quotient_bits s.room
  pub tails : table.quotient_bits + table.width ≡ tail_bits s

-- a table with items added, each weight to the tail of its key
abbrev pub with_items : Numbers → Contents → List Item → Contents
with_items s table items = record table {
  pieces = fold (λ pieces item. plus pieces (tail_of s item.key) item.weight) table.pieces items;
  adds = table.adds + length items;
}

-- a packet that a region takes: one that the journal of its cone may hold, whose items weigh from 1 to 255
abbrev pub MayTake : Numbers → ℕ → Packet → Type 0
MayTake s region packet = IsJournaled 2 s region packet

-- an item that a region counts: it has a key of the region, and weighs something
pub record IsCounted (s : Numbers) (region : ℕ) (item : Item) : Type 0 where
  pub fits : item.key < key_limit s
  pub own : cone_of s item.key ≡ region
  pub weighs : 1 ≤ item.weight

-- A region stands for packets, each with an item at least, of items that it counts: its table is the counts of their tails,
-- and there were as many adds as there are items, no more than the room.
pub record StandsFor (census : Census) (history : List Packet) : Type 0 where
  pub some : All (λ packet. 0 < length packet.items) history
  pub counted : All (IsCounted census.settings census.region) (events_of history)
  pub counts_are : census.table.pieces ≡ tally weighed census.settings (events_of history)
  pub items_are : census.table.adds ≡ length (events_of history)
  pub within : census.table.adds ≤ census.settings.room
  pub named : census.region < 2 ^ census.settings.cone_bits
  pub valid : IsValid census.settings

-- a packet is refused behind others, since there is no room for its items: the refusal names how many items those have, and
-- how many it has
pub record IsRefused (s : Numbers) (history : List Packet) (packet : Packet) (fault : ConeFault) : Type 0 where
  pub fault_is : fault ≡ CapacityFull (length (events_of history)) (length packet.items)
  pub over : s.room < length (events_of history) + length packet.items
