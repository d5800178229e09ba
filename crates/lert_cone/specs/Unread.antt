-- The items of a journal that a reopening doesn't read: those before the record at which it begins.
use Rattle.std.specs.Prelude.{ℕ, zero, suc, ◌+◌, min, max, List, [], ◌++◌, map, take, replicate, Option, Some, None}
use Rattle.lert_bay.specs.{Files.Files, Settled.part, declared.bay.TheConstants.JOURNAL}
use Rattle.lert_gatelog.specs.Gated.{counted_at}
use Rattle.lert_journal.specs.Payload.{packet_in}
use Rattle.lert_spec.specs.{declared.item.Item.Item, declared.numbers.Numbers.Numbers, Items.{most_weight, unit}, Mix.tail_of}
use Rattle.lert_spec.proofs.TailLaws.{key_with}

-- the bytes of the journal where files are told, none else
abbrev pub journal_of : Option Files → List ℕ
journal_of None = []
journal_of (Some seen) = seen JOURNAL

-- An item of this cone, with the tail of a key, and of a weight that the files' version takes: of such an item of the cone it is
-- that item
abbrev pub own_item : ℕ → Numbers → ℕ → Item → Item
own_item version s cone item = record {
  key = key_with s cone (tail_of s item.key);
  weight = min (most_weight version) (max 1 item.weight);
}

-- the items in up to so many records that stand one behind the other from a gate on
abbrev pub items_from : ℕ → ℕ → List ℕ → ℕ → List Item
items_from version zero bytes gate = []
items_from version (suc n) bytes gate =
    (packet_in version (part bytes (gate + 5) (gate + 5 + counted_at bytes gate))).items ++ items_from version n bytes (gate + 5 + counted_at bytes gate)

-- The first n items of a journal, as a cone takes them that doesn't read them. They are as many items of the cone whatever the
-- journal holds, also where the files aren't told; where it is the journal of packets they are these packets' items.
unfoldable pub unread : ℕ → Numbers → ℕ → ℕ → Option Files → List Item
unread version s cone n told = map (own_item version s cone) (take n (items_from version n (journal_of told) 32 ++ replicate n (unit 0)))
