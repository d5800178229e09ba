-- Four sources of generated keys, and bays in which nothing stands yet.
use Rattle.std.specs.Prelude.{ℕ, List, [], ◌∷◌, map, Option}
use Rattle.lert_bay.specs.Memory.{Disk, calm, untouched}
use Rattle.lert_gen.specs.Generated.{dealt, trace_of}
use Rattle.lert_ingest.specs.Traces.{AreBytesOf}
use Rattle.lert_spec.specs.{declared.item.Item.Item, Items.units}

-- the keys of four traces
abbrev pub all_dealt : ℕ → ℕ → List (List ℕ)
all_dealt seed events = dealt seed events 0 ∷ dealt seed events 1 ∷ dealt seed events 2 ∷ dealt seed events 3 ∷ []

-- the same as items, which weigh 1 each
abbrev pub all_dealt_items : ℕ → ℕ → List (List Item)
all_dealt_items seed events = map units (all_dealt seed events)

-- sources tell the bytes of four traces
abbrev pub AreDealt : {S : Type 0} → (S → Option (List ℕ)) → ℕ → ℕ → List S → Type 0
AreDealt remaining seed events sources = AreBytesOf remaining sources (map trace_of (all_dealt seed events))

-- a bay in memory as it is made
abbrev pub new_bay : Disk
new_bay = record { files = untouched ∷ untouched ∷ untouched ∷ []; past = []; plan = calm; faults = 0; mark = 0; handed = 0 ∷ 0 ∷ 0 ∷ [] }
