use Rattle.std.proofs.Common.{◌≡◌, drop}
use Rattle.lert_place.specs.Shelf.{bay_of}
use Rattle.lert_place.proofs.mem_place.MemPlace.bay_copy.Given as goal

-- no bay so far is the one
abbrev pub invariant-loop-bay : goal.invariant-loop-bay
invariant-loop-bay l =
    bay_of l.self-inside.bays.items l.dir l.cone ≡ bay_of (drop l.bay-index l.self-inside.bays.items) l.dir l.cone
