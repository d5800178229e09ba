-- What a place in memory keeps of its traces and bays.
use Rattle.std.specs.Prelude.{ℕ, List}
use Rattle.lert_io.specs.Memory.{Feeding}
use Rattle.lert_bay.specs.Memory.{Disk}
use Rattle.lert_place.specs.{Shelf.{NamedTrace, NamedBay}, declared.ledger.Ledger.Ledger}

-- the traces and bays that were added, what was asked, handed out and came back, and the count of faults
pub record Shelf : Type 0 where
  pub traces : List NamedTrace
  pub bays : List NamedBay
  pub ledger : Ledger Feeding Disk
  pub faults : ℕ
