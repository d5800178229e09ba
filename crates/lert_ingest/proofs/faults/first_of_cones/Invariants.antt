use Rattle.std.proofs.Common.{◌≡◌, ◌<◌, ℕ, Some, slice_get}
use Rattle.lert_cone.specs.Stands.{Standing}
use Rattle.lert_ingest.specs.{Back.IsSeen, Faults.{earliest, fault_at}}
use Rattle.lert_ingest.proofs.faults.first_of_cones.Given as goal

abbrev pub invariant-loop-cone : goal.invariant-loop-cone
invariant-loop-cone g l = record {
  first_is : l.first ≡ earliest (fault_at l.cones) l.cone;
  seen : (place : ℕ) (standing : Standing g.row.B.Denot) → place < l.cone → slice_get l.cones place ≡ Some standing → IsSeen g.B.Bay.files g.B.Faulty.faults g.B.Faulty.mark
      standing;
}
