use Rattle.std.proofs.Common.{◌≡◌}
use Rattle.lert_worker.specs.crew.Crewed.{end_at}
use Rattle.lert_ingest.specs.Faults.{earliest, end_fault}
use Rattle.lert_ingest.proofs.faults.first_of_ends.Given as goal

abbrev pub invariant-loop-by : goal.invariant-loop-by
invariant-loop-by l = record { first_is : l.first ≡ earliest (λ by. end_fault (end_at l.ends by)) l.by }
