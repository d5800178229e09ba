use Rattle.lert_reports.proofs.StoreLaws.{has_place}
use Rattle.lert_reports.proofs.store.ReportStore.put.Goals as goal

pub add-requires-clause-has_room : goal.add-requires-clause-has_room
add-requires-clause-has_room g c = has_place _ _ _ _ _ _ _ _ _ c.self.invariant c.args.self.now c.self.view_is c.requires
