use Rattle.std.proofs.Common.{◌-◌}
use Rattle.lert_cone.proofs.JournalPlaceLaws.{IsPassing}
use Rattle.lert_cone.proofs.journal_places.JournalPlaces.pass.Given as goal

abbrev pub invariant-bins : goal.invariant-bins
invariant-bins l = IsPassing l.last l.place l.initial.self l.self

abbrev pub decreases-bins : goal.decreases-bins
decreases-bins l = l.last - l.self.passed
