use Rattle.std.proofs.Common.{◌≡◌, ◌+◌, ◌-◌, ◌*◌, ◌^◌, ◌<◌, ◌≤◌, ℕ, Some}
use Rattle.lert_bay.specs.{declared.bay.TheConstants.JOURNAL, Files.Files, Kept.ReadsBay}
use Rattle.lert_journal.specs.Payload.{most_payload}
use Rattle.lert_bay.specs.Kept.{Bays, seen_by}
use Rattle.lert_spec.specs.Edges.{capacity}
use Rattle.lert_recover.specs.Replayed.{JournalEnds, JournalLeavesAt}
use Rattle.lert_recover.proofs.journal_rest.find_left.Given as goal

abbrev pub bays : (g : goal.Over) → Bays g.row.B.Denot
bays g = seen_by g.B.Faulty g.B.Bay

-- what is so from here on is so from the first gate on
abbrev pub invariant-records : goal.invariant-records
invariant-records g l = record {
  file : l.log.file ≡ JOURNAL;
  most : l.log.most ≡ most_payload l.last.version l.settings;
  within : l.now.events ≤ capacity l.settings;
  light : l.now.weight < 2 ^ 62;
  near : l.log.gate ≤ 2 ^ 46 + 65536 * l.now.events;
  onward : (seen : Files) → g.B.Bay.files l.fn.bay ≡ Some seen → (at : ℕ) → JournalLeavesAt l.last.version l.settings l.cone l.last.n0 l.last.closed (seen JOURNAL) l.now.events l.now.weight
      l.log.gate at →
      JournalLeavesAt l.last.version l.settings l.cone l.last.n0 l.last.closed (seen JOURNAL) l.fn.before.events l.fn.before.weight l.gate at;
  ends : (seen : Files) → g.B.Bay.files l.fn.bay ≡ Some seen → JournalEnds l.last.version l.settings l.cone l.last.n0 l.last.closed (seen JOURNAL) l.now.events l.now.weight l.log.gate →
      JournalEnds l.last.version l.settings l.cone l.last.n0 l.last.closed (seen JOURNAL) l.fn.before.events l.fn.before.weight l.gate;
  only_reads : ReadsBay (bays g) l.fn.bay l.bay ⊥;
}

-- each packet has a key
abbrev pub decreases-records : goal.decreases-records
decreases-records g l = capacity l.settings - l.now.events
