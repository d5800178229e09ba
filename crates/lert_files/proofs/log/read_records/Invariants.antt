use Rattle.std.proofs.Common.{◌≡◌, ◌+◌, ◌-◌, ◌*◌, ◌≤◌, Some, List}
use Rattle.lert_bay.specs.{declared.bay.TheConstants.LOG, Files.Files, Settled.part, Kept.OnlyReads}
use Rattle.lert_bay.specs.Kept.{Bays, seen_by}
use Rattle.lert_spec.specs.Edges.{capacity}
use Rattle.lert_reports.specs.{Log.{log_header, most_record, HasLogUpTo}, LogText.LogRecord}
use Rattle.lert_files.specs.Read.{steps, HasRead}
use Rattle.lert_files.proofs.log.read_records.Given as goal

abbrev pub bays : (g : goal.Over) → Bays g.row.B.Denot
bays g = seen_by g.B.Faulty g.B.Bay

-- what was read so far is that of some records, which stand up to this gate where the file is told
abbrev pub invariant-records : goal.invariant-records
invariant-records g l = record {
  records : List LogRecord;
  has : HasRead l.settings l.cone l.progress l.store.reports l.directory records;
  up : (seen : Files) → g.B.Bay.files l.fn.bay ≡ Some seen → part (seen LOG) 0 8 ≡ log_header → HasLogUpTo l.settings l.cone (seen LOG) records l.log.gate;
  file : l.log.file ≡ LOG;
  most : l.log.most ≡ most_record l.settings;
  reach : l.log.gate ≤ 8 + steps l.progress * (5 + most_record l.settings);
  same : l.store.settings ≡ l.fn.store.settings;
  only_reads : OnlyReads (bays g) l.fn.bay l.bay ⊥;
}

-- a log has at most a record for each position at which a flush may come, and one more
abbrev pub decreases-records : goal.decreases-records
decreases-records g l = capacity l.settings + 2 - steps l.progress
