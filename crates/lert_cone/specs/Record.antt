-- The records that a cone's log gets.
use Rattle.std.specs.Prelude.{ℕ, ◌+◌, ◌*◌, List, length, drop}
use Rattle.lert_spec.specs.declared.report.Report.{Report}
use Rattle.lert_reports.specs.{declared.log.LogKind.LogKind, LogText.log_payload}
use Rattle.lert_cone.specs.JournalPlaces.{Places, oldest_place}

-- a log at its closed gate: the greatest length of a payload, how many reports its records name, and where the records of the
-- journal begin that the next one may name
pub record LogPlace : Type 0 where
  pub gate : ℕ
  pub most : ℕ
  pub named : ℕ
  pub places : Places

-- the payload of a record that names the reports behind those that were named before. It says that the journal is to be read from
-- the record on that holds the first item of level 0
unfoldable pub payload_at : LogPlace → LogKind → ℕ → List ℕ → List Report → List ℕ
payload_at log kind n0 directory reports = log_payload kind n0 (oldest_place log.places).gate (oldest_place log.places).first directory (drop log.named reports)

-- how many bytes it has
abbrev pub payload_len : LogPlace → List ℕ → List Report → ℕ
payload_len log directory reports = 29 + length directory + 16 * length (drop log.named reports)
