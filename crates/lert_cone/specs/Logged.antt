-- What the log of a cone holds after some of its events.
use Rattle.lert_spec.specs.Counts.{weighed}
use Rattle.lert_spec.specs.declared.item.Item.{Item}
use Rattle.std.specs.Prelude.{ℕ, ◌≡◌, Bool, List, length, map, drop, if◌then◌else◌}
use Rattle.lert_levels.specs.declared.rows.bin_at.BinAt.{BinAt}
use Rattle.lert_reports.specs.{declared.log.LogKind.LogKind, Log.{AreRecords, is_closed, last_n0, last_directory, listed_in}, LogText.LogRecord}
use Rattle.lert_spec.specs.{declared.numbers.Numbers.Numbers, declared.report.Report.Report, Look.{look_of, closing_of}}
use Rattle.lert_cone.specs.{declared.journal_places.JournalPlace.JournalPlace, Framed.{last_flush, flushed}}

-- the frames of each level's bins, oldest first
abbrev pub frames_of : List (List BinAt) → List (List ℕ)
frames_of rows = map (λ row. map (λ bin. bin.frame) row) rows

-- the record that stands next behind these, and names this place: with those of the reports that they don't list
abbrev pub next_record : LogKind → ℕ → JournalPlace → List (List BinAt) → List LogRecord → List Report → LogRecord
next_record kind n0 place rows records reports = record {
  kind = kind;
  n0 = n0;
  offset = place.gate;
  first = place.first;
  directory = frames_of rows;
  reports = drop (length (listed_in records)) reports;
}

-- these are the records of a cone's log after its events: they obey the rules, the last one is that of the last flush, or of
-- the end of a closed cone, it names the frames of the rows, and together they list the reports up to there
pub record IsLogOf (s : Numbers) (cone : ℕ) (events : List Item) (rows : List (List BinAt)) (closed : Bool) (records : List LogRecord) : Type 0 where
  pub rules : AreRecords s cone records
  pub closed_is : is_closed records ≡ closed
  pub n0_is : last_n0 records ≡ if closed then length events else last_flush s (length events)
  pub directory_is : last_directory s records ≡ frames_of rows
  pub reports_are : listed_in records ≡ if closed then closing_of weighed s events else look_of weighed s (flushed s events)
