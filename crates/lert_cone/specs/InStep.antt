-- How a cone's files and its memory go together between two calls of its bay.
use Rattle.lert_spec.specs.declared.item.Item.{Item}
use Rattle.std.specs.Prelude.{◌≡◌, ℕ, ◌+◌, ◌*◌, ◌^◌, ◌≤◌, List, [], ◌++◌, length}
use Rattle.lert_base.specs.Packet.{Packet, events_of}
use Rattle.lert_bay.specs.{Files.Files, declared.bay.TheConstants.{JOURNAL, LOG, FRAMES}}
use Rattle.lert_gatelog.specs.Kept.{InEach, IsWhollySettled}
use Rattle.lert_levels.specs.{declared.rows.bin_at.BinAt.BinAt, rows.Rows.HoldsBins}
use Rattle.lert_reports.specs.{Log.{HasLog, last_n0, listed_in, most_record}, LogText.LogRecord}
use Rattle.lert_spec.specs.{declared.numbers.Numbers.Numbers, declared.report.Report.Report, Edges.edge}
use Rattle.lert_cone.specs.{Framed.last_flush, Listing.{Listing, reports_of}, Logged.IsLogOf, JournalPlaces.{ArePlacesIn, NamesRecord, last_place}, Record.LogPlace, Sound.{IsJournal, but_last}}
use Rattle.lert_cone.specs.Tally.{Tallied}

-- In every image the journal has these packets, the log has the records of the items so far, and the frames that the rows
-- name hold their bins. The journal and the log are settled from their first byte to their last. The records name as
-- many reports as the log's place says, and memory has the reports of the items so far. The last record says where the journal's
-- record begins that holds the first item of level 0 at its place, and memory has the same of the newest bins, of each that
-- begins at level 0's edge or behind it at least.
pub record IsInStep (leaves : Files → Type 0) (seen : Files) (history : List Packet) (listing : Listing) (rows : List (List BinAt)) (reports : List Report) (log : LogPlace) : Type 0 where
  pub logged : List LogRecord
  pub log_of : IsLogOf listing.settings listing.cone listing.events rows listing.closed logged
  pub named_is : log.named ≡ length (listed_in logged)
  pub journal : InEach leaves JOURNAL (IsJournal listing.version listing.settings listing.cone history)
  pub log_there : InEach leaves LOG (λ bytes. HasLog listing.settings listing.cone bytes logged log.gate)
  pub frames : InEach leaves FRAMES (HoldsBins listing.settings listing.version listing.events rows)
  pub journal_settled : IsWhollySettled leaves seen JOURNAL
  pub log_settled : IsWhollySettled leaves seen LOG
  pub reports_are : reports ≡ reports_of listing
  pub begins : NamesRecord listing.version listing.settings history (last_n0 logged) (last_place logged)
  pub placed : ArePlacesIn listing.version history log.places
  pub reach : log.places.from ≤ edge listing.settings 0 (length listing.events) + 1

-- these items and then these begin those of the packets, and no flush of an earlier packet than the last one is left
pub record IsPartway (s : Numbers) (history : List Packet) (events more : List Item) : Type 0 where
  pub rest : List Item
  pub is : events_of history ≡ events ++ (more ++ rest)
  pub late : last_flush s (length (events_of (but_last history))) ≤ last_flush s (length events)

-- what is so of a cone's log before its next record: the records name none but the cone's reports, an item takes a bounded
-- number of bytes of the log, and the buffer has room for a record. The places are of these settings, after all items
pub record IsLogging (tally : Tallied) (log : LogPlace) (room : ℕ) : Type 0 where
  pub most : log.most ≡ most_record tally.listing.settings
  pub named : log.named ≤ length tally.due.reports
  pub near : log.gate ≤ 2 ^ 62 + 134217728 * length tally.listing.events
  pub roomy : log.most + 5 ≤ room
  pub same : log.places.settings ≡ tally.listing.settings
  pub passed : log.places.passed ≡ length tally.listing.events

-- the files as they are made: in every image the journal has no packet and the log no record, and both are settled
pub record AreNew (version : ℕ) (s : Numbers) (cone : ℕ) (leaves : Files → Type 0) (seen : Files) : Type 0 where
  pub journal : InEach leaves JOURNAL (IsJournal version s cone [])
  pub log_there : InEach leaves LOG (λ bytes. HasLog s cone bytes [] 8)
  pub journal_settled : IsWhollySettled leaves seen JOURNAL
  pub log_settled : IsWhollySettled leaves seen LOG
