-- The memory of a cone before it has a number.
use Rattle.std.specs.Prelude.{◌≡◌, ℕ, ◌+◌, ◌*◌, ◌≤◌, ◌^◌, max, List, [], replicate, drop, All}
use Rattle.lert_base.specs.Keys.{Keys}
use Rattle.lert_levels.specs.{OnDisk.OnDisk, rows.Rows.{IsAt, AreRows}, rows.Young.Young}
use Rattle.lert_reports.specs.{Log.most_record, Stored.Stored, declared.log_point.LogPoint.LogPoint}
use Rattle.lert_spec.specs.{declared.numbers.Numbers.Numbers, Edges.capacity, Limits.IsValid, Mix.cone_of}
use Rattle.lert_cone.specs.{History.{most_version}, JournalPlaces.MayName}
use Rattle.lert_journal.specs.Payload.{most_payload}
use Rattle.lert_levels.specs.rows.Checked.{IsWeightOf}
use Rattle.lert_spec.specs.{Counts.{weighed, weight_of}, Edges.edge, declared.item.Item.Item}
use Rattle.lert_spec.specs.Items.{IsVersion}

-- the bytes of the greatest text that is appended, a packet's or a log record's: its length, its payload and the next gate
abbrev pub room_of : Numbers → ℕ
room_of s = max (most_payload most_version s) (most_record s) + 5

-- levels and a store that are empty, a list for as many keys as a packet of a journal has, and a buffer for the greatest text
pub record IsRoom (s : Numbers) (young : Young) (levels : OnDisk) (stored : Stored) (keys : Keys) (room : ℕ) : Type 0 where
  pub valid : IsValid s
  pub young_is : young ≡ record { settings = s; from = 0; to = 0; bins = [] }
  pub levels_are : levels ≡ record { settings = s; version = most_version; rows = replicate s.levels [] }
  pub stored_is : stored ≡ record { settings = s; reports = [] }
  pub keys_are : keys ≡ record { items = []; room = 4 * s.packet }
  pub roomy : room ≡ room_of s

-- the same, but that the levels are those of a cone after n0 events, and the store has reports of it up to there
pub record IsRestored (version : ℕ) (s : Numbers) (cone n0 : ℕ) (young : Young) (levels : OnDisk) (stored : Stored) (keys : Keys) (room : ℕ) : Type 0 where
  pub valid : IsValid s
  pub young_is : young ≡ record { settings = s; from = 0; to = 0; bins = [] }
  pub levels_of : levels.settings ≡ s
  pub version_is : levels.version ≡ version
  pub at : IsAt s n0 levels.rows
  pub are : AreRows s levels.rows
  pub stored_of : stored.settings ≡ s
  pub own : All (λ report. cone_of s report.key ≡ cone) stored.reports
  pub placed : All (λ report. (1 ≤ report.at) × (report.at ≤ n0)) stored.reports
  pub keys_are : keys ≡ record { items = []; room = 4 * s.packet }
  pub roomy : room ≡ room_of s

-- what a log may say from which a cone goes on: a place that a cone can have, a record of the journal that keeps the rules, and what
-- items of the version may weigh in the named frames
pub record IsPointOf (s : Numbers) (last : LogPoint) : Type 0 where
  pub within : last.n0 ≤ capacity s
  pub names : MayName s last.n0 (record { gate = last.offset; first = last.first })
  pub reach : last.log_end ≤ 2 ^ 62
  pub known : IsVersion last.version
  pub weighs : IsWeightOf last.version (edge s 0 last.n0) last.weight

-- what items weigh, where the named frames hold those up to the edge of level 0, by what these weigh
abbrev pub weight_from : Numbers → LogPoint → List Item → ℕ
weight_from s last items = last.weight + weight_of weighed (drop (edge s 0 last.n0) items)
