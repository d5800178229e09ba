-- What the counts and reports of a cone are seen as, and what they hold.
use Rattle.std.specs.Prelude.{ℕ, ◌≡◌, ◌⊎◌, ◌+◌, ◌-◌, ◌*◌, ◌^◌, ◌<◌, ◌≤◌, ◌==◌, List, [], ◌∷◌, ◌++◌, length, slice_range, Option, Some, None, if◌then◌else◌}
use Rattle.lert_bay.specs.{Files.Files, declared.bay.TheConstants.{LOG, FRAMES}}
use Rattle.lert_spec.specs.{declared.numbers.Numbers.Numbers, declared.piece.Piece.Piece, declared.report.Report.Report, Bins.{Bin, tally}, Edges.{span, edge, depth, lookback, capacity, weight_room}}
use Rattle.lert_spec.specs.{Limits.IsValid, Table.count_of, Counts.{weighed, weight_of}, Items.AreOfVersion, declared.item.Item.Item}
use Rattle.lert_spec.proofs.{LookLaws.HaveKeys, TailLaws.IsPartOf}
use Rattle.lert_levels.specs.{declared.rows.bin_at.BinAt.BinAt, rows.Loading.OneBreaks, rows.Ranges.young_bins, rows.Rows.{IsAt, AreRows, HoldsBins}, rows.Young.Young}
use Rattle.lert_levels.specs.{declared.rows.fault.FlushFault.FlushFault, declared.rows.fault.FlushFault.TheVariants.{Failed as FlushFailed, Malformed}}
use Rattle.lert_cone.specs.{declared.tally.TakeFault.TakeFault, declared.tally.TakeFault.TheVariants.{Failed, Unsound}, Due.{Dues, unbegun}, Listing.{Listing, reports_of}}
use Rattle.lert_levels.specs.OnDisk.{OnDisk}
use Rattle.lert_spec.specs.Items.{IsVersion}

-- a cone's items, level 0, the rows of the older levels, and its reports
pub record Tallied : Type 0 where
  pub listing : Listing
  pub young : Young
  pub rows : List (List BinAt)
  pub due : Dues

-- the reports, where no merge has them
abbrev pub due_in : Option Dues → Dues
due_in None = unbegun
due_in (Some due) = due

-- what is so between any two calls
pub record IsTally (tally : Tallied) (levels : OnDisk) (due : Option Dues) (len flush : ℕ) : Type 0 where
  pub valid : IsValid tally.listing.settings
  pub named : tally.listing.cone < 2 ^ tally.listing.settings.cone_bits
  pub young_settings : tally.young.settings ≡ tally.listing.settings
  pub levels_settings : levels.settings ≡ tally.listing.settings
  pub version : levels.version ≡ tally.listing.version
  pub known : IsVersion tally.listing.version
  pub there : due ≡ Some tally.due
  pub len_is : len ≡ length tally.listing.events
  pub flush_is : flush ≡ edge tally.listing.settings 0 (len - 1) + tally.listing.settings.bins * span tally.listing.settings 0

-- these are the bins of level 0 above a position
pub record AreYoung (s : Numbers) (events : List Item) (from : ℕ) (bins : List Bin) : Type 0 where
  pub is : bins ≡ young_bins s events from

-- where no call broke off in the middle: the settings are valid, the items are the cone's own and no more than it takes,
-- level 0 has the bins above its edge, and the rows those of the older levels
pub record IsCounted (tally : Tallied) : Type 0 where
  pub valid : IsValid tally.listing.settings
  pub fits : length tally.listing.events ≤ capacity tally.listing.settings
  pub keys : HaveKeys tally.listing.settings weighed tally.listing.events
  pub own : IsPartOf weighed tally.listing.settings tally.listing.cone tally.listing.events
  pub known : IsVersion tally.listing.version
  pub light : AreOfVersion tally.listing.version tally.listing.events
  pub from : tally.young.from ≡ edge tally.listing.settings 0 (length tally.listing.events)
  pub to : tally.young.to ≡ length tally.listing.events
  pub bins : AreYoung tally.listing.settings tally.listing.events (edge tally.listing.settings 0 (length tally.listing.events)) tally.young.bins
  pub rows : IsAt tally.listing.settings (length tally.listing.events) tally.rows
  pub are : AreRows tally.listing.settings tally.rows
  pub due_settings : tally.due.settings ≡ tally.listing.settings
  pub due_cone : tally.due.cone ≡ tally.listing.cone

-- level 0 on the way up to n0 events: above its edge there it has the bins of the items so far, and before the first item
-- above that edge it is as it was made
pub record IsRising (s : Numbers) (n0 : ℕ) (events : List Item) (young : Young) : Type 0 where
  pub made : length events ≤ edge s 0 n0 → young ≡ record { settings = s; from = 0; to = 0; bins = [] }
  pub from : edge s 0 n0 < length events → young.from ≡ edge s 0 n0
  pub to : edge s 0 n0 < length events → young.to ≡ length events
  pub bins : edge s 0 n0 < length events → AreYoung s events (edge s 0 n0) young.bins

-- A cone whose items come again, but for those that it doesn't read, while its rows are those after n0 events already: up to n0
-- level 0 alone follows the items, and from n0 on all is counted. The settings are valid, and the items are the cone's own.
pub record IsRecounted (tally : Tallied) (n0 : ℕ) : Type 0 where
  pub valid : IsValid tally.listing.settings
  pub fits : length tally.listing.events ≤ capacity tally.listing.settings
  pub n0_fits : n0 ≤ capacity tally.listing.settings
  pub keys : HaveKeys tally.listing.settings weighed tally.listing.events
  pub own : IsPartOf weighed tally.listing.settings tally.listing.cone tally.listing.events
  pub known : IsVersion tally.listing.version
  pub light : AreOfVersion tally.listing.version tally.listing.events
  pub are : AreRows tally.listing.settings tally.rows
  pub due_settings : tally.due.settings ≡ tally.listing.settings
  pub due_cone : tally.due.cone ≡ tally.listing.cone
  pub rows : length tally.listing.events ≤ n0 → IsAt tally.listing.settings n0 tally.rows
  pub young : length tally.listing.events < n0 → IsRising tally.listing.settings n0 tally.listing.events tally.young
  pub behind : n0 ≤ length tally.listing.events → IsCounted tally

-- with these files, where they are told: the named frames hold the older levels, and the reports are those of the definition
pub record IsHeld (tally : Tallied) (seen : Files) : Type 0 where
  pub frames : HoldsBins tally.listing.settings tally.listing.version tally.listing.events tally.rows (seen FRAMES)
  pub reports : tally.due.reports ≡ reports_of tally.listing

-- with these items besides, those of the cone weigh no more than a cone takes
abbrev pub IsLightWith : Tallied → List Item → Type 0
IsLightWith tally items = weight_of weighed (tally.listing.events ++ items) ≤ weight_room tally.listing.settings

-- the totals that the last of m events brings, its tail being this one: where no edge moves that of its tail in level 0, and
-- at a flush those of all tails in the window that it looks back to
abbrev pub totals_at : Numbers → List Item → ℕ → ℕ → List Piece
totals_at s events m tail =
    if depth s m == 0 then record { tail = tail; count = count_of (tally weighed s (slice_range events (edge s 0 (m - 1)) m)) tail } ∷ []
    else tally weighed s (slice_range events (lookback s m) m)

-- why an item isn't taken, where a flush or a scan refused: a frame stands in the file of frames, whose number is 2
abbrev pub take_fault : FlushFault → TakeFault
take_fault FlushFailed = Failed
take_fault (Malformed at) = Unsound FRAMES at

-- what shows that files are sound for no list: a frame that the rows name leaves its format at this byte of the file of
-- frames, or the reports fill their room and one more is due, which the log would have to name
abbrev pub Shows : ℕ → Numbers → List (List BinAt) → List Report → List ℕ → ℕ → ℕ → Type 0
Shows version s rows reports frames file at =
    ((file ≡ FRAMES) × OneBreaks s version rows frames at) ⊎ ((file ≡ LOG) × (at ≡ 0) × (length reports ≡ s.room))
