-- What an item, and the end, make of a cone's counts and of its bay.
use Rattle.std.specs.Prelude.{◌≡◌, ◌≢◌, ℕ, ◌+◌, ◌-◌, ◌≤◌, true, List, [], ◌∷◌, ◌++◌, length, slice_range, None, Result, Err, OnOk, OnErr, IsErrOf}
use Rattle.lert_bay.specs.{Kept.{Bays, KeepsBay, OnlyReads}, Files.{Files, IfTold}, declared.bay.TheConstants.FRAMES}
use Rattle.lert_gatelog.specs.Kept.{InEach}
use Rattle.lert_levels.specs.{declared.rows.fault.FlushFault.FlushFault, declared.rows.fault.FlushFault.TheVariants.{Failed as FlushFailed, Malformed}, Flushed.InNamed, rows.Checked.rows_left}
use Rattle.lert_levels.specs.{rows.Landing.KeepsRest, rows.Rows.{IsAt, AreRows, HoldsBins, moved}, rows.Loading.OneBreaks, OnDisk.OnDisk, rows.Young.Young}
use Rattle.lert_spec.specs.{declared.piece.Piece.Piece, Bins.tally, Edges.{edge, lookback, capacity}}
use Rattle.lert_cone.specs.{declared.tally.TakeFault.TakeFault, declared.tally.TakeFault.TheVariants.{Failed, Unsound}, Due.{Dues, TookFrom}, Framed.HoldsSome}
use Rattle.lert_spec.specs.{Counts.weighed, Items.AreOfVersion, declared.item.Item.Item}
use Rattle.lert_cone.specs.Tally.{Tallied, AreYoung, IsCounted, IsHeld, IsLightWith, Shows, totals_at}

-- the levels are flushed at position m, with the reports as the taker of the totals
pub record Flushes {B : Type 0} (bays : Bays B) (start : Dues) (m : ℕ) (bay bay_after : B) (zero : Young) (levels levels_after : OnDisk) (due : Dues) (result : Result
    (Unit {0}) FlushFault) : Type 0 where
  pub flushed : OnOk result (levels_after ≡ record levels { rows = moved levels.settings m levels.rows })
  pub refused : OnErr result (levels_after ≡ levels)
  pub holds : (events : List Item) → length events ≡ m → AreOfVersion levels.version events → AreYoung levels.settings events zero.from zero.bins →
      IfTold (bays.files bay) (λ seen. HoldsBins levels.settings levels.version events levels.rows (seen FRAMES) →
      OnOk result (IfTold (bays.files bay_after) (λ after. HoldsBins levels_after.settings levels.version events levels_after.rows (after FRAMES))))
  pub totals : (events : List Item) → length events ≡ m → AreOfVersion levels.version events → AreYoung levels.settings events zero.from zero.bins →
      IfTold (bays.files bay) (λ seen. HoldsBins levels.settings levels.version events levels.rows (seen FRAMES) →
      OnOk result (TookFrom start due (tally weighed levels.settings (slice_range events (lookback levels.settings m) m))))
  pub took : OnOk result ((list : List Piece) × TookFrom start due list)
  pub sound : (events : List Item) → length events ≡ m → AreOfVersion levels.version events → AreYoung levels.settings events zero.from zero.bins →
      IfTold (bays.files bay) (λ seen. HoldsBins levels.settings levels.version events levels.rows (seen FRAMES) → (at : ℕ) → result ≢ Err (Malformed at))
  pub malformed : IfTold (bays.files bay) (λ seen. (at : ℕ) → IsErrOf result (Malformed at) → OneBreaks levels.settings levels.version levels.rows (seen FRAMES) at)
  pub malformed_after : IfTold (bays.files bay_after) (λ after. (at : ℕ) → IsErrOf result (Malformed at) → OneBreaks levels.settings levels.version levels.rows (after FRAMES) at)
  pub durable : OnOk result (IfTold (bays.files bay_after) (λ seen. (image : Files) → bays.leaves bay_after image → image FRAMES ≡ seen FRAMES))
  pub rest : KeepsRest bays (InNamed levels.settings levels.version levels.rows) bay bay_after
  pub kept : KeepsBay bays bay bay_after (IsErrOf result FlushFailed)

-- The totals come to the reports that the event at position m brings, which level 0 has, its tail being this one: the levels
-- are flushed where an edge moves, and the oldest bin of level 0 is dropped.
pub record GivesTotals {B : Type 0} (bays : Bays B) (start : Dues) (m tail : ℕ) (bay bay_after : B) (zero zero_after : Young) (levels levels_after : OnDisk) (due : Dues) (result : Result
    (Unit {0}) FlushFault) : Type 0 where
  pub young_settings : zero_after.settings ≡ zero.settings
  pub settings : levels_after.settings ≡ levels.settings
  pub version : levels_after.version ≡ levels.version
  pub from : OnOk result (zero_after.from ≡ edge levels.settings 0 m)
  pub to : OnOk result (zero_after.to ≡ m)
  pub bins : (events : List Item) → length events ≡ m → AreOfVersion levels.version events → AreYoung levels.settings events zero.from zero.bins →
      OnOk result (AreYoung levels.settings events (edge levels.settings 0 m) zero_after.bins)
  pub rows : OnOk result (IsAt levels.settings m levels_after.rows)
  pub holds : (events : List Item) → length events ≡ m → AreOfVersion levels.version events → AreYoung levels.settings events zero.from zero.bins →
      IfTold (bays.files bay) (λ seen. HoldsBins levels.settings levels.version events levels.rows (seen FRAMES) →
      OnOk result (IfTold (bays.files bay_after) (λ after. HoldsBins levels.settings levels.version events levels_after.rows (after FRAMES))))
  pub totals : (events : List Item) → length events ≡ m → AreOfVersion levels.version events → AreYoung levels.settings events zero.from zero.bins →
      IfTold (bays.files bay) (λ seen. HoldsBins levels.settings levels.version events levels.rows (seen FRAMES) → OnOk result (TookFrom start due (totals_at levels.settings events m tail)))
  pub took : OnOk result ((list : List Piece) × TookFrom start due list)
  pub sound : (events : List Item) → length events ≡ m → AreOfVersion levels.version events → AreYoung levels.settings events zero.from zero.bins →
      IfTold (bays.files bay) (λ seen. HoldsBins levels.settings levels.version events levels.rows (seen FRAMES) → (at : ℕ) → result ≢ Err (Malformed at))
  pub malformed : IfTold (bays.files bay) (λ seen. (at : ℕ) → IsErrOf result (Malformed at) → OneBreaks levels_after.settings levels.version levels_after.rows (seen FRAMES) at)
  pub malformed_after : IfTold (bays.files bay_after) (λ after. (at : ℕ) → IsErrOf result (Malformed at) → OneBreaks levels_after.settings levels.version levels_after.rows (after FRAMES) at)
  pub images : (events : List Item) → length events ≡ m → AreOfVersion levels.version events → AreYoung levels.settings events zero.from zero.bins →
      IfTold (bays.files bay) (λ seen. HoldsBins levels.settings levels.version events levels.rows (seen FRAMES) → InEach (bays.leaves bay) FRAMES (HoldsBins levels.settings levels.version
      events levels.rows) →
      OnOk result (IfTold (bays.files bay_after) (λ _. InEach (bays.leaves bay_after) FRAMES (HoldsBins levels.settings levels.version events levels_after.rows))))
  pub are : OnOk result (AreRows levels.settings levels.rows → AreRows levels.settings levels_after.rows)
  pub still : edge levels.settings 0 m ≡ edge levels.settings 0 (m - 1) → OnOk result (levels_after.rows ≡ levels.rows)
  pub unflushed : edge levels.settings 0 m ≡ edge levels.settings 0 (m - 1) → bay_after ≡ bay
  pub rest : KeepsRest bays (InNamed levels.settings levels.version levels.rows) bay bay_after
  pub kept : KeepsBay bays bay bay_after (IsErrOf result FlushFailed)

-- all levels are scanned, with the reports as the taker of the totals
pub record Scans {B : Type 0} (bays : Bays B) (start : Dues) (bay bay_after : B) (zero : Young) (levels levels_after : OnDisk) (due : Dues) (result : Result (Unit {0}) FlushFault) : Type 0 where
  pub stays : levels_after ≡ levels
  pub totals : (events : List Item) → length events ≤ capacity levels.settings → AreOfVersion levels.version events → IsAt levels.settings (length events) levels.rows →
      zero.from ≡ edge levels.settings 0 (length events) → zero.to ≡ length events → AreYoung levels.settings events zero.from zero.bins →
      IfTold (bays.files bay) (λ seen. HoldsBins levels.settings levels.version events levels.rows (seen FRAMES) → OnOk result (TookFrom start due (tally weighed levels.settings events)))
  pub took : OnOk result ((list : List Piece) × TookFrom start due list)
  pub sound : (events : List Item) → length events ≤ capacity levels.settings → AreOfVersion levels.version events → IsAt levels.settings (length events) levels.rows →
      zero.from ≡ edge levels.settings 0 (length events) → AreYoung levels.settings events zero.from zero.bins →
      IfTold (bays.files bay) (λ seen. HoldsBins levels.settings levels.version events levels.rows (seen FRAMES) → (at : ℕ) → result ≢ Err (Malformed at))
  pub malformed : IfTold (bays.files bay) (λ seen. (at : ℕ) → IsErrOf result (Malformed at) → OneBreaks levels.settings levels.version levels.rows (seen FRAMES) at)
  pub whole : IfTold (bays.files bay) (λ seen. OnOk result (rows_left levels.settings levels.version (seen FRAMES) levels.rows ≡ None))
  pub reads : OnlyReads bays bay bay_after (IsErrOf result FlushFailed)

-- An item is counted. Where the edge of level 0 stays the rows stay, and no call of the bay is made; the frames that the rows named stay in any case. Where
-- the files are told, and the frames and reports are those of the items so far, they are so again, in every image too, and no
-- frame is found malformed, nor is the store full, where the items weigh no more than a cone takes; no frame is malformed also
-- where the frames hold the bins of some events, whatever these are.
pub record CountsItem {B : Type 0} (bays : Bays B) (item : Item) (bay bay_after : B) (old new : Tallied) (result : Result (Unit {0}) TakeFault) : Type 0 where
  pub listing : new.listing ≡ record old.listing { events = new.listing.events }
  pub taken : OnOk result (new.listing.events ≡ old.listing.events ++ item ∷ [])
  pub counted : OnOk result (IsCounted new)
  pub grows : OnOk result (length old.due.reports ≤ length new.due.reports)
  pub still : edge old.listing.settings 0 (length old.listing.events + 1) ≡ edge old.listing.settings 0 (length old.listing.events) → OnOk result (new.rows ≡ old.rows)
  pub unflushed : edge old.listing.settings 0 (length old.listing.events + 1) ≡ edge old.listing.settings 0 (length old.listing.events) → bay_after ≡ bay
  pub held : IfTold (bays.files bay) (λ seen. IsHeld old seen → OnOk result (IfTold (bays.files bay_after) (λ after. IsHeld new after)))
  pub sound : IfTold (bays.files bay) (λ seen. IsHeld old seen → IsLightWith old (item ∷ []) → (file at : ℕ) → result ≢ Err (Unsound file at))
  pub shows : IfTold (bays.files bay_after) (λ seen. (file at : ℕ) → IsErrOf result (Unsound file at) → Shows new.listing.version new.listing.settings new.rows new.due.reports (seen FRAMES) file at)
  pub framed : IfTold (bays.files bay) (λ seen. HoldsSome old.listing.version old.listing.settings (length old.listing.events) old.rows (seen FRAMES) →
      OnOk result (IfTold (bays.files bay_after) (λ after. HoldsSome new.listing.version new.listing.settings (length new.listing.events) new.rows (after FRAMES))))
  pub whole : IfTold (bays.files bay) (λ seen. HoldsSome old.listing.version old.listing.settings (length old.listing.events) old.rows (seen FRAMES) → (at : ℕ) → result ≢ Err (Unsound FRAMES at))
  pub images : IfTold (bays.files bay) (λ seen. IsHeld old seen → InEach (bays.leaves bay) FRAMES (HoldsBins old.listing.settings old.listing.version old.listing.events old.rows) →
      OnOk result (IfTold (bays.files bay_after) (λ _. InEach (bays.leaves bay_after) FRAMES (HoldsBins new.listing.settings new.listing.version new.listing.events new.rows))))
  pub rest : KeepsRest bays (InNamed old.listing.settings old.listing.version old.rows) bay bay_after
  pub kept : KeepsBay bays bay bay_after (IsErrOf result Failed)

-- All levels are scanned, and the reports listed that are left. It writes nothing.
pub record CountsEnd {B : Type 0} (bays : Bays B) (bay bay_after : B) (old new : Tallied) (result : Result (Unit {0}) TakeFault) : Type 0 where
  pub listing : new.listing ≡ record old.listing { closed = new.listing.closed }
  pub rows : new.rows ≡ old.rows
  pub closed : OnOk result (new.listing.closed ≡ true)
  pub refused : OnErr result (new.listing ≡ old.listing)
  pub grows : OnOk result (length old.due.reports ≤ length new.due.reports)
  pub counted : OnOk result (IsCounted new)
  pub held : IfTold (bays.files bay) (λ seen. IsHeld old seen → OnOk result (IsHeld new seen))
  pub whole : IfTold (bays.files bay) (λ seen. OnOk result (rows_left old.listing.settings old.listing.version (seen FRAMES) old.rows ≡ None))
  pub sound : IfTold (bays.files bay) (λ seen. IsHeld old seen → IsLightWith old [] → (file at : ℕ) → result ≢ Err (Unsound file at))
  pub shows : IfTold (bays.files bay_after) (λ seen. (file at : ℕ) → IsErrOf result (Unsound file at) → Shows new.listing.version new.listing.settings new.rows new.due.reports (seen FRAMES) file at)
  pub reads : OnlyReads bays bay bay_after (IsErrOf result Failed)
