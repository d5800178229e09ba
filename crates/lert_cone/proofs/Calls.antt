-- Calls of a bay in turn, over the states that it has between them.
use Rattle.std.proofs.Common.{◌≡◌, ◌≢◌, ℕ, ◌≤◌, Some}
use Rattle.lert_bay.specs.{Kept.{Bays, OnlyReads, ReadsBay}, Files.{Files, IfTold, Turns}, Images.Lasts}
use Rattle.lert_bay.proofs.KeptLaws.{IsLawful, reads}
use Rattle.lert_gatelog.specs.Kept.{KeepsOthers, IsWhollySettled, OthersStay}
use Rattle.lert_levels.specs.rows.Landing.{KeepsRest}
use Rattle.lert_cone.specs.Wrote.{LeavesAlone, IsShutIfTold}
use Rattle.lert_cone.proofs.WroteLaws.{leaves_none, leaves_on, leaves_rest, leaves_others, leaves_read, settled_through, shut_through}

module _ {B : Type 0} {bays : Bays B} (lawful : IsLawful bays) where
  -- what a crash may leave after calls it might have left since they began
  pub now_since : {before after : B} → bays.moment before ≤ bays.moment after → (image : Files) → bays.leaves after image → bays.left_since after (bays.moment before) image
  now_since {before = before} {after = after} later image may = lawful.since_earlier after (bays.moment before) (bays.moment after) image later (lawful.since_now after image may)

  pub alone_none : {file : ℕ} {bay : B} → LeavesAlone bays file bay bay
  alone_none {file = file} {bay = bay} = leaves_none file (bays.files bay) (bays.leaves bay) (bays.moment bay) (bays.left_since bay) (lawful.only_now bay) (lawful.since_now bay)

  pub alone_on : {file : ℕ} {before between after : B} → LeavesAlone bays file before between → LeavesAlone bays file between after → LeavesAlone bays file before after
  alone_on {file = file} {before = before} {between = between} {after = after} one two =
      leaves_on file (bays.files before) (bays.files between) (bays.files after) (bays.leaves before) (bays.leaves between) (bays.leaves after) (bays.moment before) (bays.moment between)
      (bays.moment after)
      (bays.left_since before) (bays.left_since between) (bays.left_since after) one two (lawful.since_earlier after)

  pub alone_rest : {kept : ℕ → ℕ → Type 0} {before after : B} (file : ℕ) → file ≢ 2 → KeepsRest bays kept before after →
      Lasts (bays.moment before) (bays.moment after) (bays.left_since before) (bays.left_since after) → LeavesAlone bays file before after
  alone_rest {kept = kept} {before = before} {after = after} file other rest time = leaves_rest bays kept file other before after rest time (now_since time.later)

  pub alone_others : {before after : B} (log file : ℕ) → file ≢ log → Turns (OthersStay log) (bays.files before) (bays.files after) →
      IfTold (bays.files before) (λ seen. KeepsOthers (bays.leaves before) (bays.left_since after (bays.moment before)) seen log) →
      Lasts (bays.moment before) (bays.moment after) (bays.left_since before) (bays.left_since after) → LeavesAlone bays file before after
  alone_others {before = before} {after = after} log file other turns keeps time =
      leaves_others log file other (bays.files before) (bays.files after) (bays.leaves before) (bays.leaves after) (bays.moment before) (bays.moment after) (bays.left_since before)
      (bays.left_since after)
      turns keeps time (now_since time.later)

  pub alone_reading : {before after : B} {Failed : Type 0} (file : ℕ) → ReadsBay bays before after Failed → LeavesAlone bays file before after
  alone_reading {before = before} {after = after} {Failed = Failed} file read = leaves_read bays file before after Failed read (now_since read.kept.time.later)

  pub alone_read : {before after : B} {Failed : Type 0} (file : ℕ) → OnlyReads bays before after Failed → LeavesAlone bays file before after
  alone_read {before = before} {after = after} {Failed = Failed} file read = alone_reading file (reads bays before after Failed read)

  pub settled_alone : {file : ℕ} {before after : B} → LeavesAlone bays file before after → (old : Files) → bays.files before ≡ Some old →
      IsWhollySettled (bays.leaves before) old file →
      (new : Files) → bays.files after ≡ Some new → IsWhollySettled (bays.leaves after) new file
  settled_alone = settled_through

  pub shut_alone : {file gate : ℕ} {before after : B} → LeavesAlone bays file before after → IsShutIfTold (bays.files before) (bays.leaves before) file gate →
      IsShutIfTold (bays.files after)
      (bays.leaves after) file gate
  shut_alone {before = before} left = shut_through left (lawful.as_read before)
