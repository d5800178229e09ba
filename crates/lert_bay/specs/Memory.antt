-- What a bay in memory is seen as, and the meanings that it gives to the members of `Bay`.
use Rattle.std.specs.Prelude.{◌≡◌, ℕ, ◌+◌, ◌-◌, ◌<◌, ◌≤◌, min, Result, OnOk, OnErr, List, [], ◌∷◌, ◌++◌, length, slice_index, slice_index_or, slice_set, Some, None, option_map, IsSomeAnd}
use Rattle.std.proofs.Common.{◌⊎◌, inl, inr, ap, arith}
use Rattle.lert_bay.specs.{Files.Files, Images.Elapses, Since.IsTornSince, declared.extent.Extent.Extent, declared.plan.Plan.Plan}

-- a file: as a read gives it, as it was at its last sync, and the ranges written since
pub record FileState : Type 0 where
  pub now : List ℕ
  pub synced : List ℕ
  pub written : List Extent

-- a file that nothing was written into
abbrev pub untouched : FileState
untouched = record { now = []; synced = []; written = [] }

-- a file of these bytes with nothing pending
abbrev pub durable : List ℕ → FileState
durable bytes = record { now = bytes; synced = bytes; written = [] }

-- the file with a number
abbrev pub file_of : List FileState → ℕ → FileState
file_of files number = slice_index_or files number untouched

-- what a read gives of each file
abbrev pub seen_of : List FileState → Files
seen_of files number = (file_of files number).now

-- what a crash may leave of a file: what a read gives, or what it may have torn since the last sync
abbrev pub MayLeave : FileState → List ℕ → Type 0
MayLeave file image = (image ≡ file.now) ⊎ IsTornSince file.synced file.written image

-- what a crash may leave of all files
abbrev pub MayLeaveAll : List FileState → Files → Type 0
MayLeaveAll files image = (number : ℕ) → MayLeave (file_of files number) (image number)

-- the next call is to fail
abbrev pub Strikes : Plan → Type 0
Strikes plan = (plan.fail ≡ Some 1) ⊎ IsSomeAnd plan.stop (λ number. number ≤ 1)

-- the plan once the next call is made
abbrev pub ticked : Plan → Plan
ticked plan = record { fail = option_map (λ number. number - 1) plan.fail; stop = option_map (λ number. number - 1) plan.stop }

-- no call is to fail
abbrev pub calm : Plan
calm = record { fail = None; stop = None }

-- a bay: its files now, its files at the moment of each call so far, the calls that are to fail, how many failed, its
-- mark, and how many bytes reads have handed out of each file
pub record Disk : Type 0 where
  pub files : List FileState
  pub past : List (List FileState)
  pub plan : Plan
  pub faults : ℕ
  pub mark : ℕ
  pub handed : List ℕ

-- how many bytes reads have handed out of a file
abbrev pub handed_of : List ℕ → ℕ → ℕ
handed_of counts file = slice_index counts file

-- what a crash at this moment may leave, or at one of those from a time on
abbrev pub LeftSince : Disk → ℕ → Files → Type 0
LeftSince disk t image = MayLeaveAll disk.files image ⊎ ((k : ℕ) × (t ≤ k) × (k < length disk.past) × MayLeaveAll (slice_index_or disk.past k []) image)

-- one file's bytes make a step, and it is noted that `count` bytes from `at` on may have been written; all else stays
pub record Rewrites (number at count : ℕ) (step : List ℕ → List ℕ → Type 0) (old new : Disk) : Type 0 where
  pub within : number < length old.files
  pub file : FileState
  pub files : new.files ≡ slice_set old.files number file
  pub rest : new ≡ record old { files = new.files }
  pub here : step (file_of old.files number).now file.now
  pub as_read : IsTornSince (file_of old.files number).synced (file_of old.files number).written (file_of old.files number).now
  pub synced : file.synced ≡ (file_of old.files number).synced
  pub written : file.written ≡ (file_of old.files number).written ++ record { at = at; count = count } ∷ []

-- what each call changes beside the files: it takes the next number of the plan and a moment, and a failed one is counted
pub record IsCounted {T E : Type 0} (old new : Disk) (result : Result T E) : Type 0 where
  pub plan : new.plan ≡ ticked old.plan
  pub past : new.past ≡ old.past ++ old.files ∷ []
  pub mark : new.mark ≡ old.mark
  pub ok : OnOk result (new.faults ≡ old.faults)
  pub err : OnErr result (new.faults ≡ min (old.faults + 1) 18446744073709551615)

-- a call takes a moment, of which the images are those from before or those after it
abbrev pub TakesTime : Disk → Disk → Type 0
TakesTime old new = Elapses (length old.past) (length new.past) (LeftSince old) (LeftSince new) (MayLeaveAll new.files)

-- a bay as a read gives it is one of its images
pub as_read : (disk : Disk) (seen : Files) → Some (seen_of disk.files) ≡ Some seen → MayLeaveAll disk.files seen
as_read disk seen told number = let same : seen ≡ seen_of disk.files = cc in inl (ap (λ (files : Files). files number) same)

-- since the number of past moments there is none
pub only_now : (disk : Disk) (image : Files) → LeftSince disk (length disk.past) image → MayLeaveAll disk.files image
only_now disk image (inl now) = now
only_now disk image (inr past) = absurd (omega (arith, past.1, past.2))

-- an earlier time has all moments of a later one
pub since_earlier : (disk : Disk) (t u : ℕ) (image : Files) → t ≤ u → LeftSince disk u image → LeftSince disk t image
since_earlier disk t u image earlier (inl now) = inl now
since_earlier disk t u image earlier (inr past) = inr (past.0, (omega (arith, earlier, past.1)), past.2, past.3)
