-- What a trace reader is seen as, and what each of its faults says.
use Rattle.std.specs.Prelude.{◌≡◌, ℕ, ◌+◌, ◌<◌, ◌≤◌, Bool, true, false, List, ◌++◌, length, drop, Option, Some, None}
use Rattle.lert_io.specs.{Fault.HasRisen, Reading.IfTold}
use Rattle.lert_trace.specs.{Trace.{header_len, item_at, left, place_of, version_in, whole}, declared.fault.TraceFault.TraceFault}
use Rattle.lert_trace.specs.{declared.fault.TraceFault.TheVariants.{ReadFailed, BadHeader, CutKey, TooLong, ZeroWeight}}

-- a reader: its source as it is and as it was when the reader was made, the most items that it gives, whether it took the
-- header, how many items it gave, and the fault that it met
pub record Reading (S : Type 0) : Type 0 where
  pub source : S
  pub made : S
  pub limit : ℕ
  pub begun : Bool
  pub given : ℕ
  pub fault : Option TraceFault

-- bytes leave the trace format at a place, behind a number of whole items
pub record LeavesAt (bytes : List ℕ) (at given : ℕ) : Type 0 where
  pub place : left bytes ≡ Some at
  pub behind : length (whole bytes) ≡ given

-- bytes are a trace with a number of items
pub record IsTraceOf (bytes : List ℕ) (given : ℕ) : Type 0 where
  pub well_formed : left bytes ≡ None
  pub all_given : length (whole bytes) ≡ given

-- they leave it so many bytes behind the begin of the item that would be the next
pub record LeavesItem (bytes : List ℕ) (at given behind : ℕ) : Type 0 where
  pub leaves : LeavesAt bytes at given
  pub place_is : at ≡ place_of (version_in bytes) given + behind

module _ {S : Type 0} (remaining : S → Option (List ℕ)) (faults : S → ℕ) where
  -- what a fault says: the source's count rose since the reader was made; the bytes leave the format there, all whole items before it
  -- given; there are more items than the limit, which was reached
  abbrev pub Means : S → S → ℕ → ℕ → TraceFault → Type 0
  Means made source limit given ReadFailed = HasRisen (faults made) (faults source)
  Means made source limit given (BadHeader at) = (at < 8) × IfTold (remaining made) (λ bytes. LeavesAt bytes at given)
  Means made source limit given (CutKey at) = (8 ≤ at) × IfTold (remaining made) (λ bytes. LeavesItem bytes at given 0)
  Means made source limit given TooLong = (given ≡ limit) × IfTold (remaining made) (λ bytes. limit < length (whole bytes))
  Means made source limit given (ZeroWeight at) = (16 ≤ at) × IfTold (remaining made) (λ bytes. LeavesItem bytes at given 8)

-- how many bytes a reader of a version took: the header once it has begun, and its items
abbrev pub taken : ℕ → Bool → ℕ → ℕ
taken version false given = 0
taken version true given = place_of version given

-- A reader stands in the bytes of its source where it took what it gave, and the pending bytes and what remains follow. It knows
-- their version once it has begun, and each item that it gave weighs something
pub record Stands (bytes pending : List ℕ) (remaining : Option (List ℕ)) (version : ℕ) (begun : Bool) (given : ℕ) : Type 0 where
  pub rest : List ℕ
  pub remains : remaining ≡ Some rest
  pub ahead : drop (taken version begun given) bytes ≡ pending ++ rest
  pub within : taken version begun given ≤ length bytes
  pub header : begun ≡ true → (header_len bytes ≡ 8) × (version ≡ version_in bytes)
  pub weighed : (n : ℕ) → n < given → 1 ≤ (item_at version bytes n).weight

-- what a reader keeps
pub record IsReader {S : Type 0} (remaining : S → Option (List ℕ)) (faults mark : S → ℕ) (made source : S) (pending : List ℕ)
    (limit version given : ℕ) (begun : Bool) (fault : Option TraceFault) : Type 0 where
  pub stands : IfTold (remaining made) (λ bytes. Stands bytes pending (remaining source) version begun given)
  pub untold : remaining made ≡ None → remaining source ≡ None
  pub never_falls : faults made ≤ faults source
  pub marked : mark source ≡ mark made
  pub within : given ≤ limit
  pub versioned : (1 ≤ version) × (version ≤ 2)
  pub small : limit ≤ 68719476736
  pub fresh : begun ≡ false → given ≡ 0
  pub caused : (f : TraceFault) → fault ≡ Some f → Means remaining faults made source limit given f

-- a step of a reader leaves its maker's source and its limit as they are, and sets no fault
pub record IsSameReader {S : Type 0} (old new : Reading S) : Type 0 where
  pub made : new.made ≡ old.made
  pub limit : new.limit ≡ old.limit
  pub fault : new.fault ≡ old.fault
