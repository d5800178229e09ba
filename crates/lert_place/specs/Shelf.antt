-- What a place in memory is seen as.
use Rattle.std.specs.{Prelude.{◌≡◌, ℕ, ◌==◌, ◌&&◌, Bool, List, [], ◌∷◌, Option, Some, None, if◌then◌else◌}, Str.bytes_eq}
use Rattle.lert_io.specs.Memory.{Feeding}
use Rattle.lert_bay.specs.Memory.{Disk}

-- a trace under a name
pub record NamedTrace : Type 0 where
  pub name : List ℕ
  pub source : Feeding

-- the bay of a cone in a directory
pub record NamedBay : Type 0 where
  pub dir : List ℕ
  pub cone : ℕ
  pub bay : Disk

-- the objects of one kind that were handed out, as they were then, and for each of them what last came back
pub record Loans (T : Type 0) : Type 0 where
  pub handed : List T
  pub returned : List (Option T)

-- the first trace that was added under a name
abbrev pub trace_named : List NamedTrace → List ℕ → Option Feeding
trace_named [] name = None
trace_named (trace ∷ others) name = if bytes_eq trace.name name then Some trace.source else trace_named others name

-- whether a bay is the one of this cone in this directory
abbrev pub is_of : NamedBay → List ℕ → ℕ → Bool
is_of bay dir cone = (bay.cone == cone) && bytes_eq bay.dir dir

-- the first bay that was added for a cone in a directory
abbrev pub bay_of : List NamedBay → List ℕ → ℕ → Option Disk
bay_of [] dir cone = None
bay_of (bay ∷ others) dir cone = if is_of bay dir cone then Some bay.bay else bay_of others dir cone

-- a copy of the trace of a name, marked with its number
pub record IsTraceCopy (traces : List NamedTrace) (name : List ℕ) (number : ℕ) (copy : Feeding) : Type 0 where
  pub source : Feeding
  pub found : trace_named traces name ≡ Some source
  pub marked : copy ≡ record source { mark = number }

-- a copy of the bay of a cone in a directory, marked with its number
pub record IsBayCopy (bays : List NamedBay) (dir : List ℕ) (cone number : ℕ) (copy : Disk) : Type 0 where
  pub source : Disk
  pub found : bay_of bays dir cone ≡ Some source
  pub marked : copy ≡ record source { mark = number }
