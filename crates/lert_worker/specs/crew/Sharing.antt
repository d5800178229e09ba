-- Readers that are given to workers, and taken back.
use Rattle.std.specs.Prelude.{◌≡◌, ◌≢◌, ◌↔◌, ℕ, ◌%◌, ◌<◌, List, [], ◌∷◌, ◌++◌, length, drop, Some, slice_get}
use Rattle.lert_trace.specs.Reader.{Reading}
use Rattle.lert_worker.specs.Ran.{Working}
use Rattle.lert_worker.specs.crew.Shares.{IsShare}

module _ {S H : Type 0} where
  -- the worker of a trace, and no other one, was given its reader
  pub record IsGiven (trace : ℕ) (reader : Reading S) (olds news : List (Working S H)) : Type 0 where
    pub number : length news ≡ length olds
    pub here : (old new : Working S H) → slice_get olds (trace % length olds) ≡ Some old → slice_get news (trace % length olds) ≡ Some new
        → new ≡ record old { traces = old.traces ++ trace ∷ []; readers = old.readers ++ reader ∷ [] }
    pub others : (by : ℕ) → by ≢ trace % length olds → slice_get news by ≡ slice_get olds by

  -- the worker of a trace, and no other one, handed its first reader back, which is that of this trace
  pub record IsTaken (trace : ℕ) (reader : Reading S) (olds news : List (Working S H)) : Type 0 where
    pub number : length news ≡ length olds
    pub here : (old new : Working S H) → slice_get olds (trace % length olds) ≡ Some old → slice_get news (trace % length olds) ≡ Some new
        → (old.traces ≡ trace ∷ new.traces) × (old.readers ≡ reader ∷ new.readers) × (new ≡ record old { traces = new.traces; readers = new.readers })
    pub others : (by : ℕ) → by ≢ trace % length olds → slice_get news by ≡ slice_get olds by

  -- a worker has its share of the first so many traces, with their readers, and is as before otherwise
  pub record IsManned (workers count by : ℕ) (all : List (Reading S)) (old new : Working S H) : Type 0 where
    pub kept : new ≡ record old { traces = new.traces; readers = new.readers }
    pub share : IsShare workers count by new.traces
    pub as_many : length new.readers ≡ length new.traces
    pub readers : (place trace : ℕ) → slice_get new.traces place ≡ Some trace
        → (reader : Reading S) × (slice_get all trace ≡ Some reader) × (slice_get new.readers place ≡ Some reader)

  pub record AreManned (count : ℕ) (all : List (Reading S)) (olds news : List (Working S H)) : Type 0 where
    pub number : length news ≡ length olds
    pub each : (by : ℕ) (old new : Working S H) → slice_get olds by ≡ Some old → slice_get news by ≡ Some new → IsManned (length olds) count by all old new

  -- no worker has a trace
  abbrev pub AreFree : List (Working S H) → Type 0
  AreFree workers = (by : ℕ) (worker : Working S H) → slice_get workers by ≡ Some worker → (worker.traces ≡ []) × (worker.readers ≡ [])

  -- each has its share of so many traces, and as many readers
  abbrev pub AreShared : ℕ → List (Working S H) → Type 0
  AreShared count workers = (by : ℕ) (worker : Working S H) → slice_get workers by ≡ Some worker
      → IsShare (length workers) count by worker.traces × (length worker.readers ≡ length worker.traces)

  -- all readers of the first so many traces were handed back, and stand in the order of the traces
  pub record WereTaken (count : ℕ) (olds news : List (Working S H)) (back : List (Reading S)) : Type 0 where
    pub number : length news ≡ length olds
    pub taken : length back ≡ count
    pub none_left : (by : ℕ) (new : Working S H) → slice_get news by ≡ Some new → new.traces ≡ []
    pub kept : (by : ℕ) (old new : Working S H) → slice_get olds by ≡ Some old → slice_get news by ≡ Some new → new ≡ record old {
      traces = new.traces;
      readers =
          new.readers;
    }
    pub readers_are : (by place trace : ℕ) (old : Working S H) (reader : Reading S) → slice_get olds by ≡ Some old → slice_get old.traces place ≡ Some trace
        → slice_get old.readers place ≡ Some reader → slice_get back trace ≡ Some reader

  -- of a worker's traces those below a number were taken
  pub record IsPartTaken (below : ℕ) (old now : Working S H) : Type 0 where
    pub taken : ℕ
    pub traces_are : now.traces ≡ drop taken old.traces
    pub readers_are : now.readers ≡ drop taken old.readers
    pub kept : now ≡ record old { traces = now.traces; readers = now.readers }
    pub first : (place trace : ℕ) → slice_get old.traces place ≡ Some trace → (place < taken) ↔ (trace < below)

  -- so of each, and the readers of these stand in the order of the traces
  pub record ArePartTaken (below : ℕ) (olds news : List (Working S H)) (back : List (Reading S)) : Type 0 where
    pub number : length news ≡ length olds
    pub taken : length back ≡ below
    pub each : (by : ℕ) (old now : Working S H) → slice_get olds by ≡ Some old → slice_get news by ≡ Some now → IsPartTaken below old now
    pub readers_are : (by place trace : ℕ) (old : Working S H) (reader : Reading S) → slice_get olds by ≡ Some old → slice_get old.traces place ≡ Some trace
        → slice_get old.readers place ≡ Some reader → trace < below → slice_get back trace ≡ Some reader
