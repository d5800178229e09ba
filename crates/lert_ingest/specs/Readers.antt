-- Readers of traces, as they are made, and the traces that they give back.
use Rattle.std.specs.Prelude.{◌≡◌, ℕ, ◌≤◌, zero, suc, false, List, [], ◌∷◌, Some, None, map, slice_get}
use Rattle.lert_trace.specs.Reader.{Reading}
use Rattle.lert_ingest.specs.Traces.{most_items}

-- a reader as it is made over a trace
abbrev pub fresh_reader : {S : Type 0} → S → Reading S
fresh_reader source = record { source = source; made = source; limit = most_items; begun = false; given = 0; fault = None }

-- the readers of all traces, and the traces of readers
abbrev pub fresh_readers : {S : Type 0} → List S → List (Reading S)
fresh_readers traces = map fresh_reader traces

abbrev pub sources_of : {S : Type 0} → List (Reading S) → List S
sources_of readers = map (λ reader. reader.source) readers

-- the traces of readers as they were opened, and how many items each gave
abbrev pub opened_of : {S : Type 0} → List (Reading S) → List S
opened_of readers = map (λ reader. reader.made) readers

abbrev pub given_of : {S : Type 0} → List (Reading S) → ℕ → ℕ
given_of [] trace = 0
given_of (reader ∷ readers) zero = reader.given
given_of (reader ∷ readers) (suc trace) = given_of readers trace

-- readers of traces with the limit of all, that met no fault
pub record IsReadable {S : Type 0} (reader : Reading S) : Type 0 where
  pub limit_is : reader.limit ≡ most_items
  pub within : reader.given ≤ most_items
  pub no_fault : reader.fault ≡ None

abbrev pub AreReadable : {S : Type 0} → List (Reading S) → Type 0
AreReadable {S = S} readers = (trace : ℕ) (reader : Reading S) → slice_get readers trace ≡ Some reader → IsReadable reader
