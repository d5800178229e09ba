-- A crew that ran, with what is known of the traces that it read and of the cones that came back.
use Rattle.std.proofs.{Common.{◌≡◌, ℕ, ◌^◌, ◌<◌, ◌≤◌, List, length, Option, Some, None, slice_get, ap, ◌∙◌, subst}, lemmas.List.length-map, lemmas.Option.slice_get-map}
use Rattle.std.specs.Option.{option_map}
use Rattle.lert_base.specs.{Packet.Packet, declared.cone_fault.ConeFault.ConeFault}
use Rattle.lert_bay.specs.Files.{Files}
use Rattle.lert_cone.specs.Stands.{Standing}
use Rattle.lert_spec.specs.{declared.item.Item.Item, declared.numbers.Numbers.Numbers}
use Rattle.lert_trace.specs.Reader.{Reading}
use Rattle.lert_worker.specs.declared.end.WorkerEnd.{WorkerEnd}
use Rattle.lert_worker.specs.{Ends.WasRead, crew.{Crewed.AreReadBy, Shares.{IsShare, LeftIn}}, declared.end.WorkerEnd.TheVariants.Cone}
use Rattle.lert_ingest.specs.Past.{Past, past_of}
use Rattle.lert_ingest.specs.{Back.IsBack, Faults.{earlier, earliest, end_fault, fault_at}, Readers.sources_of, Traces.most_items, declared.status.Status.Status}

-- a reader of a trace that met no fault, and gave so many items of it
pub record IsBegun {S : Type 0} (opened : List S) (given : ℕ → ℕ) (trace : ℕ) (reader : Reading S) : Type 0 where
  pub made_is : slice_get opened trace ≡ Some reader.made
  pub given_is : reader.given ≡ given trace
  pub limit_is : reader.limit ≡ most_items
  pub within : reader.given ≤ most_items
  pub no_fault : reader.fault ≡ None

-- each worker read its share of the traces
pub record ReadCrew (S : Type 0) : Type 0 where
  pub remaining : S → Option (List ℕ)
  pub s_faults : S → ℕ
  pub s_mark : S → ℕ
  pub workers : ℕ
  pub some : 1 ≤ workers
  -- the traces as they were opened, how many items were given of each, as they were, and as they are
  pub opened : List S
  pub given : ℕ → ℕ
  pub were : List S
  pub laters : List S
  pub olds : List (Reading S)
  pub news : List (Reading S)
  pub olds_number : length olds ≡ length opened
  pub olds_are : (trace : ℕ) (reader : Reading S) → slice_get olds trace ≡ Some reader → IsBegun opened given trace reader
  pub were_are : were ≡ sources_of olds
  pub laters_are : laters ≡ sources_of news
  pub shares : ℕ → List ℕ
  pub reads : ℕ → List (List Item)
  pub was : ℕ → List (Reading S)
  pub readings : ℕ → List (Reading S)
  pub places : ℕ → ℕ
  pub stopped : ℕ → ℕ
  pub ends : ℕ → WorkerEnd
  pub run : AreReadBy remaining s_faults s_mark workers olds news shares reads was readings places stopped ends

module _ {S : Type 0} (crew : ReadCrew S) where
  open crew use {remaining, s_faults, s_mark, workers, opened, given, were, laters, olds, news, olds_number, olds_are, were_are, laters_are, shares, reads, readings, run}

  -- a trace before a run and behind it, with the items that were read of it
  pub record IsTraceRead (trace : ℕ) (now : Reading S) (read : List Item) : Type 0 where
    pub first : Reading S
    pub begun : IsBegun opened given trace first
    pub was : slice_get were trace ≡ Some first.source
    pub is : slice_get laters trace ≡ Some now.source
    pub read_is : WasRead remaining s_faults s_mark first now read

  pub were_number : length were ≡ length opened
  were_number = ap (λ (xs : List S). length xs) were_are ∙ (length-map olds (λ (r : Reading S). r.source) ∙ olds_number)

  pub as_many : length laters ≡ length opened
  as_many = ap (λ (xs : List S). length xs) laters_are ∙ (length-map news (λ (r : Reading S). r.source) ∙ (run.number ∙ olds_number))

  pub shared_all : (by : ℕ) → by < workers → IsShare workers (length opened) by (shares by)
  shared_all by below = subst (λ n. IsShare workers n by (shares by)) olds_number (run.shared by below)

  pub read_at : (by place trace : ℕ) → by < workers → slice_get (shares by) place ≡ Some trace → (now : Reading S) × (read : List Item)
      × (slice_get (readings by) place ≡ Some now) × (slice_get (reads by) place ≡ Some read) × IsTraceRead trace now read
  read_at by place trace below there =
      let at = run.each by place trace below there in
      let of = at.4 in (
        at.0,
        at.1,
        at.2,
        at.3,
        record {
          first = of.before;
          begun = olds_are trace of.before of.was;
          was = ap (λ (xs : List S). slice_get xs trace) were_are
              ∙ (slice_get-map (λ (r : Reading S). r.source) olds trace ∙ ap (option_map (λ (r : Reading S). r.source)) of.was);
          is = ap (λ (xs : List S). slice_get xs trace) laters_are
              ∙ (slice_get-map (λ (r : Reading S). r.source) news trace ∙ ap (option_map (λ (r : Reading S). r.source)) of.is);
          read_is = of.read_is;
        },
      )

-- of a crew each worker left its packets in the cones, which came back
pub record AreConesLeft {B : Type 0} (files : B → Option Files) (leaves : B → Files → Type 0) (faults mark : B → ℕ) (s : Numbers) (before : ℕ → List Packet)
    (workers : ℕ) (firsts backs : List (Standing B))
    (shares : ℕ → List ℕ) (reads : ℕ → List (List Item)) (stopped : ℕ → ℕ) (ends : ℕ → WorkerEnd)
    (added : ℕ → ℕ → List Packet) (turned : ℕ → ℕ → List (Packet × ConeFault)) : Type 0 where
  pub cones_are : length firsts ≡ 2 ^ s.cone_bits
  pub number : length backs ≡ length firsts
  pub each : (cone : ℕ) (first closed : Standing B) → slice_get firsts cone ≡ Some first → slice_get backs cone ≡ Some closed
      → IsBack files leaves faults mark s workers cone (before cone) (added cone) (turned cone) first closed
  pub left : (cone by : ℕ) → cone < length firsts → by < workers
      → LeftIn s by cone (shares by) (reads by) (stopped by) (ends by) (added cone by) (turned cone by)
  pub named : (by cone : ℕ) (fault : ConeFault) → by < workers → ends by ≡ Cone cone fault → cone < length firsts

-- and left its packets in the cones, which came back
pub record Crewed (S B : Type 0) : Type 1 where
  pub read : ReadCrew S
  pub files : B → Option Files
  pub leaves : B → Files → Type 0
  pub b_faults : B → ℕ
  pub b_mark : B → ℕ
  pub s : Numbers
  -- what the cones stood for before
  pub before : ℕ → List Packet
  pub firsts : List (Standing B)
  pub backs : List (Standing B)
  pub added : ℕ → ℕ → List Packet
  pub turned : ℕ → ℕ → List (Packet × ConeFault)
  pub left_by : AreConesLeft files leaves b_faults b_mark s before read.workers firsts backs read.shares read.reads read.stopped read.ends added turned

-- the fault that is answered
abbrev pub first_fault : {S B : Type 0} → Crewed S B → Option Status
first_fault crew = earlier (earliest (λ by. end_fault (crew.read.ends by)) crew.read.workers) (earliest (fault_at crew.backs) (length crew.backs))

-- what there was before
abbrev pub past : {S B : Type 0} → Crewed S B → Past
past crew = past_of crew.s crew.read.given crew.before
