-- What is printed of the cones of a run.
use Rattle.std.specs.{Prelude.{◌≡◌, ◌↔◌, ℕ, ◌^◌, ◌≤◌, true, List, [], ◌∷◌, flat_map, length, map, Contains, Option, Some, slice_get}, List.range_with_len}
use Rattle.lert_base.specs.{Packet.{Packet, events_of}, Weave.IsWoven}
use Rattle.lert_bay.specs.Files.{Files}
use Rattle.lert_cone.specs.Sound.{IsSoundClosed}
use Rattle.lert_ingest.specs.{Bays.{AreTold, IfHeld}, Traces.{all_items, part_length}}
use Rattle.lert_spec.specs.{declared.item.Item.Item, declared.numbers.Numbers.Numbers, declared.report.Report.Report, Counts.{heavy_in, weighed}}
use Rattle.lert_spec.specs.{Lines.Printed, Look.closing_of, Mix.part_in, Timely.{IsTimelyIn, times_listed}}

-- reports are those that stand once the cone is closed that its files hold, whose journal is a weave of its part of the items of
-- all traces, and they are in time for the items of this journal
pub record HoldsReported (s : Numbers) (workers : ℕ) (traces : List (List Item)) (cone : ℕ) (reports : List Report) (seen : Files) : Type 0 where
  pub history : List Packet
  pub woven : IsWoven s cone workers traces history
  pub sound : IsSoundClosed s cone history seen
  pub reports_are : reports ≡ closing_of weighed s (events_of history)
  pub in_time : IsTimelyIn weighed s.threshold s.bins (events_of history) reports

-- what was printed of a cone: how many items of all traces are its own, and, where its bay tells its files, the reports of its journal
pub record IsPrinted {B : Type 0} (files : B → Option Files) (s : Numbers) (workers : ℕ) (bays : List B) (traces : List (List Item)) (cone : ℕ) (one : Printed) : Type 0 where
  pub events_are : one.events ≡ part_length s cone traces
  pub closed_is : one.closed ≡ true
  pub reports_are : IfHeld files bays cone (HoldsReported s workers traces cone one.reports)

-- what is printed of a cone of one trace: the events of its part, and the reports that stand once it is closed
abbrev pub printed_of : Numbers → List Item → ℕ → Printed
printed_of s items cone = record {
  events = length (part_in weighed s cone items);
  reports = closing_of weighed s (part_in weighed s cone items);
  closed = true;
}

-- what is printed of the first so many cones of one trace
abbrev pub printed : Numbers → List Item → ℕ → List Printed
printed s items number = map (printed_of s items) (range_with_len 0 number)

-- that was printed of all cones. The keys that are reported, each once, are those of all traces joined that weigh enough, whatever
-- the workers; and with one trace all that is printed is a function of its items
pub record ArePrinted {B : Type 0} (files : B → Option Files) (s : Numbers) (workers : ℕ) (bays : List B) (traces : List (List Item)) (cones : List Printed) : Type 0 where
  pub number_is : length cones ≡ 2 ^ s.cone_bits
  pub each : (cone : ℕ) (one : Printed) → slice_get cones cone ≡ Some one → IsPrinted files s workers bays traces cone one
  pub heavy_are : AreTold files bays → (key : ℕ) → Contains (heavy_in weighed s.threshold (all_items traces)) key
      ↔ (times_listed key (flat_map (λ (one : Printed). one.reports) cones) ≡ 1)
  pub no_others : AreTold files bays → (key : ℕ) → times_listed key (flat_map (λ (one : Printed). one.reports) cones) ≤ 1
  pub of_one : AreTold files bays → (items : List Item) → traces ≡ items ∷ [] → cones ≡ printed s items (2 ^ s.cone_bits)
