-- What fewer workers leave is what more of them leave, where each trace has the same worker in both crews.
use Rattle.std.proofs.{Common.{◌≡◌, ◌∙◌, ℕ, ◌%◌, ◌<◌, List, length, min, Option, Result, Ok, Err, ap, sym, subst, inl, inr, arith}, Math.Nat.{min-eq_left, min-eq_right, mod-eq_of_lt}}
use Rattle.std.proofs.lemmas.Bool.{cases_lt}
use Rattle.std.specs.Prelude.{IfErr, OnOk}
use Rattle.lert_base.specs.{Packet.Packet, Weave.{IsBrought, IsPartWoven, IsWoven}}
use Rattle.lert_bay.specs.Files.{Files}
use Rattle.lert_cone.specs.Stands.{Standing}
use Rattle.lert_spec.specs.{declared.item.Item.Item, declared.numbers.Numbers.Numbers}
use Rattle.lert_ingest.specs.{Bays.{ArePartWovenBehind, HoldsOpenBehind, HoldsPartBehind, bays_of}, Ingest.HasIngestedBehind, Past.Past}
use Rattle.lert_ingest.specs.{Stops.{AreIngestedBehind, AreOpenPartlyBehind, StopShowsBehind}, declared.status.Status.Status}
use Rattle.lert_ingest.specs.Stops.{trace_fault, bad_trace, too_long, bay_fault, malformed, capacity_full, weight_full, out_of_memory}
use Rattle.lert_ingest.proofs.Exactly.{exact_turned_behind}

-- each of so many traces is read by the worker of one number, whether there are so many workers or so many
abbrev pub AreReadBySame : ℕ → ℕ → ℕ → Type 0
AreReadBySame workers others count = (trace : ℕ) → trace < count → trace % workers ≡ trace % others

-- so where those that would have none aren't there
pub same_workers : (fewer workers count : ℕ) → fewer ≡ min workers count → AreReadBySame fewer workers count
same_workers fewer workers count is trace below = elim (cases_lt workers count) [
  | inl less ↦ ap (λ n. trace % n) (is ∙ min-eq_left (omega (arith, less)))
  | inr most ↦
      ap (λ n. trace % n) (is ∙ min-eq_right most)
      ∙ (mod-eq_of_lt below ∙ sym (mod-eq_of_lt (let b : trace < workers = omega (arith, below, most) in b)))
]

module _ (s : Numbers) (fewer workers : ℕ) where
  -- ---- the journal of a cone

  module _ (cone : ℕ) (traces : List (List Item)) (same : AreReadBySame fewer workers (length traces)) where
    brought : (packet : Packet) → IsBrought s fewer (length traces) packet → IsBrought s workers (length traces) packet
    brought packet by = record {
      some = by.some;
      few = by.few;
      of_them = by.of_them;
      by_is = by.by_is ∙ same packet.trace by.of_them;
    }

    woven : (history : List Packet) → IsWoven s cone fewer traces history → IsWoven s cone workers traces history
    woven history is = record { each = λ k d below. brought _ (is.each k d below); joined = is.joined; cut = is.cut }

    part_woven : (history : List Packet) → IsPartWoven s cone fewer traces history → IsPartWoven s cone workers traces history
    part_woven history is = record { each = λ k d below. brought _ (is.each k d below); joined = is.joined; cut = is.cut }

    part_held : (before : ℕ → List Packet) (seen : Files) → HoldsPartBehind before s fewer traces cone seen → HoldsPartBehind before s workers traces cone seen
    part_held before seen holds = record { history = holds.history; woven = part_woven holds.history holds.woven; sound = holds.sound }

    open_held : (before : ℕ → List Packet) (still : ℕ → ℕ → Type 0) (seen : Files) → HoldsOpenBehind before s fewer traces still cone seen →
        HoldsOpenBehind before s workers traces still cone seen
    open_held before still seen holds = record {
      history = holds.history;
      woven = part_woven holds.history holds.woven;
      sound = holds.sound;
      no_rest = holds.no_rest;
    }

  -- ---- all cones

  module _ {S B : Type 0} (past : Past) (remaining : S → Option (List ℕ)) (faults mark : S → ℕ) (files : B → Option Files) (leaves : B → Files → Type 0)
      (bay_faults bay_mark : B → ℕ) (opened were now : List S) (same : AreReadBySame fewer workers (length opened)) where
    -- of as many lists of items as there are traces
    of_items : (traces : List (List Item)) → length traces ≡ length opened → AreReadBySame fewer workers (length traces)
    of_items traces number = subst (AreReadBySame fewer workers) (sym number) same

    ingested_by : (cones : List (Standing B)) → AreIngestedBehind past remaining files leaves bay_faults s fewer opened now cones →
        AreIngestedBehind past remaining files leaves bay_faults s workers opened now cones
    ingested_by cones are = record {
      traces = are.traces;
      items = are.items;
      read = are.read;
      weaving = λ number cone there. let one = are.weaving number cone there in record {
        history = one.history;
        woven = woven number are.traces (of_items are.traces are.items.number) one.history one.woven;
        stands = one.stands;
        sound = one.sound;
        settings_are = one.settings_are;
        number_is = one.number_is;
        state_is = one.state_is;
        closed_is = one.closed_is;
      };
      fits = are.fits;
    }

    module _ (bays held later : List B) where
      held_partly : (traces : List (List Item)) → length traces ≡ length opened → ArePartWovenBehind past.before files s fewer later traces →
          ArePartWovenBehind past.before files s workers later traces
      held_partly traces number are cone bay there seen told = part_held cone traces (of_items traces number) past.before seen (are cone bay there seen told)

      open_by : (still : ℕ → ℕ → Type 0) → AreOpenPartlyBehind past remaining faults files bay_faults s fewer opened were now bays held later still →
          AreOpenPartlyBehind past remaining faults files bay_faults s workers opened were now bays held later still
      open_by still are = record {
        traces = are.traces;
        items = are.items;
        woven = held_partly are.traces are.items.number are.woven;
        still = λ cone before after was is faultless seen told.
            open_held cone are.traces (of_items are.traces are.items.number) past.before still seen (are.still cone before after was is faultless seen told);
      }

      stops_by : (answer : Status) → StopShowsBehind past remaining faults files bay_faults s fewer opened were now bays held later answer →
          StopShowsBehind past remaining faults files bay_faults s workers opened were now bays held later answer
      stops_by answer (trace_fault trace failed part) = trace_fault trace failed (open_by _ part)
      stops_by answer (bad_trace trace at bad part) = bad_trace trace at bad (open_by _ part)
      stops_by answer (too_long trace long part) = too_long trace long (open_by _ part)
      stops_by answer (bay_fault cone failed part) = bay_fault cone failed (open_by _ part)
      stops_by answer (malformed cone file at untold part) = malformed cone file at untold (open_by _ part)
      stops_by answer (capacity_full cone n len full has trace part) =
          capacity_full cone n len full (record { traces = has.traces; items = has.items; enough = has.enough }) trace (open_by _ part)
      stops_by answer (weight_full cone weight more heavy has trace part) =
          weight_full cone weight more heavy (record { traces = has.traces; items = has.items; enough = has.enough }) trace (open_by _ part)
      stops_by answer (out_of_memory same_traces same_bays) = out_of_memory same_traces same_bays

    -- what a crew of fewer leaves, said of more
    pub ingested_fewer : (bays : List B) (firsts backs : List (Standing B)) (result : Result (Unit {0}) Status) →
        HasIngestedBehind past remaining faults mark files leaves bay_faults bay_mark s fewer opened were now bays firsts backs result →
        HasIngestedBehind past remaining faults mark files leaves bay_faults bay_mark s workers opened were now bays firsts backs result
    ingested_fewer bays firsts backs result has = record {
      later = has.later;
      traces_later = has.traces_later;
      read = reads result has.read;
      stopped = stopped result has.stopped;
      exact = exact_turned_behind remaining faults files bay_faults s past opened were now fewer workers bays (bays_of firsts) (bays_of backs) bays (bays_of firsts) (bays_of backs) _ _ _ _ (λ texts are. (
        record { told = are.told; faultless = are.faultless; traces_faultless = are.traces_faultless; bytes_are = are.bytes_are; few = are.few },
        λ ok. ok,
        λ one failed. failed,
      )) has.exact;
    }
      where
        reads : (answer : Result (Unit {0}) Status) → OnOk answer (AreIngestedBehind past remaining files leaves bay_faults s fewer opened now backs) →
            OnOk answer (AreIngestedBehind past remaining files leaves bay_faults s workers opened now backs)
        reads (Ok done) are = ingested_by backs are
        reads (Err status) are = tt

        stopped : (answer : Result (Unit {0}) Status) → IfErr answer (StopShowsBehind past remaining faults files bay_faults s fewer opened were now bays (bays_of firsts) (bays_of backs)) →
            IfErr answer (StopShowsBehind past remaining faults files bay_faults s workers opened were now bays (bays_of firsts) (bays_of backs))
        stopped (Ok done) shows = tt
        stopped (Err status) shows = stops_by bays (bays_of firsts) (bays_of backs) status shows
