-- What cones that took all generated keys say once they are finished.
use Rattle.std.proofs.{Common.{◌≡◌, ℕ, ◌+◌, ◌^◌, ◌<◌, ◌≤◌, zero, suc, List, [], ◌∷◌, length, map, sum_by, Option, Some, slice_get, refl, ap, sym, ◌∙◌, subst, arith}, lemmas.List.length-map}
use Rattle.std.proofs.lemmas.Option.{slice_get_within, same_Some}
use Rattle.std.specs.List.{range_with_len}
use Rattle.lert_base.specs.Packet.{events_of}
use Rattle.lert_bay.specs.Files.{Files}
use Rattle.lert_cone.specs.Stands.{Standing}
use Rattle.lert_top.specs.{drills.Dealt.{AreDealt, all_dealt_items}, drills.Drilled.{DrillShows, Fits, drill_full, drill_memory, drill_status}, drills.Print.{drilled_as, keys_of}}
use Rattle.lert_top.specs.{cones.Finish.AreFinished, cones.Print.printed_as, cones.Printed.HoldsReported}
use Rattle.lert_top.proofs.{drills.DealtLaws.{dealt_items, part_length_is, sum_of_items}, drills.DrillTexts.{IsSameText, same_each, same_lines}, drills.HeavyTimes.{timely_times, times-append}}
use Rattle.lert_top.proofs.{drills.SameKeys.same_keys, drills.UnitLaws.weight-units}
use Rattle.lert_top.proofs.{cones.EndLaws.{all_valid, all_within, ends_later, finished_ended, one_printed, printed_at}, cones.WovenLaws.{weighs, weighs_as_parts}}
use Rattle.lert_gen.specs.Generated.{generated}
use Rattle.lert_ingest.specs.{Bays.{AreTold, bays_of}, Stops.{AreWeaving, StopShows, trace_fault, bad_trace, too_long, bay_fault, malformed, capacity_full, out_of_memory, weight_full}}
use Rattle.lert_ingest.specs.{Traces.part_length, declared.status.Status.Status}
use Rattle.lert_ingest.proofs.BayLaws.{bay_at, slice_get-some, told_later}
use Rattle.lert_spec.specs.{declared.numbers.Numbers.Numbers, declared.report.Report.Report, Counts.{heavy, weighed, weight_for}, Edges.capacity, Limits.IsValid, Mix.part_of}
use Rattle.lert_spec.proofs.ReportLaws.{times}
use Rattle.lert_text.specs.Drill.{Drilled, exclusive_or, drill_lines, drilled, drilled_of}

-- each cone takes its part
pub dealt_fits : (s : Numbers) (seed events : ℕ) → ((cone : ℕ) → cone < 2 ^ s.cone_bits → part_length s cone (all_dealt_items seed events) ≤ capacity s) → Fits s (generated seed events)
dealt_fits s seed events fits cone named = omega (arith, fits cone named, part_length_is seed events s cone)

module _ (s : Numbers) (valid : IsValid s) (workers seed events cone : ℕ) (reports : List Report) (seen : Files)
    (holds : HoldsReported s workers (all_dealt_items seed events) cone reports seen) where
  -- a key weighs in the journal as much as it stands often in the part of all keys
  weighs_same : (key : ℕ) → weighs key (events_of holds.history) ≡ times key (part_of s cone (generated seed events))
  weighs_same key =
      weighs_as_parts s cone workers (all_dealt_items seed events) holds.history holds.woven key
      ∙ sum_of_items seed events s cone (sum_by (weight_for weighed key)) (times key) (weight-units key) refl (times-append key)

  -- the reports of a cone that was closed name the heavy keys of its part of all keys, in another order
  reported : (length (keys_of reports) ≡ length (heavy s.threshold (part_of s cone (generated seed events))))
      × (exclusive_or (keys_of reports) ≡ exclusive_or (heavy s.threshold (part_of s cone (generated seed events))))
  reported =
      let part = part_of s cone (generated seed events) in
      same_keys (keys_of reports) (heavy s.threshold part)
      (λ key. timely_times weighed s.threshold s.bins (events_of holds.history) part reports valid.limits.threshold_from holds.in_time key (weighs_same key))

drilled_at : {B : Type 0} (cones : List (Standing B)) (at : ℕ) (cone : Standing B) → slice_get cones at ≡ Some cone → slice_get (map drilled_as cones) at ≡ Some (drilled_as cone)
drilled_at (cone ∷ cones) zero other is = ap (λ (o : Standing _). Some (drilled_as o)) (same_Some cone other is)
drilled_at (cone ∷ cones) (suc at) other is = drilled_at cones at other is
drilled_at [] at other is = absurd (cc)

module _ {B : Type 0} (files : B → Option Files) (leaves : B → Files → Type 0) (faults mark : B → ℕ) (s : Numbers) (workers seed events : ℕ) (old new : List (Standing B))
    (weaving : AreWeaving files leaves faults s workers (all_dealt_items seed events) old) (number : length old ≡ 2 ^ s.cone_bits)
    (are : AreFinished files leaves faults mark old new) (told : AreTold files (bays_of old)) where
  told_now : AreTold files (bays_of new)
  told_now = told_later files faults mark (bays_of old) (bays_of new) (ends_later files leaves faults mark old new are.number_is (finished_ended files leaves faults mark old new are)) told

  one_same : (at : ℕ) (one : Drilled) → slice_get (map drilled_as new) at ≡ Some one → IsSameText one (drilled_of s (generated seed events) (0 + at))
  one_same at one is =
      let now = slice_get-some new at (omega (arith, slice_get_within (map drilled_as new) at one is, length-map new drilled_as)) in
      let same = same_Some (drilled_as now.0) one (sym (drilled_at new at now.0 now.1) ∙ is) in
      let printed = one_printed files leaves faults mark old new s workers (all_dealt_items seed events) weaving number are at (printed_as now.0) (printed_at new at now.0 now.1) in
      let there = bay_at new at now.0 now.1 in
      let seen = told_now at now.0.bay there in
      let valid = all_valid files leaves faults mark old new s workers (all_dealt_items seed events) weaving number are in
      let keys = reported s valid workers seed events at now.0.reports seen.0 (printed.reports_are now.0.bay there seen.0 seen.1) in
      subst (λ n. IsSameText one (drilled_of s (generated seed events) n)) (let place : at ≡ 0 + at = omega arith in place)
      (subst (λ (x : Drilled). IsSameText x (drilled_of s (generated seed events) at)) same
      (record { events_are = printed.events_are ∙ part_length_is seed events s at; number_is = keys.0; keys_are = keys.1 }))

  -- the text of all cones is that of a plain count
  pub lines_same : drill_lines (map drilled_as new) ≡ drill_lines (drilled s (generated seed events))
  lines_same =
      let f = drilled_of s (generated seed events) in
      let all = map drilled_as new in
      same_lines all (map f (range_with_len 0 (length all))) (same_each f all 0 one_same)
      ∙ ap (λ n. drill_lines (map f (range_with_len 0 n))) (length-map new drilled_as ∙ (are.number_is ∙ number))

  pub finished_fits : Fits s (generated seed events)
  finished_fits = dealt_fits s seed events (all_within files leaves faults mark old new s workers (all_dealt_items seed events) weaving number are)

-- why reading stopped is the drill's status
module _ {S K B : Type 0} (remaining : S → Option (List ℕ)) (faults : S → ℕ) (taken : K → Option (List ℕ)) (sink_faults : K → ℕ) (files : B → Option Files)
    (bay_faults : B → ℕ) (s : Numbers) (workers seed events : ℕ) (opened now : List S) (sink : K) (bays later : List B) (are : AreDealt remaining seed events opened) where
  pub stopped_shows : (status : Status) → StopShows remaining faults files bay_faults s workers opened now bays later status →
      DrillShows taken sink_faults s seed events sink sink (drill_status status)
  stopped_shows status (capacity_full cone n len full has trace part) =
      let items = dealt_items seed events remaining opened has.traces are has.items in
      drill_full cone n len (record {
        named = full.named;
        some = full.some;
        few = full.few;
        over = full.over;
        enough = omega (arith, has.enough, ap (part_length s cone) items, part_length_is seed events s cone);
      }) refl
  stopped_shows status (trace_fault trace risen part) = drill_memory refl
  stopped_shows status (bad_trace trace at bad part) = drill_memory refl
  stopped_shows status (too_long trace long part) = drill_memory refl
  stopped_shows status (bay_fault cone risen part) = drill_memory refl
  stopped_shows status (malformed cone file at untold part) = drill_memory refl
  stopped_shows status (weight_full cone weight more heavy has trace part) = drill_memory refl
  stopped_shows status (out_of_memory same_traces same_bays) = drill_memory refl
