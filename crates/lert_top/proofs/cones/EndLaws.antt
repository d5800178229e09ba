-- What the end of all cones says of their journals and of what is printed.
use Rattle.std.proofs.Common.{◌≡◌, ◌⊎◌, ℕ, ◌+◌, ◌^◌, ◌<◌, ◌≤◌, zero, suc, false, List, [], ◌∷◌, length, map, Option, Some, None, slice_get, refl, ap, sym, ◌∙◌, subst, inl, inr, arith}
use Rattle.std.proofs.{lemmas.Bool.{cases_eq, cases_lt}, lemmas.List.length-map, lemmas.Nat.pow_pos, lemmas.Option.{slice_get_within, same_Some}}
use Rattle.lert_bay.specs.Files.{Files, IfTold}
use Rattle.lert_cone.specs.{Sound.{IsSound, IsSoundAs}, Stands.{Standing, is_broken}}
use Rattle.lert_base.specs.declared.cone_fault.ConeFault.{ConeFault}
use Rattle.lert_base.specs.declared.cone_fault.ConeFault.TheVariants as fault
use Rattle.lert_spec.specs.{declared.item.Item.Item, declared.numbers.Numbers.Numbers, Edges.capacity, Limits.IsValid, Lines.{Printed, lines}}
use Rattle.lert_ingest.specs.Bays.{AreLater, AreWoven, HoldsAll, HoldsWeave, IfHeld, IsLater, bays_of}
use Rattle.lert_ingest.specs.{Status.cone_status, Stops.{AreTaken, AreWeaving}, Traces.part_length, declared.status.Status.Status}
use Rattle.lert_ingest.proofs.BayLaws.{bay_at, bay_is, slice_get-some}
use Rattle.lert_top.specs.cones.Finish.{AreClosed, AreEndedTo, AreFinished, AreFinishedTo, EndShows, end_failed, end_malformed, HasBroken, HasStopped, IsEnded, IsFinished}
use Rattle.lert_top.specs.{cones.Print.{ArePrintable, printed_as}, cones.Printed.IsPrinted}
use Rattle.lert_top.proofs.cones.TakenLaws.{taken_since}
use Rattle.lert_top.proofs.{cones.FinishLaws.{ended_as, ended_same, ended_woven, events_fit, finished_printed, finished_reports, still_valid}, cones.PrintedLaws.printed_all}
use Rattle.lert_top.proofs.cones.WovenLaws.{woven_length}

-- what is printed of a cone stands at its place
pub printed_at : {B : Type 0} (cones : List (Standing B)) (at : ℕ) (cone : Standing B) → slice_get cones at ≡ Some cone → slice_get (map printed_as cones) at ≡ Some (printed_as cone)
printed_at (cone ∷ cones) zero other is = ap (λ (o : Standing _). Some (printed_as o)) (same_Some cone other is)
printed_at (cone ∷ cones) (suc at) other is = printed_at cones at other is
printed_at [] at other is = absurd (cc)

module _ {B : Type 0} (files : B → Option Files) (leaves : B → Files → Type 0) (faults mark : B → ℕ) (old new : List (Standing B)) where
  ended_at : (number from : ℕ) → AreFinishedTo files leaves faults mark number from old new → (cone : ℕ) (before now : Standing B) → (cone < number) ⊎ (from ≤ cone) →
      slice_get old cone ≡ Some before → slice_get new cone ≡ Some now → IsEnded files leaves faults mark before now
  ended_at number from are cone before now (inl less) was is = (are.below cone before now less was is).ended
  ended_at number from are cone before now (inr above) was is =
      subst (IsEnded files leaves faults mark before) (same_Some before now (sym was ∙ (sym (are.above cone above) ∙ is))) (ended_same files leaves faults mark before)

  pub AreAllEnded : Type 0
  AreAllEnded = (cone : ℕ) (before now : Standing B) → slice_get old cone ≡ Some before → slice_get new cone ≡ Some now → IsEnded files leaves faults mark before now

  pub finished_ended : AreFinished files leaves faults mark old new → (cone : ℕ) (before now : Standing B) → slice_get old cone ≡ Some before → slice_get new cone ≡ Some now →
      IsEnded files leaves faults mark before now
  finished_ended are cone before now was is = ended_at (length old) (length old) are cone before now (inl (slice_get_within old cone before was)) was is

  pub stopped_ended : (status : Status) → HasStopped files leaves faults mark old new status → (cone : ℕ) (before now : Standing B) → slice_get old cone ≡ Some before →
      slice_get new cone ≡ Some now → IsEnded files leaves faults mark before now
  stopped_ended status stopped cone before now was is =
      elim (cases_lt cone stopped.cone) [
        | inl less ↦ ended_at stopped.cone (stopped.cone + 1) stopped.others cone before now (inl less) was is
        | inr above ↦ elim (cases_eq cone stopped.cone) [
          | inl same ↦
              let before_is = same_Some stopped.before before (sym stopped.was ∙ (ap (slice_get old) (sym same) ∙ was)) in
              let now_is = same_Some stopped.now now (sym stopped.is ∙ (ap (slice_get new) (sym same) ∙ is)) in
              subst (λ x. IsEnded files leaves faults mark x now) before_is (subst (IsEnded files leaves faults mark stopped.before) now_is stopped.broke.ended)
          | inr differs ↦ ended_at stopped.cone (stopped.cone + 1) stopped.others cone before now (inr (omega (arith, above, differs))) was is
        ]
      ]

  -- the bays later
  pub ends_later : length new ≡ length old →
      ((cone : ℕ) (before now : Standing B) → slice_get old cone ≡ Some before → slice_get new cone ≡ Some now → IsEnded files leaves faults mark before now) →
      AreLater files faults mark (bays_of old) (bays_of new)
  ends_later number ended = record {
    number = length-map new (λ (c : Standing B). c.bay) ∙ (number ∙ sym (length-map old (λ (c : Standing B). c.bay)));
    each = λ cone before now was is.
        let a = slice_get-some old cone (omega (arith, slice_get_within (bays_of old) cone before was, length-map old (λ (c : Standing B). c.bay))) in
        let b = slice_get-some new cone (omega (arith, slice_get_within (bays_of new) cone now is, length-map new (λ (c : Standing B). c.bay))) in
        let later = (ended cone a.0 b.0 a.1 b.1).later in
        subst (λ x. IsLater files faults mark x now) (sym (bay_is old cone a.0 before a.1 was))
        (subst (λ y. IsLater files faults mark a.0.bay y) (sym (bay_is new cone b.0 now b.1 is)) later);
  }

  module _ (s : Numbers) (workers : ℕ) (traces : List (List Item)) (weaving : AreWeaving files leaves faults s workers traces old) where
    running_over : (cone : ℕ) (before : Standing B) → slice_get old cone ≡ Some before → before.over ≡ None
    running_over cone before was = (weaving cone before was).stands.none_over (ap is_broken (weaving cone before was).state_is)

    -- what is so of the files of a cone is so of those of its bay
    of_bay : (cone : ℕ) (P : Files → Type 0) → length new ≡ length old →
        ((before now : Standing B) → slice_get old cone ≡ Some before → slice_get new cone ≡ Some now → IfTold (files now.bay) P) → IfHeld files (bays_of new) cone P
    of_bay cone P number_is held bay there =
        let now = slice_get-some new cone (omega (arith, slice_get_within (bays_of new) cone bay there, length-map new (λ (c : Standing B). c.bay))) in
        let before = slice_get-some old cone (omega (arith, slice_get_within new cone now.0 now.1, number_is)) in
        subst (λ x. IfTold (files x) P) (sym (bay_is new cone now.0 bay now.1 there)) (held before.0 now.0 before.1 now.1)

    -- a cone that was finished is closed
    held_closed : (cone : ℕ) (before now : Standing B) → slice_get old cone ≡ Some before → IsFinished files leaves faults mark before now →
        IfTold (files now.bay) (HoldsWeave s workers traces cone)
    held_closed cone before now was finished seen told =
        let held = finished_reports files leaves faults mark s workers traces cone before now (weaving cone before was) finished.ended finished.listing_is finished.state_is seen told in
        record { history = held.history; woven = held.woven; sound = held.sound }

    -- one to which the end didn't come isn't
    held_open : (cone : ℕ) (before : Standing B) → slice_get old cone ≡ Some before → IfTold (files before.bay) (HoldsAll s workers traces cone (IsSoundAs s cone false))
    held_open cone before was =
        let at = weaving cone before was in
        subst (λ b. IfTold (files before.bay) (HoldsAll s workers traces cone (IsSoundAs s cone b))) at.closed_is
        (ended_as files leaves faults mark s workers traces cone before before at (ended_same files leaves faults mark before) (ap is_broken at.state_is))

    stopped_at : (status : Status) (stopped : HasStopped files leaves faults mark old new status) → AreEndedTo files s workers traces (bays_of new) stopped.cone
    stopped_at status stopped = record {
      below = λ other less. of_bay other (HoldsWeave s workers traces other) stopped.others.number_is
          (λ before now was is. held_closed other before now was (stopped.others.below other before now less was is));
      here = of_bay stopped.cone (HoldsAll s workers traces stopped.cone (IsSound s stopped.cone)) stopped.others.number_is (λ before now was is.
          subst (λ (x : Standing B). IfTold (files x.bay) (HoldsAll s workers traces stopped.cone (IsSound s stopped.cone))) (same_Some stopped.now now (sym stopped.is ∙ is))
          (ended_woven files leaves faults mark s workers traces stopped.cone stopped.before stopped.now (weaving stopped.cone stopped.before stopped.was) stopped.broke.ended
          (stopped.broke.over_is ∙ running_over stopped.cone stopped.before stopped.was)));
      above = λ other more. of_bay other (HoldsAll s workers traces other (IsSoundAs s other false)) stopped.others.number_is (λ before now was is.
          subst (λ (x : Standing B). IfTold (files x.bay) (HoldsAll s workers traces other (IsSoundAs s other false)))
          (same_Some before now (sym was ∙ (sym (stopped.others.above other (omega (arith, more))) ∙ is))) (held_open other before was));
    }

    -- why the cones weren't all finished
    pub stopped_shows : {K : Type 0} (taken : K → Option (List ℕ)) (sink_faults : K → ℕ) (sink : K) (status : Status) → HasStopped files leaves faults mark old new status →
        EndShows taken sink_faults files faults s workers traces sink sink (bays_of old) (bays_of new) status
    stopped_shows taken sink_faults sink status stopped =
        subst (EndShows taken sink_faults files faults s workers traces sink sink (bays_of old) (bays_of new)) (sym stopped.status_is) (by_fault stopped.fault stopped.broke)
      where
        ends : AreEndedTo files s workers traces (bays_of new) stopped.cone
        ends = stopped_at status stopped

        by_fault : (f : ConeFault) → HasBroken files leaves faults mark f stopped.before stopped.now →
            EndShows taken sink_faults files faults s workers traces sink sink (bays_of old) (bays_of new) (cone_status stopped.cone f)
        by_fault fault.Closed broke = absurd (let clash = broke.broke in cc)
        by_fault fault.Broken broke = absurd (let clash = broke.broke in cc)
        by_fault (fault.CapacityFull n len) broke = absurd (let clash = broke.broke in cc)
        by_fault (fault.WeightFull weight more) broke = absurd (let clash = broke.broke in cc)
        by_fault (fault.OldJournal place) broke = absurd (let clash = broke.broke in cc)
        by_fault fault.BayFailed broke = end_failed stopped.cone (record {
          before = stopped.before.bay;
          now = stopped.now.bay;
          was = bay_at old stopped.cone stopped.before stopped.was;
          is = bay_at new stopped.cone stopped.now stopped.is;
          rose = broke.by_bay refl;
        }) refl ends
        by_fault (fault.Unsound file at) broke =
            let was = weaving stopped.cone stopped.before stopped.was in
            let none = broke.by_read file at refl was.history was.stands was.sound in
            end_malformed stopped.cone file at (record {
              named = slice_get_within (bays_of old) stopped.cone stopped.before.bay (bay_at old stopped.cone stopped.before stopped.was);
              untold = λ bay there seen told. let clash = sym none ∙ (ap files (sym (bay_is old stopped.cone stopped.before bay stopped.was there)) ∙ told) in cc;
            }) refl ends

    module _ (number : length old ≡ 2 ^ s.cone_bits) (are : AreFinished files leaves faults mark old new) where
      -- the cone at a place, as it was and as it is
      pair_at : (cone : ℕ) (now : Standing B) → slice_get new cone ≡ Some now → (before : Standing B) × (slice_get old cone ≡ Some before)
      pair_at cone now is = slice_get-some old cone (omega (arith, slice_get_within new cone now is, are.number_is))

      pub finished_printable : ArePrintable s new
      finished_printable cone now is =
          let before = pair_at cone now is in
          let finished = are.below cone before.0 now (slice_get_within old cone before.0 before.1) before.1 is in
          (ap is_broken finished.state_is, finished.ended.same.settings ∙ (weaving cone before.0 before.1).settings_are)

      pub all_within : (cone : ℕ) → cone < 2 ^ s.cone_bits → part_length s cone traces ≤ capacity s
      all_within cone named =
          let before = slice_get-some old cone (omega (arith, named, number)) in
          let at = weaving cone before.0 before.1 in
          omega (
            arith,
            events_fit files leaves faults mark s workers traces cone before.0 before.0 at (ended_same files leaves faults mark before.0),
            woven_length s cone workers traces at.history at.woven,
          )

      all_woven : AreWoven files s workers (bays_of new) traces
      all_woven cone = of_bay cone (HoldsWeave s workers traces cone) are.number_is
          (λ before now was is. held_closed cone before now was (are.below cone before now (slice_get_within old cone before was) was is))

      pub one_printed : (cone : ℕ) (one : Printed) → slice_get (map printed_as new) cone ≡ Some one → IsPrinted files s workers (bays_of new) traces cone one
      one_printed cone one is =
          let now = slice_get-some new cone (omega (arith, slice_get_within (map printed_as new) cone one is, length-map new printed_as)) in
          let before = pair_at cone now.0 now.1 in
          let finished = are.below cone before.0 now.0 (slice_get_within old cone before.0 before.1) before.1 now.1 in
          let same = same_Some one (printed_as now.0) (sym is ∙ printed_at new cone now.0 now.1) in
          subst (IsPrinted files s workers (bays_of new) traces cone) (sym same)
          (finished_printed files leaves faults mark s workers traces cone before.0 now.0 (weaving cone before.0 before.1) finished.ended finished.listing_is finished.state_is (bays_of new)
          (bay_at new cone now.0 now.1))

      pub all_valid : IsValid s
      all_valid =
          let some : 0 < length old = omega (arith, number, pow_pos s.cone_bits) in
          let first = slice_get-some old 0 some in
          still_valid files leaves faults mark s workers traces 0 first.0 first.0 (weaving 0 first.0 first.1) (ended_same files leaves faults mark first.0)

      -- the text of all cones is that of the reports of their journals
      pub finished_closed : AreTaken files s traces (bays_of old) → (P : List ℕ → Type 0) → P (lines (map printed_as new)) → AreClosed files s workers traces (bays_of new) P
      finished_closed fits P text = record {
        fits = taken_since files faults mark s traces (bays_of old) (bays_of new)
            (ends_later are.number_is (finished_ended are)) fits;
        woven = all_woven;
        cones = map printed_as new;
        printed = printed_all files s all_valid workers (bays_of new) traces (map printed_as new) (length-map new printed_as ∙ (are.number_is ∙ number))
            (omega (arith, length-map new (λ (c : Standing B). c.bay), are.number_is, number)) one_printed;
        text = text;
      }
