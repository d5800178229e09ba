-- Cones that took all items, and are finished one by one.
use Rattle.std.proofs.{Common.{◌≡◌, ℕ, ◌+◌, ◌≤◌, Bool, true, false, List, length, set, Option, Some, None, slice_get, refl, ap, sym, ◌∙◌, subst, inl, inr, arith}, lemmas.Bool.cases_eq}
use Rattle.std.proofs.{lemmas.List.length-set, lemmas.Option.{slice_get_within, same_Some}}
use Rattle.lert_base.specs.Packet.{Packet, events_of}
use Rattle.lert_bay.specs.Files.{Files, IfTold}
use Rattle.lert_cone.specs.{Listing.{Listing, reports_of}, Sound.{IsSound, IsSoundAs, IsSoundOver}, Stands.{IsSameCone, Standing, StandsFor, WasSound, is_broken, is_finished}}
use Rattle.lert_cone.specs.declared.state.ConeState.TheVariants.{Finished}
use Rattle.lert_spec.specs.{declared.item.Item.Item, declared.numbers.Numbers.Numbers, Edges.capacity, Limits.IsValid, Counts.weighed, Look.closing_of, Timely.IsTimelyIn}
use Rattle.lert_spec.proofs.TimeBound.{timely_closing}
use Rattle.lert_ingest.specs.{Bays.HoldsAll, Stops.IsWeaving, Traces.part_length}
use Rattle.lert_ingest.proofs.BayLaws.{later_same, slice_get-set_other, slice_get-set_same}
use Rattle.lert_top.specs.{cones.Finish.{AreFinishedTo, IsEnded, IsFinished}, cones.Print.printed_as, cones.Printed.{HoldsReported, IsPrinted}}
use Rattle.lert_top.proofs.cones.WovenLaws.{woven_length}

module _ {B : Type 0} (files : B → Option Files) (leaves : B → Files → Type 0) (faults mark : B → ℕ) where
  pub sound_still : (old new : Standing B) → IsSameCone old new → WasSound files old → WasSound files new
  sound_still old new same sound = λ first told.
      let was = sound first (ap files (sym same.made) ∙ told) in (
        was.0,
        subst (λ n. IsSound new.listing.settings n was.0 first) (sym same.cone) (subst (λ (t : Numbers). IsSound t old.listing.cone was.0 first) (sym same.settings) was.1),
      )

  pub ended_same : (cone : Standing B) → IsEnded files leaves faults mark cone cone
  ended_same cone = record {
    same = record { settings = refl; cone = refl; made = refl; last = refl };
    later = later_same files faults mark cone.bay;
    stands = λ history stands. stands;
  }

  -- one cone more was finished
  pub finished_none : (old : List (Standing B)) → AreFinishedTo files leaves faults mark 0 0 old old
  finished_none old = record { number_is = refl; below = λ cone before now less was is. absurd (omega (arith, less)); above = λ cone from. refl }

  module _ (at : ℕ) (old new : List (Standing B)) (before now : Standing B) (so_far : AreFinishedTo files leaves faults mark at at old new) (found : slice_get new at ≡ Some before) where
    pub was_there : slice_get old at ≡ Some before
    was_there = sym (so_far.above at (omega arith)) ∙ found

    pub is_there : slice_get (set new at now) at ≡ Some now
    is_there = slice_get-set_same new at now (slice_get_within new at before found)

    pub finished_more : IsFinished files leaves faults mark before now → AreFinishedTo files leaves faults mark (at + 1) (at + 1) old (set new at now)
    finished_more finished = record {
      number_is = length-set new at now ∙ so_far.number_is;
      below = λ cone first last less was is.
          elim (cases_eq cone at) [
            | inl same ↦
                let first_is = same_Some before first (sym was_there ∙ (ap (slice_get old) (sym same) ∙ was)) in
                let last_is = same_Some now last (sym is_there ∙ (ap (slice_get (set new at now)) (sym same) ∙ is)) in
                subst (λ x. IsFinished files leaves faults mark x last) first_is (subst (IsFinished files leaves faults mark before) last_is finished)
            | inr differs ↦ so_far.below cone first last (omega (arith, less, differs)) was (sym (slice_get-set_other new at cone now differs) ∙ is)
          ];
      above = λ cone from. slice_get-set_other new at cone now (λ same. absurd (omega (arith, from, same))) ∙ so_far.above cone (omega (arith, from));
    }

    pub finished_others : AreFinishedTo files leaves faults mark at (at + 1) old (set new at now)
    finished_others = record {
      number_is = length-set new at now ∙ so_far.number_is;
      below = λ cone first last less was is.
          so_far.below cone first last less was (sym (slice_get-set_other new at cone now (λ same. absurd (omega (arith, less, same)))) ∙ is);
      above = λ cone from. slice_get-set_other new at cone now (λ same. absurd (omega (arith, from, same))) ∙ so_far.above cone (omega (arith, from));
    }

  -- a cone of a number that took its part of the items of all traces
  module _ (s : Numbers) (workers : ℕ) (traces : List (List Item)) (number : ℕ) (old new : Standing B) (weaving : IsWeaving files leaves faults s workers traces number old)
      (ended : IsEnded files leaves faults mark old new) where
    stood : StandsFor files leaves faults new weaving.history
    stood = ended.stands weaving.history weaving.stands

    was : WasSound files new
    was = sound_still old new ended.same weaving.sound

    settings_is : new.listing.settings ≡ s
    settings_is = ended.same.settings ∙ weaving.settings_are

    cone_is : new.listing.cone ≡ number
    cone_is = ended.same.cone ∙ weaving.number_is

    pub still_valid : IsValid s
    still_valid = subst IsValid settings_is stood.valid

    pub events_are : new.events ≡ part_length s number traces
    events_are = sym stood.counted ∙ woven_length s number workers traces weaving.history weaving.woven

    pub events_fit : length (events_of weaving.history) ≤ capacity s
    events_fit = omega (arith, stood.counted, stood.within, ap capacity settings_is)

    of_cone : (history : List Packet) (seen : Files) → IsSound new.listing.settings new.listing.cone history seen → IsSound s number history seen
    of_cone history seen sound = subst (λ n. IsSound s n history seen) cone_is (subst (λ (t : Numbers). IsSound t new.listing.cone history seen) settings_is sound)

    -- its journal is woven, whether it is broken or not
    pub ended_woven : new.over ≡ None → IfTold (files new.bay) (HoldsAll s workers traces number (IsSound s number))
    ended_woven none = λ seen told. by_state seen told (is_broken new.state) refl
      where
        by_sound : (seen : Files) → IsSoundOver new.listing.settings new.listing.cone weaving.history new.over seen → HoldsAll s workers traces number (IsSound s number) seen
        by_sound seen (inl sound) = record { history = weaving.history; woven = weaving.woven; sound = of_cone weaving.history seen sound }
        by_sound seen (inr more) = absurd (let gone = sym none ∙ more.1 in cc)

        by_state : (seen : Files) → files new.bay ≡ Some seen → (b : Bool) → is_broken new.state ≡ b → HoldsAll s workers traces number (IsSound s number) seen
        by_state seen told false is = record {
          history = weaving.history;
          woven = weaving.woven;
          sound = of_cone weaving.history seen (stood.whole is was seen told).files.kept.as_read.sound;
        }
        by_state seen told true is = by_sound seen (stood.broken is was seen told).as_read

    -- and while it isn't broken, its files are closed just where its listing is
    sound_as : is_broken new.state ≡ false → IfTold (files new.bay) (IsSoundAs s number new.listing.closed weaving.history)
    sound_as whole = λ seen told. subst (λ n. IsSoundAs s n new.listing.closed weaving.history seen) cone_is
        (subst (λ (t : Numbers). IsSoundAs t new.listing.cone new.listing.closed weaving.history seen) settings_is (stood.whole whole was seen told).files.kept.as_read)

    pub ended_as : is_broken new.state ≡ false → IfTold (files new.bay) (HoldsAll s workers traces number (IsSoundAs s number new.listing.closed))
    ended_as whole = λ seen told. record { history = weaving.history; woven = weaving.woven; sound = sound_as whole seen told }

    module _ (listing_is : new.listing ≡ record old.listing { closed = true }) (state_is : new.state ≡ Finished) where
      closed_is : new.listing.closed ≡ true
      closed_is = ap (λ (l : Listing). l.closed) listing_is

      -- its reports are those of the closed journal
      pub finished_reports : IfTold (files new.bay) (HoldsReported s workers traces number new.reports)
      finished_reports = λ seen told.
          let whole = stood.whole (ap is_broken state_is) was seen told in
          record {
            history = weaving.history;
            woven = weaving.woven;
            sound = subst (λ (b : Bool). IsSoundAs s number b weaving.history seen) closed_is (sound_as (ap is_broken state_is) seen told);
            reports_are = reports whole.in_step.reports_are whole.keys;
            in_time = subst (IsTimelyIn weighed s.threshold s.bins (events_of weaving.history)) (sym (reports whole.in_step.reports_are whole.keys))
                (timely_closing weighed s (events_of weaving.history) still_valid events_fit);
          }
        where
          reports : new.reports ≡ reports_of new.listing → new.listing.events ≡ events_of weaving.history → new.reports ≡ closing_of weighed s (events_of weaving.history)
          reports are items =
              are
              ∙ ((λ i. reports_of (record { settings = settings_is i; version = new.listing.version; cone = new.listing.cone; events = items i; closed = closed_is i })))

      pub finished_printed : (bays : List B) → slice_get bays number ≡ Some new.bay → IsPrinted files s workers bays traces number (printed_as new)
      finished_printed bays there = record {
        events_are = events_are;
        closed_is = ap is_finished state_is;
        reports_are = λ bay is seen told. finished_reports seen (ap files (same_Some new.bay bay (sym there ∙ is)) ∙ told);
      }
