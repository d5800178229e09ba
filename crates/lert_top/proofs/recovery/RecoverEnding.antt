-- Which status a recovery ends with.
use Rattle.std.proofs.{Common.{◌≡◌, ◌≢◌, ◌⊎◌, ℕ, ◌^◌, ◌<◌, ◌≤◌, List, length, Option, Some, slice_get, refl, ap, ◌∙◌, subst, inl, inr, arith}, lemmas.Bool.cases_lt, lemmas.Option.slice_get_within}
use Rattle.lert_base.specs.declared.kept.Kept.{Kept}
use Rattle.lert_bay.specs.Files.{Files}
use Rattle.lert_io.specs.Fault.{IsFaultless}
use Rattle.lert_files.specs.Headed.{HasOther}
use Rattle.lert_recover.specs.Replayed.{FirstLeaves}
use Rattle.lert_spec.specs.declared.numbers.Numbers.{Numbers}
use Rattle.lert_ingest.specs.{Bays.{AreFaultless, AreFaultlessTo, HasFailed, IfHeld}, declared.status.Status.Status}
use Rattle.lert_ingest.specs.declared.status.Status.TheVariants.{Done, Usage, PlaceFault, Malformed, OtherSettings, OutOfMemory}
use Rattle.lert_top.specs.recovery.Recovered.{AreJournalsSame, AreSoundBelow, AreSoundStill, HasRecovered, LowerAreFormed, NoneIsSound, RecoveryShows, printed, printed_partly, unopened}
use Rattle.lert_top.specs.recovery.Recovered.{unopened_failed, unopened_memory, unopened_other, unopened_spoiled}
use Rattle.lert_ingest.proofs.BayLaws.{slice_get-some}
use Rattle.lert_top.proofs.cones.StatusLaws.{failed_or_not, no_rise}

module _ {K B : Type 0} (taken : K → Option (List ℕ)) (sink_faults : K → ℕ) (files : B → Option Files) (bay_faults : B → ℕ) (s : Numbers) (before after : K) (bays later : List B) where
  abbrev Shows : Status → Type 0
  Shows = RecoveryShows taken sink_faults files bay_faults s before after bays later

  -- a recovery ends neither in a fault of the place nor in one of the words
  no_place : Shows PlaceFault → ⊥
  no_place (unopened shows same) = elim shows [ ]

  no_usage : (rule : ℕ) → Shows (Usage rule) → ⊥
  no_usage rule (unopened shows same) = elim shows [ ]

  pub recovery_not_place_fault : (status : Status) → Shows status → status ≡ PlaceFault → ⊥
  recovery_not_place_fault status shows is = no_place (subst Shows is shows)

  pub recovery_not_usage : (rule : ℕ) (status : Status) → Shows status → status ≡ Usage rule → ⊥
  recovery_not_usage rule status shows is = no_usage rule (subst Shows is shows)

  -- a cone below a number isn't one whose files are sound for no list
  sound_or_not : (number cone : ℕ) → AreSoundBelow files s bays number → cone < number → cone < length bays → IfHeld files bays cone (NoneIsSound s cone) → ⊥
  sound_or_not number cone below named there unsound =
      let bay = slice_get-some bays cone there in
      let held = below cone bay.0 named bay.1 in
      unsound bay.0 bay.1 held.0 held.1 held.2.0 held.2.1

  opens : (status : Status) → Shows status → AreFaultless bay_faults bays later → IsFaultless (sink_faults before) (sink_faults after) → AreSoundBelow files s bays (length bays) →
      (status ≡ Done) ⊎ (status ≡ OutOfMemory)
  opens status (printed formed cones are text) none kept sound = inl refl
  opens status (printed_partly formed cones are risen part) none kept sound = absurd (no_rise (sink_faults before) (sink_faults after) kept risen)
  opens status (unopened (unopened_failed cone risen lower rest) same) none kept sound = absurd (failed_or_not bay_faults bays later cone none risen)
  opens status (unopened (unopened_spoiled cone file at is lower rest) same) none kept sound = absurd (sound_or_not (length bays) cone sound is.named is.named is.unsound)
  opens status (unopened (unopened_other cone is lower rest) same) none kept sound = absurd (sound_or_not (length bays) cone sound is.named is.named is.unsound)
  opens status (unopened (unopened_memory kept_all) same) none kept sound = inr refl

  module _ (cone : ℕ) (none : AreFaultlessTo bay_faults cone bays later) (bay : B) (there : slice_get bays cone ≡ Some bay) (below : AreSoundBelow files s bays cone) (seen : Files)
      (told : files bay ≡ Some seen) (named : cone < length bays) where
    -- no bay up to that of the cone failed
    none_failed : (other : ℕ) → other ≤ cone → HasFailed bay_faults bays later other → ⊥
    none_failed other reached failed = no_rise (bay_faults failed.before) (bay_faults failed.now) (none other failed.before failed.now failed.was failed.is reached) failed.rose

    -- what is so where all below a cone are in their format, and none has other numbers
    abbrev Formed : Type 0
    Formed = ((file at : ℕ) → FirstLeaves s cone seen file at → ⊥) × ((kept : Kept) → HasOther s cone (seen 0) kept → ⊥)

    module _ (broken : Formed → ⊥) where
      not_failed : (other : ℕ) → HasFailed bay_faults bays later other → LowerAreFormed files s bays other → ⊥
      not_failed other risen lower = elim (cases_lt cone other) [ inl under ↦ broken (lower cone under bay there seen told) | inr reached ↦ none_failed other reached risen ]

      -- one that isn't sound, and below which all are, is this one
      same_cone : (other : ℕ) → other < length bays → IfHeld files bays other (NoneIsSound s other) → LowerAreFormed files s bays other → other ≡ cone
      same_cone other inside unsound lower = elim (cases_lt other cone) [
        | inl less ↦ absurd (sound_or_not cone other below less inside unsound)
        | inr above ↦ elim (cases_lt cone other) [ inl under ↦ absurd (broken (lower cone under bay there seen told)) | inr reached ↦ omega (arith, above, reached) ]
      ]

    spoiled_comes : (file at : ℕ) → FirstLeaves s cone seen file at → (status : Status) → Shows status → (status ≡ Malformed cone file at) ⊎ (status ≡ OutOfMemory)
    spoiled_comes file at leaves status shows = by_row status shows
      where
        broken : Formed → ⊥
        broken formed = formed.0 file at leaves

        by_row : (status : Status) → Shows status → (status ≡ Malformed cone file at) ⊎ (status ≡ OutOfMemory)
        by_row status (printed formed cones are text) = absurd (broken (formed cone named bay there seen told))
        by_row status (printed_partly formed cones are risen part) = absurd (broken (formed cone named bay there seen told))
        by_row status (unopened (unopened_failed other risen lower rest) same) = absurd (not_failed broken other risen lower)
        by_row status (unopened (unopened_spoiled other one place is lower rest) same) =
            let here = same_cone broken other is.named is.unsound lower in
            let first = subst (λ c. IfHeld files bays c (λ seen. (file at : ℕ) → FirstLeaves s c seen file at → (one ≡ file) × (place ≡ at))) here is.first in
            let equal = first bay there seen told file at leaves in
            inl (ap (λ c. Malformed c one place) here ∙ (ap (λ f. Malformed cone f place) equal.0 ∙ ap (Malformed cone file) equal.1))
        by_row status (unopened (unopened_other other is lower rest) same) =
            let formed = subst (λ c. IfHeld files bays c (λ seen. (file at : ℕ) → FirstLeaves s c seen file at → ⊥)) (same_cone broken other is.named is.unsound lower) is.formed in
            absurd (formed bay there seen told file at leaves)
        by_row status (unopened (unopened_memory kept_all) same) = inr refl

    other_comes : (kept : Kept) → HasOther s cone (seen 0) kept → (status : Status) → Shows status → (status ≡ OtherSettings cone) ⊎ (status ≡ OutOfMemory)
    other_comes kept other_is status shows = by_row status shows
      where
        broken : Formed → ⊥
        broken formed = formed.1 kept other_is

        by_row : (status : Status) → Shows status → (status ≡ OtherSettings cone) ⊎ (status ≡ OutOfMemory)
        by_row status (printed formed cones are text) = absurd (broken (formed cone named bay there seen told))
        by_row status (printed_partly formed cones are risen part) = absurd (broken (formed cone named bay there seen told))
        by_row status (unopened (unopened_failed other risen lower rest) same) = absurd (not_failed broken other risen lower)
        by_row status (unopened (unopened_spoiled other one place is lower rest) same) =
            let own = subst (λ c. IfHeld files bays c (λ seen. (kept : Kept) → HasOther s c (seen 0) kept → ⊥)) (same_cone broken other is.named is.unsound lower) is.own in
            absurd (own bay there seen told kept other_is)
        by_row status (unopened (unopened_other other is lower rest) same) = inl (ap OtherSettings (same_cone broken other is.named is.unsound lower))
        by_row status (unopened (unopened_memory kept_all) same) = inr refl

  -- what a status shows decides which one comes
  pub has_recovered : (status : Status) → Shows status → (status ≢ OutOfMemory → length bays ≡ 2 ^ s.cone_bits) → AreJournalsSame files bays later →
      AreSoundStill files s bays later →
      HasRecovered taken sink_faults files bay_faults s before after bays later status
  has_recovered status shows number journals stays_sound = record {
    shows = shows;
    number = number;
    journals = journals;
    stays_sound = stays_sound;
    opens = opens status shows;
    spoiled_exactly = λ cone none bay there below seen told file at leaves.
        spoiled_comes cone none bay there below seen told (slice_get_within bays cone bay there) file at leaves status shows;
    other_exactly = λ cone none bay there below seen told kept other_is.
        other_comes cone none bay there below seen told (slice_get_within bays cone bay there) kept other_is status shows;
  }
