-- Cones that were finished leave closed journals, whatever a crash leaves of them.
use Rattle.std.proofs.{Common.{◌≡◌, ℕ, ◌^◌, ◌<◌, Bool, true, List, length, Option, slice_get, ap, sym, ◌∙◌, subst, arith}, lemmas.List.length-map, lemmas.Option.slice_get_within}
use Rattle.lert_base.specs.declared.cone_fault.ConeFault.{ConeFault}
use Rattle.lert_base.specs.declared.cone_fault.ConeFault.TheVariants as fault
use Rattle.lert_bay.specs.Files.{Files}
use Rattle.lert_cone.specs.{Listing.Listing, Sound.{IsKept, IsSoundAs}, Stands.{Standing, is_broken}}
use Rattle.lert_spec.specs.{declared.item.Item.Item, declared.numbers.Numbers.Numbers}
use Rattle.lert_ingest.specs.{Bays.bays_of, Status.cone_status, Stops.{AreWeaving, IsWeaving}}
use Rattle.lert_ingest.specs.declared.status.Status.TheVariants.{BayFault, CapacityFull, Done, Malformed, OutOfMemory, PlaceFault, WeightFull}
use Rattle.lert_ingest.proofs.BayLaws.{bay_is, slice_get-some}
use Rattle.lert_top.specs.{cones.Closed.{AreClosedInEach, AreReturnedClosed, IsClosedInEach}, cones.Finish.{AreFinished, IsFinished}}
use Rattle.lert_top.proofs.cones.FinishLaws.{sound_still}

-- ---- a status that no finished cones have

memory_not_done : OutOfMemory ≡ Done → ⊥
memory_not_done same = cc

full_not_done : (cone n len : ℕ) → CapacityFull cone n len ≡ Done → ⊥
full_not_done cone n len same = cc

heavy_not_done : (cone weight more : ℕ) → WeightFull cone weight more ≡ Done → ⊥
heavy_not_done cone weight more same = cc

bay_not_done : (cone : ℕ) → BayFault cone ≡ Done → ⊥
bay_not_done cone same = cc

unsound_not_done : (cone file at : ℕ) → Malformed cone file at ≡ Done → ⊥
unsound_not_done cone file at same = cc

pub place_not_done : PlaceFault ≡ Done → ⊥
place_not_done same = cc

pub stopped_not_done : (cone : ℕ) (f : ConeFault) → cone_status cone f ≡ Done → ⊥
stopped_not_done cone fault.Closed same = memory_not_done same
stopped_not_done cone fault.Broken same = memory_not_done same
stopped_not_done cone (fault.CapacityFull n len) same = full_not_done cone n len same
stopped_not_done cone fault.BayFailed same = bay_not_done cone same
stopped_not_done cone (fault.Unsound file at) same = unsound_not_done cone file at same
stopped_not_done cone (fault.WeightFull weight more) same = heavy_not_done cone weight more same
stopped_not_done cone (fault.OldJournal place) same = memory_not_done same

-- ---- finished cones

module _ {B : Type 0} (files : B → Option Files) (leaves : B → Files → Type 0) (faults mark : B → ℕ) (s : Numbers) (workers : ℕ) (traces : List (List Item)) where
  finished_one : (number : ℕ) (old new : Standing B) → IsWeaving files leaves faults s workers traces number old → IsFinished files leaves faults mark old new →
      IsClosedInEach files leaves s number new.bay
  finished_one number old new weaving finished seen told =
      let ended = finished.ended in
      let stood = ended.stands weaving.history weaving.stands in
      let whole = stood.whole (ap is_broken finished.state_is) (sound_still files leaves faults mark old new ended.same weaving.sound) seen told in
      let closed_is : new.listing.closed ≡ true = ap (λ (l : Listing). l.closed) finished.listing_is in (
        weaving.history,
        subst (λ (b : Bool). IsKept (leaves new.bay) seen (IsSoundAs s number b weaving.history)) closed_is
            (subst (λ n. IsKept (leaves new.bay) seen (IsSoundAs s n new.listing.closed weaving.history)) (ended.same.cone ∙ weaving.number_is)
            (subst (λ (t : Numbers). IsKept (leaves new.bay) seen (IsSoundAs t new.listing.cone new.listing.closed weaving.history)) (ended.same.settings ∙ weaving.settings_are)
            whole.files.kept)),
      )

  pub finished_in_each : (old new : List (Standing B)) → AreWeaving files leaves faults s workers traces old → AreFinished files leaves faults mark old new →
      AreClosedInEach files leaves s (bays_of new)
  finished_in_each old new weaving are cone bay there =
      let now = slice_get-some new cone (omega (arith, slice_get_within (bays_of new) cone bay there, length-map new (λ (c : Standing B). c.bay))) in
      let before = slice_get-some old cone (omega (arith, slice_get_within new cone now.0 now.1, are.number_is)) in
      let finished = are.below cone before.0 now.0 (slice_get_within old cone before.0 before.1) before.1 now.1 in
      subst (λ x. IsClosedInEach files leaves s cone x) (sym (bay_is new cone now.0 bay now.1 there)) (finished_one cone before.0 now.0 (weaving cone before.0 before.1) finished)

-- ---- bays that are put back

pub returned_in_each : {B : Type 0} (files : B → Option Files) (leaves : B → Files → Type 0) (s : Numbers) (bays : List B) (returned : ℕ → Option B) → length bays ≡ 2 ^ s.cone_bits →
    ((cone : ℕ) → cone < length bays → returned cone ≡ slice_get bays cone) → AreClosedInEach files leaves s bays → AreReturnedClosed files leaves s returned
returned_in_each files leaves s bays returned number back closed cone bay named is =
    closed cone bay (sym (back cone (omega (arith, named, number))) ∙ is)

-- calls that put back nothing else
pub returned_still : {B : Type 0} (files : B → Option Files) (leaves : B → Files → Type 0) (s : Numbers) (before after : ℕ → Option B) → ((cone : ℕ) → after cone ≡ before cone) →
    AreReturnedClosed files leaves s before → AreReturnedClosed files leaves s after
returned_still files leaves s before after same closed cone bay named is = closed cone bay named (sym (same cone) ∙ is)
