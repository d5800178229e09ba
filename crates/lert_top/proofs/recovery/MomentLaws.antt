-- Bays at each moment of a recovery.
use Rattle.std.proofs.{Common.{◌≡◌, ℕ, ◌<◌, List, [], ◌∷◌, ◌++◌, length, Option, Some, slice_get, ap, sym, ◌∙◌, subst, inl, inr, arith}, lemmas.List.length-map, lemmas.Bool.cases_eq}
use Rattle.std.proofs.lemmas.Option.{same_Some, slice_get_within}
use Rattle.lert_base.specs.Packet.{Packet}
use Rattle.lert_bay.specs.{Files.IfTold, Kept.{Bays, CallsBay}}
use Rattle.lert_bay.proofs.{KeptLaws.IsLawful, Lasting.lasts_none}
use Rattle.lert_cone.specs.{Sound.StaysSound, Stands.Standing}
use Rattle.lert_recover.specs.{Moments.AreSound, Replayed.IsJournalSame, Unharmed.IsUnharmed}
use Rattle.lert_recover.proofs.{MomentLaws.stays_none, UnharmedLaws.unharmed_none}
use Rattle.lert_spec.specs.declared.numbers.Numbers.{Numbers}
use Rattle.lert_ingest.specs.Bays.{EachBay, bays_of}
use Rattle.lert_ingest.proofs.{BayLaws.{are_same, bays_of-push, set-seam, slice_get-seam, slice_get-set_other}, EachLaws.each_same}
use Rattle.lert_top.specs.recovery.Moments.{AreReread, AreReturnedSpared, AreSpared, IsSpared}
use Rattle.lert_top.proofs.{recovery.JournalLaws.journals_same, recovery.SoundLaws.sound_same}

-- a bay over which a cone was opened, or wasn't
pub throughout_by : {B : Type 0} (bays : Bays B) (s : Numbers) (cone : ℕ) (bay back : B) (Failed : Type 0) → CallsBay bays bay back Failed →
    IsJournalSame (bays.files bay) (bays.files back) →
    IfTold (bays.files bay) (λ _. (history : List Packet) → AreSound (bays.leaves bay) s cone history → StaysSound bays s cone history bay back) →
    IsUnharmed bays s cone bay back → IsSpared bays s cone bay back
throughout_by bays s cone bay back Failed kept same stays unharmed = record {
  time = kept.time;
  told = λ seen told. let now = same.told seen told in (now.0, now.1);
  stays = stays;
  unharmed = unharmed;
}

-- the bay at hand, which is as it was handed out, is another in its place
each_back : {B : Type 0} (R : ℕ → B → B → Type 0) (first xs : List B) (old new : B) (ys : List B) → slice_get first (length xs) ≡ Some old → R (length xs) old new →
    EachBay R first (xs ++ old ∷ ys) → EachBay R first (xs ++ new ∷ ys)
each_back R first xs old new ys there here each = λ cone before now was is.
    elim (cases_eq cone (length xs)) [
      | inl same ↦
          let old_is : old ≡ before = same_Some old before (sym there ∙ (ap (slice_get first) (sym same) ∙ was)) in
          let new_is : new ≡ now = same_Some new now (sym (slice_get-seam xs new ys) ∙ (ap (slice_get (xs ++ new ∷ ys)) (sym same) ∙ is)) in
          subst (λ k. R k before now) (sym same) (subst (R (length xs) before) new_is (subst (λ o. R (length xs) o new) old_is here))
      | inr other ↦
          each cone before now was (sym (slice_get-set_other (xs ++ old ∷ ys) (length xs) cone new other) ∙ (ap (λ l. slice_get l cone) (set-seam xs old new ys) ∙ is))
    ]

module _ {B : Type 0} (bays : Bays B) (lawful : IsLawful bays) (s : Numbers) where
  still : (cone : ℕ) (bay : B) → IsSpared bays s cone bay bay
  still cone bay = record {
    time = lasts_none (bays.moment bay) (bays.left_since bay);
    told = λ seen told. (seen, told);
    stays = λ seen told history each. stays_none bays lawful history s cone bay each;
    unharmed = unharmed_none bays s cone bay lawful;
  }

  throughout_same : (first : List B) → AreSpared bays s first first
  throughout_same first = each_same (IsSpared bays s) still first

  pub reread_same : (first : List B) → AreReread bays s first first
  reread_same first = record {
    later = are_same bays.files bays.faults bays.mark first;
    journals = journals_same bays.files first;
    stays_sound = sound_same bays.files s first;
    each_moment = throughout_same first;
  }

module _ {B : Type 0} (bays : Bays B) (s : Numbers) (first : List B) (cones : List (Standing B)) (bay : B) (rest : List B) (there : slice_get first (length cones) ≡ Some bay)
    (so_far : AreSpared bays s first (bays_of cones ++ bay ∷ rest)) where
  -- the bay at hand is handed back
  pub throughout_back : (back : B) → IsSpared bays s (length cones) bay back → AreSpared bays s first (bays_of cones ++ back ∷ rest)
  throughout_back back one =
      let number = sym (length-map cones (λ (c : Standing B). c.bay)) in
      each_back (IsSpared bays s) first (bays_of cones) bay back rest (subst (λ k. slice_get first k ≡ Some bay) number there) (subst (λ k. IsSpared bays s k bay back) number one) so_far

  -- a cone is opened over it
  pub throughout_made : (cone : Standing B) → IsSpared bays s (length cones) bay cone.bay → AreSpared bays s first (bays_of (cones ++ cone ∷ []) ++ rest)
  throughout_made cone one = subst (AreSpared bays s first) (sym (bays_of-push cones cone rest)) (throughout_back cone.bay one)

-- bays that are put back
pub returned_sound : {B : Type 0} (bays : Bays B) (s : Numbers) (handed later : List B) (returned : ℕ → Option B) → length later ≡ length handed →
    ((cone : ℕ) → cone < length later → returned cone ≡ slice_get later cone) → AreSpared bays s handed later → AreReturnedSpared bays s handed returned
returned_sound bays s handed later returned number back throughout cone before now was is =
    throughout cone before now was (sym (back cone (omega (arith, slice_get_within handed cone before was, number))) ∙ is)
