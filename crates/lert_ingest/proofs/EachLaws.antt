-- What holds of each of some bays, as it was and as it is.
use Rattle.std.proofs.{Common.{◌≡◌, ℕ, List, [], ◌∷◌, ◌++◌, length, set, get_or, Option, Some, None, slice_get, refl, ap, sym, ◌∙◌, subst, inl, inr, arith}, lemmas.Bool.cases_eq}
use Rattle.std.proofs.lemmas.Option.{slice_get-get_or, slice_get_within, same_Some}
use Rattle.lert_bay.specs.Files.{Files, IfTold, Turns}
use Rattle.lert_cone.specs.{Listing.Listing, Sound.{AreEmpty, IsSoundAs}, Stands.{Standing, is_broken}}
use Rattle.lert_spec.specs.declared.numbers.Numbers.{Numbers}
use Rattle.lert_ingest.specs.{Bays.{AreKept, AreUnused, AreUnusedBut, EachBay, IsUnused}, Cones.IsNew}
use Rattle.lert_ingest.proofs.BayLaws.{set-seam, slice_get-seam, slice_get-set_other, slice_get-set_same}

module _ {B : Type 0} (R : ℕ → B → B → Type 0) where
  pub each_same : ((cone : ℕ) (bay : B) → R cone bay bay) → (bays : List B) → EachBay R bays bays
  each_same still bays = λ cone before now was is. subst (R cone before) (same_Some before now (sym was ∙ is)) (still cone before)

  pub each_more : ((cone : ℕ) (a b c : B) → R cone a b → R cone b c → R cone a c) → (first then now : List B) → length now ≡ length then →
      EachBay R first then → EachBay R then now → EachBay R first now
  each_more joins first then now number one two = λ cone before after was is.
      let mid = slice_get-get_or then cone before (omega (arith, slice_get_within now cone after is, number)) in
      joins cone before (get_or then cone before) after (one cone before (get_or then cone before) was mid) (two cone (get_or then cone before) after mid is)

  pub each_set : ((cone : ℕ) (bay : B) → R cone bay bay) → (bays : List B) (at : ℕ) (old new : B) → slice_get bays at ≡ Some old → R at old new →
      EachBay R bays (set bays at new)
  each_set still bays at old new found here = λ cone before now was is.
      elim (cases_eq cone at) [
        | inl same ↦
            let old_is : old ≡ before = same_Some old before (sym found ∙ (ap (slice_get bays) (sym same) ∙ was)) in
            let there = slice_get-set_same bays at new (slice_get_within bays at old found) in
            let new_is : new ≡ now = same_Some new now (sym there ∙ (ap (slice_get (set bays at new)) (sym same) ∙ is)) in
            subst (λ k. R k before now) (sym same) (subst (R at before) new_is (subst (λ o. R at o new) old_is here))
        | inr other ↦
            let kept : before ≡ now = same_Some before now (sym was ∙ (sym (slice_get-set_other bays at cone new other) ∙ is)) in
            subst (R cone before) kept (still cone before)
      ]

  pub each_seam : ((cone : ℕ) (bay : B) → R cone bay bay) → (xs : List B) (old new : B) (ys : List B) → R (length xs) old new →
      EachBay R (xs ++ old ∷ ys) (xs ++ new ∷ ys)
  each_seam still xs old new ys here =
      subst (EachBay R (xs ++ old ∷ ys)) (set-seam xs old new ys) (each_set still (xs ++ old ∷ ys) (length xs) old new (slice_get-seam xs old ys) here)

module _ {B : Type 0} (files : B → Option Files) where
  pub kept_same : (bays : List B) → AreKept files bays bays
  kept_same bays = each_same (λ _ before now. files now ≡ files before) (λ cone bay. refl) bays

  pub kept_more : (first then now : List B) → length now ≡ length then → AreKept files first then → AreKept files then now → AreKept files first now
  kept_more first then now number one two =
      each_more (λ _ before now. files now ≡ files before) (λ cone a b c ab bc. bc ∙ ab) first then now number one two

  pub kept_set : (bays : List B) (at : ℕ) (old new : B) → slice_get bays at ≡ Some old → files new ≡ files old → AreKept files bays (set bays at new)
  kept_set bays at old new found same = each_set (λ _ before now. files now ≡ files before) (λ cone bay. refl) bays at old new found same

  module _ (s : Numbers) where
    unused_joins : (cone : ℕ) (a b c : B) → IsUnused files s cone a b → IsUnused files s cone b c → IsUnused files s cone a c
    unused_joins cone a b c (inl ab) (inl bc) = inl (bc ∙ ab)
    unused_joins cone a b c (inl ab) (inr bc) = inr ((λ seen told. bc.0 seen (ab ∙ told)), bc.1)
    unused_joins cone a b c (inr ab) (inl bc) = inr (ab.0, λ seen told. ab.1 seen (sym bc ∙ told))
    unused_joins cone a b c (inr ab) (inr bc) = inr (ab.0, bc.1)

    pub unused_same : (bays : List B) → AreUnused files s bays bays
    unused_same bays = each_same (IsUnused files s) (λ cone bay. inl refl) bays

    pub unused_more : (first then now : List B) → length now ≡ length then → AreUnused files s first then → AreUnused files s then now → AreUnused files s first now
    unused_more first then now number one two = each_more (IsUnused files s) unused_joins first then now number one two

    pub unused_but : (broke : ℕ → Type 0) (bays later : List B) → AreUnused files s bays later → AreUnusedBut files s broke bays later
    unused_but broke bays later are = λ cone before now was is _. are cone before now was is

    pub unused_all : (broke : ℕ → Type 0) (bays later : List B) → ((cone : ℕ) → broke cone → ⊥) → AreUnusedBut files s broke bays later → AreUnused files s bays later
    unused_all broke bays later none are = λ cone before now was is. are cone before now was is (none cone)

    pub but_more : (broke : ℕ → Type 0) (first then now : List B) → length now ≡ length then → AreUnused files s first then → AreUnusedBut files s broke then now →
        AreUnusedBut files s broke first now
    but_more broke first then now number one two =
        each_more (λ cone a b. (broke cone → ⊥) → IsUnused files s cone a b) (λ cone a b c ab bc not. unused_joins cone a b c (ab not) (bc not)) first then now number
        (unused_but broke first then one) two

    pub kept_unused : (bays later : List B) → AreKept files bays later → AreUnused files s bays later
    kept_unused bays later kept = λ cone before now was is. inl (kept cone before now was is)

    -- a cone was made over a bay without a byte
    pub new_unused : (leaves : B → Files → Type 0) (faults : B → ℕ) (number : ℕ) (bay : B) (cone : Standing B) → IfTold (files bay) AreEmpty →
        IsNew files leaves faults s number cone →
        IsUnused files s number bay cone.bay
    new_unused leaves faults number bay cone empty new = inr (
      empty,
      λ seen told.
          let whole = new.stands.whole (ap is_broken new.state_is) new.sound seen told in
          subst (λ (l : Listing). IsSoundAs l.settings l.cone l.closed [] seen) new.listing_is whole.files.kept.as_read,
    )

  -- a bay that was refused and would tell empty files is told as before where it isn't told
  pub kept_refused : (bay back : B) {step : Files → Files → Type 0} → Turns step (files bay) (files back) → IfTold (files bay) (λ _. ⊥) → files back ≡ files bay
  kept_refused bay back turns untold = by_case (files bay) refl
    where
      by_case : (told : Option Files) → files bay ≡ told → files back ≡ files bay
      by_case None is = turns.untold is ∙ sym is
      by_case (Some seen) is = absurd (untold seen is)
