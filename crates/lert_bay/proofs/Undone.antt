-- What a file in memory keeps through a write, and what is left of it by a crash.
use Rattle.std.proofs.Common.{◌≡◌, ℕ, ◌-◌, ◌<◌, ◌≤◌, List, [], ◌∷◌, ◌++◌, length, take, drop, replicate, get_or, All, Some}
use Rattle.std.proofs.Common.{Result, Ok, Err, OnOk, OnErr, refl, sym, ap, ◌∙◌, subst, arith, length-append, length-take}
use Rattle.std.proofs.lemmas.List.Elements.{All-push, All-pop}
use Rattle.std.proofs.lemmas.List.{take-take, take-append-le, length-take-le, get_or-take, ext_get_or}
use lib.ListN.{length-replicate}
use Rattle.lert_bay.specs.Files.{Holds, IsOutside, Torn}
use Rattle.lert_bay.specs.Since.{IsUnwritten}
use Rattle.lert_bay.specs.Pending.{IsPending, before_all}
use Rattle.lert_bay.specs.declared.extent.Extent.{Extent}
use Rattle.lert_bay.specs.declared.overwrite.Overwrite.{Overwrite}
use Rattle.lert_bay.proofs.TakenBack.{before_append, before_kept, before_same}
use Rattle.lert_bay.proofs.Tearing.{left_by_part, torn_same, torn_more, torn_noted, torn_changed, torn_cut}

-- a place outside of all ranges is outside of the first ones and of the last
unwritten_less : (written : List Extent) (last : Extent) (place : ℕ) → IsUnwritten (written ++ last ∷ []) place → IsUnwritten written place × IsOutside last.at last.count place
unwritten_less written last place unwritten = All-pop (λ extent. IsOutside extent.at extent.count place) (written ++ last ∷ []) written (Some last) refl unwritten

-- as many bytes are kept as are written over
pub length_covered : (count at : ℕ) (bytes old : List ℕ) → old ≡ take count (drop at bytes) ++ replicate {A = ℕ} (count - length (take count (drop at bytes))) 0 →
    length old ≡ count
length_covered count at bytes old is =
    ap length is ∙ (length-append (take count (drop at bytes)) (replicate {A = ℕ} (count - length (take count (drop at bytes))) 0) ∙ omega
    (arith, length-take count (drop at bytes), length-replicate {A = ℕ} (count - length (take count (drop at bytes))) 0))

-- a write is noted
pub pending_noted : (now synced : List ℕ) (written after : List Extent) (least : ℕ) (unsynced kept : List Overwrite) (last : Extent) →
    IsPending now synced written least unsynced → after ≡ written ++ last ∷ [] → kept ≡ unsynced → IsPending now synced after least kept
pending_noted now synced written after least unsynced kept last pending noted same =
    subst (λ (ranges : List Extent). IsPending now synced ranges least kept) (sym noted)
    (subst (λ (writes : List Overwrite). IsPending now synced (written ++ last ∷ []) least writes) (sym same)
    (record {
      as_read = torn_noted synced written last now pending.as_read;
      least_is = pending.least_is;
      covered = λ place unwritten. pending.covered place (unwritten_less written last place unwritten).0;
      taken_back = pending.taken_back;
    }))

-- what it covers is kept, and it is done
pub pending_done : (now new synced : List ℕ) (written after : List Extent) (least : ℕ) (unsynced kept : List Overwrite) (last : Extent) (write : Overwrite) →
    IsPending now synced written least unsynced → after ≡ written ++ last ∷ [] → kept ≡ unsynced ++ write ∷ [] → write.at ≡ last.at → length write.old.items ≡ last.count →
    write.old.items ≡ take last.count (drop write.at now) ++ replicate {A = ℕ} (last.count - length (take last.count (drop write.at now))) 0 → Torn last.at last.count now new →
    IsPending new synced after least kept
pending_done now new synced written after least unsynced kept last write pending noted more at_is count_is keeps torn =
    subst (λ (ranges : List Extent). IsPending new synced ranges least kept) (sym noted)
    (subst (λ (writes : List Overwrite). IsPending new synced (written ++ last ∷ []) least writes) (sym more)
    (record {
      as_read = torn_more synced written last now new pending.as_read torn;
      least_is = pending.least_is;
      covered = λ place unwritten.
          let both = unwritten_less written last place unwritten in
          All-push (λ w. IsOutside w.at (length w.old.items) place) unsynced write (pending.covered place both.0)
          (subst (λ (at : ℕ). IsOutside at (length write.old.items) place) (sym at_is) (subst (λ (count : ℕ). IsOutside last.at count place) (sym count_is) both.1));
      taken_back = λ place within.
          let inside_now : place < length now = omega (arith, within, pending.as_read.no_shorter) in
          before_append unsynced write place (get_or new place 0)
          ∙ (ap (λ byte. before_all unsynced place byte) (before_kept write now new last.count place keeps count_is inside_now
          (λ outside. torn.elsewhere place inside_now (subst (λ (at : ℕ). IsOutside at last.count place) at_is outside)))
          ∙ pending.taken_back place within);
    }))

-- whatever `put` answers, the file is a torn one
pub torn_by_put : {T E : Type 0} (result : Result T E) (at landing : ℕ) (bytes piece old new : List ℕ) → landing ≤ length bytes → piece ≡ take landing bytes →
    OnOk result (Holds at piece old new) → OnErr result (new ≡ old) → Torn at (length bytes) old new
torn_by_put (Ok _) at landing bytes piece old new part is ok err = (left_by_part at landing bytes old new part (subst (λ (xs : List ℕ). Holds at xs old new) is ok)).torn
torn_by_put (Err _) at landing bytes piece old new part is ok err = subst (λ (xs : List ℕ). Torn at (length bytes) old xs) (sym err) (torn_same at (length bytes) old)

-- writes are taken back and the end is cut off: the file still is an image
pub pending_crashed : (now synced : List ℕ) (written : List Extent) (least : ℕ) (unsynced : List Overwrite) (back left : List ℕ) (n : ℕ) →
    IsPending now synced written least unsynced → length back ≡ length now →
    ((place : ℕ) → All (λ w. IsOutside w.at (length w.old.items) place) unsynced → get_or back place 0 ≡ get_or now place 0) → least ≤ n → n ≤ length back →
    left ≡ take n back →
    IsPending left synced written least unsynced
pending_crashed now synced written least unsynced back left n pending long elsewhere lower upper is =
    subst (λ (xs : List ℕ). IsPending xs synced written least unsynced) (sym is)
    (record {
      as_read = torn_cut synced written back n (torn_changed synced written now back pending.as_read long (λ place unwritten. elsewhere place (pending.covered place unwritten)))
          (omega (arith, pending.least_is, lower)) upper;
      least_is = pending.least_is;
      covered = pending.covered;
      taken_back = λ place within.
          before_same unsynced place (get_or (take n back) place 0) (get_or now place 0)
          (λ outside. get_or-take n back place 0 (omega (arith, within, lower, pending.least_is)) ∙ elsewhere place outside)
          ∙ pending.taken_back place within;
    })

-- all of them taken back give the bytes of the last sync
pub lost_by_crash : (now synced : List ℕ) (written : List Extent) (least : ℕ) (unsynced : List Overwrite) (back left : List ℕ) (n : ℕ) →
    IsPending now synced written least unsynced → length back ≡ length now →
    ((place : ℕ) → place < length now → get_or back place 0 ≡ before_all unsynced place (get_or now place 0)) → n ≡ least → left ≡ take n back → left ≡ synced
lost_by_crash now synced written least unsynced back left n pending long lost n_is is =
    let short : n ≤ length back = omega (arith, n_is, long, pending.least_is, pending.as_read.no_shorter) in
    let count : length (take n back) ≡ length synced = length-take-le n back short ∙ omega (arith, n_is, pending.least_is) in
    is ∙ ext_get_or 0 (take n back) synced count
    (λ place below.
    get_or-take n back place 0 (omega (arith, below, count, n_is, pending.least_is))
    ∙ (lost place (omega (arith, below, count, pending.as_read.no_shorter)) ∙ pending.taken_back place (omega (arith, below, count))))

-- bytes cut after a part of them was written back
pub take_back_is : (n len : ℕ) (back items : List ℕ) → n ≤ len → n ≤ length back → take n (take len (back ++ drop (length back) items)) ≡ take n back
take_back_is n len back items within short = take-take n len _ within ∙ take-append-le n back _ short
