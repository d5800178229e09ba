-- What a copy of a file in memory has to take back.
use Rattle.std.proofs.{Common.{◌≡◌, ℕ, ◌+◌, ◌-◌, ◌<◌, List, [], ◌∷◌, length, map, get_or, nat_le, nat_lt, ◌&&◌, if◌then◌else◌, slice_index, refl, sym, ap, ◌∙◌, subst}, lemmas.List.length-map}
use Rattle.std.proofs.Math.ListN.{get_or-map}
use Rattle.lert_bay.specs.{Files.IsOutside, declared.extent.Extent.Extent, declared.overwrite.Overwrite.Overwrite, Pending.{IsPending, before_all, covers, kept_by}}

-- the byte before all writes, by what they keep
before_kept : List (ℕ × List ℕ) → ℕ → ℕ → ℕ
before_kept [] place now = now
before_kept (write ∷ rest) place now =
    if nat_le write.0 place && nat_lt place (write.0 + length write.1) then slice_index write.1 (place - write.0) else before_kept rest place now

before_by : (writes : List Overwrite) (place now : ℕ) → before_all writes place now ≡ before_kept (map kept_by writes) place now
unfolding before_kept
before_by [] place now = refl
before_by (write ∷ rest) place now =
    ap (λ byte. if covers write place then slice_index write.old.items (place - write.at) else byte) (before_by rest place now)

-- it is what the writes keep
alike_pending : (now synced : List ℕ) (written : List Extent) (least : ℕ) (unsynced copies : List Overwrite) → map kept_by copies ≡ map kept_by unsynced →
    IsPending now synced written least unsynced → IsPending now synced written least copies
alike_pending now synced written least unsynced copies same pending = record {
  as_read = pending.as_read;
  least_is = pending.least_is;
  covered = λ place unwritten k d within.
      let inside : k < length unsynced = subst (λ (n : ℕ). k < n) (sym (length-map copies kept_by) ∙ ap length same ∙ length-map unsynced kept_by) within in
      let kept = sym (get_or-map kept_by copies k d) ∙ (ap (λ xs. get_or xs k (kept_by d)) same ∙ get_or-map kept_by unsynced k d) in
      subst (λ (write : ℕ × List ℕ). IsOutside write.0 (length write.1) place) (sym kept) (pending.covered place unwritten k d inside);
  taken_back = λ place within.
      before_by copies place (slice_index now place)
      ∙ (ap (λ writes. before_kept writes place (slice_index now place)) same
      ∙ (sym (before_by unsynced place (slice_index now place)) ∙ pending.taken_back place within));
}

-- a copy keeps what the file kept
pub pending_copied : (now copied synced synced_copied : List ℕ) (written written_copied : List Extent) (least : ℕ) (unsynced copies : List Overwrite) → copied ≡ now →
    synced_copied ≡ synced → written_copied ≡ written → map kept_by copies ≡ map kept_by unsynced → IsPending now synced written least unsynced →
    IsPending copied synced_copied written_copied least copies
pending_copied now copied synced synced_copied written written_copied least unsynced copies now_is synced_is written_is same pending =
    subst (λ (bytes : List ℕ). IsPending bytes synced_copied written_copied least copies) (sym now_is)
    (subst (λ (bytes : List ℕ). IsPending now bytes written_copied least copies) (sym synced_is)
    (subst (λ (ranges : List Extent). IsPending now synced ranges least copies) (sym written_is)
    (alike_pending now synced written least unsynced copies same pending)))
