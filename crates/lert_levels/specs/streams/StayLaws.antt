-- What bins have to come stays through writes outside of what they read; and what they gave, and which bins they are.
use Rattle.std.proofs.Common.{ℕ, zero, suc, ◌≡◌, ◌<◌, ◌≤◌, ◌+◌, ◌↔◌, min, Option, Some, None, List, [], ◌∷◌, length, refl, sym, ap, ◌∙◌, inl, inr, ⊎_elim, arith}
use Rattle.lert_bay.specs.{declared.bay.TheConstants.FRAMES, Files.Files}
use Rattle.lert_frames.specs.{Apart.SamePlace, Place.frame_len, ToCome.{left_of, Breaks}, declared.reader.FrameReader.FrameReader}
use Rattle.lert_frames.proofs.{ApartLaws.{told_stays, breaks_stay, sure_stays as reader_sure}, ToComeLaws.given_within}
use Rattle.lert_merge.specs.order.Members.{given_at, limit_at}
use Rattle.lert_levels.specs.{rows.Landing.LeavesRest, streams.Bin.{Bin, of_table, of_frame, to_come_of, given_of, LeavesAt, version_of, wide_of, ReadsIn, IsSureBin, IsSameBin, IsFrameOf}}
use Rattle.lert_levels.specs.{streams.BinSet.{Reads, AreSure, AreSameBins}, streams.SetLaws.{to_come_at, LeavesIn}}
use Rattle.lert_spec.specs.Table.{costs}
use Rattle.lert_levels.specs.landing.CostLaws.{costs-append}

-- ---- widths

within_width : (version : ℕ) (bin : Bin) → costs (version_of version bin) (given_of bin) ≤ wide_of version bin
within_width version (of_table table) = omega (arith, costs-append version table.given table.left)
within_width version (of_frame r) = given_within r

pub set_within : (version : ℕ) (bins : List Bin) (k : ℕ) → k < length bins → costs (limit_at (version_of version) bins k) (given_at given_of bins k) ≤ limit_at (wide_of version) bins k
set_within version [] k within = absurd (omega arith)
set_within version (bin ∷ bins) zero within = within_width version bin
set_within version (bin ∷ bins) (suc k) within = set_within version bins k (omega arith)

-- ---- the same bins

same_width : (version : ℕ) (old new : Bin) → IsSameBin old new → wide_of version new ≡ wide_of version old
same_width version (of_table old) (of_table new) same = ap (costs version) same.all
same_width version (of_frame old) (of_frame new) same = same.wide
same_width version (of_table old) (of_frame new) same = absurd same
same_width version (of_frame old) (of_table new) same = absurd same

same_version : (version : ℕ) (old new : Bin) → IsSameBin old new → version_of version new ≡ version_of version old
same_version version (of_table old) (of_table new) same = refl
same_version version (of_frame old) (of_frame new) same = same.version
same_version version (of_table old) (of_frame new) same = absurd same
same_version version (of_frame old) (of_table new) same = absurd same

pub set_same_width : (one two : ℕ) (old new : List Bin) (k : ℕ) → two ≡ one → AreSameBins old new → limit_at (wide_of two) new k ≡ limit_at (wide_of one) old k
set_same_width one two [] [] k is same = refl
set_same_width one two (old ∷ olds) (new ∷ news) zero is same = ap (λ (version : ℕ). wide_of version new) is ∙ same_width one old new same.0
set_same_width one two (old ∷ olds) (new ∷ news) (suc k) is same = set_same_width one two olds news k is same.1
set_same_width one two [] (new ∷ news) k is same = absurd same
set_same_width one two (old ∷ olds) [] k is same = absurd same

pub set_same_version : (one two : ℕ) (old new : List Bin) (k : ℕ) → two ≡ one → AreSameBins old new → limit_at (version_of two) new k ≡ limit_at (version_of one) old k
set_same_version one two [] [] k is same = refl
set_same_version one two (old ∷ olds) (new ∷ news) zero is same = ap (λ (version : ℕ). version_of version new) is ∙ same_version one old new same.0
set_same_version one two (old ∷ olds) (new ∷ news) (suc k) is same = set_same_version one two olds news k is same.1
set_same_version one two [] (new ∷ news) k is same = absurd same
set_same_version one two (old ∷ olds) [] k is same = absurd same

-- the end of a frame's place
end_same : (old new : FrameReader) → IsFrameOf old new → new.place + frame_len new.settings new.version new.level ≡ old.place + frame_len old.settings old.version old.level
end_same old new same = λ i. same.place i + frame_len (same.settings i) (same.version i) (same.level i)

same_reads : (old new : Bin) (from to : ℕ) → IsSameBin old new → ReadsIn new from to → ReadsIn old from to
same_reads (of_table old) (of_table new) from to same reads = reads
same_reads (of_frame old) (of_frame new) from to same reads = (omega (arith, same.place, reads.0), omega (arith, end_same old new same, reads.1))
same_reads (of_table old) (of_frame new) from to same reads = absurd same
same_reads (of_frame old) (of_table new) from to same reads = absurd same

pub set_same_reads : (old new : List Bin) (from to : ℕ) → AreSameBins old new → Reads new from to → Reads old from to
set_same_reads [] [] from to same reads = reads
set_same_reads (old ∷ olds) (new ∷ news) from to same reads = elim reads [
  | inl here ↦ inl (same_reads old new from to same.0 here)
  | inr later ↦ inr (set_same_reads olds news from to same.1 later)
]
set_same_reads [] (new ∷ news) from to same reads = absurd same
set_same_reads (old ∷ olds) [] from to same reads = absurd same

-- a reader that leaves its text nowhere where another one doesn't
none_left : (left old : Option ℕ) → ((at : ℕ) → left ≡ Some at → old ≡ Some at) → old ≡ None → left ≡ None
none_left None old law none = refl
none_left (Some at) old law none = absurd (let both : None ≡ Some at = sym none ∙ law at refl in cc)

same_sure : (one two : Option Files) (seen : Files) → one ≡ Some seen → two ≡ Some seen → (old new : Bin) → IsSameBin old new →
    ((at : ℕ) → LeavesAt two new at → LeavesAt one old at) → IsSureBin old (seen FRAMES) → IsSureBin new (seen FRAMES)
same_sure one two seen told told_too (of_table old) (of_table new) same law sure = tt
same_sure one two seen told told_too (of_frame old) (of_frame new) same law sure =
    ⊎_elim (λ long. inl (omega (arith, end_same old new same, long)))
    (λ whole. inr (none_left (left_of new (seen FRAMES)) (left_of old (seen FRAMES)) (λ at left. law at (breaks_at two seen told_too new at left) seen told) whole)) sure
  where
    breaks_at : (told : Option Files) (seen : Files) → told ≡ Some seen → (r : FrameReader) (at : ℕ) → left_of r (seen FRAMES) ≡ Some at → Breaks told r at
    breaks_at told seen is r at left = λ other same. ap (λ (files : Files). left_of r (files FRAMES)) (let here : other ≡ seen = cc in here) ∙ left
same_sure one two seen told told_too (of_table old) (of_frame new) same law sure = absurd same
same_sure one two seen told told_too (of_frame old) (of_table new) same law sure = absurd same

pub set_same_sure : (one two : Option Files) (seen : Files) → one ≡ Some seen → two ≡ Some seen → (old new : List Bin) → AreSameBins old new →
    ((k at : ℕ) → k < length old → LeavesIn two new k at → LeavesIn one old k at) → AreSure old (seen FRAMES) → AreSure new (seen FRAMES)
set_same_sure one two seen told told_too [] [] same law sure = tt
set_same_sure one two seen told told_too (old ∷ olds) (new ∷ news) same law sure = (
  same_sure one two seen told told_too old new same.0 (λ at leaves. law 0 at (omega arith) leaves) sure.0,
  set_same_sure one two seen told told_too olds news same.1 (λ k at within leaves. law (suc k) at (omega (arith, within)) leaves) sure.1,
)
set_same_sure one two seen told told_too [] (new ∷ news) same law sure = absurd same
set_same_sure one two seen told told_too (old ∷ olds) [] same law sure = absurd same

-- ---- writes elsewhere

-- files that read as before in some ranges, and these hold the place of a frame
same_place : (kept : ℕ → ℕ → Type 0) (seen later : Files) → LeavesRest kept seen later → (place len : ℕ) →
    ((from to : ℕ) → (place ≤ from) × (to ≤ place + len) → kept from to) → SamePlace place len (seen FRAMES) (later FRAMES)
same_place kept seen later rest place len law = record {
  longer = rest.longer;
  same = rest.rest place (min (place + len) (length (seen FRAMES))) (law place (min (place + len) (length (seen FRAMES))) (omega arith, omega arith)) (omega arith);
}

-- the same is to come of a bin, the same breaks, and it is sure
record Stays (one two : Option Files) (later : Files) (bin : Bin) : Type 0 where
  coming : to_come_of two bin ≡ to_come_of one bin
  breaking : (at : ℕ) → LeavesAt two bin at ↔ LeavesAt one bin at
  sure : IsSureBin bin (later FRAMES)

module _ (one two : Option Files) (seen later : Files) (told : one ≡ Some seen) (told_later : two ≡ Some later) (kept : ℕ → ℕ → Type 0) (rest : LeavesRest kept seen later) where
  bin_stays : (bin : Bin) → IsSureBin bin (seen FRAMES) → ((from to : ℕ) → ReadsIn bin from to → kept from to) → Stays one two later bin
  bin_stays (of_table table) sure law = record { coming = refl; breaking = λ at. ((λ no. no), (λ no. no)); sure = tt }
  bin_stays (of_frame r) sure law =
      let same = same_place kept seen later rest r.place (frame_len r.settings r.version r.level) law in
      record {
        coming = sym (told_stays r one two seen later told told_later sure same);
        breaking = λ at. let both = breaks_stay r one two seen later told told_later sure same at in (both.1, both.0);
        sure = reader_sure r (seen FRAMES) (later FRAMES) sure same;
      }

  pub set_coming : (bins : List Bin) (k : ℕ) → AreSure bins (seen FRAMES) → ((from to : ℕ) → Reads bins from to → kept from to) → to_come_at two bins k ≡ to_come_at one bins k
  set_coming [] k sure law = refl
  set_coming (bin ∷ bins) zero sure law = (bin_stays bin sure.0 (λ from to reads. law from to (inl reads))).coming
  set_coming (bin ∷ bins) (suc k) sure law = set_coming bins k sure.1 (λ from to reads. law from to (inr reads))

  pub set_breaking : (bins : List Bin) (k : ℕ) → AreSure bins (seen FRAMES) → ((from to : ℕ) → Reads bins from to → kept from to) →
      (at : ℕ) → LeavesIn two bins k at ↔ LeavesIn one bins k at
  set_breaking [] k sure law at = ((λ no. no), (λ no. no))
  set_breaking (bin ∷ bins) zero sure law at = (bin_stays bin sure.0 (λ from to reads. law from to (inl reads))).breaking at
  set_breaking (bin ∷ bins) (suc k) sure law at = set_breaking bins k sure.1 (λ from to reads. law from to (inr reads)) at

  pub set_sure : (bins : List Bin) → AreSure bins (seen FRAMES) → ((from to : ℕ) → Reads bins from to → kept from to) → AreSure bins (later FRAMES)
  set_sure [] sure law = tt
  set_sure (bin ∷ bins) sure law = (
    (bin_stays bin sure.0 (λ from to reads. law from to (inl reads))).sure,
    set_sure bins sure.1 (λ from to reads. law from to (inr reads)),
  )
