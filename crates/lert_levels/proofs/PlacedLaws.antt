-- Streams of a flush that leave their format, read a range or are secure, and their bins in the rows.
use Rattle.std.proofs.Common.{ℕ, zero, suc, ◌≡◌, ◌+◌, ◌-◌, ◌<◌, ◌≤◌, List, [], ◌∷◌, ◌++◌, length, map, get_or, take, Option, Some, refl, ap, ap₂, sym, ◌∙◌, arith, inl, inr, ◌⊎◌, subst, ⊎_elim}
use Rattle.std.proofs.{Common.{append-nil, length-take, min}, lemmas.List.{map-append, map_more, take_more, append_assoc, get_or-take}, lemmas.Bool.cases_lt}
use Rattle.std.specs.Prelude.{Contains}
use Rattle.lert_bay.specs.{declared.bay.TheConstants.FRAMES, Files.Files}
use Rattle.lert_frames.specs.{Frame.{frame_left, frame_pieces}, Place.{frame_place, frame_len}, Apart.SamePlace, declared.reader.FrameReader.FrameReader}
use Rattle.lert_frames.proofs.ApartLaws.{frame_stays}
use Rattle.lert_levels.specs.{rows.Landing.LeavesRest, declared.rows.bin_at.BinAt.BinAt, rows.Loading.{width_of, OneBreaks}, streams.Bin.{Bin as Stream, of_table, of_frame, IsSureBin}}
use Rattle.lert_levels.specs.{streams.Asked.Begins, streams.BinSet.{BinSet, Reads, AreSure}, streams.SetLaws.LeavesIn, Flushed.InNamed}
use Rattle.lert_levels.specs.Sources.{Placed, placed_at, placed, Source, of_young, of_bin, sources, IsReaderOf, AreBegun, IsSecure, AreSecure, AnyOf, AllOf}
use Rattle.lert_spec.specs.{Bins.Bin, declared.numbers.Numbers.Numbers}
use Rattle.lert_levels.proofs.SourceLaws.{begun_more}

-- ---- one of the bins on disk

any_append : (P : Placed → Type 0) (some more : List Source) → AnyOf P (some ++ more) → AnyOf P some ⊎ AnyOf P more
any_append P [] more any = inr any
any_append P (of_young bin ∷ some) more any = any_append P some more any
any_append P (of_bin p ∷ some) more any = elim any [
  | inl here ↦ inl (inl here)
  | inr later ↦ ⊎_elim (λ one. inl (inr one)) (λ two. inr two) (any_append P some more later)
]

no_young : (P : Placed → Type 0) (young : List Bin) → AnyOf P (map of_young young) → ⊥
no_young P [] any = any
no_young P (bin ∷ young) any = no_young P young any

-- it is a bin of a row
pub record IsNamed (P : Placed → Type 0) (level : ℕ) (rows : List (List BinAt)) : Type 0 where
  pub number : ℕ
  pub within : number < length rows
  pub bin : BinAt
  pub named : Contains (get_or rows number []) bin
  pub is : P (placed_at (level + number) bin)

record InRow (P : Placed → Type 0) (level : ℕ) (row : List BinAt) : Type 0 where
  bin : BinAt
  named : Contains row bin
  is : P (placed_at level bin)

in_row : (P : Placed → Type 0) (level : ℕ) (row : List BinAt) → AnyOf P (map of_bin (map (placed_at level) row)) → InRow P level row
in_row P level [] any = absurd any
in_row P level (bin ∷ row) any = elim any [
  | inl here ↦ record { bin = bin; named = (0, omega arith, refl); is = here }
  | inr later ↦ (let there = in_row P level row later in
      record { bin = there.bin; named = (suc there.named.0, omega (arith, there.named.1), there.named.2); is = there.is })
]

in_rows : (P : Placed → Type 0) (level : ℕ) (rows : List (List BinAt)) → AnyOf P (map of_bin (placed level rows)) → IsNamed P level rows
in_rows P level [] any = absurd any
in_rows P level (row ∷ rows) any =
    elim (any_append P (map of_bin (map (placed_at level) row)) (map of_bin (placed (suc level) rows))
    (subst (AnyOf P) (map-append of_bin (map (placed_at level) row) (placed (suc level) rows)) any)) [
      | inl here ↦ (let found = in_row P level row here in
          record { number = 0; within = omega arith; bin = found.bin; named = found.named; is = subst (λ l. P (placed_at l found.bin)) (let same : level ≡ level + 0 = omega arith in same) found.is })
      | inr later ↦ (let found = in_rows P (suc level) rows later in
          record {
            number = suc found.number;
            within = omega (arith, found.within);
            bin = found.bin;
            named = found.named;
            is = subst (λ l. P (placed_at l found.bin)) (let same : suc level + found.number ≡ level + suc found.number = omega arith in same) found.is;
          })
    ]

pub any_named : (P : Placed → Type 0) (young : List Bin) (rows : List (List BinAt)) → AnyOf P (sources young rows) → IsNamed P 1 rows
any_named P young rows any = in_rows P 1 rows (⊎_elim (λ never. absurd (no_young P young never)) (λ here. here) (any_append P (map of_young young) (map of_bin (placed 1 rows)) any))

-- ---- where one leaves its format

begun_leaves : (s : Numbers) (version : ℕ) (some : List Source) (bins : List Stream) (k at : ℕ) (told : Option Files) (seen : Files) → told ≡ Some seen →
    AreBegun s version some bins → LeavesIn told bins k at →
    AnyOf (λ p. frame_left s version p.level p.bin.frame (width_of p.bin) (seen FRAMES) ≡ Some at) some
begun_leaves s version some [] k at told seen told_is are leaves = absurd leaves
begun_leaves s version (of_bin p ∷ some) (of_frame r ∷ bins) zero at told seen told_is are leaves = inl (sym (are.0.left (seen FRAMES)) ∙ leaves seen told_is)
begun_leaves s version (of_young bin ∷ some) (of_table table ∷ bins) zero at told seen told_is are leaves = absurd leaves
begun_leaves s version (of_bin p ∷ some) (of_frame r ∷ bins) (suc k) at told seen told_is are leaves = inr (begun_leaves s version some bins k at told seen told_is are.1 leaves)
begun_leaves s version (of_young bin ∷ some) (of_table table ∷ bins) (suc k) at told seen told_is are leaves = begun_leaves s version some bins k at told seen told_is are.1 leaves
begun_leaves s version (of_young bin ∷ some) (of_frame r ∷ bins) k at told seen told_is are leaves = absurd are.0
begun_leaves s version (of_bin p ∷ some) (of_table table ∷ bins) k at told seen told_is are leaves = absurd are.0
begun_leaves s version [] (b ∷ bins) k at told seen told_is are leaves = absurd are

-- it is one of the rows' bins
pub begun_breaks : (s : Numbers) (version : ℕ) (young : List Bin) (rows : List (List BinAt)) (bins : List Stream) (k at : ℕ) (told : Option Files) (seen : Files) → told ≡ Some seen →
    AreBegun s version (sources young rows) bins → LeavesIn told bins k at → OneBreaks s version rows (seen FRAMES) at
begun_breaks s version young rows bins k at told seen told_is are leaves =
    let P : Placed → Type 0 = λ p. frame_left s version p.level p.bin.frame (width_of p.bin) (seen FRAMES) ≡ Some at in
    let found = any_named P young rows (begun_leaves s version (sources young rows) bins k at told seen told_is are leaves) in
    let same : 1 + found.number ≡ found.number + 1 = omega arith in
    record {
      number = found.number;
      within = found.within;
      breaks = record {
        bin = found.bin;
        named = found.named;
        breaks = record { left = subst (λ l. frame_left s version l found.bin.frame (width_of found.bin) (seen FRAMES) ≡ Some at) same found.is };
      };
    }

-- ---- what is read

-- a range within the place of a bin
abbrev pub StandsAt : Numbers → ℕ → ℕ → ℕ → Placed → Type 0
StandsAt s version from to p = (frame_place s version p.level p.bin.frame ≤ from) × (to ≤ frame_place s version p.level p.bin.frame + frame_len s version p.level)

reader_end : (s : Numbers) (version : ℕ) (p : Placed) (r : FrameReader) → IsReaderOf s version p r →
    r.place + frame_len r.settings r.version r.level ≡ frame_place s version p.level p.bin.frame + frame_len s version p.level
reader_end s version p r is = λ i. is.place i + frame_len (is.of_settings i) (is.of_version i) (is.of_level i)

begun_stands : (s : Numbers) (version : ℕ) (some : List Source) (bins : List Stream) (from to : ℕ) → AreBegun s version some bins → Reads bins from to → AnyOf (StandsAt s version from to) some
begun_stands s version some [] from to are reads = absurd reads
begun_stands s version (of_bin p ∷ some) (of_frame r ∷ bins) from to are reads = elim reads [
  | inl here ↦ inl (omega (arith, here.0, are.0.place), omega (arith, here.1, reader_end s version p r are.0))
  | inr later ↦ inr (begun_stands s version some bins from to are.1 later)
]
begun_stands s version (of_young bin ∷ some) (of_table table ∷ bins) from to are reads = elim reads [
  | inl here ↦ absurd here
  | inr later ↦ begun_stands s version some bins from to are.1 later
]
begun_stands s version (of_young bin ∷ some) (of_frame r ∷ bins) from to are reads = absurd are.0
begun_stands s version (of_bin p ∷ some) (of_table table ∷ bins) from to are reads = absurd are.0
begun_stands s version [] (b ∷ bins) from to are reads = absurd are

-- it stands in a frame that is named
pub begun_reads : (s : Numbers) (version : ℕ) (young : List Bin) (rows : List (List BinAt)) (bins : List Stream) (from to : ℕ) → length rows ≤ s.levels →
    AreBegun s version (sources young rows) bins → Reads bins from to → InNamed s version rows from to
begun_reads s version young rows bins from to few are reads =
    let found = any_named (StandsAt s version from to) young rows (begun_stands s version (sources young rows) bins from to are reads) in
    let within = found.within in
    let same : 1 + found.number ≡ found.number + 1 = omega arith in
    let place : found.number ≡ found.number + 1 - 1 = omega arith in
    record {
      level = found.number + 1;
      first = omega arith;
      last = omega (arith, within, few);
      bin = found.bin;
      named = subst (λ (k : ℕ). Contains (get_or rows k []) found.bin) place found.named;
      above = subst (λ l. frame_place s version l found.bin.frame ≤ from) same found.is.0;
      below = subst (λ l. to ≤ frame_place s version l found.bin.frame + frame_len s version l) same found.is.1;
    }

past_end : (xs : List (List BinAt)) (k : ℕ) → length xs ≤ k → get_or xs k [] ≡ []
past_end [] k past = refl
past_end (x ∷ xs) zero past = absurd (omega (arith, past))
past_end (x ∷ xs) (suc k) past = past_end xs k (omega (arith, past))

-- a frame that the first rows name is named
pub named_more : (s : Numbers) (version : ℕ) (rows : List (List BinAt)) (d from to : ℕ) → length rows ≡ s.levels → InNamed s version (take d rows) from to → InNamed s version rows from to
named_more s version rows d from to len inside = record {
  level = inside.level;
  first = inside.first;
  last = inside.last;
  bin = inside.bin;
  named = more (inside.level - 1) inside.named;
  above = inside.above;
  below = inside.below;
}
  where
    more : (k : ℕ) → Contains (get_or (take d rows) k []) inside.bin → Contains (get_or rows k []) inside.bin
    more k named = elim (cases_lt k d) [
      | inl reached ↦ subst (λ (row : List BinAt). Contains row inside.bin) (get_or-take d rows k [] reached) named
      | inr past ↦ absurd (let none = past_end (take d rows) k (omega (arith, past, length-take d rows)) in
          let low = named.1 in
          omega (arith, low, ap (length {A = BinAt}) none))
    ]

-- ---- what is secure

pub all_append : (P : Placed → Type 0) (some more : List Source) → AllOf P some → AllOf P more → AllOf P (some ++ more)
all_append P [] more one two = two
all_append P (of_young bin ∷ some) more one two = all_append P some more one two
all_append P (of_bin p ∷ some) more one two = (one.0, all_append P some more one.1 two)

all_young : (P : Placed → Type 0) (young : List Bin) → AllOf P (map of_young young)
all_young P [] = tt
all_young P (bin ∷ young) = all_young P young

sure_one : (s : Numbers) (version : ℕ) (file : List ℕ) (p : Placed) (r : FrameReader) → IsReaderOf s version p r → IsSecure s version file p → IsSureBin (of_frame r) file
sure_one s version file p r is secure = elim secure [
  | inl long ↦ inl (omega (arith, long, reader_end s version p r is))
  | inr whole ↦ inr (is.left file ∙ whole)
]

begun_sure_of : (s : Numbers) (version : ℕ) (file : List ℕ) (some : List Source) (bins : List Stream) → AreBegun s version some bins → AllOf (IsSecure s version file) some → AreSure bins file
begun_sure_of s version file [] [] are secure = tt
begun_sure_of s version file (of_bin p ∷ some) (of_frame r ∷ bins) are secure = (sure_one s version file p r are.0 secure.0, begun_sure_of s version file some bins are.1 secure.1)
begun_sure_of s version file (of_young bin ∷ some) (of_table table ∷ bins) are secure = (tt, begun_sure_of s version file some bins are.1 secure)
begun_sure_of s version file (of_young bin ∷ some) (of_frame r ∷ bins) are secure = absurd are.0
begun_sure_of s version file (of_bin p ∷ some) (of_table table ∷ bins) are secure = absurd are.0
begun_sure_of s version file [] (b ∷ bins) are secure = absurd are
begun_sure_of s version file (x ∷ some) [] are secure = absurd are

-- secure frames are sure
pub begun_sure : (s : Numbers) (version : ℕ) (file : List ℕ) (young : List Bin) (rows : List (List BinAt)) (bins : List Stream) →
    AreBegun s version (sources young rows) bins → AreSecure s version file 1 rows →
    AreSure bins file
begun_sure s version file young rows bins are secure =
    begun_sure_of s version file (sources young rows) bins are (all_append (IsSecure s version file) (map of_young young) (map of_bin (placed 1 rows))
    (all_young (IsSecure s version file) young) secure)

-- ---- row by row

-- one level more
pub placed_more : (level : ℕ) (rows : List (List BinAt)) (i : ℕ) → i < length rows →
    placed level (take (i + 1) rows) ≡ placed level (take i rows) ++ map (placed_at (level + i)) (get_or rows i [])
placed_more level rows i below =
    ap (placed level) (take_more rows i [] below)
    ∙ placed-append level (take i rows) (get_or rows i [])
    ∙ ap (λ l. placed level (take i rows) ++ map (placed_at l) (get_or rows i [])) (let same : level + length (take i rows) ≡ level + i = omega (arith, length-take i rows, below) in same)
  where
    placed-append : (level : ℕ) (rows : List (List BinAt)) (row : List BinAt) → placed level (rows ++ row ∷ []) ≡ placed level rows ++ map (placed_at (level + length rows)) row
    placed-append level [] row = append-nil (map (placed_at level) row) ∙ ap (λ l. map (placed_at l) row) (let same : level ≡ level + 0 = omega arith in same)
    placed-append level (r ∷ rows) row =
        ap (λ ps. map (placed_at level) r ++ ps) (placed-append (suc level) rows row)
        ∙ sym (append_assoc (map (placed_at level) r) (placed (suc level) rows) (map (placed_at (suc level + length rows)) row))
        ∙ ap (λ l. (map (placed_at level) r ++ placed (suc level) rows) ++ map (placed_at l) row) (let same : suc level + length rows ≡ level + suc (length rows) = omega arith in same)

-- what is so of the bins of a row so far and of the next one
pub row_more : (P : Placed → Type 0) (level : ℕ) (row : List BinAt) (i : ℕ) (d : BinAt) → i < length row → AllOf P (map of_bin (map (placed_at level) (take i row))) →
    P (placed_at level (get_or row i d)) → AllOf P (map of_bin (map (placed_at level) (take (i + 1) row)))
row_more P level row i d below so_far here =
    subst (AllOf P) (sym (ap (map of_bin) (map_more (placed_at level) row i d below) ∙ map-append of_bin (map (placed_at level) (take i row)) (placed_at level (get_or row i d) ∷ [])))
    (all_append P (map of_bin (map (placed_at level) (take i row))) (of_bin (placed_at level (get_or row i d)) ∷ []) so_far (here, tt))

-- the sources of a level more
pub placed_row : (rows : List (List BinAt)) (i : ℕ) (now : List BinAt) → get_or rows i [] ≡ now → i < length rows →
    map of_bin (placed 1 (take (i + 1) rows)) ≡ map of_bin (placed 1 (take i rows)) ++ map of_bin (map (placed_at (i + 1)) now)
placed_row rows i now here below =
    let same : 1 + i ≡ i + 1 = omega arith in
    ap (map of_bin) (placed_more 1 rows i below)
    ∙ map-append of_bin (placed 1 (take i rows)) (map (placed_at (1 + i)) (get_or rows i []))
    ∙ ap₂ (λ l row. map of_bin (placed 1 (take i rows)) ++ map of_bin (map (placed_at l) row)) same here

pub rows_more : (P : Placed → Type 0) (rows : List (List BinAt)) (i : ℕ) (now : List BinAt) → get_or rows i [] ≡ now → i < length rows → AllOf P (map of_bin (placed 1 (take i rows))) →
    AllOf P (map of_bin (map (placed_at (i + 1)) now)) → AllOf P (map of_bin (placed 1 (take (i + 1) rows)))
rows_more P rows i now here below so_far this =
    subst (AllOf P) (sym (placed_row rows i now here below)) (all_append P (map of_bin (placed 1 (take i rows))) (map of_bin (map (placed_at (i + 1)) now)) so_far this)

-- ---- frames that are begun

begins_reader : (s : Numbers) (version : ℕ) (old new : BinSet) (level frame width : ℕ) (bin : BinAt) → old.settings ≡ s → old.version ≡ version → frame ≡ bin.frame → width ≡ width_of bin →
    (begins : Begins old new level frame width) → IsReaderOf s version (placed_at level bin) begins.reader
begins_reader s version old new level frame width bin settings version_is frame_is width_is begins = record {
  left = λ file. begins.left file ∙ (λ i. frame_left (settings i) (version_is i) level (frame_is i) (width_is i) file);
  pieces = λ file. begins.pieces file ∙ (λ i. frame_pieces (settings i) (version_is i) level (frame_is i) file);
  gave = begins.gave;
  of_settings = begins.of_settings ∙ settings;
  of_version = begins.of_version ∙ version_is;
  of_level = begins.of_level;
  place = begins.place ∙ (λ i. frame_place (settings i) (version_is i) level (frame_is i));
  wide = begins.wide ∙ width_is;
}

-- one more of a row
pub begun_bin : (s : Numbers) (version : ℕ) (before : List Source) (row : List BinAt) (i : ℕ) (d : BinAt) (old new : BinSet) (level frame width : ℕ) →
    i < length row → old.settings ≡ s → old.version ≡ version →
    frame ≡ (get_or row i d).frame → width ≡ width_of (get_or row i d) → Begins old new level frame width →
    AreBegun s version (before ++ map of_bin (map (placed_at level) (take i row))) old.bins → AreBegun s version (before ++ map of_bin (map (placed_at level) (take (i + 1) row))) new.bins
begun_bin s version before row i d old new level frame width below settings version_is frame_is width_is begins so_far =
    let bin = get_or row i d in
    let some = map of_bin (map (placed_at level) (take i row)) in
    let more : before ++ map of_bin (map (placed_at level) (take (i + 1) row)) ≡ (before ++ some) ++ of_bin (placed_at level bin) ∷ [] =
    ap (λ ps. before ++ map of_bin ps) (map_more (placed_at level) row i d below)
    ∙ ap (λ xs. before ++ xs) (map-append of_bin (map (placed_at level) (take i row)) (placed_at level bin ∷ []))
    ∙ sym (append_assoc before some (of_bin (placed_at level bin) ∷ [])) in
    let reader = begins_reader s version old new level frame width bin settings version_is frame_is width_is begins in
    subst (λ (xs : List Source). AreBegun s version xs new.bins) (sym more)
    (subst (AreBegun s version ((before ++ some) ++ of_bin (placed_at level bin) ∷ [])) (sym begins.bins)
    (begun_more s version (before ++ some) (of_bin (placed_at level bin) ∷ []) old.bins (of_frame begins.reader ∷ []) so_far (reader, tt)))

-- one level more
pub begun_row : (s : Numbers) (version : ℕ) (before : List Source) (rows : List (List BinAt)) (i : ℕ) (now : List BinAt) (bins : List Stream) → get_or rows i [] ≡ now → i < length rows →
    AreBegun s version ((before ++ map of_bin (placed 1 (take i rows))) ++ map of_bin (map (placed_at (i + 1)) now)) bins →
    AreBegun s version (before ++ map of_bin (placed 1 (take (i + 1) rows))) bins
begun_row s version before rows i now bins here below are =
    subst (λ (xs : List Source). AreBegun s version xs bins)
    (append_assoc before (map of_bin (placed 1 (take i rows))) (map of_bin (map (placed_at (i + 1)) now)) ∙ ap (λ xs. before ++ xs) (sym (placed_row rows i now here below))) are

-- ---- a frame that is broken

pub all_in : (P : Placed → Type 0) (some more : List Source) → AllOf P (some ++ more) → AllOf P some × AllOf P more
all_in P [] more all = (tt, all)
all_in P (of_young bin ∷ some) more all = all_in P some more all
all_in P (of_bin p ∷ some) more all = let rest = all_in P some more all.1 in ((all.0, rest.0), rest.1)

all_of_row : (P : Placed → Type 0) (level : ℕ) (row : List BinAt) (i : ℕ) (bin : BinAt) → i < length row → get_or row i bin ≡ bin → AllOf P (map of_bin (map (placed_at level) row)) →
    P (placed_at level bin)
all_of_row P level [] i bin below is all = absurd (omega (arith, below))
all_of_row P level (first ∷ row) zero bin below is all = subst (λ b. P (placed_at level b)) is all.0
all_of_row P level (first ∷ row) (suc i) bin below is all = all_of_row P level row i bin (omega (arith, below)) is all.1

all_of_rows : (P : Placed → Type 0) (level : ℕ) (rows : List (List BinAt)) (k : ℕ) (bin : BinAt) → k < length rows → Contains (get_or rows k []) bin →
    AllOf P (map of_bin (placed level rows)) → P (placed_at (level + k) bin)
all_of_rows P level [] k bin below named all = absurd (omega (arith, below))
all_of_rows P level (row ∷ rows) k bin below named all =
    let both = all_in P (map of_bin (map (placed_at level) row)) (map of_bin (placed (suc level) rows))
    (subst (AllOf P) (map-append of_bin (map (placed_at level) row) (placed (suc level) rows)) all) in
    elim k as (λ n. n < suc (length rows) → Contains (get_or (row ∷ rows) n []) bin → P (placed_at (level + n) bin)) [
      | zero ↦ λ _ here. subst (λ l. P (placed_at l bin)) (let same : level ≡ level + 0 = omega arith in same) (all_of_row P level row here.0 bin here.1 here.2 both.0)
      | suc n ↦ λ low there. subst (λ l. P (placed_at l bin)) (let same : suc level + n ≡ level + suc n = omega arith in same)
          (all_of_rows P (suc level) rows n bin (omega (arith, low)) there both.1)
    ] below named

-- one that is secure stays broken where other places were written
pub breaks_stay : (s : Numbers) (version : ℕ) (rows : List (List BinAt)) (old new : Files) (at : ℕ) → AreSecure s version (old FRAMES) 1 rows →
    (kept : ℕ → ℕ → Type 0) → ((from to : ℕ) → InNamed s version rows from to → kept from to) →
    length rows ≤ s.levels → LeavesRest kept old new → OneBreaks s version rows (old FRAMES) at → OneBreaks s version rows (new FRAMES) at
breaks_stay s version rows old new at secure kept apart few leaves breaks =
    let row = breaks.breaks in
    let bin = row.bin in
    let level = breaks.number + 1 in
    let within = breaks.within in
    let same : 1 + breaks.number ≡ level = omega arith in
    let place_is : breaks.number ≡ level - 1 = omega arith in
    let here : IsSecure s version (old FRAMES) (placed_at level bin) =
    subst (λ l. IsSecure s version (old FRAMES) (placed_at l bin)) same (all_of_rows (IsSecure s version (old FRAMES)) 1 rows breaks.number bin within row.named secure) in
    let place = frame_place s version level bin.frame in
    let len = frame_len s version level in
    let inside : InNamed s version rows place (min (place + len) (length (old FRAMES))) = record {
      level = level;
      first = omega arith;
      last = omega (arith, within, few);
      bin = bin;
      named = subst (λ (k : ℕ). Contains (get_or rows k []) bin) place_is row.named;
      above = omega arith;
      below = omega arith;
    } in
    let stays : SamePlace place len (old FRAMES) (new FRAMES) = record {
      longer = leaves.longer;
      same = leaves.rest place (min (place + len) (length (old FRAMES))) (apart place (min (place + len) (length (old FRAMES))) inside) (omega arith);
    } in
    record {
      number = breaks.number;
      within = within;
      breaks = record {
        bin = bin;
        named = row.named;
        breaks = record { left = frame_stays s version level bin.frame (width_of bin) (old FRAMES) (new FRAMES) here stays ∙ row.breaks.left };
      };
    }
