-- Frames that are read to their end leave their format nowhere.
use Rattle.std.proofs.{Common.{ℕ, suc, ◌≡◌, ◌≢◌, ◌<◌, List, [], ◌∷◌, length, map, Option, Some, None, refl, ap, sym, ◌∙◌, arith, subst}, lemmas.List.map-append}
use Rattle.lert_bay.specs.{declared.bay.TheConstants.FRAMES, Files.Files}
use Rattle.lert_frames.specs.{ToCome.{if_whole, left_of, pieces_of, told_of}, declared.reader.FrameReader.FrameReader}
use Rattle.lert_spec.specs.{Bins.Bin, declared.numbers.Numbers.Numbers, declared.piece.Piece.Piece}
use Rattle.lert_levels.specs.{declared.rows.bin_at.BinAt.BinAt, rows.Checked.{bin_left, bins_left, first_of, rows_left}, streams.Bin.{Bin as Stream, of_table, of_frame}, streams.SetLaws.to_come_at}
use Rattle.lert_levels.specs.Sources.{Placed, placed_at, placed, Source, of_young, of_bin, sources, IsReaderOf, AreBegun, AllOf}
use Rattle.lert_levels.proofs.{PlacedLaws.all_in, rows.CheckLaws.first_behind}

-- the frame of a bin leaves its format nowhere
abbrev pub IsWhole : Numbers → ℕ → List ℕ → Placed → Type 0
IsWhole s version file p = bin_left s version file p.level p.bin ≡ None

whole_by : (left : Option ℕ) (pieces : List Piece) → if_whole left pieces ≢ None → left ≡ None
whole_by None pieces told = refl
whole_by (Some at) pieces told = absurd (told refl)

-- one of which something is to come
one_whole : (s : Numbers) (version : ℕ) (p : Placed) (r : FrameReader) (told : Option Files) (seen : Files) → told ≡ Some seen → IsReaderOf s version p r →
    told_of told r ≢ None → IsWhole s version (seen FRAMES) p
one_whole s version p r told seen told_is reader coming =
    sym (reader.left (seen FRAMES))
    ∙ whole_by (left_of r (seen FRAMES)) (pieces_of r (seen FRAMES)) (λ none. coming (ap (λ files. told_of files r) told_is ∙ none))

begun_each : (s : Numbers) (version : ℕ) (some : List Source) (bins : List Stream) (told : Option Files) (seen : Files) → told ≡ Some seen → AreBegun s version some bins →
    ((k : ℕ) → k < length bins → to_come_at told bins k ≢ None) → AllOf (IsWhole s version (seen FRAMES)) some
begun_each s version [] [] told seen told_is are coming = tt
begun_each s version (of_bin p ∷ some) (of_frame r ∷ bins) told seen told_is are coming = (
  one_whole s version p r told seen told_is are.0 (coming 0 (omega arith)),
  begun_each s version some bins told seen told_is are.1 (λ k below. coming (suc k) (omega (arith, below))),
)
begun_each s version (of_young bin ∷ some) (of_table table ∷ bins) told seen told_is are coming =
    begun_each s version some bins told seen told_is are.1 (λ k below. coming (suc k) (omega (arith, below)))
begun_each s version (of_young bin ∷ some) (of_frame r ∷ bins) told seen told_is are coming = absurd are.0
begun_each s version (of_bin p ∷ some) (of_table table ∷ bins) told seen told_is are coming = absurd are.0
begun_each s version [] (b ∷ bins) told seen told_is are coming = absurd are
begun_each s version (of_bin p ∷ some) [] told seen told_is are coming = absurd are
begun_each s version (of_young bin ∷ some) [] told seen told_is are coming = absurd are

row_whole : (s : Numbers) (version : ℕ) (file : List ℕ) (level : ℕ) (row : List BinAt) → AllOf (IsWhole s version file) (map of_bin (map (placed_at level) row)) →
    first_of (map (bin_left s version file level) row) ≡ None
row_whole s version file level [] all = refl
row_whole s version file level (bin ∷ row) all = ap (λ left. first_of (left ∷ map (bin_left s version file level) row)) all.0 ∙ row_whole s version file level row all.1

placed_whole : (s : Numbers) (version : ℕ) (file : List ℕ) (level : ℕ) (rows : List (List BinAt)) → AllOf (IsWhole s version file) (map of_bin (placed level rows)) →
    first_of (bins_left s version file level rows) ≡ None
placed_whole s version file level [] all = refl
placed_whole s version file level (row ∷ rows) all =
    let both = all_in (IsWhole s version file) (map of_bin (map (placed_at level) row)) (map of_bin (placed (suc level) rows))
    (subst (AllOf (IsWhole s version file)) (map-append of_bin (map (placed_at level) row) (placed (suc level) rows)) all) in
    first_behind (map (bin_left s version file level) row) (bins_left s version file (suc level) rows) (row_whole s version file level row both.0) ∙ placed_whole s version file (suc level) rows both.1

-- where something is to come of each stream of the rows, each of their frames is whole
pub begun_whole : (s : Numbers) (version : ℕ) (young : List Bin) (rows : List (List BinAt)) (bins : List Stream) (told : Option Files) (seen : Files) → told ≡ Some seen →
    AreBegun s version (sources young rows) bins → ((k : ℕ) → k < length bins → to_come_at told bins k ≢ None) → rows_left s version (seen FRAMES) rows ≡ None
begun_whole s version young rows bins told seen told_is begun coming =
    placed_whole s version (seen FRAMES) 1 rows
    (all_in (IsWhole s version (seen FRAMES)) (map of_young young) (map of_bin (placed 1 rows)) (begun_each s version (sources young rows) bins told seen told_is begun coming)).1
