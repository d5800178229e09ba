-- Streams of the bins of a flush, before anything was read of them.
use Rattle.std.proofs.Common.{ℕ, zero, suc, ◌≡◌, ◌+◌, ◌*◌, ◌-◌, ◌^◌, ◌<◌, ◌≤◌, List, [], ◌∷◌, ◌++◌, length, map, get_or, Option, Some, None, refl, ap, ap₂, sym, ◌∙◌, arith, subst, sum_by}
use Rattle.std.proofs.{Common.{length-append, add-one}, Math.Nat.{suc-mul, mul-le-mul_right}, lemmas.Nat.mul-le, lemmas.List.{map-append, length-map}}
use Rattle.std.proofs.{lemmas.List.Elements.{All-head, All-tail, All-append, All-cons}, lemmas.List.Sums.sum_by-cons}
use Rattle.std.specs.{Prelude.sum, List.All}
use Rattle.lert_bay.specs.{declared.bay.TheConstants.FRAMES, Files.Files}
use Rattle.lert_frames.specs.Place.{tail_limit}
use Rattle.lert_frames.proofs.{FrameLaws.told_begun, PlaceLaws.span_fits}
use Rattle.lert_merge.specs.order.Members.{given_at, limit_at}
use Rattle.lert_levels.specs.{declared.rows.bin_at.BinAt.BinAt, rows.Loading.{width_of, Stands, AllStand, held_in, widths_in}, rows.Rows.AreFirst}
use Rattle.lert_levels.specs.{streams.Bin.{Bin as Stream, of_table, of_frame, to_come_of, given_of, limit_of, version_of, wide_of}, streams.BinLaws.{in_order, table_told}, streams.Tables.fresh_bin}
use Rattle.lert_levels.specs.rows.Young.{AreCheap}
use Rattle.lert_levels.specs.{streams.SetLaws.to_come_at, Merged.{streams_of, widths_of, Fills, AreBins}}
use Rattle.lert_levels.specs.Sources.{placed_at, placed, Source, of_young, of_bin, sources, pieces_from, width_in, IsBegun, AreBegun}
use Rattle.lert_spec.specs.{Bins.Bin, Edges.{span, tail_bits}, Limits.IsValid, Table.{costs, AreGiven}, declared.numbers.Numbers.Numbers, declared.piece.Piece.Piece}

-- ---- the sources

pub begun_more : (s : Numbers) (version : ℕ) (some more : List Source) (bins others : List Stream) → AreBegun s version some bins → AreBegun s version more others →
    AreBegun s version (some ++ more) (bins ++ others)
begun_more s version [] more [] others one two = two
begun_more s version (x ∷ some) more (b ∷ bins) others one two = (one.0, begun_more s version some more bins others one.1 two)
begun_more s version [] more (b ∷ bins) others one two = absurd one
begun_more s version (x ∷ some) more [] others one two = absurd one

pub begun_length : (s : Numbers) (version : ℕ) (some : List Source) (bins : List Stream) → AreBegun s version some bins → length bins ≡ length some
begun_length s version [] [] are = refl
begun_length s version (x ∷ some) (b ∷ bins) are = ap suc (begun_length s version some bins are.1)
begun_length s version [] (b ∷ bins) are = absurd are
begun_length s version (x ∷ some) [] are = absurd are

placed_length : (level : ℕ) (rows : List (List BinAt)) → length (placed level rows) ≡ sum_by (λ (row : List BinAt). length row) rows
placed_length level [] = refl
placed_length level (row ∷ rows) = omega (
  arith,
  length-append (map (placed_at level) row) (placed (suc level) rows),
  length-map row (placed_at level),
  sum_by-cons (λ (r : List BinAt). length r) row rows,
  placed_length (suc level) rows,
)

pub sources_length : (young : List Bin) (rows : List (List BinAt)) → length (sources young rows) ≡ length young + sum_by (λ (row : List BinAt). length row) rows
sources_length young rows = omega (
  arith,
  length-append (map of_young young) (map of_bin (placed 1 rows)),
  length-map young of_young,
  length-map (placed 1 rows) of_bin,
  placed_length 1 rows,
)

placed_held : (held : BinAt → List Piece) (level : ℕ) (rows : List (List BinAt)) → map (pieces_from held) (map of_bin (placed level rows)) ≡ held_in held rows
placed_held held level [] = refl
placed_held held level (row ∷ rows) =
    ap (map (pieces_from held)) (map-append of_bin (map (placed_at level) row) (placed (suc level) rows))
    ∙ map-append (pieces_from held) (map of_bin (map (placed_at level) row)) (map of_bin (placed (suc level) rows))
    ∙ ap₂ (λ xs ys. xs ++ ys) (row_held row) (placed_held held (suc level) rows)
  where
    row_held : (row : List BinAt) → map (pieces_from held) (map of_bin (map (placed_at level) row)) ≡ map held row
    row_held [] = refl
    row_held (bin ∷ row) = ap (λ xs. held bin ∷ xs) (row_held row)

placed_widths : (level : ℕ) (rows : List (List BinAt)) → map width_in (map of_bin (placed level rows)) ≡ widths_in rows
placed_widths level [] = refl
placed_widths level (row ∷ rows) =
    ap (map width_in) (map-append of_bin (map (placed_at level) row) (placed (suc level) rows))
    ∙ map-append width_in (map of_bin (map (placed_at level) row)) (map of_bin (placed (suc level) rows))
    ∙ ap₂ (λ xs ys. xs ++ ys) (row_widths row) (placed_widths (suc level) rows)
  where
    row_widths : (row : List BinAt) → map width_in (map of_bin (map (placed_at level) row)) ≡ map width_of row
    row_widths [] = refl
    row_widths (bin ∷ row) = ap (λ xs. width_of bin ∷ xs) (row_widths row)

young_pieces : (held : BinAt → List Piece) (young : List Bin) → map (pieces_from held) (map of_young young) ≡ map (λ (bin : Bin). bin.pieces) young
young_pieces held [] = refl
young_pieces held (bin ∷ young) = ap (λ xs. bin.pieces ∷ xs) (young_pieces held young)

young_widths : (young : List Bin) → map width_in (map of_young young) ≡ map (λ (bin : Bin). bin.to - bin.from) young
young_widths [] = refl
young_widths (bin ∷ young) = ap (λ xs. (bin.to - bin.from) ∷ xs) (young_widths young)

-- their pieces and widths are those of the merge
pub sources_pieces : (held : BinAt → List Piece) (young : List Bin) (rows : List (List BinAt)) → map (pieces_from held) (sources young rows) ≡ streams_of young held rows
sources_pieces held young rows =
    map-append (pieces_from held) (map of_young young) (map of_bin (placed 1 rows)) ∙ ap₂ (λ xs ys. xs ++ ys) (young_pieces held young) (placed_held held 1 rows)

pub sources_widths : (young : List Bin) (rows : List (List BinAt)) → map width_in (sources young rows) ≡ widths_of young rows
sources_widths young rows =
    map-append width_in (map of_young young) (map of_bin (placed 1 rows)) ∙ ap₂ (λ xs ys. xs ++ ys) (young_widths young) (placed_widths 1 rows)

-- ---- what each stream is

one_given : (s : Numbers) (version : ℕ) (source : Source) (stream : Stream) → IsBegun s version source stream → given_of stream ≡ []
one_given s version (of_young bin) (of_table table) is = is.given
one_given s version (of_bin p) (of_frame r) is = is.gave
one_given s version (of_young bin) (of_frame r) is = absurd is
one_given s version (of_bin p) (of_table table) is = absurd is

pub begun_given : (s : Numbers) (version : ℕ) (some : List Source) (bins : List Stream) (k : ℕ) → AreBegun s version some bins → given_at given_of bins k ≡ []
begun_given s version [] [] k are = refl
begun_given s version (x ∷ some) (b ∷ bins) zero are = one_given s version x b are.0
begun_given s version (x ∷ some) (b ∷ bins) (suc k) are = begun_given s version some bins k are.1
begun_given s version [] (b ∷ bins) k are = absurd are
begun_given s version (x ∷ some) [] k are = absurd are

one_limit : (s : Numbers) (version : ℕ) (source : Source) (stream : Stream) → IsBegun s version source stream → limit_of stream ≡ tail_limit s
one_limit s version (of_young bin) (of_table table) is = is.limit
one_limit s version (of_bin p) (of_frame r) is = ap tail_limit is.of_settings
one_limit s version (of_young bin) (of_frame r) is = absurd is
one_limit s version (of_bin p) (of_table table) is = absurd is

pub begun_limit : (s : Numbers) (version : ℕ) (some : List Source) (bins : List Stream) (k : ℕ) → AreBegun s version some bins → k < length bins → limit_at limit_of bins k ≡ tail_limit s
begun_limit s version [] [] k are below = absurd (omega (arith, below))
begun_limit s version (x ∷ some) (b ∷ bins) zero are below = one_limit s version x b are.0
begun_limit s version (x ∷ some) (b ∷ bins) (suc k) are below = begun_limit s version some bins k are.1 (omega (arith, below))
begun_limit s version [] (b ∷ bins) k are below = absurd are
begun_limit s version (x ∷ some) [] k are below = absurd are

one_width : (s : Numbers) (version : ℕ) (source : Source) (stream : Stream) → IsBegun s version source stream → wide_of version stream ≤ width_in source
one_width s version (of_young bin) (of_table table) is = omega (arith, ap₂ (λ front rest. costs version (front ++ rest)) is.given is.left, is.fits)
one_width s version (of_bin p) (of_frame r) is = omega (arith, is.wide)
one_width s version (of_young bin) (of_frame r) is = absurd is
one_width s version (of_bin p) (of_table table) is = absurd is

pub begun_width : (s : Numbers) (version : ℕ) (some : List Source) (bins : List Stream) (k : ℕ) → AreBegun s version some bins → limit_at (wide_of version) bins k ≤ get_or (map width_in some) k 0
begun_width s version [] [] k are = omega arith
begun_width s version (x ∷ some) (b ∷ bins) zero are = one_width s version x b are.0
begun_width s version (x ∷ some) (b ∷ bins) (suc k) are = begun_width s version some bins k are.1
begun_width s version [] (b ∷ bins) k are = absurd are
begun_width s version (x ∷ some) [] k are = absurd are

one_version : (s : Numbers) (version : ℕ) (source : Source) (stream : Stream) → IsBegun s version source stream → version_of version stream ≡ version
one_version s version (of_young bin) (of_table table) is = refl
one_version s version (of_bin p) (of_frame r) is = is.of_version
one_version s version (of_young bin) (of_frame r) is = absurd is
one_version s version (of_bin p) (of_table table) is = absurd is

pub begun_version : (s : Numbers) (version : ℕ) (some : List Source) (bins : List Stream) (k : ℕ) → AreBegun s version some bins → k < length bins → limit_at (version_of version) bins k ≡ version
begun_version s version [] [] k are below = absurd (omega (arith, below))
begun_version s version (x ∷ some) (b ∷ bins) zero are below = one_version s version x b are.0
begun_version s version (x ∷ some) (b ∷ bins) (suc k) are below = begun_version s version some bins k are.1 (omega (arith, below))
begun_version s version [] (b ∷ bins) k are below = absurd are
begun_version s version (x ∷ some) [] k are below = absurd are

-- ---- what the frames of a told file hold

-- what is so of a source: that its bin stands
abbrev pub SourceStands : Numbers → ℕ → List ℕ → (BinAt → List Piece) → Source → Type 0
SourceStands s version file held (of_young bin) = Unit {0}
SourceStands s version file held (of_bin p) = (p.level ≤ s.levels) × (width_of p.bin ≤ span s p.level) × Stands s version p.level file held p.bin

abbrev pub SourcesStand : Numbers → ℕ → List ℕ → (BinAt → List Piece) → List Source → Type 0
SourcesStand s version file held [] = Unit {0}
SourcesStand s version file held (x ∷ some) = SourceStands s version file held x × SourcesStand s version file held some

stand_append : (s : Numbers) (version : ℕ) (file : List ℕ) (held : BinAt → List Piece) (some more : List Source) → SourcesStand s version file held some → SourcesStand s version file held more →
    SourcesStand s version file held (some ++ more)
stand_append s version file held [] more one two = two
stand_append s version file held (x ∷ some) more one two = (one.0, stand_append s version file held some more one.1 two)

-- a row of a level
record RowHolds (s : Numbers) (version : ℕ) (file : List ℕ) (held : BinAt → List Piece) (level : ℕ) (row : List BinAt) : Type 0 where
  last : level ≤ s.levels
  widths : All (λ bin. width_of bin ≤ span s level) row
  stand : All (Stands s version level file held) row

row_stands : (s : Numbers) (version : ℕ) (file : List ℕ) (held : BinAt → List Piece) (level : ℕ) (row : List BinAt) → RowHolds s version file held level row →
    SourcesStand s version file held (map of_bin (map (placed_at level) row))
row_stands s version file held level [] is = tt
row_stands s version file held level (bin ∷ row) is = (
  (is.last, All-head (λ (b : BinAt). width_of b ≤ span s level) bin row is.widths, All-head (Stands s version level file held) bin row is.stand),
  row_stands s version file held level row (record {
    last = is.last;
    widths = All-tail (λ (b : BinAt). width_of b ≤ span s level) bin row is.widths;
    stand = All-tail (Stands s version level file held) bin row is.stand;
  }),
)

rows_hold : (s : Numbers) (version : ℕ) (file : List ℕ) (held : BinAt → List Piece) (level : ℕ) (rows : List (List BinAt)) →
    ((k : ℕ) → k < length rows → RowHolds s version file held (level + k) (get_or rows k [])) → SourcesStand s version file held (map of_bin (placed level rows))
rows_hold s version file held level [] each = tt
rows_hold s version file held level (row ∷ rows) each =
    let here : level + 0 ≡ level = omega arith in
    subst (SourcesStand s version file held) (sym (map-append of_bin (map (placed_at level) row) (placed (suc level) rows)))
    (stand_append s version file held (map of_bin (map (placed_at level) row)) (map of_bin (placed (suc level) rows))
    (row_stands s version file held level row (subst (λ l. RowHolds s version file held l row) here (each 0 (omega arith))))
    (rows_hold s version file held (suc level) rows (λ k below. subst (λ l. RowHolds s version file held l (get_or rows k [])) (let next : level + suc k ≡ suc level + k = omega arith in next)
    (each (suc k) (omega (arith, below))))))

young_hold : (s : Numbers) (version : ℕ) (file : List ℕ) (held : BinAt → List Piece) (young : List Bin) → SourcesStand s version file held (map of_young young)
young_hold s version file held [] = tt
young_hold s version file held (bin ∷ young) = (tt, young_hold s version file held young)

-- where all frames stand, so do the sources
pub sources_stand : (s : Numbers) (version : ℕ) (file : List ℕ) (held : BinAt → List Piece) (young : List Bin) (rows : List (List BinAt)) → AreFirst s rows →
    AllStand s version file held rows → SourcesStand s version file held (sources young rows)
sources_stand s version file held young rows are stand =
    stand_append s version file held (map of_young young) (map of_bin (placed 1 rows)) (young_hold s version file held young)
    (rows_hold s version file held 1 rows (λ k below. (
    let same : k + 1 ≡ 1 + k = omega arith in
    subst (λ l. RowHolds s version file held l (get_or rows k [])) same
    (record { last = omega (arith, are.few, below); widths = (are.each k below).widths; stand = stand k below }))))

one_told : (s : Numbers) (version : ℕ) (valid : IsValid s) (source : Source) (stream : Stream) (told : Option Files) (seen : Files) (held : BinAt → List Piece) → told ≡ Some seen →
    IsBegun s version source stream → SourceStands s version (seen FRAMES) held source → to_come_of told stream ≡ Some (pieces_from held source)
one_told s version valid (of_young bin) (of_table table) told seen held told_is is stands =
    table_told table (subst (λ l. AreGiven l (table.given ++ table.left)) (sym is.limit)
    (subst (AreGiven (tail_limit s)) (sym (ap₂ (λ front rest. front ++ rest) is.given is.left)) is.ordered))
    ∙ ap Some is.left
one_told s version valid (of_bin p) (of_frame r) told seen held told_is is stands =
    told_begun s version p.level p.bin.frame (width_of p.bin) (seen FRAMES) (held p.bin) valid stands.0 stands.1 stands.2.are stands.2.text told seen r told_is refl
    (is.left (seen FRAMES)) (is.pieces (seen FRAMES))
one_told s version valid (of_young bin) (of_frame r) told seen held told_is is stands = absurd is
one_told s version valid (of_bin p) (of_table table) told seen held told_is is stands = absurd is

pub begun_told : (s : Numbers) (version : ℕ) (valid : IsValid s) (some : List Source) (bins : List Stream) (k : ℕ) (told : Option Files) (seen : Files) (held : BinAt → List Piece) → told ≡ Some seen →
    AreBegun s version some bins → SourcesStand s version (seen FRAMES) held some → k < length bins → to_come_at told bins k ≡ Some (get_or (map (pieces_from held) some) k [])
begun_told s version valid [] [] k told seen held told_is are stand below = absurd (omega (arith, below))
begun_told s version valid (x ∷ some) (b ∷ bins) zero told seen held told_is are stand below = one_told s version valid x b told seen held told_is are.0 stand.0
begun_told s version valid (x ∷ some) (b ∷ bins) (suc k) told seen held told_is are stand below = begun_told s version valid some bins k told seen held told_is are.1 stand.1 (omega (arith, below))
begun_told s version valid [] (b ∷ bins) k told seen held told_is are stand below = absurd are
begun_told s version valid (x ∷ some) [] k told seen held told_is are stand below = absurd are

-- ---- level 0

-- tables as the bins of level 0
pub young_begun : {T : Type 0} (s : Numbers) (version : ℕ) (bits : T → ℕ) (pieces : T → List Piece) (tables : List T) (young : List Bin) → map pieces tables ≡ map (λ (bin : Bin). bin.pieces) young →
    All (λ table. bits table ≡ tail_bits s) tables → AreCheap version young →
    ((k : ℕ) (d : T) → k < length tables → to_come_at None (map of_table (map (fresh_bin bits pieces) tables)) k ≡ Some (pieces (get_or tables k d))) →
    AreBegun s version (map of_young young) (map of_table (map (fresh_bin bits pieces) tables))
young_begun s version bits pieces [] [] same rooms widths coming = tt
young_begun s version bits pieces [] (bin ∷ young) same rooms widths coming = absurd (cc)
young_begun s version bits pieces (t ∷ tables) [] same rooms widths coming = absurd (cc)
young_begun s version bits pieces (t ∷ tables) (bin ∷ young) same rooms widths coming =
    let here : pieces t ≡ bin.pieces = cc in
    let others : map pieces tables ≡ map (λ (b : Bin). b.pieces) young = cc in
    let limit : 2 ^ bits t ≡ tail_limit s = ap (λ n. 2 ^ n) (rooms 0 t (omega arith)) in
    let given : AreGiven (2 ^ bits t) (pieces t) = in_order None (of_table (fresh_bin bits pieces t)) (pieces t) (coming 0 t (omega arith)) in (
      record {
        limit = limit;
        given = refl;
        left = here;
        ordered = subst (AreGiven (tail_limit s)) here (subst (λ l. AreGiven l (pieces t)) limit given);
        fits = widths 0 bin (omega arith);
      },
      young_begun s version bits pieces tables young others (λ k d below. rooms (suc k) d (omega (arith, below))) (λ k d below. widths (suc k) d (omega (arith, below)))
          (λ k d below. coming (suc k) d (omega (arith, below))),
    )

-- and behind them the rows
pub all_begun : {T : Type 0} (s t : Numbers) (version : ℕ) (bits : T → ℕ) (pieces : T → List Piece) (tables : List T) (young : List Bin)
    (rows : List (List BinAt)) (first after : List Stream) → t ≡ s →
    map pieces tables ≡ map (λ (bin : Bin). bin.pieces) young → All (λ table. bits table ≡ tail_bits s) tables → AreCheap version young →
    first ≡ map of_table (map (fresh_bin bits pieces) tables) → ((k : ℕ) (d : T) → k < length tables → to_come_at None first k ≡ Some (pieces (get_or tables k d))) →
    ((before : List Source) → AreBegun t version before first → AreBegun t version (before ++ map of_bin (placed 1 rows)) after) → AreBegun s version (sources young rows) after
all_begun {T} s t version bits pieces tables young rows first after settings same rooms widths first_is coming behind =
    let begun = young_begun s version bits pieces tables young same rooms widths
    (λ k d below. subst (λ (bins : List Stream). to_come_at None bins k ≡ Some (pieces (get_or tables k d))) first_is (coming k d below)) in
    subst (λ (n : Numbers). AreBegun n version (sources young rows) after) settings
    (behind (map of_young young) (subst (λ (n : Numbers). AreBegun n version (map of_young young) first) (sym settings)
    (subst (AreBegun s version (map of_young young)) (sym first_is) begun)))

-- at most one for each bin of each level
few_rows : (bins : ℕ) (rows : List (List BinAt)) → ((k : ℕ) → k < length rows → length (get_or rows k []) ≤ bins) →
    sum_by (λ (row : List BinAt). length row) rows ≤ length rows * bins
few_rows bins [] each = omega arith
few_rows bins (row ∷ rows) each =
    omega (arith, sum_by-cons (λ (r : List BinAt). length r) row rows, each 0 (omega arith), few_rows bins rows (λ k below. each (suc k) (omega (arith, below))), suc-mul (length rows) bins)

pub sources_few : (s : Numbers) (young : List Bin) (rows : List (List BinAt)) → length young ≤ s.bins → AreFirst s rows →
    length (sources young rows) ≤ (s.levels + 1) * s.bins
sources_few s young rows few_young are =
    let rows_few = few_rows s.bins rows (λ k below. (are.each k below).few) in
    let product = mul-le-mul_right s.bins are.few in
    let next : (s.levels + 1) * s.bins ≡ s.levels * s.bins + s.bins = ap (λ n. n * s.bins) (add-one s.levels) ∙ suc-mul s.levels s.bins in
    omega (arith, sources_length young rows, rows_few, product, few_young)

pub sources_number : (s : Numbers) → IsValid s → (s.levels + 1) * s.bins ≤ 144
sources_number s valid = mul-le (s.levels + 1) s.bins 9 16 (omega (arith, valid.limits.levels_to)) valid.limits.bins_to

-- ---- what was taken of them

-- lists that fill bins, one by one
pub bins_from : (version limit : ℕ) (widths : List ℕ) (lists : List (List Piece)) → length lists ≡ length widths →
    ((k : ℕ) → k < length lists → Fills version limit (get_or widths k 0) (get_or lists k [])) → AreBins version limit widths lists
bins_from version limit [] [] len each = record {}
bins_from version limit [] (list ∷ lists) len each = absurd (omega (arith, len))
bins_from version limit (width ∷ widths) [] len each = absurd (omega (arith, len))
bins_from version limit (width ∷ widths) (list ∷ lists) len each = (each 0 (omega arith), bins_from version limit widths lists (omega (arith, len)) (λ k below. each (suc k) (omega (arith, below))))

-- no wider than some number each, all together no wider than so many times it
sum_few : (most : ℕ) (widths : List ℕ) → All (λ width. width ≤ most) widths → sum widths ≤ length widths * most
sum_few most [] each = omega arith
sum_few most (width ∷ widths) each =
    omega (
      arith,
      sum_by-cons (λ (n : ℕ). n) width widths,
      All-head (λ n. n ≤ most) width widths each,
      sum_few most widths (All-tail (λ n. n ≤ most) width widths each),
      suc-mul (length widths) most,
    )

-- each source is at most 2^47 wide
abbrev pub AreNarrow : List Source → Type 0
AreNarrow some = All (λ width. width ≤ 2 ^ 47) (map width_in some)

narrow_append : (some more : List Source) → AreNarrow some → AreNarrow more → AreNarrow (some ++ more)
narrow_append some more one two =
    subst (All (λ width. width ≤ 2 ^ 47)) (sym (map-append width_in some more)) (All-append (λ width. width ≤ 2 ^ 47) (map width_in some) (map width_in more) one two)

narrow_young : (s : Numbers) (valid : IsValid s) (young : List Bin) → All (λ (bin : Bin). bin.to - bin.from ≤ 255 * span s 0) young → AreNarrow (map of_young young)
narrow_young s valid [] each = λ k d below. absurd (omega (arith, below))
narrow_young s valid (bin ∷ young) each =
    All-cons (λ width. width ≤ 2 ^ 47) (bin.to - bin.from) (map width_in (map of_young young))
    (omega (arith, All-head (λ (b : Bin). b.to - b.from ≤ 255 * span s 0) bin young each, span_fits s valid 0 (omega arith)))
    (narrow_young s valid young (All-tail (λ (b : Bin). b.to - b.from ≤ 255 * span s 0) bin young each))

narrow_row : (s : Numbers) (valid : IsValid s) (level : ℕ) (row : List BinAt) → level ≤ s.levels → All (λ bin. width_of bin ≤ span s level) row →
    AreNarrow (map of_bin (map (placed_at level) row))
narrow_row s valid level [] last each = λ k d below. absurd (omega (arith, below))
narrow_row s valid level (bin ∷ row) last each =
    All-cons (λ width. width ≤ 2 ^ 47) (width_of bin) (map width_in (map of_bin (map (placed_at level) row)))
    (omega (arith, All-head (λ (b : BinAt). width_of b ≤ span s level) bin row each, span_fits s valid level last))
    (narrow_row s valid level row last (All-tail (λ (b : BinAt). width_of b ≤ span s level) bin row each))

narrow_rows : (s : Numbers) (valid : IsValid s) (level : ℕ) (rows : List (List BinAt)) →
    ((k : ℕ) → k < length rows → (level + k ≤ s.levels) × All (λ bin. width_of bin ≤ span s (level + k)) (get_or rows k [])) → AreNarrow (map of_bin (placed level rows))
narrow_rows s valid level [] each = λ k d below. absurd (omega (arith, below))
narrow_rows s valid level (row ∷ rows) each =
    let here = each 0 (omega arith) in
    let zero_more : level + 0 ≡ level = omega arith in
    subst AreNarrow (sym (map-append of_bin (map (placed_at level) row) (placed (suc level) rows)))
    (narrow_append (map of_bin (map (placed_at level) row)) (map of_bin (placed (suc level) rows))
    (narrow_row s valid level row (omega (arith, here.0)) (subst (λ l. All (λ bin. width_of bin ≤ span s l) row) zero_more here.1))
    (narrow_rows s valid (suc level) rows (λ k below. (let there = each (suc k) (omega (arith, below)) in let next : level + suc k ≡ suc level + k = omega arith in
    (omega (arith, there.0), subst (λ l. All (λ bin. width_of bin ≤ span s l) (get_or rows k [])) next there.1)))))

-- so they can be added up
pub widths_small : (s : Numbers) (valid : IsValid s) (young : List Bin) (rows : List (List BinAt)) → length young ≤ s.bins → AreFirst s rows →
    All (λ (bin : Bin). bin.to - bin.from ≤ 255 * span s 0) young → sum (widths_of young rows) < 2 ^ 55
widths_small s valid young rows few_young are narrow =
    let all : AreNarrow (sources young rows) = narrow_append (map of_young young) (map of_bin (placed 1 rows)) (narrow_young s valid young narrow)
    (narrow_rows s valid 1 rows (λ k below. (let next : k + 1 ≡ 1 + k = omega arith in
    (omega (arith, below, are.few), subst (λ l. All (λ bin. width_of bin ≤ span s l) (get_or rows k [])) next (are.each k below).widths)))) in
    let most = sum_few (2 ^ 47) (map width_in (sources young rows)) all in
    let count = length-map (sources young rows) width_in in
    let number = mul-le-mul_right (2 ^ 47) (let few_all : length (map width_in (sources young rows)) ≤ 144 = omega (arith, count, sources_few s young rows few_young are, sources_number s valid) in
    few_all) in
    let same = ap sum (sources_widths young rows) in
    omega (arith, most, number, same)
