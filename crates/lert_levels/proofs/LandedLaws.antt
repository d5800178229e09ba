-- What a merge is given and what it made, of streams that were begun and landings that were started.
use Rattle.std.proofs.Common.{ℕ, ◌≡◌, ◌≢◌, ◌+◌, ◌<◌, ◌≤◌, List, [], ◌∷◌, length, map, get_or, take, Option, Some, None, refl, ap, sym, ◌∙◌, arith, subst, sum_by, Result}
use Rattle.std.proofs.{lemmas.List.{length-map, length-take, take_all}, lemmas.Option.none-some}
use Rattle.std.specs.Prelude.{Ok, Err, OnOk, sum}
use Rattle.lert_bay.specs.{declared.bay.TheConstants.FRAMES, Files.{Files, IfTold}}
use Rattle.lert_levels.specs.{flush.Merged.{AreParts, picked}, landing.Landings.{AreLandings, AreOfLevels, IsOutside}, landing.Summed.sums_of, declared.landing.landing.Landing.Landing}
use Rattle.lert_levels.specs.{declared.rows.bin_at.BinAt.BinAt, rows.Landing.{IsApart, landing_frame, AreApart}, rows.Checked.rows_left, rows.Loading.AllStand}
use Rattle.lert_levels.specs.{streams.Bin.{Bin as Stream, limit_of, version_of, wide_of}, streams.BinSet.Reads, streams.SetLaws.to_come_at, Merged.{IsMade, IsFrames, Fills, streams_of, widths_of}}
use Rattle.lert_levels.specs.{Parts.{Part, streams_to, parts_at, part_table, ArePartsOf}, Ready.{AreStarted, AreReached, HasMade}, Sources.{sources, pieces_from, width_in, AreBegun}}
use Rattle.lert_levels.specs.rows.Rows.{AreFirst}
use Rattle.lert_frames.specs.{Frame.HoldsFrame, Place.tail_limit}
use Rattle.lert_merge.specs.order.Members.{limit_at}
use Rattle.lert_spec.specs.{Bins.Bin, Edges.span, Limits.IsValid, Table.{costs, AreGiven}, declared.numbers.Numbers.Numbers, declared.piece.Piece.Piece}
use Rattle.lert_levels.proofs.{FlushLaws.made_at, PartLaws.some_streams, PickLaws.picked_part, PlacedLaws.begun_reads, WholeLaws.begun_whole, ReadyLaws.{first_landings, first_started}}
use Rattle.lert_levels.proofs.SourceLaws.{begun_length, begun_limit, begun_width, begun_version, begun_told, sources_length, sources_pieces, sources_widths, sources_stand, bins_from}

pub on_ok : {T E : Type 0} (result : Result T E) (P Q : Type 0) → (P → Q) → OnOk result P → OnOk result Q
on_ok (Ok value) P Q weaker is = weaker is
on_ok (Err error) P Q weaker is = tt

-- how many streams there are
pub begun_number : (s : Numbers) (version : ℕ) (young : List Bin) (rows : List (List BinAt)) (bins : List Stream) → AreBegun s version (sources young rows) bins →
    length bins ≡ streams_to (length young) rows (length rows)
begun_number s version young rows bins begun =
    begun_length s version (sources young rows) bins begun ∙ sources_length young rows
    ∙ ap (λ rs. length young + sum_by (λ (row : List BinAt). length row) rs) (sym (take_all (length rows) rows (omega arith)))

pub widths_number : (young : List Bin) (rows : List (List BinAt)) → length (widths_of young rows) ≡ streams_to (length young) rows (length rows)
widths_number young rows =
    sym (ap (length {A = ℕ}) (sources_widths young rows)) ∙ length-map (sources young rows) width_in ∙ sources_length young rows
    ∙ ap (λ rs. length young + sum_by (λ (row : List BinAt). length row) rs) (sym (take_all (length rows) rows (omega arith)))

pub begun_wide : (s : Numbers) (version : ℕ) (young : List Bin) (rows : List (List BinAt)) (bins : List Stream) (k : ℕ) → AreBegun s version (sources young rows) bins →
    limit_at (wide_of version) bins k ≤ get_or (widths_of young rows) k 0
begun_wide s version young rows bins k begun =
    let width = begun_width s version (sources young rows) bins k begun in
    let same = ap (λ ws. get_or ws k 0) (sources_widths young rows) in
    omega (arith, width, same)

-- ---- what a merge took

module _ (s : Numbers) (version : ℕ) (valid : IsValid s) (young : List Bin) (rows : List (List BinAt)) (are : AreFirst s rows) (bins : List Stream)
    (begun : AreBegun s version (sources young rows) bins)
    (took : List Piece → Type 0) (before : Option Files) (lists : List (List Piece)) (len : length lists ≡ length bins)
    (given : (k : ℕ) → k < length bins → AreGiven (limit_at limit_of bins k) (get_or lists k []))
    (fits : (k : ℕ) → k < length bins → costs (limit_at (version_of version) bins k) (get_or lists k []) ≤ limit_at (wide_of version) bins k) (totals_are : took (sums_of lists))
    (told : (all : List (List Piece)) → length all ≡ length bins → ((k : ℕ) → k < length bins → to_come_at before bins k ≡ Some (get_or all k [])) → lists ≡ all)
    (whole : before ≢ None → (k : ℕ) → k < length bins → to_come_at before bins k ≡ Some (get_or lists k [])) where
  each_fills : (k : ℕ) → k < length lists → Fills version (tail_limit s) (get_or (widths_of young rows) k 0) (get_or lists k [])
  each_fills k below =
      let within : k < length bins = omega (arith, below, len) in
      record {
        given = subst (λ l. AreGiven l (get_or lists k [])) (begun_limit s version (sources young rows) bins k begun within) (given k within);
        fits =
            let same = ap (λ v. costs v (get_or lists k [])) (begun_version s version (sources young rows) bins k begun within) in
            omega (arith, same, fits k within, begun_wide s version young rows bins k begun);
      }

  told_lists : (file : List ℕ) → IsFrames before file → (held : BinAt → List Piece) → AllStand s version file held rows → lists ≡ streams_of young held rows
  told_lists file here held stand =
      let there : AllStand s version (here.seen FRAMES) held rows = subst (λ (bytes : List ℕ). AllStand s version bytes held rows) here.is stand in
      let hold = sources_stand s version (here.seen FRAMES) held young rows are there in
      let pieces = sources_pieces held young rows in
      told (streams_of young held rows)
      (sym (ap (length {A = List Piece}) pieces) ∙ length-map (sources young rows) (pieces_from held) ∙ sym (begun_length s version (sources young rows) bins begun))
      (λ k below. begun_told s version valid (sources young rows) bins k before here.seen held here.told begun hold below ∙ ap (λ (ls : List (List Piece)). Some (get_or ls k [])) pieces)

  whole_rows : (file : List ℕ) → IsFrames before file → rows_left s version file rows ≡ None
  whole_rows file here =
      let files : before ≢ None = λ none. none-some here.seen (sym none ∙ here.told) in
      ap (λ (bytes : List ℕ). rows_left s version bytes rows) here.is
      ∙ begun_whole s version young rows bins before here.seen here.told begun (λ k below none. none-some (get_or lists k []) (sym none ∙ whole files k below))

  pub made_of : (parts : List Part) → IsMade s version young rows parts took (IsFrames before) (map (part_table lists) parts)
  made_of parts = record {
    lists = lists;
    bins = bins_from version (tail_limit s) (widths_of young rows) lists (len ∙ begun_number s version young rows bins begun ∙ sym (widths_number young rows)) each_fills;
    taken = totals_are;
    are = refl;
    told = told_lists;
    whole = whole_rows;
  }

-- ---- what it is given

-- some item of a list that has one
item_at : (landings : List Landing) (k : ℕ) → k < length landings → Landing
item_at [] k below = absurd (omega (arith, below))
item_at (l ∷ landings) k below = l

-- the parts and the landings of a merge, once they are laid and started
pub record AreLaid (s : Numbers) (version m : ℕ) (young : List Bin) (rows : List (List BinAt)) (parts : List (Option ℕ)) (landings : List Landing) : Type 0 where
  pub of_parts : ArePartsOf s m (length young) rows (streams_to (length young) rows (length rows)) (length rows) parts
  pub are : AreLandings s version landings
  pub started : AreStarted s version m rows landings
  pub count : length landings ≡ length rows

-- by other words for the settings and the numbers, of the first ones of all landings
pub laid : (s t : Numbers) (version m count : ℕ) (young : List Bin) (rows : List (List BinAt)) (parts : List (Option ℕ)) (all : List Landing) → t ≡ s → count ≡ length young →
    length rows ≤ length all → ArePartsOf t m count rows (streams_to count rows (length rows)) (length rows) parts → AreOfLevels t all → AreStarted t version m rows all →
    AreLaid s version m young rows parts (take (length rows) all)
laid s t version m count young rows parts all settings same enough are landings started =
    let n = length rows in
    record {
      of_parts = subst (λ (y : ℕ). ArePartsOf s m y rows (streams_to y rows n) n parts) same
          (subst (λ (r : Numbers). ArePartsOf r m count rows (streams_to count rows n) n parts) settings are);
      are = λ k d below. (let of_level = first_landings s n all (subst (λ (r : Numbers). AreOfLevels r all) settings landings) k d below in
          let first = first_started s version m rows n all (omega arith) (subst (λ (r : Numbers). AreStarted r version m rows all) settings started) in
          record { settings = of_level.settings; version_is = first.of_version k d (omega (arith, below, length-take n all)); level_is = of_level.level_is });
      started = first_started s version m rows n all (omega arith) (subst (λ (r : Numbers). AreStarted r version m rows all) settings started);
      count = omega (arith, length-take n all, enough);
    }

module _ (s : Numbers) (version : ℕ) (m : ℕ) (young : List Bin) (rows : List (List BinAt)) (reached : AreReached s version m young rows) (parts : List (Option ℕ)) (landings : List Landing)
    (laid : AreLaid s version m young rows parts landings) where
  pub parts_are : (streams : ℕ) → streams ≡ streams_to (length young) rows (length rows) → AreParts parts streams (length landings)
  parts_are streams number = record {
    len = laid.of_parts.len ∙ sym number;
    within = λ k below. some_streams (get_or parts k None) (get_or parts k None) (λ part. part < length landings) refl
        (λ part is. omega (arith, (laid.of_parts.no_other k part is).0, laid.count));
  }

  pub part_fits : (part : ℕ) → part < length landings → sum (picked parts part (widths_of young rows)) ≤ span s (part + 1)
  part_fits part below =
      let within : part < length rows = omega (arith, below, laid.count) in
      subst (λ ws. sum ws ≤ span s (part + 1))
      (sym (picked_part s m (length young) rows reached.some reached.parts parts (widths_of young rows) 0 laid.of_parts (widths_number young rows) part within)) (reached.fits part within)

  -- a range apart from the rows' new frames is apart from the landings
  pub apart_landings : (from to : ℕ) → AreApart s version m rows from to → IsOutside landings from to
  apart_landings from to apart k d below =
      let within : k < length rows = omega (arith, below, laid.count) in
      let is = laid.are k d below in
      let l = get_or landings k d in
      subst (λ (t : Numbers). IsApart t l.writer.version l.writer.level l.frame from to) (sym is.settings)
      (subst (λ (v : ℕ). IsApart s v l.writer.level l.frame from to) (sym is.version_is)
      (subst (λ (level : ℕ). IsApart s version level l.frame from to) (sym is.level_is)
      (subst (λ (frame : ℕ). IsApart s version (k + 1) frame from to) (sym (laid.started.frame k d within)) (apart k within))))

  pub reads_apart : (bins : List Stream) → AreBegun s version (sources young rows) bins → (from to : ℕ) → Reads bins from to → IsOutside landings from to
  reads_apart bins begun from to reads = apart_landings from to (reached.apart from to (begun_reads s version young rows bins from to reached.are.few begun reads))

  -- what stands in the landings' frames are the new bins
  pub has_made : (took : List Piece → Type 0) (before after : Option Files) (lists : List (List Piece)) → length lists ≡ streams_to (length young) rows (length rows) →
      IsMade s version young rows (parts_at s m (length young) rows) took (IsFrames before) (map (part_table lists) (parts_at s m (length young) rows)) →
      IfTold after (λ seen. (k : ℕ) (d : Landing) → k < length landings →
      HoldsFrame s version (k + 1) (get_or landings k d).frame (seen FRAMES) (sums_of (picked parts k lists))) →
      HasMade s version m young rows took before after
  has_made took before after lists number is stand = record {
    made = map (part_table lists) (parts_at s m (length young) rows);
    is = is;
    landed = λ seen told k below. (
        let within : k < length landings = omega (arith, below, laid.count) in
        let part_is : get_or (map (part_table lists) (parts_at s m (length young) rows)) k [] ≡ sums_of (picked parts k lists) =
        made_at lists s m (length young) rows (map (part_table lists) (parts_at s m (length young) rows)) refl k below
        ∙ ap sums_of (sym (picked_part s m (length young) rows reached.some reached.parts parts lists [] laid.of_parts number k below)) in
        let some = item_at landings k within in
        subst (HoldsFrame s version (k + 1) (landing_frame s m rows k) (seen FRAMES)) (sym part_is)
        (subst (λ (frame : ℕ). HoldsFrame s version (k + 1) frame (seen FRAMES) (sums_of (picked parts k lists))) (laid.started.frame k some below) (stand seen told k some within)));
  }
