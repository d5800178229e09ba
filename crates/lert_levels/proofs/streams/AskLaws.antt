-- A stream of a set that is asked, and a frame that is begun.
use Rattle.std.proofs.Common.{ℕ, ◌≡◌, ◌≢◌, ◌+◌, ◌-◌, ◌<◌, ◌≤◌, ◌↔◌, ◌++◌, Option, Some, None, MatchOption, IfOk, Result, Ok, List, [], ◌∷◌, length, map, set, take, get_or, refl, sym, ap, ap₂}
use Rattle.std.{proofs.Common.{◌∙◌, subst, inl, inr, arith, length-set, length-append, length-take, append_assoc}, specs.Prelude.option_to_list, proofs.Math.Seq.take-set-lt}
use Rattle.std.proofs.lemmas.List.{get_or-map, map-set, map-append, length-map, take_at, take_more_set, get_or-take, get_or-append_right, set-append_left, set-append_right}
use Rattle.std.{proofs.Math.ListN.get_or-append, proofs.lemmas.Option.none-some}
use Rattle.lert_base.specs.declared.pieces.PieceFault.{PieceFault}
use Rattle.lert_bay.{specs.declared.bay.TheConstants.FRAMES, specs.Files.Files}
use Rattle.lert_frames.{proofs.CheckLaws.whole_from, specs.ToCome.{Breaks, IsOver, if_whole, left_of, pieces_of, told_of}, specs.declared.reader.FrameReader.FrameReader}
use Rattle.lert_merge.proofs.order.AskLemmas.{none_or}
use Rattle.lert_spec.{specs.declared.numbers.Numbers.Numbers, specs.declared.piece.Piece.Piece, specs.Table.AreGiven, proofs.GivenLaws.given_take}
use Rattle.lert_levels.{specs.streams.Asked.{Answers, Asked}, specs.streams.Bin.{TableBin, of_table, of_frame, all_of, table_to_come}, specs.streams.BinLaws.table_told}
use Rattle.lert_levels.{specs.streams.BinSet.BinSet, specs.streams.Tables.{bin_at, bins_at, all_streams, IsOrdered, AreOrdered, IsBinSet}}
use Rattle.lert_levels.proofs.streams.TableLaws.{bins_length, cursors_length, stands_here, stand_with, bin_here, bins_with, ordered_here, ordered_with, reader_here, readers_with}

-- ---- the places of a set's streams

pub set_length : (tables : List TableBin) (frames : ℕ) (readers : List FrameReader) → frames ≤ length readers → length (all_streams tables frames readers) ≡ length tables + frames
set_length tables frames readers within =
    let front = length-map tables of_table in
    let back = length-map (take frames readers) of_frame in
    let some = length-take frames readers in
    omega (arith, length-append (map of_table tables) (map of_frame (take frames readers)), front, back, some, within)

module _ (tables : List TableBin) (frames : ℕ) (readers : List FrameReader) where
  pub table_here : (i : ℕ) (table : TableBin) → i < length tables → get_or tables i table ≡ table → of_table table ≡ get_or (all_streams tables frames readers) i (of_table table)
  table_here i table within here = sym (
      get_or-append (map of_table tables) (map of_frame (take frames readers)) (of_table table) i (omega (arith, length-map tables of_table, within))
      ∙ get_or-map of_table tables i table (of_table table) within ∙ ap of_table here)

  pub table_put : (i : ℕ) (table : TableBin) → i < length tables → all_streams (set tables i table) frames readers ≡ set (all_streams tables frames readers) i (of_table table)
  table_put i table within =
      ap (λ bins. bins ++ map of_frame (take frames readers)) (map-set of_table tables i table)
      ∙ sym (set-append_left (map of_table tables) (map of_frame (take frames readers)) i (of_table table) (omega (arith, length-map tables of_table, within)))

  module _ (i : ℕ) (behind : length tables ≤ i) (within : i - length tables < frames) (fits : frames ≤ length readers) where
    pub frame_here : (r : FrameReader) → r ≡ get_or readers (i - length tables) r → of_frame r ≡ get_or (all_streams tables frames readers) i (of_frame r)
    frame_here r here =
        let long : length (take frames readers) ≡ frames = omega (arith, length-take frames readers, fits) in
        sym (get_or-append_right (map of_table tables) (map of_frame (take frames readers)) (length tables) i (of_frame r) (length-map tables of_table) behind
        ∙ get_or-map of_frame (take frames readers) (i - length tables) r (of_frame r) (omega (arith, long, within))
        ∙ ap of_frame (sym (here ∙ sym (get_or-take frames readers (i - length tables) r within))))

    pub frame_put : (r : FrameReader) → all_streams tables frames (set readers (i - length tables) r) ≡ set (all_streams tables frames readers) i (of_frame r)
    frame_put r =
        ap (λ rs. map of_table tables ++ map of_frame rs) (take-set-lt frames readers (i - length tables) r within)
        ∙ ap (λ bins. map of_table tables ++ bins) (map-set of_frame (take frames readers) (i - length tables) r)
        ∙ sym (set-append_right (map of_table tables) (map of_frame (take frames readers)) (length tables) i (of_frame r) (length-map tables of_table) behind)

  pub frame_begun : (r : FrameReader) → frames < length readers →
      all_streams tables (frames + 1) (set readers frames r) ≡ all_streams tables frames readers ++ of_frame r ∷ []
  frame_begun r within =
      ap (λ rs. map of_table tables ++ map of_frame rs) (take_more_set readers frames r within)
      ∙ ap (λ bins. map of_table tables ++ bins) (map-append of_frame (take frames readers) (r ∷ []))
      ∙ sym (append_assoc (map of_table tables) (map of_frame (take frames readers)) (of_frame r ∷ []))

-- ---- a table that was asked

-- its next piece is the first of those that are left
pub record Gives (was becomes : TableBin) (piece : Option Piece) : Type 0 where
  pub limit : becomes.limit ≡ was.limit
  pub left : MatchOption piece ((was.left ≡ []) × (becomes.left ≡ [])) (λ p. was.left ≡ p ∷ becomes.left)
  pub given : becomes.given ≡ was.given ++ option_to_list piece

same_all : (was becomes : TableBin) (piece : Option Piece) → Gives was becomes piece → all_of becomes ≡ all_of was
same_all was becomes None gives =
    ap₂ (λ (g l : List Piece). g ++ l) gives.given (gives.left.1 ∙ sym gives.left.0) ∙ append_assoc was.given [] was.left
same_all was becomes (Some p) gives =
    ap (λ (g : List Piece). g ++ becomes.left) gives.given ∙ append_assoc was.given (p ∷ []) becomes.left ∙ ap (λ (l : List Piece). was.given ++ l) (sym gives.left)

pub stays_ordered : (was becomes : TableBin) (piece : Option Piece) → Gives was becomes piece → IsOrdered was → IsOrdered becomes
stays_ordered was becomes piece gives ordered =
    subst (λ (n : ℕ). AreGiven n (all_of becomes)) (sym gives.limit) (subst (λ (ps : List Piece). AreGiven was.limit ps) (sym (same_all was becomes piece gives)) ordered)

told_next : (was becomes : TableBin) (piece : Option Piece) (ps : List Piece) → Gives was becomes piece → IsOrdered was → IsOrdered becomes → table_to_come was ≡ Some ps →
    MatchOption piece ((ps ≡ []) × (table_to_come becomes ≡ Some [])) (λ p. (rest : List Piece) × (ps ≡ p ∷ rest) × (table_to_come becomes ≡ Some rest))
told_next was becomes None ps gives ordered after told =
    let all : Some ps ≡ Some was.left = sym told ∙ table_told was ordered in
    let same : ps ≡ was.left = cc in
    (same ∙ gives.left.0, table_told becomes after ∙ ap Some gives.left.1)
told_next was becomes (Some p) ps gives ordered after told =
    let all : Some ps ≡ Some was.left = sym told ∙ table_told was ordered in
    let same : ps ≡ was.left = cc in
    (becomes.left, same ∙ gives.left, table_told becomes after)

table_ended : (was becomes : TableBin) (piece : Option Piece) → Gives was becomes piece → IsOrdered was → piece ≡ None → table_to_come was ≡ Some []
table_ended was becomes None gives ordered none = table_told was ordered ∙ ap Some gives.left.0
table_ended was becomes (Some p) gives ordered none = absurd (none-some p (sym none))

pub table_answers : (before after : Option Files) (was becomes : TableBin) (piece : Option Piece) → Gives was becomes piece → IsOrdered was →
    Answers before after (of_table was) (of_table becomes) (Ok piece)
table_answers before after was becomes piece gives ordered =
    let later = stays_ordered was becomes piece gives ordered in
    record {
      told = λ ps told. told_next was becomes piece ps gives ordered later told;
      untold = λ none. absurd (let both : ◌≡◌ {A = Option (List Piece)} None (Some was.left) = sym none ∙ table_told was ordered in cc);
      ended = λ files is. table_ended was becomes piece gives ordered (let none : piece ≡ None = cc in none);
      given = gives.given;
      refused = tt;
      ascending = subst (λ (ps : List Piece). AreGiven becomes.limit ps) (take_at becomes.given becomes.left (length becomes.given) refl)
          (given_take becomes.limit (length becomes.given) (all_of becomes) later);
      limit = gives.limit;
      malformed = λ at is. absurd (cc);
      leaves = λ at. ((λ no_more. no_more), (λ no_more. no_more));
      same = record { limit = gives.limit; all = same_all was becomes piece gives };
    }

-- ---- a frame that ended

-- where its bay tells the files, nothing was to come of it, since it left its format nowhere
pub frame_ended : (before after : Option Files) (r becomes : FrameReader) (result : Result (Option Piece) PieceFault) → after ≡ before →
    ((ps : List Piece) → told_of before r ≡ Some ps → IfOk result (λ piece. MatchOption piece ((ps ≡ []) × (told_of after becomes ≡ Some []))
    (λ p. (rest : List Piece) × (ps ≡ p ∷ rest) × (told_of after becomes ≡ Some rest)))) →
    ((at : ℕ) → Breaks after becomes at ↔ Breaks before r at) → (result ≡ Ok None → IsOver becomes) → before ≢ None → result ≡ Ok None → told_of before r ≡ Some []
frame_ended before after r becomes result same told breaks over files is = elim (none_or before) [
  | inl none ↦ absurd (files none)
  | inr some ↦ (
      let file = some.0 FRAMES in
      let whole : left_of r file ≡ None = whole_from before after r becomes some.0 some.1 (same ∙ some.1) (λ at broke. (breaks at).1 broke) (over is) in
      let coming : told_of before r ≡ Some (pieces_of r file) = ap (λ files. told_of files r) some.1 ∙ ap (λ left. if_whole left (pieces_of r file)) whole in
      let none : pieces_of r file ≡ [] = (subst (λ (answer : Result (Option Piece) PieceFault). IfOk answer (λ piece. MatchOption piece
      ((pieces_of r file ≡ []) × (told_of after becomes ≡ Some []))
      (λ p. (rest : List Piece) × (pieces_of r file ≡ p ∷ rest) × (told_of after becomes ≡ Some rest)))) is (told (pieces_of r file) coming)).0 in
      coming ∙ ap Some none)
]

-- ---- the stream that was asked, in its set

module _ (s : Numbers) (version spare : ℕ) (seen : BinSet) where
  pub asked_table : (tables : List TableBin) (frames : ℕ) (readers : List FrameReader) → record { settings = s; version = version; bins = all_streams tables frames readers; spare = spare } ≡ seen →
      (before : Option Files) (i : ℕ) (was becomes : TableBin) (piece : Option Piece) → i < length tables → get_or tables i was ≡ was → Gives was becomes piece → IsOrdered was →
      Asked before before seen (record { settings = s; version = version; bins = all_streams (set tables i becomes) frames readers; spare = spare }) i (Ok piece)
  asked_table tables frames readers is before i was becomes piece within here gives ordered = record {
    was = of_table was;
    becomes = of_table becomes;
    here = subst (λ (set : BinSet). of_table was ≡ get_or set.bins i (of_table was)) is (table_here tables frames readers i was within here);
    put = table_put tables frames readers i becomes within ∙ ap (λ (x : BinSet). set x.bins i (of_table becomes)) is;
    settings = ap (λ (x : BinSet). x.settings) is;
    version = ap (λ (x : BinSet). x.version) is;
    spare = ap (λ (x : BinSet). x.spare) is;
    answers = table_answers before before was becomes piece gives ordered;
  }

  pub asked_frame : (tables : List TableBin) (frames : ℕ) (readers : List FrameReader) → record { settings = s; version = version; bins = all_streams tables frames readers; spare = spare } ≡ seen →
      (before after : Option Files) (i : ℕ) (r becomes : FrameReader) (result : Result (Option Piece) PieceFault) (left : ℕ) → length tables ≤ i → i - length tables < frames →
      frames ≤ length readers → left ≡ spare → r ≡ get_or readers (i - length tables) r → Answers before after (of_frame r) (of_frame becomes) result →
      Asked before after seen (record { settings = s; version = version; bins = all_streams tables frames (set readers (i - length tables) becomes); spare = left }) i result
  asked_frame tables frames readers is before after i r becomes result left behind within fits same here answers = record {
    was = of_frame r;
    becomes = of_frame becomes;
    here = subst (λ (set : BinSet). of_frame r ≡ get_or set.bins i (of_frame r)) is (frame_here tables frames readers i behind within fits r here);
    put = frame_put tables frames readers i behind within fits becomes ∙ ap (λ (x : BinSet). set x.bins i (of_frame becomes)) is;
    settings = ap (λ (x : BinSet). x.settings) is;
    version = ap (λ (x : BinSet). x.version) is;
    spare = same ∙ ap (λ (x : BinSet). x.spare) is;
    answers = answers;
  }

-- ---- and what stands between two calls

module _ {T K : Type 0} {bits : T → ℕ} {left : T → K → List Piece} {gave : K → List Piece} {stands : T → K → Type 0}
    {s : Numbers} {version : ℕ} {tables : List T} {cursors : List K} {capacity : ℕ} {readers : List FrameReader} {frames : ℕ}
    (kept : IsBinSet bits left gave stands s version tables cursors capacity readers frames) where
  pub all_length : length (all_streams (bins_at bits left gave tables cursors) frames readers) ≡ length tables + frames
  all_length = set_length (bins_at bits left gave tables cursors) frames readers kept.within ∙ ap (λ n. n + frames) (bins_length bits left gave stands tables cursors kept.standing)

  -- each table has its cursor
  pub cursors_there : length cursors ≡ length tables
  cursors_there = cursors_length bits left gave stands tables cursors kept.standing

  pub stands_there : (i : ℕ) {t : T} {c : K} → i < length tables → t ≡ get_or tables i t → c ≡ get_or cursors i c → stands t c
  stands_there i {t} {c} within table cursor = stands_here bits left gave stands tables cursors i t c kept.standing within table cursor

  -- a frame is one of those that were begun
  pub frame_there : {seen : BinSet} → record { settings = s; version = version; bins = all_streams (bins_at bits left gave tables cursors) frames readers; spare = length readers - frames } ≡ seen →
      (i : ℕ) → length tables ≤ i → i < length seen.bins → i - length tables < length readers
  frame_there is i behind within = omega (arith, all_length, ap (λ (x : BinSet). length x.bins) is, within, behind, kept.within)

  -- a table's cursor moves on
  module _ (i : ℕ) {t : T} {c : K} (after : K) (within : i < length tables) (table : t ≡ get_or tables i t) (cursor : c ≡ get_or cursors i c) {piece : Option Piece}
      (gives : Gives (bin_at bits left gave t c) (bin_at bits left gave t after) piece) where
    long : i < length (bins_at bits left gave tables cursors)
    long = omega (arith, within, bins_length bits left gave stands tables cursors kept.standing)

    here : get_or (bins_at bits left gave tables cursors) i (bin_at bits left gave t c) ≡ bin_at bits left gave t c
    here = bin_here bits left gave stands tables cursors i t c (bin_at bits left gave t c) kept.standing within table cursor

    ordered : IsOrdered (bin_at bits left gave t c)
    ordered = ordered_here (bins_at bits left gave tables cursors) i (bin_at bits left gave t c) (bin_at bits left gave t c) kept.ordered long here

    with_it : bins_at bits left gave tables (set cursors i after) ≡ set (bins_at bits left gave tables cursors) i (bin_at bits left gave t after)
    with_it = bins_with bits left gave stands tables cursors i t after kept.standing within table

    pub table_kept : stands t after → IsBinSet bits left gave stands s version tables (set cursors i after) capacity readers frames
    table_kept on = record {
      known = kept.known;
      standing = stand_with bits left gave stands tables cursors i t after kept.standing within table on;
      ordered = subst AreOrdered (sym with_it) (ordered_with (bins_at bits left gave tables cursors) i (bin_at bits left gave t after) kept.ordered
          (stays_ordered (bin_at bits left gave t c) (bin_at bits left gave t after) piece gives ordered));
      few = kept.few;
      room = kept.room;
      readers_are = kept.readers_are;
      within = kept.within;
    }

    pub table_asked : {spare : ℕ} {seen : BinSet} → record {
      settings = s;
      version = version;
      bins = all_streams (bins_at bits left gave tables cursors) frames readers;
      spare = spare;
    } ≡ seen → {before : Option Files} →
        Asked before before seen (record { settings = s; version = version; bins = all_streams (bins_at bits left gave tables (set cursors i after)) frames readers; spare = spare }) i (Ok piece)
    table_asked {spare} {seen} is {before} =
        subst (λ (bins : List TableBin). Asked before before seen (record { settings = s; version = version; bins = all_streams bins frames readers; spare = spare }) i (Ok piece)) (sym with_it)
        (asked_table s version spare seen (bins_at bits left gave tables cursors) frames readers is before i (bin_at bits left gave t c) (bin_at bits left gave t after) piece long here gives ordered)

  -- a reader does
  pub frame_kept : (j : ℕ) {r : FrameReader} (after : FrameReader) → r ≡ get_or readers j r → j < length readers → after.settings ≡ r.settings →
      IsBinSet bits left gave stands s version tables cursors capacity (set readers j after) frames
  frame_kept j {r} after is within same = record {
    known = kept.known;
    standing = kept.standing;
    ordered = kept.ordered;
    few = kept.few;
    room = kept.room;
    readers_are = readers_with s readers j after kept.readers_are (same ∙ reader_here s readers j r kept.readers_are.of_settings within is);
    within = omega (arith, length-set readers j after, kept.within);
  }

  pub frame_asked : {seen : BinSet} → record { settings = s; version = version; bins = all_streams (bins_at bits left gave tables cursors) frames readers; spare = length readers - frames } ≡ seen →
      {before after : Option Files} (i : ℕ) {r becomes : FrameReader} {result : Result (Option Piece) PieceFault} → length tables ≤ i → i < length seen.bins →
      r ≡ get_or readers (i - length tables) r → Answers before after (of_frame r) (of_frame becomes) result →
      Asked before after seen (record {
        settings = s;
        version = version;
        bins = all_streams (bins_at bits left gave tables cursors) frames (set readers (i - length tables) becomes);
        spare = length (set readers (i - length tables) becomes) - frames;
      }) i result
  frame_asked {seen} is {before} {after} i {r} {becomes} {result} behind within here answers =
      let count = bins_length bits left gave stands tables cursors kept.standing in
      let all = ap (λ (x : BinSet). length x.bins) is in
      let inside : i - length tables < frames = omega (arith, all_length, all, within, behind) in
      let same : length (set readers (i - length tables) becomes) - frames ≡ length readers - frames = ap (λ n. n - frames) (length-set readers (i - length tables) becomes) in
      subst (λ (n : ℕ). Asked before after seen (record {
        settings = s;
        version = version;
        bins = all_streams (bins_at bits left gave tables cursors) frames (set readers (i - n) becomes);
        spare = length (set readers (i - length tables) becomes) - frames;
      }) i result) count
      (asked_frame s version (length readers - frames) seen (bins_at bits left gave tables cursors) frames readers is before after i r becomes result _
      (omega (arith, count, behind)) (omega (arith, count, inside)) kept.within same (subst (λ (n : ℕ). r ≡ get_or readers (i - n) r) (sym count) here) answers)
