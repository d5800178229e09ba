-- A frame that is begun behind the other streams.
use Rattle.std.proofs.Common.{ℕ, ◌≡◌, ◌+◌, ◌-◌, ◌<◌, ◌≤◌, ◌++◌, List, [], ◌∷◌, length, set, get_or, ap, ◌∙◌, arith, length-set}
use Rattle.lert_frames.{specs.Frame.{frame_left, frame_pieces}, specs.Place.frame_place, specs.ToCome.{left_of, pieces_of, IsWithin}, specs.declared.reader.FrameReader.FrameReader}
use Rattle.lert_spec.{specs.declared.numbers.Numbers.Numbers, specs.declared.piece.Piece.Piece}
use Rattle.lert_levels.{specs.streams.Asked.Begins, specs.streams.Bin.{Bin, of_frame}, specs.streams.BinSet.BinSet, specs.streams.Tables.{bins_at, all_streams, IsBinSet}}
use Rattle.lert_levels.{proofs.streams.AskLaws.frame_begun, proofs.streams.TableLaws.{reader_here, readers_with}}

-- a reader that was started, as the call's contract says it
abbrev pub IsStart : FrameReader → FrameReader → ℕ → ℕ → ℕ → ℕ → Type 0
IsStart old new version l frame width = record {
  left : (file : List ℕ) → left_of new file ≡ frame_left new.settings version new.level frame width file;
  pieces : (file : List ℕ) → pieces_of new file ≡ frame_pieces new.settings version new.level frame file;
  within : (file : List ℕ) → IsWithin new file;
  place : new.place ≡ frame_place new.settings version new.level frame;
  gave : new.gave ≡ [];
  wide : new.wide ≡ width;
  settings : new.settings ≡ old.settings;
  version : new.version ≡ version;
  level : new.level ≡ l;
}

module _ {T K : Type 0} {bits : T → ℕ} {left : T → K → List Piece} {gave : K → List Piece} {stands : T → K → Type 0}
    {s : Numbers} {version : ℕ} {tables : List T} {cursors : List K} {capacity : ℕ} {readers : List FrameReader} {frames : ℕ}
    (kept : IsBinSet bits left gave stands s version tables cursors capacity readers frames) where
  -- a reader is free
  pub spare_is : {bins : List Bin} {seen : BinSet} → record { settings = s; version = version; bins = bins; spare = length readers - frames } ≡ seen → 1 ≤ seen.spare → frames < length readers
  spare_is is some = let same = ap (λ (x : BinSet). x.spare) is in omega (arith, same, some)

  -- and reads frames of the set's settings
  pub free_of : {bins : List Bin} {seen : BinSet} → record { settings = s; version = version; bins = bins; spare = length readers - frames } ≡ seen → 1 ≤ seen.spare → {r : FrameReader} →
      r ≡ get_or readers frames r → r.settings ≡ seen.settings
  free_of is some {r} here = reader_here s readers frames r kept.readers_are.of_settings (spare_is is some) here ∙ ap (λ (x : BinSet). x.settings) is

  pub begun_kept : {old : FrameReader} (new : FrameReader) → frames < length readers → old ≡ get_or readers frames old → new.settings ≡ old.settings →
      IsBinSet bits left gave stands s version tables cursors capacity (set readers frames new) (frames + 1)
  begun_kept {old} new within is same = record {
    known = kept.known;
    standing = kept.standing;
    ordered = kept.ordered;
    few = kept.few;
    room = kept.room;
    readers_are = readers_with s readers frames new kept.readers_are (same ∙ reader_here s readers frames old kept.readers_are.of_settings within is);
    within = omega (arith, length-set readers frames new, within);
  }

  pub begins : {seen : BinSet} → record { settings = s; version = version; bins = all_streams (bins_at bits left gave tables cursors) frames readers; spare = length readers - frames } ≡ seen →
      {old : FrameReader} (new : FrameReader) {level frame width : ℕ} → frames < length readers → old ≡ get_or readers frames old → IsStart old new version level frame width →
      Begins seen (record {
        settings = s;
        version = version;
        bins = all_streams (bins_at bits left gave tables cursors) (frames + 1) (set readers frames new);
        spare = length (set readers frames new) - (frames + 1);
      }) level frame width
  begins {seen} is {old} new {level} {frame} {width} within here start =
      let same : new.settings ≡ seen.settings = start.settings ∙ reader_here s readers frames old kept.readers_are.of_settings within here ∙ ap (λ (x : BinSet). x.settings) is in
      let spare = ap (λ (x : BinSet). x.spare) is in
      let version_is = ap (λ (x : BinSet). x.version) is in
      record {
        reader = new;
        bins = frame_begun (bins_at bits left gave tables cursors) frames readers new within ∙ ap (λ (x : BinSet). x.bins ++ of_frame new ∷ []) is;
        settings = ap (λ (x : BinSet). x.settings) is;
        version = version_is;
        spare = omega (arith, spare, length-set readers frames new, within);
        left = λ file. start.left file ∙ (λ i. frame_left (same i) (version_is i) (start.level i) frame width file);
        pieces = λ file. start.pieces file ∙ (λ i. frame_pieces (same i) (version_is i) (start.level i) frame file);
        gave = start.gave;
        of_settings = same;
        of_version = start.version ∙ version_is;
        of_level = start.level;
        place = start.place ∙ (λ i. frame_place (same i) (version_is i) (start.level i) frame);
        wide = start.wide;
      }
