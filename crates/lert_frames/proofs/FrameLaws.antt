-- The text of a bin's pieces, where it stands at a frame's place, is read back from there.
use Rattle.std.proofs.Common.{◌≡◌, ℕ, ◌+◌, ◌*◌, ◌≤◌, ◌^◌, List, ◌++◌, length, drop, Option, Some, None, sym, ap, ap₂, ◌∙◌, subst, arith}
use Rattle.std.{proofs.lemmas.List.{drop-take, take-append-drop}}
use Rattle.lert_bay.{specs.declared.bay.TheConstants.FRAMES, specs.Files.Files, specs.Settled.part}
use Rattle.lert_blocks.{specs.Frame.blocks_found, specs.Walk.Found, proofs.LengthLaws.text_fits, proofs.RoundTrip.text_found}
use Rattle.lert_spec.{specs.declared.numbers.Numbers.Numbers, specs.declared.piece.Piece.Piece, specs.Edges.{span, width, quotient_bits}, specs.Limits.IsValid, specs.Table.{costs, AscendsFrom}}
use Rattle.lert_spec.proofs.LimitLaws.{quotient_bits_by_zeros}
use Rattle.lert_frames.{specs.Frame.{HoldsFrame, IsBin, judged, frame_text, frame_found, frame_left, frame_pieces}, specs.Place.{block_count, frame_len, most_slots, frame_place, tail_limit}}
use Rattle.lert_frames.{specs.ToCome.{left_of, pieces_of, if_whole, told_of}, specs.declared.reader.FrameReader.FrameReader}
use Rattle.lert_frames.{proofs.JudgedLaws.if_fits, proofs.PlaceLaws.{slots_fit, tails_are}, proofs.RoomLaws.{costs_fit, slots_by_costs}}

-- the bits of a remainder
pub width_within : (s : Numbers) (level : ℕ) → IsValid s → level ≤ s.levels → (24 ≤ width s level) × (width s level ≤ 58)
width_within s level valid within =
    let by = quotient_bits_by_zeros s level valid within in
    let most : quotient_bits s level ≤ 32 = omega (arith, by) in
    let least : 6 ≤ quotient_bits s level = omega (arith, by.0) in
    (omega (arith, most, valid.limits.cone_bits_to), omega (arith, least))

-- bytes at a place, and those behind them
split_at : (file text : List ℕ) (place : ℕ) → part file place (place + length text) ≡ text → drop place file ≡ text ++ drop (length text) (drop place file)
split_at file text place is =
    sym (take-append-drop (length text) (drop place file))
    ∙ ap (λ front. front ++ drop (length text) (drop place file)) (sym (drop-take place (length text) file) ∙ is)

module _ (s : Numbers) (version level frame wide : ℕ) (file : List ℕ) (pieces : List Piece) (valid : IsValid s) (last : level ≤ s.levels) (within : wide ≤ span s level)
    (bin : IsBin version (tail_limit s) wide pieces) (holds : HoldsFrame s version level frame file pieces) where
  pub found_is : frame_found s version level frame file ≡ record { pieces = pieces; left = None }
  found_is =
      let place = frame_place s version level frame in
      let text = frame_text s level pieces in
      let w = width s level in
      let bounds = width_within s level valid last in
      let limit : tail_limit s ≡ 64 * (0 + block_count s level) * 2 ^ w =
      sym (tails_are s valid level last) ∙ ap (λ n. 64 * n * 2 ^ w) (let same : block_count s level ≡ 0 + block_count s level = omega arith in same) in
      let up : AscendsFrom 0 (64 * (0 + block_count s level) * 2 ^ w) pieces = subst (λ n. AscendsFrom 0 n pieces) limit bin.given.table in
      let least : 0 ≡ 64 * 0 * 2 ^ w = omega arith in
      let few = slots_by_costs version w 0 (tail_limit s) pieces (omega (arith, bounds.0)) bin.given.table in
      let room = costs_fit version (costs version pieces) (span s level) (omega (arith, bin.lower, within)) in
      let small = slots_fit s valid version level last in
      ap (blocks_found (block_count s level) w 0 (most_slots s version level) place (length file)) (split_at file text place holds)
      ∙ text_found (block_count s level) w 0 (most_slots s version level) place (length file) pieces (drop (length text) (drop place file)) (omega (arith, bounds.0)) bounds.1
      (subst (λ n. AscendsFrom n (64 * (0 + block_count s level) * 2 ^ w) pieces) least up) bin.given.counts (omega (arith, few, room)) (omega (arith, few, room, small))

  -- it leaves its text nowhere, and these are its pieces
  pub left_is : frame_left s version level frame wide file ≡ None
  left_is =
      ap (judged version wide wide (frame_place s version level frame)) found_is
      ∙ if_fits version wide wide (frame_place s version level frame) pieces bin.lower bin.upper

  pub pieces_are : frame_pieces s version level frame file ≡ pieces
  pieces_are = ap (λ (found : Found). found.pieces) found_is

  -- a reader that has begun the frame has them to come
  pub told_begun : (told : Option Files) (seen : Files) (r : FrameReader) → told ≡ Some seen → seen FRAMES ≡ file → left_of r file ≡ frame_left s version level frame wide file →
      pieces_of r file ≡ frame_pieces s version level frame file → told_of told r ≡ Some pieces
  told_begun told seen r is file_is left all =
      ap (λ told. told_of told r) is
      ∙ (ap (λ bytes. if_whole (left_of r bytes) (pieces_of r bytes)) file_is ∙ ap₂ if_whole (left ∙ left_is) (all ∙ pieces_are))

-- the text of pieces that a bin may have fits the frame's place
pub text_within : (s : Numbers) (version level : ℕ) (pieces : List Piece) → IsValid s → level ≤ s.levels → AscendsFrom 0 (tail_limit s) pieces → costs version pieces ≤ span s level →
    length (frame_text s level pieces) ≤ frame_len s version level
text_within s version level pieces valid last up fits =
    let w = width s level in
    let bounds = width_within s level valid last in
    let limit : tail_limit s ≡ 64 * (0 + block_count s level) * 2 ^ w =
    sym (tails_are s valid level last) ∙ ap (λ n. 64 * n * 2 ^ w) (let same : block_count s level ≡ 0 + block_count s level = omega arith in same) in
    let least : 0 ≡ 64 * 0 * 2 ^ w = omega arith in
    let few = slots_by_costs version w 0 (tail_limit s) pieces (omega (arith, bounds.0)) up in
    let room = costs_fit version (costs version pieces) (span s level) fits in
    let ascends = subst (λ n. AscendsFrom n (64 * (0 + block_count s level) * 2 ^ w) pieces) least (subst (λ n. AscendsFrom 0 n pieces) limit up) in
    text_fits w 0 (block_count s level) (most_slots s version level) pieces ascends (omega (arith, few, room))
