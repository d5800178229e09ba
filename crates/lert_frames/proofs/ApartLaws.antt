-- What a reader has to come, and what a writer wrote, stays through writes into other places of the file.
use Rattle.std.proofs.Common.{◌≡◌, ◌↔◌, ℕ, ◌+◌, ◌≤◌, ◌⊎◌, List, [], ◌++◌, length, Option, Some, None, sym, ap, ap₂, ◌∙◌, subst, inl, inr, ⊎_elim, arith}
use Rattle.lert_bay.{specs.declared.bay.TheConstants.FRAMES, specs.Files.Files}
use Rattle.lert_blocks.specs.Walk.{Found}
use Rattle.lert_frames.{specs.Apart.{SamePlace, IsSure}, specs.Decoded.decoder_found, specs.Frame.{frame_found, frame_left, judged}, specs.Outlet.IsOut}
use Rattle.lert_frames.{specs.Place.{block_count, blocks_bytes, frame_len, frame_place, most_slots}, specs.Reading.verdict}
use Rattle.lert_frames.{specs.ToCome.{known_or, left_of, pieces_of, ready_of, if_whole, told_of, Breaks}, specs.Writing.{IsWriting, text_before}, specs.declared.outlet.Outlet.Outlet}
use Rattle.lert_frames.{specs.declared.reader.FrameReader.FrameReader, specs.declared.reader.Sum.Sum, specs.declared.reader.Sum.TheVariants.{Left, Over}}
use Rattle.lert_frames.{specs.declared.writer.FrameWriter.FrameWriter, proofs.JudgedLaws.summed_parts, proofs.KeptPlaceLaws.{blocks_kept, decoder_kept}}
use Rattle.lert_frames.{proofs.OutletLaws.{out_elsewhere, out_reaches}, proofs.ReadingLaws.never_over, proofs.SamePlaceLaws.{same_part, text_stays}, proofs.StandsLaws.between_of}
use Rattle.lert_spec.{specs.declared.numbers.Numbers.Numbers, specs.Edges.width}

-- ---- a reader

-- a reader that finds no fault finds none in what its decoder finds
found_whole : (version : ℕ) (sum : Sum) (place : ℕ) (found : Found) (fault : Option ℕ) → known_or fault (verdict version sum place found) ≡ None → found.left ≡ None
found_whole version (Left most due) place found None whole = (summed_parts version most due place found.pieces found.left whole).0
found_whole version Over place found None whole = absurd (never_over place found.left whole)
found_whole version (Left most due) place found (Some at) whole = absurd (cc)
found_whole version Over place found (Some at) whole = absurd (cc)

module _ (r : FrameReader) (old new : List ℕ) (sure : IsSure r old) (kept : SamePlace r.place (frame_len r.settings r.version r.level) old new) where
  found_stays : decoder_found r.decoder new ≡ decoder_found r.decoder old
  found_stays =
      decoder_kept r.decoder r.place (frame_len r.settings r.version r.level) old new kept (between_of r.settings r.version r.level r.place r.decoder r.reading.stands)
      (⊎_elim (λ long. inl long) (λ whole. inr (found_whole r.version r.sum r.place (decoder_found r.decoder old) r.fault whole)) sure)

  -- where it leaves its text
  pub left_stays : left_of r new ≡ left_of r old
  left_stays = ap (λ found. known_or r.fault (verdict r.version r.sum r.place found)) found_stays

  -- and the pieces to come
  pub pieces_stay : pieces_of r new ≡ pieces_of r old
  pieces_stay = ap (λ (found : Found). ready_of r ++ found.pieces) found_stays

  -- it is sure of the new file too
  pub sure_stays : IsSure r new
  sure_stays = ⊎_elim (λ long. inl (let longer = kept.longer in omega (arith, long, longer))) (λ whole. inr (left_stays ∙ whole)) sure

-- ---- and bays that tell their files

breaks_in : (r : FrameReader) (told : Option Files) (seen : Files) → told ≡ Some seen → (at : ℕ) → left_of r (seen FRAMES) ≡ Some at → Breaks told r at
breaks_in r told seen is at left = λ other same. subst (λ (files : Files). left_of r (files FRAMES) ≡ Some at) (let here : seen ≡ other = cc in here) left

-- the same is told of two bays that tell their files
pub told_stays : (r : FrameReader) (before after : Option Files) (seen later : Files) → before ≡ Some seen → after ≡ Some later → IsSure r (seen FRAMES) →
    SamePlace r.place (frame_len r.settings r.version r.level) (seen FRAMES) (later FRAMES) → told_of before r ≡ told_of after r
told_stays r before after seen later told told_later sure kept =
    ap (λ told. told_of told r) told
    ∙ (ap₂ if_whole (sym (left_stays r (seen FRAMES) (later FRAMES) sure kept)) (sym (pieces_stay r (seen FRAMES) (later FRAMES) sure kept))
    ∙ sym (ap (λ told. told_of told r) told_later))

-- and the same place breaks a rule
pub breaks_stay : (r : FrameReader) (before after : Option Files) (seen later : Files) → before ≡ Some seen → after ≡ Some later → IsSure r (seen FRAMES) →
    SamePlace r.place (frame_len r.settings r.version r.level) (seen FRAMES) (later FRAMES) → (at : ℕ) → Breaks before r at ↔ Breaks after r at
breaks_stay r before after seen later told told_later sure kept at =
    let left = left_stays r (seen FRAMES) (later FRAMES) sure kept in (
      λ breaks. breaks_in r after later told_later at (left ∙ breaks seen told),
      λ breaks. breaks_in r before seen told at (sym left ∙ breaks later told_later),
    )

-- ---- a frame

module _ (s : Numbers) (version level frame : ℕ) (old new : List ℕ) (kept : SamePlace (frame_place s version level frame) (frame_len s version level) old new) where
  frame_found_stays : (frame_place s version level frame + frame_len s version level ≤ length old) ⊎ ((frame_found s version level frame old).left ≡ None) →
      frame_found s version level frame new ≡ frame_found s version level frame old
  frame_found_stays =
      let place = frame_place s version level frame in
      let fits : place + blocks_bytes (block_count s level) (most_slots s version level) ≤ place + frame_len s version level = omega arith in
      blocks_kept place (frame_len s version level) old new kept [] place place (omega arith) (omega arith) (block_count s level) (width s level) 0 (most_slots s version level) fits

-- what a file says at its place
pub frame_stays : (s : Numbers) (version level frame wide : ℕ) (old new : List ℕ) →
    (frame_place s version level frame + frame_len s version level ≤ length old) ⊎ (frame_left s version level frame wide old ≡ None) →
    SamePlace (frame_place s version level frame) (frame_len s version level) old new → frame_left s version level frame wide new ≡ frame_left s version level frame wide old
frame_stays s version level frame wide old new sure kept =
    let found = frame_found s version level frame old in
    ap (judged version wide wide (frame_place s version level frame)) (frame_found_stays s version level frame old new kept
    (⊎_elim (λ long. inl long) (λ whole. inr (summed_parts version wide wide (frame_place s version level frame) found.pieces found.left whole).0) sure))

-- ---- a writer

module _ (place len : ℕ) (old new : List ℕ) (kept : SamePlace place len old new) where
  out_stays : (begin : ℕ) (text : List ℕ) (o : Outlet) → place ≤ begin → o.at ≤ place + len → IsOut begin text old o → IsOut begin text new o
  out_stays begin text o low high out = record {
    gone = out.gone;
    text_is = out.text_is;
    at_is = out.at_is;
    there = out_elsewhere begin text old o out new (λ some. same_part place len old new kept begin o.at low high (out_reaches begin text old o out some));
  }

-- what was put stands in the file and in the buffers
pub writing_stays : (w : FrameWriter) (old new : List ℕ) → SamePlace w.place (frame_len w.settings w.version w.level) old new → IsWriting w old → IsWriting w new
writing_stays w old new kept is =
    let len = frame_len w.settings w.version w.level in
    let stands = is.at.stands in
    record {
      ahead = is.ahead;
      at = record {
        passed = is.at.passed;
        stands = record {
          out = λ none. (let short = w.holding.short none in
              out_stays w.place len old new kept w.place (text_before w) w.outlet (omega arith) (omega (arith, short.fits)) (stands.out none));
          filled = stands.filled;
          spilt = λ l named.
              let long = w.holding.spilt l named in
              let reach = long.reach in
              let spilt = stands.spilt l named in
              let ends_low : w.place ≤ l.begin + 12 = omega (arith, long.at) in
              let slots_low : w.place ≤ l.slots = omega (arith, long.at, reach.ends_at, reach.words_fit) in
              let slots_high : w.outlet.at ≤ w.place + len = omega (arith, reach.slots_fit) in
              let ends_high : w.ends.at ≤ w.place + len = omega (arith, reach.words_fit, reach.slots_at, slots_high) in
              record {
                ends_out = out_stays w.place len old new kept (l.begin + 12) _ w.ends ends_low ends_high spilt.ends_out;
                slots_out = out_stays w.place len old new kept l.slots _ w.outlet slots_low slots_high spilt.slots_out;
                filled = spilt.filled;
              };
          before = λ l named.
              let long = w.holding.spilt l named in
              text_stays w.place len old new kept w.place l.begin (text_before w) (omega arith) (omega (arith, long.fits)) (stands.begins l named) (stands.before l named);
          begins = stands.begins;
        };
      };
    }
