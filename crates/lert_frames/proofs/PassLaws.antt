-- Words of run ends that are passed, one behind another.
use Rattle.std.{proofs.Common.{◌≡◌, ℕ, ◌+◌, ◌-◌, ◌*◌, ◌<◌, ◌≤◌, List, [], ◌∷◌, ◌++◌, length, take, drop, Some, refl, sym, ap, ◌∙◌, subst, arith, length-drop}, proofs.lemmas.List.drop-drop}
use Rattle.byteorder.{specs.Endian.little_number, specs.Numbers.little_from-take}
use Rattle.lert_bay.{specs.declared.bay.TheConstants.FRAMES, specs.Files.Files, specs.Kept.Bays}
use Rattle.lert_blocks.specs.Frame.{numbers_in}
use Rattle.lert_frames.{specs.declared.run_ends.RunEnds.RunEnds, specs.declared.window.Window.Window, specs.Steps.{AreCounted, PassesWords}, specs.Window.{place_of, room_of, to_come, IsRead}}
use Rattle.lert_frames.proofs.NumberLaws.{numbers-more}

-- the words of bytes, and one more
pub counted_next : (k word : ℕ) (bytes : List ℕ) (found next : RunEnds) → word ≡ little_number 8 (drop (8 * k) bytes) →
    ((words : List ℕ) → AreCounted words found → AreCounted (words ++ word ∷ []) next) → AreCounted (numbers_in k bytes) found → AreCounted (numbers_in (k + 1) bytes) next
counted_next k word bytes found next is more are =
    subst (λ (words : List ℕ). AreCounted words next) (ap (λ w. numbers_in k bytes ++ w ∷ []) is ∙ sym (numbers-more k bytes)) (more (numbers_in k bytes) are)

pub counted_slice : (k word words : ℕ) (bytes : List ℕ) → length bytes ≡ 8 * words → k < words → word ≡ little_number 8 (take (length bytes - 8 * k) (drop (8 * k) bytes)) →
    word ≡ little_number 8 (drop (8 * k) bytes)
counted_slice k word words bytes long below is = is ∙ little_from-take 0 8 (length bytes - 8 * k) (drop (8 * k) bytes) (omega (arith, long, below))

module _ {B : Type 0} (bays : Bays B) (before : B) where
  pub words_none : (start : Window) (found : RunEnds) → AreCounted [] found → PassesWords bays before 0 start start found
  words_none start found none = record {
    place = omega arith;
    room = refl;
    later = omega arith;
    few = omega (arith, none.set);
    long = λ seen told. omega arith;
    counted = λ seen told. none;
    come = λ seen told. refl;
    read = λ seen told from near is. is;
  }

  -- what one word more tells, where the files are those of before
  pub record PassesOne (now next : Window) (number : ℕ) : Type 0 where
    pub place : place_of next ≡ place_of now + 8
    pub room : room_of next ≡ room_of now
    pub later : now.at ≤ next.at
    pub word : (seen : Files) → bays.files before ≡ Some seen → number ≡ little_number 8 (to_come now (seen FRAMES))
    pub long : (seen : Files) → bays.files before ≡ Some seen → 8 ≤ length (to_come now (seen FRAMES))
    pub come : (seen : Files) → bays.files before ≡ Some seen → to_come next (seen FRAMES) ≡ drop 8 (to_come now (seen FRAMES))
    pub read : (seen : Files) → bays.files before ≡ Some seen → (from : ℕ) → from ≤ now.at → IsRead now from (seen FRAMES) → IsRead next from (seen FRAMES)

  pub words_more : (k word : ℕ) (start now next : Window) (found after : RunEnds) → PassesWords bays before k start now found → PassesOne now next word →
      ((words : List ℕ) → AreCounted words found → AreCounted (words ++ word ∷ []) after) → after.set ≤ found.set + 64 → PassesWords bays before (k + 1) start next after
  words_more k word start now next found after so_far one more few = record {
    place = omega (arith, so_far.place, one.place);
    room = one.room ∙ so_far.room;
    later = omega (arith, so_far.later, one.later);
    few = omega (arith, so_far.few, few);
    long = λ seen told.
        let behind : length (to_come now (seen FRAMES)) ≡ length (to_come start (seen FRAMES)) - 8 * k = ap length (so_far.come seen told) ∙ length-drop (8 * k) (to_come start (seen FRAMES)) in
        omega (arith, behind, one.long seen told, so_far.long seen told);
    counted = λ seen told. counted_next k word (to_come start (seen FRAMES)) found after (one.word seen told ∙ ap (little_number 8) (so_far.come seen told)) more (so_far.counted seen told);
    come = λ seen told.
        one.come seen told
        ∙ (ap (drop 8) (so_far.come seen told)
        ∙ (drop-drop 8 (8 * k) (to_come start (seen FRAMES)) ∙ ap (λ n. drop n (to_come start (seen FRAMES))) (let e : 8 * k + 8 ≡ 8 * (k + 1) = omega arith in e)));
    read = λ seen told from near is. one.read seen told from (omega (arith, near, so_far.later)) (so_far.read seen told from near is);
  }

  -- a word that isn't there
  pub words_short : (k words : ℕ) (start now : Window) (found : RunEnds) → PassesWords bays before k start now found → k < words →
      (seen : Files) → bays.files before ≡ Some seen → length (to_come now (seen FRAMES)) < 8 → length (to_come start (seen FRAMES)) < 8 * words
  words_short k words start now found so_far below seen told short =
      let behind : length (to_come now (seen FRAMES)) ≡ length (to_come start (seen FRAMES)) - 8 * k = ap length (so_far.come seen told) ∙ length-drop (8 * k) (to_come start (seen FRAMES)) in
      omega (arith, behind, short, below)
