-- Run ends that are all at hand, and those that another window passes.
use Rattle.std.proofs.Common.{◌≡◌, ℕ, ◌+◌, ◌-◌, ◌*◌, ◌<◌, ◌≤◌, Bool, List, [], ◌++◌, length, take, drop, sym, ap, ap₂, ◌∙◌, subst, arith, length-append, length-take, length-drop}
use Rattle.lert_blocks.{specs.Frame.{numbers_in, words_in, ends_agree}, specs.Text.word_count}
use Rattle.lert_frames.{specs.declared.fields.Head.Head, specs.declared.run_ends.RunEnds.RunEnds, specs.declared.window.Window.Window, specs.Steps.{AreCounted, AreFields, AreWords, fields_len}}
use Rattle.lert_frames.{specs.Bytes.AreBytes, specs.Window.{at_hand, count_of, place_of, to_come, IsRead}, proofs.FieldLaws.{length_hand, end_of, words_near, words_are, bytes_join}}
use Rattle.lert_frames.{proofs.WindowLaws.none_read, proofs.NumberLaws.{length-numbers, numbers-append}}
use Rattle.lert_bay.specs.Settled.{part}

-- what an answer says of the words of a block that were counted
abbrev pub Agrees : Head → RunEnds → Bool → Type 0
Agrees head found agrees = (words : List ℕ) → length words ≡ word_count head.count → AreCounted words found → agrees ≡ ends_agree head.occupied head.count words

-- the words of run ends of a block, at the front of bytes
abbrev pub block_words : Head → List ℕ → List ℕ
block_words head xs = numbers_in (word_count head.count) (drop 12 xs)

pub agrees_as : (head : Head) (found : RunEnds) (agrees : Bool) (words xs : List ℕ) → Agrees head found agrees → AreCounted words found → words ≡ block_words head xs →
    agrees ≡ ends_agree head.occupied head.count (block_words head xs)
agrees_as head found agrees words xs says counted are =
    says words (ap (λ (ws : List ℕ). length ws) are ∙ length-numbers (word_count head.count) (drop 12 xs)) counted ∙ ap (ends_agree head.occupied head.count) are

module _ (head : Head) (w : Window) (hand bytes xs file : List ℕ) (len words : ℕ) (len_is : len ≡ fields_len head) (words_is : words ≡ word_count head.count)
    (hand_is : hand ≡ at_hand w) (bytes_are : bytes ≡ take (len - 12) (drop 12 hand)) (enough : len ≤ count_of w) (come : to_come w file ≡ xs) where
  pub near_long : fields_len head ≤ length xs
  near_long = omega (arith, ap (λ (ys : List ℕ). length ys) come, length-append (at_hand w) (drop w.at file), length_hand w, enough, len_is)

  pub near_words : numbers_in words bytes ≡ block_words head xs
  near_words =
      ap₂ (λ n (ys : List ℕ). numbers_in n ys) words_is (bytes_are ∙ ap (λ ys. take (len - 12) (drop 12 ys)) hand_is)
      ∙ (words_near (word_count head.count) len (at_hand w) (drop w.at file) len_is (omega (arith, length_hand w, enough))
      ∙ ap (λ ys. numbers_in (word_count head.count) (drop 12 ys)) come)

  -- they are to come where they were put
  pub near_held : (rest ends : List ℕ) → AreFields head xs → ends ≡ bytes ++ rest → AreWords (words_in xs) (word_count head.count) ends
  near_held rest ends are is =
      let long : length bytes ≡ 8 * word_count head.count =
      omega (arith, ap (λ (ys : List ℕ). length ys) bytes_are, length-take (len - 12) (drop 12 hand), length-drop 12 hand, ap (λ (ys : List ℕ). length ys) hand_is, length_hand w, enough, len_is) in
      record {
        are =
            ap (numbers_in (word_count head.count)) is
            ∙ (numbers-append (word_count head.count) bytes rest (omega (arith, long))
            ∙ (ap (λ n. numbers_in n bytes) (sym words_is) ∙ (near_words ∙ sym (words_are head xs are))));
        long = omega (arith, ap (λ (ys : List ℕ). length ys) is, length-append bytes rest, long);
      }

-- ---- run ends that another window passes

-- words that aren't there
pub far_short : (head : Head) (words : ℕ) (xs ends : List ℕ) → AreFields head xs → words ≡ word_count head.count → ends ≡ drop 12 xs → length ends < 8 * words → length xs < fields_len head
far_short head words xs ends are words_is is short = omega (arith, ap (λ (ys : List ℕ). length ys) is, length-drop 12 xs, short, words_is, are.long)

pub far_long : (head : Head) (words : ℕ) (xs ends : List ℕ) → AreFields head xs → words ≡ word_count head.count → ends ≡ drop 12 xs → 8 * words ≤ length ends → fields_len head ≤ length xs
far_long head words xs ends are words_is is long = omega (arith, ap (λ (ys : List ℕ). length ys) is, length-drop 12 xs, long, words_is, are.long)

pub far_words : (head : Head) (words : ℕ) (xs ends : List ℕ) → words ≡ word_count head.count → ends ≡ drop 12 xs → numbers_in words ends ≡ block_words head xs
far_words head words xs ends words_is is = ap₂ (λ n (ys : List ℕ). numbers_in n ys) words_is is

pub far_held : (head : Head) (words : ℕ) (xs passed ends : List ℕ) → AreFields head xs → words ≡ word_count head.count → passed ≡ drop 12 xs → ends ≡ drop 12 xs → 8 * words ≤ length passed →
    AreWords (words_in xs) (word_count head.count) ends
far_held head words xs passed ends are words_is passed_is is long = record {
  are = ap (numbers_in (word_count head.count)) is ∙ sym (words_are head xs are);
  long = omega (arith, ap (λ (ys : List ℕ). length ys) is, ap (λ (ys : List ℕ). length ys) passed_is, long, words_is);
}

-- all bytes up to the slots were read: those at hand, and the words of run ends by the other window
pub far_read : (w begun passed new : Window) (file : List ℕ) (from len : ℕ) → from ≤ place_of w → begun.at ≡ w.at → begun.at ≤ passed.at →
    (IsRead begun w.at file → IsRead passed w.at file) → place_of passed ≡ place_of w + len → place_of new ≡ place_of w + len → at_hand new ≡ [] →
    IsRead w from file → IsRead new from file
far_read w begun passed new file from len low same later reads passed_at new_at none is =
    let nothing : count_of new ≡ 0 = sym (length_hand new) ∙ ap (λ (ys : List ℕ). length ys) none in
    let words : AreBytes (part file w.at passed.at) = reads (subst (λ (n : ℕ). AreBytes (part file w.at n)) (sym same) (none_read file w.at)) in
    bytes_join file from w.at passed.at new.at (omega (arith, low, end_of w)) (omega (arith, same, later))
    (omega (arith, end_of new, end_of passed, nothing, passed_at, new_at)) is words
