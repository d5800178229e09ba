-- The text of a long block, put together from its parts.
use Rattle.std.proofs.Common.{◌≡◌, ℕ, Bool, Some, drop, subst, inl, inr, ◌+◌, ◌-◌, ◌*◌, ◌<◌, ◌≤◌, ◌^◌, List, ◌++◌, length, sym, ap, ap₂, ◌∙◌, arith, append_assoc, append-nil, length-append}
use Rattle.std.{proofs.Common.{length-take, length-drop, take}, proofs.lemmas.Bool.cases_lt}
use Rattle.byteorder.specs.Endian.{little_bytes}
use Rattle.lert_bay.{proofs.Settling.part_none, specs.declared.bay.TheConstants.FRAMES, specs.Files.Files, specs.Kept.Bays, specs.Settled.part}
use Rattle.lert_blocks.{specs.declared.block.Block.Block, specs.Filling.IsFilled, specs.Text.{slots_of, ends_of, occupied_of, number_of_bits, words_of, numbers_text, head_text, block_text}}
use Rattle.lert_blocks.{proofs.FieldLaws.length-numbers_text, proofs.BitLaws.number_of_bits-word_bits}
use Rattle.lert_frames.{specs.Kept.WritesWithin, specs.Outlet.IsOut, specs.declared.outlet.Outlet.Outlet, proofs.CallLaws.{told_then, no_shorter}, proofs.OutletLaws.{out_all, out_whole}}
use Rattle.lert_frames.{proofs.PartLaws.part_join, proofs.SpiltLaws.{ends_rest, slots_rest}, proofs.WithinLaws.part_within}
use Rattle.lert_spec.specs.declared.piece.Piece.{Piece}

-- a part that has so many bytes is all there
pub part_there : (file text : List ℕ) (from to : ℕ) → from < to → part file from to ≡ text → length text ≡ to - from → to ≤ length file
part_there file text from to some is long = omega (arith, ap length is, length-drop from (take to file), length-take to file, long, some)

module _ (width number m : ℕ) (pieces : List Piece) (b : Block) (filled : IsFilled width number (64 * m) pieces b) (fits : b.occupied < 2 ^ 64) where
  -- its fields
  head_is : (little_bytes 8 b.occupied ++ little_bytes 4 (64 * m + b.len)) ++ numbers_text (words_of (ends_of width pieces)) ≡ head_text width number pieces
  head_is =
      let bits : b.occupied ≡ number_of_bits (occupied_of width number pieces) = sym (number_of_bits-word_bits b.occupied fits) ∙ ap number_of_bits filled.occupied in
      append_assoc (little_bytes 8 b.occupied) (little_bytes 4 (64 * m + b.len)) (numbers_text (words_of (ends_of width pieces)))
      ∙ ap₂ (λ o n. little_bytes 8 o ++ (little_bytes 4 n ++ numbers_text (words_of (ends_of width pieces)))) bits filled.skipped

  pub long_text : (file : List ℕ) (begin target at : ℕ) → begin + 12 ≤ target → target < at → at ≡ target + 8 * (64 * m + b.len) →
      part file begin (begin + 12) ≡ little_bytes 8 b.occupied ++ little_bytes 4 (64 * m + b.len) →
      part file (begin + 12) target ≡ numbers_text (words_of (ends_of width pieces)) →
      part file target at ≡ numbers_text (slots_of width pieces) → part file begin at ≡ block_text width number pieces
  long_text file begin target at low some at_is head ends slots =
      let there = part_there file (numbers_text (slots_of width pieces)) target at some slots (omega (arith, length-numbers_text (slots_of width pieces), filled.skipped, at_is)) in
      sym (part_join file begin target at (omega arith) (omega arith) (omega (arith, there)))
      ∙ ap₂ (λ (xs ys : List ℕ). xs ++ ys)
      (sym (part_join file begin (begin + 12) target (omega arith) low (omega (arith, there)))
      ∙ ap₂ (λ (xs ys : List ℕ). xs ++ ys) head ends
      ∙ head_is)
      slots

-- ---- what an outlet wrote

pub ends_written : (begin m : ℕ) (bits : List Bool) (words file : List ℕ) (o : Outlet) → 64 * m ≤ length bits → words ≡ words_of (drop (64 * m) bits) →
    IsOut begin (numbers_text (words_of (take (64 * m) bits)) ++ numbers_text words) file o → o.len ≡ 0 → part file begin o.at ≡ numbers_text (words_of bits)
ends_written begin m bits words file o within are out none = out_all begin _ file o out none ∙ ends_rest m bits words within are

pub slots_written : (begin n count : ℕ) (all slots file : List ℕ) (o : Outlet) → slots ≡ drop n all → length all ≡ count →
    IsOut begin (numbers_text (take n all) ++ numbers_text slots) file o → o.len ≡ 0 → part file begin (begin + 8 * count) ≡ numbers_text all
slots_written begin n count all slots file o are counted out none =
    let text = slots_rest n all slots are in
    let long : 8 * count ≡ length (numbers_text all) = omega (arith, length-numbers_text all, counted) in
    ap (λ k. part file begin (begin + k)) long ∙ out_whole begin (numbers_text all) file o (subst (λ (bytes : List ℕ). IsOut begin bytes file o) text out) none

-- bytes moved down, by other names of the numbers
pub moved_as : (seen later : List ℕ) (from to target count n : ℕ) → to ≡ target → count ≡ n → from + 8 * n ≤ length seen →
    (from + 8 * count ≤ length seen → part later to (to + 8 * count) ≡ part seen from (from + 8 * count)) → part later target (target + 8 * n) ≡ part seen from (from + 8 * n)
moved_as seen later from to target count n to_is count_is longer moves =
    subst (λ t. part later t (t + 8 * n) ≡ part seen from (from + 8 * n)) to_is
    (subst (λ k. part later to (to + 8 * k) ≡ part seen from (from + 8 * k)) count_is (moves (omega (arith, longer, count_is))))

-- ---- run ends and slots are written, the slots are moved down, and the fields written before them

module _ {B : Type 0} (bays : Bays B) (one two three four : B) (first last : Files) (told : bays.files one ≡ Some first) (told_last : bays.files four ≡ Some last)
    (begin target slots end n : ℕ) (low : begin + 12 ≤ target) (order : target ≤ slots) (high : slots ≤ end) (some : 0 < n)
    (wrote : WritesWithin bays slots end one two) (moved : WritesWithin bays target (target + 8 * n) two three) (headed : WritesWithin bays begin (begin + 12) three four) where
  abbrev second : (seen : Files) × (bays.files two ≡ Some seen)
  second = told_then wrote told

  abbrev third : (seen : Files) × (bays.files three ≡ Some seen)
  third = told_then moved second.1

  ends_stay : (text : List ℕ) → target ≤ length (first FRAMES) → part (first FRAMES) (begin + 12) target ≡ text → part (last FRAMES) (begin + 12) target ≡ text
  ends_stay text there is =
      let longer = no_shorter wrote told second.1 in
      let longer_too = no_shorter moved second.1 third.1 in
      part_within bays begin (begin + 12) three four third.0 last third.1 told_last headed (begin + 12) target (omega (arith, there, longer, longer_too)) (omega arith) (inr (omega arith))
      ∙ (part_within bays target (target + 8 * n) two three second.0 third.0 second.1 third.1 moved (begin + 12) target (omega (arith, there, longer)) (omega arith) (inl (omega arith))
      ∙ (part_within bays slots end one two first second.0 told second.1 wrote (begin + 12) target there high (inl order) ∙ is))

  slots_stay : (text : List ℕ) → length text ≡ 8 * n → part (second.0 FRAMES) slots (slots + 8 * n) ≡ text →
      (slots + 8 * n ≤ length (second.0 FRAMES) → part (third.0 FRAMES) target (target + 8 * n) ≡ part (second.0 FRAMES) slots (slots + 8 * n)) →
      part (last FRAMES) target (target + 8 * n) ≡ text
  slots_stay text long is moves =
      let there = part_there (second.0 FRAMES) text slots (slots + 8 * n) (omega arith) is (omega (arith, long)) in
      let came : part (third.0 FRAMES) target (target + 8 * n) ≡ text = moves there ∙ is in
      let there_too = part_there (third.0 FRAMES) text target (target + 8 * n) (omega arith) came (omega (arith, long)) in
      part_within bays begin (begin + 12) three four third.0 last third.1 told_last headed target (target + 8 * n) there_too (omega arith) (inr low) ∙ came

  pub parts_stay : (ends_text slots_text : List ℕ) → target ≤ length (first FRAMES) → part (first FRAMES) (begin + 12) target ≡ ends_text → length slots_text ≡ 8 * n →
      ((seen : Files) → bays.files two ≡ Some seen → part (seen FRAMES) slots (slots + 8 * n) ≡ slots_text) →
      ((seen later : Files) → bays.files two ≡ Some seen → bays.files three ≡ Some later → slots + 8 * n ≤ length (seen FRAMES) →
      part (later FRAMES) target (target + 8 * n) ≡ part (seen FRAMES) slots (slots + 8 * n)) →
      (part (last FRAMES) (begin + 12) target ≡ ends_text) × (part (last FRAMES) target (target + 8 * n) ≡ slots_text)
  parts_stay ends_text slots_text there ends_are long slots_are moves = (
    ends_stay ends_text there ends_are,
    slots_stay slots_text long (slots_are second.0 second.1) (moves second.0 third.0 second.1 third.1),
  )

-- ---- a text behind another

-- what stands before a place stays through writes from there on
pub before_stays : {B : Type 0} (bays : Bays B) (low high : ℕ) (before after : B) (seen later : Files) → bays.files before ≡ Some seen → bays.files after ≡ Some later →
    WritesWithin bays low high before after → low ≤ high → (place : ℕ) (text : List ℕ) → low ≡ place + length text → part (seen FRAMES) place low ≡ text →
    part (later FRAMES) place low ≡ text
before_stays bays low high before after seen later told told_later wrote order place text begins is =
    elim (cases_lt place low) [
      | inl some ↦ part_within bays low high before after seen later told told_later wrote place low
          (part_there (seen FRAMES) text place low some is (omega (arith, begins))) order (inl (omega arith)) ∙ is
      | inr none ↦ part_none (later FRAMES) place low none ∙ (sym (part_none (seen FRAMES) place low none) ∙ is)
    ]

pub out_behind : (place begin : ℕ) (text more file : List ℕ) (o : Outlet) → part file place begin ≡ text → begin ≡ place + length text → part file begin o.at ≡ more →
    o.at ≡ begin + length more → 0 < length more → o.len ≡ 0 → IsOut place (text ++ more) file o
out_behind place begin text more file o before begins behind at_is some none =
    let there = part_there file more begin o.at (omega (arith, at_is, some)) behind (omega (arith, at_is)) in
    record {
      gone = text ++ more;
      text_is = sym (ap (λ n. (text ++ more) ++ take n o.bytes.items) none ∙ append-nil (text ++ more));
      at_is = omega (arith, at_is, begins, length-append text more);
      there = sym (part_join file place begin o.at (omega (arith, begins)) (omega (arith, at_is)) (omega (arith, there, at_is))) ∙ ap₂ (λ (xs ys : List ℕ). xs ++ ys) before behind;
    }
