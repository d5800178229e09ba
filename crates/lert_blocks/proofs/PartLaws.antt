-- What a write to a part of a list leaves.
use Rattle.std.proofs.Common.{◌≡◌, ℕ, ◌+◌, ◌-◌, ◌*◌, ◌≤◌, Bool, true, false, cond, List, [], ◌∷◌, ◌++◌, length, take, drop, set, replicate, Vec, refl, sym, ap, ◌∙◌, arith}
use Rattle.std.proofs.{lemmas.List.{append-nil, append_assoc, drop-drop, drop_all, drop_at, length-append, length-drop, length-take-le, take_at, take_all, with_items_is}, Math.Seq.take-append-add}
use Rattle.std.specs.Vec.{with_items}
use lib.Seq.{paste}
use borrow.Rule.Slice.PartMut.{put_mid}
use Rattle.byteorder.specs.{Endian.little_bytes, Numbers.length-bytes_low_first}
use Rattle.lert_slotbits.specs.Bits.{row_of}
use Rattle.lert_blocks.specs.Text.{numbers_text}

-- ---- a part up to the end

pub length_rest : (xs : List ℕ) (at : ℕ) → length (take (length xs - at) (drop at xs)) ≡ length xs - at
length_rest xs at = length-take-le (length xs - at) (drop at xs) (omega (arith, length-drop at xs))

put_end : (xs ys : List ℕ) (at : ℕ) → at ≤ length xs → put_mid at (length xs - at) xs ys ≡ take at xs ++ ys
put_end xs ys at within =
    let none : drop (length xs - at) (drop at xs) ≡ [] = drop_all (length xs - at) (drop at xs) (omega (arith, length-drop at xs)) in
    ap (λ (back : List ℕ). take at xs ++ (ys ++ back)) none ∙ ap (λ (back : List ℕ). take at xs ++ back) (append-nil ys)

-- its front, where the front of the part is known
pub take-put_end : {Z : Type 0} (v : Vec ℕ Z) (xs ys front : List ℕ) (at count : ℕ) → xs ≡ v.items → v.len ≡ length v.items → at ≤ length xs → length ys ≡ length xs - at
    → count ≤ length ys → take count ys ≡ front → take (at + count) (with_items v (put_mid at (length xs - at) xs ys)).items ≡ take at v.items ++ front
take-put_end v xs ys front at count same long within part few is =
    let all = put_end xs ys at within in
    let before : length (take at xs) ≡ at = length-take-le at xs within in
    let whole : length (put_mid at (length xs - at) xs ys) ≡ v.len = omega (arith, ap length all, length-append (take at xs) ys, ap length same) in
    ap (take (at + count)) (with_items_is v (put_mid at (length xs - at) xs ys) whole ∙ all)
    ∙ ap (λ n. take (n + count) (take at xs ++ ys)) (sym before) ∙ take-append-add (take at xs) ys count
    ∙ ap (λ (t : List ℕ). take at xs ++ t) is ∙ ap (λ (t : List ℕ). take at t ++ front) same

-- ---- two bits of a row, one behind the other

pub row_marked : {Z : Type 0} (v : Vec ℕ Z) (first cleared second marked : List ℕ) (same : Bool) (before at len count : ℕ) → first ≡ v.items → length cleared ≡ v.len
    → row_of cleared ≡ cond same (set (row_of first) before false) (row_of first) → before ≡ len - 1 → second ≡ (with_items v cleared).items
    → length marked ≡ (with_items v cleared).len → row_of marked ≡ set (row_of second) at true → at ≡ len + count - 1
    → row_of (with_items (with_items v cleared) marked).items ≡ set (cond same (set (row_of v.items) (len - 1) false) (row_of v.items)) (len + count - 1) true
row_marked v first cleared second marked same before at len count first_is long clears before_is second_is long_too marks at_is =
    ap row_of (with_items_is (with_items v cleared) marked long_too) ∙ marks
    ∙ ap (λ (ws : List ℕ). set (row_of ws) at true) (second_is ∙ with_items_is v cleared long)
    ∙ ap (λ (bs : List Bool). set bs at true) (clears ∙ ap (λ (ws : List ℕ). cond same (set (row_of ws) before false) (row_of ws)) first_is)
    ∙ ap (λ n. set (cond same (set (row_of v.items) n false) (row_of v.items)) at true) before_is
    ∙ ap (λ n. set (cond same (set (row_of v.items) (len - 1) false) (row_of v.items)) n true) at_is

-- ---- the front let go

pub take-moved : (xs : List ℕ) (from count : ℕ) → from + count ≤ length xs → take count (paste xs 0 (drop from xs) count) ≡ take count (drop from xs)
take-moved xs from count within =
    take_at (take count (drop from xs)) (drop (0 + count) xs) count (length-take-le count (drop from xs) (omega (arith, length-drop from xs)))

-- and as many zeros behind
pub moved_zeros : {Z : Type 0} (v : Vec ℕ Z) (xs ys zs : List ℕ) (count : ℕ) → length xs ≡ 8 → count ≤ 8 → v.items ≡ paste xs 0 (drop count xs) (8 - count) → v.len ≡ length v.items
    → ys ≡ v.items → zs ≡ replicate (length ys - (8 - count)) 0 → length zs ≡ length ys - (8 - count)
    → (with_items v (put_mid (8 - count) (length ys - (8 - count)) ys zs)).items ≡ drop count xs ++ replicate count 0
moved_zeros v xs ys zs count long few moved sized same zeros length_zeros =
    let stays : length (drop count xs) ≡ 8 - count = omega (arith, length-drop count xs) in
    let front : take (8 - count) ys ≡ drop count xs =
    ap (take (8 - count)) (same ∙ moved) ∙ take-moved xs count (8 - count) (omega arith) ∙ take_all (8 - count) (drop count xs) (omega arith) in
    let whole : length v.items ≡ 8 =
    ap length moved
    ∙ length-append (take (8 - count) (drop count xs)) (drop (0 + (8 - count)) xs)
    ∙ omega (arith, length-take-le (8 - count) (drop count xs) (omega arith), length-drop (0 + (8 - count)) xs) in
    let left : length ys - (8 - count) ≡ count = omega (arith, ap length same) in
    let all = put_end ys zs (8 - count) (omega (arith, ap length same)) in
    let fits : length (put_mid (8 - count) (length ys - (8 - count)) ys zs) ≡ v.len =
    omega (arith, ap length all, length-append (take (8 - count) ys) zs, ap length front, ap length same) in
    with_items_is v (put_mid (8 - count) (length ys - (8 - count)) ys zs) fits ∙ all
    ∙ ap (λ (t : List ℕ). t ++ zs) front ∙ ap (λ (t : List ℕ). drop count xs ++ t) (zeros ∙ ap (λ n. replicate {A = ℕ} n 0) left)

-- ---- text behind text

-- bytes laid behind a text that stands before what was there
pub laid_behind : (text bytes old now part : List ℕ) (at count : ℕ) → now ≡ text ++ drop at old → length text ≡ at → at + count ≤ length old
    → part ≡ bytes ++ drop count (take (length now - at) (drop at now)) → length bytes ≡ count
    → put_mid at (length now - at) now part ≡ (text ++ bytes) ++ drop (at + count) old
laid_behind text bytes old now part at count is before within laid long =
    let all : length now ≡ length old = omega (arith, ap length is, length-append text (drop at old), length-drop at old) in
    let front : take at now ≡ text = ap (take at) is ∙ take_at text (drop at old) at before in
    let back : drop at now ≡ drop at old = ap (drop at) is ∙ drop_at text (drop at old) at before in
    let rest : take (length now - at) (drop at now) ≡ drop at old = take_all (length now - at) (drop at now) (omega (arith, length-drop at now)) ∙ back in
    put_end now part at (omega arith)
    ∙ ap (λ (t : List ℕ). t ++ part) front
    ∙ ap (λ (t : List ℕ). text ++ t) (laid ∙ ap (λ (t : List ℕ). bytes ++ drop count t) rest ∙ ap (λ (t : List ℕ). bytes ++ t) (drop-drop count at old))
    ∙ sym (append_assoc text bytes (drop (at + count) old))

pub length_numbers : (numbers : List ℕ) → length (numbers_text numbers) ≡ 8 * length numbers
length_numbers [] = refl
length_numbers (n ∷ ns) = omega (arith, length-append (little_bytes 8 n) (numbers_text ns), length-bytes_low_first 0 8 n, length_numbers ns)

abbrev with_words : List ℕ → List ℕ → List ℕ → List ℕ
with_words one two three = put_mid 12 (length (put_mid 8 (length one - 8) one two) - 12) (put_mid 8 (length one - 8) one two) three

-- a number of eight bytes, one of four, and two rows of numbers, laid one behind the other
pub block_laid : (occupied count : ℕ) (words slots old one two three four : List ℕ)
    → 12 + 8 * length words + 8 * length slots ≤ length old
    → one ≡ little_bytes 8 occupied ++ drop 8 old
    → two ≡ little_bytes 4 count ++ drop 4 (take (length one - 8) (drop 8 one))
    → three ≡ numbers_text words ++ drop (8 * length words) (take (length (put_mid 8 (length one - 8) one two) - 12) (drop 12 (put_mid 8 (length one - 8) one two)))
    → four ≡ numbers_text slots ++ drop (8 * length slots) (take (length (with_words one two three) - (12 + 8 * length words)) (drop (12 + 8 * length words) (with_words one two three)))
    → put_mid (12 + 8 * length words) (length (with_words one two three) - (12 + 8 * length words)) (with_words one two three) four
    ≡ ((little_bytes 8 occupied ++ (little_bytes 4 count ++ numbers_text words)) ++ numbers_text slots) ++ drop (12 + 8 * length words + 8 * length slots) old
block_laid occupied count words slots old one two three four room first second third fourth =
    let a = little_bytes 8 occupied in
    let b = little_bytes 4 count in
    let w = numbers_text words in
    let long_a = length-bytes_low_first 0 8 occupied in
    let long_b = length-bytes_low_first 0 4 count in
    let long_w = length_numbers words in
    let ab : length (a ++ b) ≡ 12 = omega (arith, length-append a b) in
    let head = laid_behind a b old one two 8 4 first long_a (omega arith) second long_b in
    let rows = laid_behind (a ++ b) w old (put_mid 8 (length one - 8) one two) three 12 (8 * length words) head ab (omega arith) third long_w in
    laid_behind ((a ++ b) ++ w) (numbers_text slots) old (with_words one two three) four (12 + 8 * length words) (8 * length slots)
    rows (omega (arith, length-append (a ++ b) w)) room fourth (length_numbers slots)
    ∙ ap (λ (t : List ℕ). (t ++ numbers_text slots) ++ drop (12 + 8 * length words + 8 * length slots) old) (append_assoc a b w)
