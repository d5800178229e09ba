-- The text of blocks is read back, and what is read is a text.
use Rattle.std.proofs.Common.{◌≡◌, ℕ, suc, zero, ◌+◌, ◌-◌, ◌*◌, ◌^◌, ◌<◌, ◌≤◌, List, [], ◌∷◌, ◌++◌, All, length, take, drop, None, refl, sym, ap, ap₂, ◌∙◌, subst}
use Rattle.std.proofs.Common.{arith, append_assoc, length-append, length-drop, le_of_eq}
use Rattle.std.proofs.Math.Seq.{take-add}
use Rattle.std.proofs.lemmas.List.{take_at, drop_at, length-take-le}
use Rattle.std.proofs.lemmas.List.Elements.{All-take, All-drop}
use Rattle.lert_spec.specs.declared.piece.Piece.{Piece}
use Rattle.lert_spec.specs.Table.{AscendsFrom}
use Rattle.lert_blocks.specs.Text.{slots_of, block_text, blocks_text}
use Rattle.lert_blocks.specs.Walk.{behind}
use Rattle.lert_blocks.specs.Frame.{count_in, block_len, block_found, blocks_found, blocks_len}
use Rattle.lert_blocks.proofs.SplitLaws.{split_at, InBlocks, in_blocks, in_blocks_wide, in_blocks-append, blocks_text-split, slots_of-append}
use Rattle.lert_blocks.proofs.BlockText.{block_whole}
use Rattle.lert_blocks.proofs.BlockBack.{BeginsWithBlock, block_back, behind_none}
use Rattle.lert_blocks.proofs.FieldLaws.{AreBytes, bytes_from, fewer_bytes, bytes_behind}

no_room : (low high : ℕ) (pieces : List Piece) → high ≤ low → AscendsFrom low high pieces → pieces ≡ []
no_room low high [] less up = refl
no_room low high (p ∷ pieces) less up = absurd (omega (arith, less, up.0, up.1))

all_parts : (P : Piece → Type 0) (front back : List Piece) → All P (front ++ back) → All P front × All P back
all_parts P front back all = (
  subst (λ (ps : List Piece). All P ps) (take_at front back (length front) refl) (All-take P (length front) (front ++ back) all),
  subst (λ (ps : List Piece). All P ps) (drop_at front back (length front) refl) (All-drop P (length front) (front ++ back) all),
)

-- ---- what was written is read back

-- bytes are read as these pieces, up to those behind the text
record ReadsBack (more width block most at end : ℕ) (bytes : List ℕ) (pieces : List Piece) (rest : List ℕ) : Type 0 where
  found : blocks_found more width block most at end bytes ≡ record { pieces = pieces; left = None }
  len : blocks_len more bytes + length rest ≡ length bytes

-- the text of one block, before that of others that is read back
text_step : (more width block most at end limit : ℕ) (front back : List Piece) (rest : List ℕ) → 8 ≤ width → width ≤ 58
    → AscendsFrom (64 * block * 2 ^ width) (64 * suc block * 2 ^ width) front → AscendsFrom (64 * suc block * 2 ^ width) (64 * limit * 2 ^ width) back
    → All (λ p. p.count ≤ 2 ^ 47) front → length (slots_of width front) ≤ most → length (slots_of width front) < 2 ^ 32
    → ((from : ℕ) → ReadsBack more width (suc block) (most - length (slots_of width front)) from end (blocks_text width (suc block) more back ++ rest) back rest)
    → ReadsBack (suc more) width block most at end (blocks_text width block (suc more) (front ++ back) ++ rest) (front ++ back) rest
text_step more width block most at end limit front back rest narrow wide first second counts room few later =
    let behind_front = blocks_text width (suc block) more back ++ rest in
    let bytes = block_text width block front ++ behind_front in
    let split : blocks_text width block (suc more) (front ++ back) ++ rest ≡ block_text width block front ++ behind_front =
    ap (λ (text : List ℕ). text ++ rest) (blocks_text-split width block limit front back
    (in_blocks width block (suc block) (64 * block * 2 ^ width) (64 * suc block * 2 ^ width) front (omega arith) (omega arith) first)
    (in_blocks width (suc block) limit (64 * suc block * 2 ^ width) (64 * limit * 2 ^ width) back (omega arith) (omega arith) second) more)
    ∙ append_assoc (block_text width block front) (blocks_text width (suc block) more back) rest in
    let whole = block_whole width block front narrow wide first counts few most at end behind_front room in
    let others = later (at + block_len bytes) in
    subst (λ (text : List ℕ). ReadsBack (suc more) width block most at end text (front ++ back) rest) (sym split) (record {
      found =
          (λ i. behind (whole.found i) (blocks_found more width (suc block) (most - whole.count i) (at + block_len bytes) end (whole.behind i)))
          ∙ ap (behind (record { pieces = front; left = None })) others.found;
      len = summed (block_len bytes) (blocks_len more (drop (block_len bytes) bytes)) (length rest) (length behind_front) (length bytes)
          (ap (λ (text : List ℕ). blocks_len more text + length rest) whole.behind ∙ others.len) whole.len;
    })
  where
    summed : (a b c d e : ℕ) → b + c ≡ d → a + d ≡ e → a + b + c ≡ e
    summed a b c d e first second = omega arith

reads_back : (more width block most at end : ℕ) (pieces : List Piece) (rest : List ℕ) → 8 ≤ width → width ≤ 58
    → AscendsFrom (64 * block * 2 ^ width) (64 * (block + more) * 2 ^ width) pieces → All (λ p. p.count ≤ 2 ^ 47) pieces
    → length (slots_of width pieces) ≤ most → length (slots_of width pieces) < 2 ^ 32
    → ReadsBack more width block most at end (blocks_text width block more pieces ++ rest) pieces rest
reads_back zero width block most at end pieces rest narrow wide up counts room few =
    let none : pieces ≡ [] = no_room (64 * block * 2 ^ width) (64 * (block + 0) * 2 ^ width) pieces
    (le_of_eq (ap (λ n. 64 * n * 2 ^ width) (let e : block + 0 ≡ block = omega arith in e))) up in
    record { found = ap (λ (ps : List Piece). record { pieces = ps; left = None }) (sym none); len = omega arith }
reads_back (suc more) width block most at end pieces rest narrow wide up counts room few =
    let s = split_at (64 * block * 2 ^ width) (64 * suc block * 2 ^ width) (64 * (block + suc more) * 2 ^ width) pieces (omega arith) up in
    let same : 64 * (block + suc more) * 2 ^ width ≡ 64 * (suc block + more) * 2 ^ width = ap (λ n. 64 * n * 2 ^ width) (let e : block + suc more ≡ suc block + more = omega arith in e) in
    let second = subst (λ limit. AscendsFrom (64 * suc block * 2 ^ width) limit s.back) same s.second in
    let parts = all_parts (λ p. p.count ≤ 2 ^ 47) s.front s.back (subst (λ (ps : List Piece). All (λ p. p.count ≤ 2 ^ 47) ps) s.whole counts) in
    let sum : length (slots_of width pieces) ≡ length (slots_of width s.front) + length (slots_of width s.back) =
    ap (λ (ps : List Piece). length (slots_of width ps)) s.whole
    ∙ (ap (λ (slots : List ℕ). length slots) (slots_of-append width s.front s.back) ∙ length-append (slots_of width s.front) (slots_of width s.back)) in
    subst (λ (ps : List Piece). ReadsBack (suc more) width block most at end (blocks_text width block (suc more) ps ++ rest) ps rest) (sym s.whole)
    (text_step more width block most at end (suc block + more) s.front s.back rest narrow wide s.first second parts.0 (omega (arith, sum, room)) (omega (arith, sum, few))
    (λ from. reads_back more width (suc block) (most - length (slots_of width s.front)) from end s.back rest narrow wide second parts.1
    (omega (arith, sum, room)) (omega (arith, sum, few))))

-- pieces of so many blocks are found in their text, and nothing is left
pub text_found : (more width block most at end : ℕ) (pieces : List Piece) (rest : List ℕ) → 8 ≤ width → width ≤ 58
    → AscendsFrom (64 * block * 2 ^ width) (64 * (block + more) * 2 ^ width) pieces → All (λ p. p.count ≤ 2 ^ 47) pieces
    → length (slots_of width pieces) ≤ most → length (slots_of width pieces) < 2 ^ 32
    → blocks_found more width block most at end (blocks_text width block more pieces ++ rest) ≡ record { pieces = pieces; left = None }
text_found more width block most at end pieces rest narrow wide up counts room few = (reads_back more width block most at end pieces rest narrow wide up counts room few).found

-- and the blocks that are read are that text
pub text_len : (more width block : ℕ) (pieces : List Piece) (rest : List ℕ) → 8 ≤ width → width ≤ 58
    → AscendsFrom (64 * block * 2 ^ width) (64 * (block + more) * 2 ^ width) pieces → All (λ p. p.count ≤ 2 ^ 47) pieces → length (slots_of width pieces) < 2 ^ 32
    → blocks_len more (blocks_text width block more pieces ++ rest) ≡ length (blocks_text width block more pieces)
text_len more width block pieces rest narrow wide up counts few =
    let back = (reads_back more width block (length (slots_of width pieces)) 0 0 pieces rest narrow wide up counts (omega arith) few).len in
    omega (arith, back, length-append (blocks_text width block more pieces) rest)

-- ---- what was read is what was written

-- bytes begin with the text of these pieces, which are those of so many blocks, in so many slots
pub record BeginsWithText (more width block most : ℕ) (bytes : List ℕ) (pieces : List Piece) : Type 0 where
  pub front : take (length (blocks_text width block more pieces)) bytes ≡ blocks_text width block more pieces
  pub len : length (blocks_text width block more pieces) ≡ blocks_len more bytes
  pub fits : length (blocks_text width block more pieces) ≤ length bytes
  pub few : length (slots_of width pieces) ≤ most
  pub within : InBlocks width block (block + more) pieces

-- a block and what is read behind it
back_step : (more width block most : ℕ) (bytes : List ℕ) (front back : List Piece) → BeginsWithBlock width block most bytes front
    → BeginsWithText more width (suc block) (most - count_in bytes) (drop (block_len bytes) bytes) back → BeginsWithText (suc more) width block most bytes (front ++ back)
back_step more width block most bytes front back first later =
    let text = blocks_text width (suc block) more back in
    let split : blocks_text width block (suc more) (front ++ back) ≡ block_text width block front ++ text =
    blocks_text-split width block (suc block + more) front back first.within later.within more in
    let first_long : length (block_text width block front) ≡ block_len bytes = ap (λ (xs : List ℕ). length xs) first.text ∙ length-take-le (block_len bytes) bytes first.long in
    let long : length (blocks_text width block (suc more) (front ++ back)) ≡ block_len bytes + length text =
    ap (λ (xs : List ℕ). length xs) split ∙ (length-append (block_text width block front) text ∙ ap (λ n. n + length text) first_long) in
    let block_fits = first.long in
    let later_fits = later.fits in
    let sum : length (slots_of width (front ++ back)) ≡ count_in bytes + length (slots_of width back) =
    ap (λ (slots : List ℕ). length slots) (slots_of-append width front back) ∙ (length-append (slots_of width front) (slots_of width back) ∙ ap (λ n. n + length (slots_of width back)) first.count) in
    let room = first.room in
    let later_few = later.few in
    record {
      front =
          ap (λ n. take n bytes) long ∙ (take-add (block_len bytes) (length text) bytes
          ∙ (ap₂ (λ (xs ys : List ℕ). xs ++ ys) (sym first.text) later.front ∙ sym split));
      len = long ∙ ap (λ n. block_len bytes + n) later.len;
      fits = omega (arith, long, length-drop (block_len bytes) bytes);
      few = omega arith;
      within = in_blocks-append width block (block + suc more) front back
          (in_blocks_wide width block block (suc block) (block + suc more) front (omega arith) (omega arith) first.within)
          (in_blocks_wide width block (suc block) (suc block + more) (block + suc more) back (omega arith) (omega arith) later.within);
    }

back_found : (more width block most at end : ℕ) (bytes : List ℕ) → AreBytes (blocks_len more bytes) bytes → (blocks_found more width block most at end bytes).left ≡ None
    → BeginsWithText more width block most bytes (blocks_found more width block most at end bytes).pieces
back_found zero width block most at end bytes small whole = record { front = refl; len = refl; fits = omega arith; few = omega arith; within = tt }
back_found (suc more) width block most at end bytes small whole =
    let first = block_found width block most at end bytes in
    let later = blocks_found more width (suc block) (most - count_in bytes) (at + block_len bytes) end (drop (block_len bytes) bytes) in
    let both = behind_none first later whole in
    let len = block_len bytes + blocks_len more (drop (block_len bytes) bytes) in
    subst (BeginsWithText (suc more) width block most bytes) (sym both.2)
    (back_step more width block most bytes first.pieces later.pieces (block_back width block most at end bytes (fewer_bytes len (block_len bytes) bytes (omega arith) small) both.0)
    (back_found more width (suc block) (most - count_in bytes) (at + block_len bytes) end (drop (block_len bytes) bytes)
    (bytes_behind (block_len bytes) (blocks_len more (drop (block_len bytes) bytes)) bytes small) both.1))

pub found_text : (more width block most at end : ℕ) (bytes : List ℕ) → All (λ b. b < 256) (take (blocks_len more bytes) bytes) → (blocks_found more width block most at end bytes).left ≡ None
    → BeginsWithText more width block most bytes (blocks_found more width block most at end bytes).pieces
found_text more width block most at end bytes small whole = back_found more width block most at end bytes (bytes_from (blocks_len more bytes) bytes small) whole
