-- What a block holds, through each of its changes.
use Rattle.std.proofs.Common.{◌≡◌, ◌≢◌, ℕ, ◌+◌, ◌-◌, ◌*◌, ◌%◌, ◌^◌, ◌<◌, ◌≤◌, Bool, true, false, cond, ◌==◌, List, [], ◌∷◌, ◌++◌, length, take, drop, get_or, set, replicate}
use Rattle.std.proofs.Common.{refl, sym, ap, ◌∙◌, subst, inl, inr, arith}
use Rattle.std.specs.Int.{bit_at}
use Rattle.std.proofs.lemmas.Bool.{cases_lt}
use Rattle.std.proofs.lemmas.Bool.Decides.{nat_tests}
use Rattle.std.proofs.lemmas.List.{append_assoc, drop-append-le, drop-drop, drop-take, get_or-take, length-append, length-replicate, replicate-append-replicate, same_from_push}
use Rattle.lert_slotbits.specs.Bits.{row_of}
use Rattle.lert_slotbits.proofs.RowLemmas.{length_row}
use Rattle.lert_spec.specs.declared.piece.Piece.{Piece}
use Rattle.lert_spec.specs.Table.{AscendsFrom}
use Rattle.lert_blocks.specs.declared.block.Block.{Block}
use Rattle.byteorder.specs.Endian.{little_bytes}
use Rattle.lert_blocks.specs.Text.{quotient_of, group_of, slots_of, ends_of, occupied_of, number_of_bits, word_count, words_of, numbers_text, head_text, block_text}
use Rattle.lert_blocks.specs.Filling.{IsFilled, IsNext}
use Rattle.lert_blocks.proofs.BitLaws.{number_of_bits-word_bits}
use Rattle.lert_blocks.proofs.WordLaws.{words_of-row, drop-row, row_of-append, row_of-zeros}
use Rattle.lert_blocks.proofs.BlockLaws.{ends_before, ends_of-push, last_of, length_ends, occupied_more, occupied_none, put_row_first, put_row_more, slots_of-push}

-- ---- none

pub filled_none : (width block : ℕ) (b : Block) → b.occupied ≡ 0 → 2 ^ 56 ≤ b.last → b.len ≡ 0 → b.ends.items ≡ replicate 8 0 → IsFilled width block 0 [] b
filled_none width block b occupied last len ends = record {
  occupied = rw occupied (occupied_none width block);
  slots = rw len refl;
  skipped = rw len refl;
  some = λ less. absurd (omega arith);
  ends = rw (ends, len) (row_of-zeros 8);
  last = λ before p is. absurd (omega (arith, ap length is, length-append before (p ∷ [])));
  none = λ is. last;
}

-- ---- one more

ascends_front : (least limit : ℕ) (ps more : List Piece) → AscendsFrom least limit (ps ++ more) → AscendsFrom least limit ps
ascends_front least limit [] more t = tt
ascends_front least limit (p ∷ ps) more t = (t.0, t.1, t.2, ascends_front (p.tail + 1) limit ps more t.3)

-- what a put changes
pub record Puts (width : ℕ) (piece : Piece) (old new : Block) : Type 0 where
  pub some : 0 < length (group_of width piece)
  pub room : old.len + length (group_of width piece) ≤ 512
  pub small : quotient_of width piece < 2 ^ 56
  pub here : bit_at new.occupied (quotient_of width piece % 64) ≡ 1
  pub others : (i : ℕ) → i ≢ quotient_of width piece % 64 → bit_at new.occupied i ≡ bit_at old.occupied i
  pub last : new.last ≡ quotient_of width piece
  pub len : new.len ≡ old.len + length (group_of width piece)
  pub slots : take new.len new.slots.items ≡ take old.len old.slots.items ++ group_of width piece
  pub row : row_of new.ends.items ≡ set (cond (quotient_of width piece == old.last) (set (row_of old.ends.items) (old.len - 1) false) (row_of old.ends.items))
      (old.len + length (group_of width piece) - 1) true

module _ (width block skip limit : ℕ) (pieces : List Piece) (piece : Piece) (old new : Block) (was : IsFilled width block skip pieces old)
    (next : IsNext width block limit pieces piece) (puts : Puts width piece old new) where
  -- the ends of runs
  first_row : pieces ≡ [] → row_of new.ends.items ≡ drop skip (ends_of width (pieces ++ piece ∷ [])) ++ replicate (512 - new.len) false
  first_row none =
      let high = was.none none in
      let low = puts.small in
      let apart : (quotient_of width piece == old.last) ≡ false = grind (arith, nat_tests) in
      let empty : skip + old.len ≡ 0 = was.skipped ∙ ap (λ (ps : List Piece). length (slots_of width ps)) none in
      puts.row
      ∙ put_row_first width skip old.len 512 piece (row_of old.ends.items) (quotient_of width piece == old.last) puts.some puts.room
      (was.ends ∙ ap (λ (ps : List Piece). drop skip (ends_of width ps) ++ replicate (512 - old.len) false) none) empty apart
      ∙ ap (λ (ps : List Piece). drop skip (ends_of width (ps ++ piece ∷ [])) ++ replicate (512 - (old.len + length (group_of width piece))) false) (sym none)
      ∙ ap (λ n. drop skip (ends_of width (pieces ++ piece ∷ [])) ++ replicate (512 - n) false) (sym puts.len)

  behind_row : (qs : List Piece) (q : Piece) → pieces ≡ qs ++ q ∷ [] → row_of new.ends.items ≡ drop skip (ends_of width (pieces ++ piece ∷ [])) ++ replicate (512 - new.len) false
  behind_row qs q is =
      let table = ascends_front 0 limit pieces (piece ∷ []) next.table in
      let whole : skip + old.len ≡ length (ends_of width (qs ++ q ∷ [])) =
      was.skipped ∙ sym (length_ends width 0 limit pieces table) ∙ ap (λ (ps : List Piece). length (ends_of width ps)) is in
      let more : 0 < skip + old.len = omega (arith, ap length (ends_of-push width qs q), length-append (ends_before width qs q) (true ∷ [])) in
      let behind : 0 < old.len = elim (cases_lt 0 skip) [ inl less ↦ was.some less | inr none ↦ omega arith ] in
      puts.row
      ∙ put_row_more width skip old.len 512 piece (row_of old.ends.items) (quotient_of width piece == old.last) puts.some puts.room qs q
      (was.ends ∙ ap (λ (ps : List Piece). drop skip (ends_of width ps) ++ replicate (512 - old.len) false) is) whole behind
      (ap (λ n. quotient_of width piece == n) (was.last qs q is))
      ∙ ap (λ (ps : List Piece). drop skip (ends_of width (ps ++ piece ∷ [])) ++ replicate (512 - (old.len + length (group_of width piece))) false) (sym is)
      ∙ ap (λ n. drop skip (ends_of width (pieces ++ piece ∷ [])) ++ replicate (512 - n) false) (sym puts.len)

  pub filled_more : IsFilled width block skip (pieces ++ piece ∷ []) new
  filled_more =
      let g = group_of width piece in
      let grown : length (slots_of width (pieces ++ piece ∷ [])) ≡ length (slots_of width pieces) + length g =
      ap length (slots_of-push width pieces piece) ∙ length-append (slots_of width pieces) g in
      record {
        occupied = occupied_more width block old.occupied new.occupied pieces piece was.occupied next.here puts.here puts.others;
        slots = puts.slots ∙ ap (λ (t : List ℕ). t ++ g) was.slots
            ∙ sym (ap (drop skip) (slots_of-push width pieces piece) ∙ drop-append-le skip (slots_of width pieces) g (omega (arith, was.skipped)));
        skipped = omega (arith, was.skipped, puts.len, grown);
        some = λ _. omega (arith, puts.len, puts.some);
        ends = elim (last_of pieces) [ inl none ↦ first_row none | inr (qs, q, is) ↦ behind_row qs q is ];
        last = λ before p is. puts.last ∙ ap (quotient_of width) (same_from_push pieces before piece p is).1;
        none = λ is. absurd (omega (arith, ap length is, length-append pieces (piece ∷ [])));
      }

-- ---- the words of run ends, and the whole block as text

module _ (width block skip : ℕ) (pieces : List Piece) (b : Block) (was : IsFilled width block skip pieces b) (within : b.len ≤ 512) (sized : length b.ends.items ≡ 8) where
  -- a run end for each slot
  pub length_left : length (drop skip (ends_of width pieces)) ≡ b.len
  length_left =
      omega (arith, ap length was.ends, length-append (drop skip (ends_of width pieces)) (replicate (512 - b.len) false), length-replicate (512 - b.len) false, length_row b.ends.items)

  pub words_filled : (words : List ℕ) → words ≡ take (word_count b.len) b.ends.items → ((i : ℕ) → get_or words i 0 < 2 ^ 64) → words ≡ words_of (drop skip (ends_of width pieces))
  words_filled words are fit =
      let bits = drop skip (ends_of width pieces) in
      let fits = λ (i : ℕ) (less : i < word_count (length bits)).
      subst (λ n. n < 2 ^ 64) (ap (λ (ns : List ℕ). get_or ns i 0) are ∙ get_or-take (word_count b.len) b.ends.items i 0 (rw (← length_left) less)) (fit i) in
      are ∙ ap (λ n. take (word_count n) b.ends.items) (sym length_left) ∙ sym (words_of-row bits b.ends.items (512 - b.len) was.ends fits)

pub filled_text : (width block : ℕ) (pieces : List Piece) (b : Block) (words slots : List ℕ) → IsFilled width block 0 pieces b → b.len ≤ 512 → length b.ends.items ≡ 8 → b.occupied < 2 ^ 64
    → words ≡ take (word_count b.len) b.ends.items → slots ≡ take b.len b.slots.items → ((i : ℕ) → get_or words i 0 < 2 ^ 64)
    → (little_bytes 8 b.occupied ++ (little_bytes 4 b.len ++ numbers_text words)) ++ numbers_text slots ≡ block_text width block pieces
filled_text width block pieces b words slots was within sized fits words_are slots_are fit =
    let bits = little_bytes 8 (number_of_bits (occupied_of width block pieces)) in
    let count : b.len ≡ length (slots_of width pieces) = omega (arith, was.skipped) in
    ap (λ n. (little_bytes 8 n ++ (little_bytes 4 b.len ++ numbers_text words)) ++ numbers_text slots)
    (sym (number_of_bits-word_bits b.occupied fits) ∙ ap number_of_bits was.occupied)
    ∙ ap (λ n. (bits ++ (little_bytes 4 n ++ numbers_text words)) ++ numbers_text slots) count
    ∙ ap (λ (ns : List ℕ). (bits ++ (little_bytes 4 (length (slots_of width pieces)) ++ numbers_text ns)) ++ numbers_text slots)
    (words_filled width block 0 pieces b was within sized words words_are fit)
    ∙ ap (λ (ns : List ℕ). head_text width block pieces ++ numbers_text ns) (slots_are ∙ was.slots)

-- ---- the front let go

module _ (width block skip words : ℕ) (pieces : List Piece) (old new : Block) (was : IsFilled width block skip pieces old) (inside : 64 * words < old.len) where
  pub filled_behind : old.len ≤ 512 → length old.ends.items ≡ 8 → new.occupied ≡ old.occupied → new.last ≡ old.last → new.len ≡ old.len - 64 * words
      → take new.len new.slots.items ≡ take new.len (drop (64 * words) old.slots.items) → new.ends.items ≡ drop words old.ends.items ++ replicate words 0
      → IsFilled width block (skip + 64 * words) pieces new
  filled_behind within long occupied last len slots ends =
      let left = drop skip (ends_of width pieces) in
      let back = replicate (512 - old.len) false in
      let all = length_left width block skip pieces old was within long in
      let count : 64 * words + new.len ≡ old.len = omega arith in
      let room : 512 - old.len + 64 * words ≡ 512 - new.len = omega arith in
      let behind : drop (64 * words) (row_of old.ends.items) ≡ drop (skip + 64 * words) (ends_of width pieces) ++ back =
      ap (drop (64 * words)) was.ends ∙ drop-append-le (64 * words) left back (omega arith) ∙ ap (λ (bs : List Bool). bs ++ back) (drop-drop (64 * words) skip (ends_of width pieces)) in
      record {
        occupied = rw occupied was.occupied;
        slots = slots ∙ sym (drop-take (64 * words) new.len old.slots.items) ∙ ap (λ n. drop (64 * words) (take n old.slots.items)) count
            ∙ ap (drop (64 * words)) was.slots ∙ drop-drop (64 * words) skip (slots_of width pieces);
        skipped = omega (arith, was.skipped);
        some = λ _. omega arith;
        ends = ap row_of ends ∙ row_of-append (drop words old.ends.items) (replicate words 0)
            ∙ ap (λ (bs : List Bool). row_of (drop words old.ends.items) ++ bs) (row_of-zeros words)
            ∙ ap (λ (bs : List Bool). bs ++ replicate (64 * words) false) (sym (drop-row old.ends.items words (omega arith)) ∙ behind)
            ∙ append_assoc (drop (skip + 64 * words) (ends_of width pieces)) back (replicate (64 * words) false)
            ∙ ap (λ (bs : List Bool). drop (skip + 64 * words) (ends_of width pieces) ++ bs)
            (replicate-append-replicate (512 - old.len) (64 * words) false ∙ ap (λ n. replicate n false) room);
        last = λ before p is. last ∙ was.last before p is;
        none = λ is. rw last (was.none is);
      }
