use Rattle.std.proofs.{Common.{◌≡◌, ℕ, ◌+◌, ◌*◌, ◌<◌, ◌≤◌, ◌^◌, ◌++◌, ap, ◌∙◌, arith, rules, length, take, drop, get_or, List, length-append}, lemmas.List.{drop_at, length-take-le, take_at}}
use Rattle.byteorder.specs.{Endian.little_bytes, Numbers.length-bytes_low_first}
use Rattle.lert_blocks.specs.Text.{numbers_text, word_count}
use Rattle.lert_blocks.proofs.{FillingLaws.filled_text, PartLaws.{block_laid, length_numbers}}
use Rattle.lert_blocks.proofs.block.Block.lay.Goals as goal

-- the text that is laid, and what stands behind it
abbrev laid : ℕ → ℕ → List ℕ → List ℕ → List ℕ
laid occupied count words slots = (little_bytes 8 occupied ++ (little_bytes 4 count ++ numbers_text words)) ++ numbers_text slots

length_laid : (occupied count : ℕ) (words slots : List ℕ) → length (laid occupied count words slots) ≡ 12 + 8 * length words + 8 * length slots
length_laid occupied count words slots =
    omega (
      arith,
      length-append (little_bytes 8 occupied ++ (little_bytes 4 count ++ numbers_text words)) (numbers_text slots),
      length-append (little_bytes 8 occupied) (little_bytes 4 count ++ numbers_text words),
      length-append (little_bytes 4 count) (numbers_text words),
      length-bytes_low_first 0 8 occupied,
      length-bytes_low_first 0 4 count,
      length_numbers words,
      length_numbers slots,
    )

-- it fits where the block's own lengths do
fits_in : (len room : ℕ) (words slots ends all : List ℕ) → words ≡ take (word_count len) ends → slots ≡ take len all → length all ≡ 512 → length ends ≡ 8 → len ≤ 512
    → 12 + 8 * word_count len + 8 * len ≤ room → 12 + 8 * length words + 8 * length slots ≤ room
fits_in len room words slots ends all words_are slots_are long_all long_ends within enough =
    omega (
      arith,
      ap length words_are,
      length-take-le (word_count len) ends (omega arith),
      ap length slots_are,
      length-take-le len all (omega arith),
    )

pub returns-clause-rest : goal.returns-clause-rest
returns-clause-rest c =
    let words = c.ends-ends.result.now in
    let slots = c.slots-slots.result.now in
    let self = c.args.self.now in
    let old = c.args.into.now in
    let size = 12 + 8 * length words + 8 * length slots in
    let room = fits_in self.len (length old) words slots self.ends.items self.slots.items c.ends-ends.ensures.value c.slots-slots.ensures self.sized.0 self.sized.1 self.sized.2 c.requires in
    ap (drop size) (block_laid self.occupied self.len words slots old c.write_u64.new.buf c.write_u32.new.buf c.lay_numbers.new.into c.lay_numbers-2.new.into room
    c.write_u64.ensures c.write_u32.ensures c.lay_numbers.ensures c.lay_numbers-2.ensures)
    ∙ drop_at (laid self.occupied self.len words slots) (drop size old) size (length_laid self.occupied self.len words slots)

pub returns-clause-text : goal.returns-clause-text
returns-clause-text c = λ width block pieces was.
    let self = c.args.self.now in
    let words = c.ends-ends.result.now in
    let slots = c.slots-slots.result.now in
    let old = c.args.into.now in
    let size = 12 + 8 * length words + 8 * length slots in
    let room = fits_in self.len (length old) words slots self.ends.items self.slots.items c.ends-ends.ensures.value c.slots-slots.ensures self.sized.0 self.sized.1 self.sized.2 c.requires in
    let fits : (i : ℕ) → get_or words i 0 < 2 ^ 64 = search rules in
    ap (take size) (block_laid self.occupied self.len words slots old c.write_u64.new.buf c.write_u32.new.buf c.lay_numbers.new.into c.lay_numbers-2.new.into room
    c.write_u64.ensures c.write_u32.ensures c.lay_numbers.ensures c.lay_numbers-2.ensures)
    ∙ take_at (laid self.occupied self.len words slots) (drop size old) size (length_laid self.occupied self.len words slots)
    ∙ filled_text width block pieces self words slots was self.sized.2 self.sized.1 (omega arith) c.ends-ends.ensures.value c.slots-slots.ensures fits
