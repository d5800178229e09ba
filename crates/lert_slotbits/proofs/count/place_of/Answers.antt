use Rattle.std.proofs.Common.{arith, sym, ◌∙◌, get_or}
use Rattle.lert_slotbits.proofs.{RowLemmas.bit_of_word, GapLemmas.row_bit, CountLemmas.{trues_word_more, trues_to, trues-word, trues_whole}}
use Rattle.lert_slotbits.proofs.count.place_of.Goals as goal

pub place_in-requires : goal.place_in-requires
place_in-requires c =
    let fits = (c.type_inv.words c.loop-index.index).fits in
    let whole = trues-word (get_or c.args.words.now c.loop-index.index 0) fits in
    omega (arith, c.from-ones.ensures)

pub returns-then-left-ones : goal.returns-then-left-ones
returns-then-left-ones c =
    let words = c.args.words.now in
    let index = c.loop-index.index in
    let at = c.place_in.result in
    let part = trues_to words index at (omega arith) (omega arith) in
    let bit = row_bit words index at c.place_in.ensures.within (omega arith) in
    let set = sym (bit_of_word (get_or words index 0) at c.place_in.ensures.within) ∙ c.place_in.ensures.set in
    rw c.from.ensures (omega arith, bit ∙ set, omega (arith, c.loop-index.invariant, c.place_in.ensures.below))

pub loop-index-preserved : goal.loop-index-preserved
loop-index-preserved c =
    let fits = (c.type_inv.words c.loop-index.index).fits in
    let more = trues_word_more c.args.words.now c.loop-index.index (omega arith) fits in
    omega (arith, c.loop-index.invariant, c.from-ones.ensures)

pub returns : goal.returns
returns c =
    let whole = trues_whole c.args.words.now c.loop-index.index (omega arith) in
    omega (arith, c.loop-index.invariant)
