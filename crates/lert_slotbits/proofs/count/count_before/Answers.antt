use Rattle.std.proofs.{Common.{◌≡◌, ◌+◌, ◌*◌, ◌/◌, ◌%◌, arith, ap, ◌∙◌, take, get_or, count_ones}, lemmas.List.{get_or-take, length-take}, lemmas.Nat.ones-le}
use Rattle.lert_slotbits.specs.Bits.{row_of, trues}
use Rattle.lert_slotbits.proofs.CountLemmas.{trues_word_more, trues_to, trues-take_word}
use Rattle.lert_slotbits.proofs.count.count_before.Goals as goal

pub loop-word-preserved : goal.loop-word-preserved
loop-word-preserved c =
    let words = c.args.words.now in
    let index = c.loop-word.word-index in
    let long = length-take (c.args.i / 64) words in
    let word = get_or-take (c.args.i / 64) words index 0 (omega arith) in
    let ones : c.from-count.result ≡ count_ones (get_or words index 0) = c.from-count.ensures ∙ ap count_ones word in
    let fits = (c.type_inv.words index).fits in
    let more = trues_word_more words index (omega arith) fits in
    let few = ones-le 64 (get_or words index 0) fits in
    (omega (arith, c.loop-word.invariant), omega (arith, c.loop-word.invariant))

pub returns : goal.returns
returns c =
    let words = c.args.words.now in
    let long = length-take (c.args.i / 64) words in
    let index : c.loop-word.word-index ≡ c.args.i / 64 = omega arith in
    let place : 64 * (c.args.i / 64) + c.args.i % 64 ≡ c.args.i = omega arith in
    let part = trues_to words (c.args.i / 64) (c.args.i % 64) (omega arith) (omega arith) in
    let word = trues-take_word (get_or words (c.args.i / 64) 0) (c.args.i % 64) (omega arith) in
    let ones = c.from.ensures ∙ ap count_ones c.lowest.ensures in
    let before = (c.loop-word.invariant).0 ∙ ap (λ n. trues (take (64 * n) (row_of words))) index in
    let whole = rw place at part in
    omega arith
