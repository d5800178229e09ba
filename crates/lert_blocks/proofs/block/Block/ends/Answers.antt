use Rattle.std.proofs.Common.{ℕ, ◌≡◌, ◌∙◌, List, ap₂, arith, take}
use Rattle.lert_blocks.specs.Text.{word_count}
use Rattle.lert_blocks.proofs.FillingLaws.{words_filled}
use Rattle.lert_blocks.proofs.block.Block.ends.Goals as goal

pub returns-clause-words : goal.returns-clause-words
returns-clause-words c = λ width block skip pieces was.
    let self = c.args.self.now in
    let count : c.div_ceil.result ≡ word_count self.len = omega (arith, c.div_ceil.ensures) in
    words_filled width block skip pieces self was self.sized.2 self.sized.1 c.first_words.result.now
    (c.first_words.ensures.value ∙ ap₂ (λ n (ns : List ℕ). take n ns) count c.deref.ensures.value) c.first_words.ensures.fit
