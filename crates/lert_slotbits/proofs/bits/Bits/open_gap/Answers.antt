use Rattle.std.proofs.{Common.{ap, ◌∙◌, take, List, ℕ, Bool, length, arith}, lemmas.List.with_items_is}
use Rattle.lert_slotbits.specs.Bits.{row_of, gapped}
use Rattle.lert_slotbits.proofs.ViewLemmas.{length_view, long_enough, take-gapped}
use Rattle.lert_slotbits.proofs.bits.Bits.open_gap.Goals as goal

pub returns : goal.returns
returns c =
    let len = c.self.inside.len in
    let words = c.self.inside.words in
    let shown = length_view words.items len (c.self.invariant).0 in
    let same = ap length c.self.view_is in
    let long = long_enough words.items len (c.self.invariant).0 in
    ap (λ (ws : List ℕ). take len (row_of ws)) (with_items_is words c.open.new.words (c.open.auto.words ∙ c.deref_mut.ensures.len))
    ∙ ap (take len) (c.open.ensures ∙ ap (λ (ws : List ℕ). gapped (row_of ws) c.args.from c.args.to) c.deref_mut.ensures.value)
    ∙ take-gapped len c.args.from c.args.to (row_of words.items) c.requires.order (omega arith) (omega arith)
    ∙ ap (λ (bs : List Bool). gapped bs c.args.from c.args.to) c.self.view_is
