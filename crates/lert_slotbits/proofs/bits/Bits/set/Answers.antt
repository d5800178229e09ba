use Rattle.std.proofs.{Common.{◌≡◌, ap, ◌∙◌, take, set, List, ℕ, Bool, length, arith}, lemmas.List.with_items_is}
use Rattle.lert_slotbits.specs.Bits.{row_of}
use Rattle.lert_slotbits.proofs.ViewLemmas.{length_view, long_enough, take-set_below}
use Rattle.lert_slotbits.proofs.bits.Bits.set.Goals as goal

pub put_bit-requires : goal.put_bit-requires
put_bit-requires c =
    let words = c.self.inside.words.items in
    let all : length c.deref_mut.result.now ≡ length words = ap length c.deref_mut.ensures.value in
    let shown = length_view words c.self.inside.len c.self.invariant.0 in
    omega (arith, all, c.self.invariant.0, c.requires, shown, ap length c.self.view_is)

pub invariant_of-self : goal.invariant_of-self
invariant_of-self c =
    let words = c.self.inside.words in
    let same = c.put_bit.auto.words in (
      ap length (with_items_is words c.put_bit.new.words (same ∙ c.deref_mut.ensures.len))
          ∙ (same ∙ (ap length c.deref_mut.ensures.value ∙ c.self.invariant.0)),
      c.self.invariant.1,
    )

pub returns : goal.returns
returns c =
    let len = c.self.inside.len in
    let words = c.self.inside.words in
    let shown = length_view words.items len (c.self.invariant).0 in
    let same = ap length c.self.view_is in
    let long = long_enough words.items len (c.self.invariant).0 in
    ap (λ (ws : List ℕ). take len (row_of ws)) (with_items_is words c.put_bit.new.words (c.put_bit.auto.words ∙ c.deref_mut.ensures.len))
    ∙ ap (take len) (c.put_bit.ensures ∙ ap (λ (ws : List ℕ). set (row_of ws) c.args.i c.args.on) c.deref_mut.ensures.value)
    ∙ take-set_below len c.args.i (row_of words.items) c.args.on (omega arith) (omega arith)
    ∙ ap (λ (bs : List Bool). set bs c.args.i c.args.on) c.self.view_is
