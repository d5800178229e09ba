use Rattle.std.proofs.Common.{vec_len, ◌≡◌, ◌+◌, ◌/◌, ap, sym, ◌∙◌, length, take, replicate, List, ℕ, false}
use Rattle.lert_slotbits.specs.Bits.{row_of}
use Rattle.lert_slotbits.proofs.ViewLemmas.{length_view, clear_view}
use Rattle.lert_slotbits.proofs.bits.Bits.clear.Goals as goal

pub returns : goal.returns
returns c =
    let len = c.self.inside.len in
    let words = c.self.inside.words in
    let filled = c.fill.ensures.items (λ y e. e) in
    let count : vec_len words ≡ len / 64 + 1 = words.ok.0 ∙ (c.self.invariant).0 in
    ap (λ (ws : List ℕ). take len (row_of ws)) (filled ∙ ap (λ n. replicate {A = ℕ} n 0) count) ∙ clear_view len
    ∙ ap (λ n. replicate n false) (sym (length_view words.items len (c.self.invariant).0) ∙ ap length c.self.view_is)
