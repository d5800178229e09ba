use Rattle.std.proofs.Common.{ap, ◌∙◌, take, List, ℕ}
use Rattle.lert_slotbits.specs.Bits.{row_of}
use Rattle.lert_slotbits.proofs.ViewLemmas.{clear_view}
use Rattle.lert_slotbits.proofs.bits.Bits.new.Goals as goal

pub returns : goal.returns
returns c =
    ap (λ (ws : List ℕ). take c.args.len (row_of ws)) (c.in_ok-words.ensures.items_if_clones_equal (λ y e. e)) ∙ clear_view c.args.len
