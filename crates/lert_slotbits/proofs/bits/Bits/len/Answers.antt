use Rattle.std.proofs.Common.{ap, sym, ◌∙◌, length}
use Rattle.lert_slotbits.proofs.ViewLemmas.{length_view}
use Rattle.lert_slotbits.proofs.bits.Bits.len.Goals as goal

pub returns : goal.returns
returns c = sym (length_view c.self.inside.words.items c.self.inside.len (c.self.invariant).0) ∙ ap length c.self.view_is
