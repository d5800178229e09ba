use Rattle.std.proofs.Common.{ap, sym, ◌∙◌, length}
use Rattle.lert_cqf.proofs.SumLemmas.{sums_long}
use Rattle.lert_cqf.proofs.spill.Spill.len.Goals as goal

pub returns : goal.returns
returns c =
    c.len.ensures ∙ ((c.self.inside.own).ok).0
    ∙ sym (sums_long 0 c.self.inside.own.items c.self.inside.common.items) ∙ ap length c.self.view_is
