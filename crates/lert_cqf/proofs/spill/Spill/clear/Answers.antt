use Rattle.std.proofs.Common.{ap, sym, ◌∙◌, length, replicate, get_or, List, ℕ, vec_len}
use Rattle.lert_cqf.proofs.SumLemmas.{sums_long, sums_own, zeros_at}
use Rattle.lert_cqf.proofs.spill.Spill.clear.Goals as goal

pub returns : goal.returns
returns c =
    let own = c.self.inside.own in
    let common = c.self.inside.common in
    sums_own 0 c.fill.new.self.items c.fill-2.new.self.items
    (λ block. ap (λ (t : List ℕ). get_or t block 0) (c.fill-2.ensures.items (λ y e. e)) ∙ zeros_at (vec_len common) block)
    ∙ c.fill.ensures.items (λ y e. e)
    ∙ ap (λ n. replicate {A = ℕ} n 0) (own.ok.0 ∙ sym (sums_long 0 own.items common.items) ∙ ap length c.self.view_is)
