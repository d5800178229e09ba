use Rattle.std.proofs.Common.{◌+◌, ◌/◌, ap, ◌∙◌, List, ℕ, get_or}
use Rattle.lert_cqf.proofs.SumLemmas.{sums_own, zeros_at}
use Rattle.lert_cqf.proofs.spill.Spill.new.Goals as goal

pub returns : goal.returns
returns c =
    let common = c.in_ok-common.ensures.items_if_clones_equal (λ y e. e) in
    sums_own 0 c.in_ok-own.own.items c.in_ok-common.common.items
    (λ block. ap (λ (t : List ℕ). get_or t block 0) common ∙ zeros_at (c.args.len / 64 + 1) block)
    ∙ c.in_ok-own.ensures.items_if_clones_equal (λ y e. e)
