use Rattle.std.proofs.{Common.{◌-◌, ◌%◌, ◌^◌, bit_and, arith, ap, ◌∙◌}, lemmas.Nat.{one_shl, and_mask}}
use Rattle.lert_cqf.proofs.table.Cqf.parts.Goals as goal

pub returns-clause-remainder : goal.returns-clause-remainder
returns-clause-remainder c =
    let most = (c.self.invariant.0.limits).most_width in
    ap (λ n. bit_and c.args.tail (n - 1)) (one_shl c.self.inside.width 64 (omega arith)) ∙ and_mask c.args.tail c.self.inside.width
    ∙ ap (λ (t : _). c.args.tail % 2 ^ t.width) c.self.view_is
