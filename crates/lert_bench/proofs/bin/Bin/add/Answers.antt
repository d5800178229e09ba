use Rattle.std.proofs.Common.{◌+◌, ap, ap₂, sym, ◌∙◌}
use Rattle.lert_spec.specs.Table.{total}
use Rattle.lert_spec.proofs.Tables.{total-plus}
use Rattle.lert_bench.proofs.bin.Bin.add.Goals as goal

-- one event more is one add more
pub invariant_of-self : goal.invariant_of-self
invariant_of-self c =
    let pieces = c.self.inside.table.pieces in (
      c.add.ensures.room ∙ c.self.invariant.0,
      c.add.ensures.adds ∙ ap (λ n. n + 1) c.self.invariant.1 ∙ sym (total-plus pieces c.args.tail 1) ∙ sym (ap total c.add.ensures.pieces),
      ap₂ (λ q w. q + w) c.add.ensures.quotient_bits c.add.ensures.width ∙ c.self.invariant.2,
    )
