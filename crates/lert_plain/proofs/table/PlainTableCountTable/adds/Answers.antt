use Rattle.std.proofs.Common.{◌*◌, ◌≤◌, subst}
use Rattle.lert_spec.specs.Table.{total}
use Rattle.lert_plain.specs.Contents.{Contents}
use Rattle.lert_plain.proofs.Kept.{no_more}
use Rattle.lert_plain.proofs.table.PlainTableCountTable.adds.Goals as goal

pub returns-clause-most : goal.returns-clause-most
returns-clause-most c = subst (λ (t : Contents). total t.pieces ≤ 255 * c.self.inside.adds) c.self.view_is (no_more _ _ _ _ _ c.self.invariant)
