use Rattle.std.proofs.Common.{◌*◌, ◌≤◌, subst}
use Rattle.lert_spec.specs.Table.{total}
use Rattle.lert_cqf.specs.Contents.{Contents}
use Rattle.lert_cqf.proofs.TableLemmas.{no_more}
use Rattle.lert_cqf.proofs.table.CqfCountTable.adds.Goals as goal

pub returns-clause-most : goal.returns-clause-most
returns-clause-most c = subst (λ (t : Contents). total t.pieces ≤ 255 * c.self.inside.adds) c.self.view_is (no_more _ _ _ _ _ _ _ _ _ _ c.self.invariant.0)
