use Rattle.std.proofs.Common.{◌^◌, ap, ◌∙◌}
use Rattle.lert_cqf.specs.Contents.{Contents}
use Rattle.lert_cqf.proofs.TableLemmas.{occupied_long}
use Rattle.lert_cqf.proofs.table.Cqf.occupied.Goals as goal

pub returns-clause-count : goal.returns-clause-count
returns-clause-count c = occupied_long _ _ _ _ _ _ _ _ _ _ c.self.invariant.0 ∙ ap (λ (t : Contents). 2 ^ t.quotient_bits) c.self.view_is
