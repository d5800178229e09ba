use Rattle.std.proofs.{Common.{◌+◌, ◌^◌, sym, subst}, lemmas.Nat.pow-add}
use Rattle.lert_spec.specs.Table.{IsTable, AscendsFrom}
use Rattle.lert_cqf.specs.{Contents.{Contents, built}, Standing.Stands}
use Rattle.lert_cqf.proofs.StandingLemmas.{stands_first}
use Rattle.lert_cqf.proofs.table.CqfCountTable.start.Goals as goal

pub returns-clause-stands : goal.returns-clause-stands
returns-clause-stands c =
    subst (λ (t : Contents). Stands t (record { next = 0; at = 0; end = 0; given = 0 })) c.self.view_is (stands_first _ _ _ _ _ _ _ _ _ _ c.self.invariant.0)

pub returns-clause-ascending : goal.returns-clause-ascending
returns-clause-ascending c =
    subst (λ (t : Contents). IsTable (2 ^ (t.quotient_bits + t.width)) t.pieces) c.self.view_is
    (subst (λ limit. AscendsFrom 0 limit (built c.self.inside.added)) (sym (pow-add 2 c.self.inside.quotient_bits c.self.inside.width)) c.self.invariant.0.ascend)
