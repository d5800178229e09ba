use Rattle.lert_reports.proofs.StoreLaws.{counted_if_listed}
use Rattle.lert_reports.proofs.store.ReportStore.has.Goals as goal

pub returns : goal.returns
returns g c =
    counted_if_listed _ _ _ _ _ _ _ _ _ c.self.invariant c.args.self.now c.args.key c.hidden.result c.count.result c.self.view_is
    c.hidden.ensures.value c.hidden.ensures.only c.count.ensures
