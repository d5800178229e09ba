use Rattle.std.proofs.Common.{sym}
use Rattle.lert_trace.proofs.Pending.{length-pending}
use Rattle.lert_trace.proofs.window.Window.len.Goals as goal

pub returns : goal.returns
returns g c = rw (← c.self.view_is) (sym (length-pending c.self.inside.block c.self.inside.start c.self.inside.end c.self.invariant))
