use Rattle.std.proofs.{Common.{◌≤◌, length, sym, ap, subst, take}, lemmas.List.drop-drop}
use Rattle.lert_trace.proofs.Pending.{IsBlock-taken}
use Rattle.lert_trace.proofs.window.Window.take.Goals as goal

pub invariant_of-self : goal.invariant_of-self
invariant_of-self g c =
    IsBlock-taken c.self.inside.block c.self.inside.start c.self.inside.end c.args.count c.self.invariant
    (subst (λ w. c.args.count ≤ length w.pending) (sym c.self.view_is) c.requires)

-- so many bytes further on
pub returns-clause-pending : goal.returns-clause-pending
returns-clause-pending g c =
    rw (← c.self.view_is) (sym (drop-drop c.args.count c.self.inside.start (take c.self.inside.end c.self.inside.block)))

pub returns-clause-source : goal.returns-clause-source
returns-clause-source g c = ap (λ w. w.source) c.self.view_is
