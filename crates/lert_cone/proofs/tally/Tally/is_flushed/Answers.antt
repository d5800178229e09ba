use Rattle.std.proofs.Common.{◌≡◌, ◌≢◌, ◌-◌, subst}
use Rattle.lert_spec.specs.Edges.{edge}
use Rattle.lert_cone.proofs.NextFlush.{at_flush, before_flush}
use Rattle.lert_cone.proofs.tally.Tally.is_flushed.Goals as goal

pub returns-clause-flushed : goal.returns-clause-flushed
returns-clause-flushed g c = rw (← c.self.view_is) (λ here.
    subst (λ n. edge c.self.inside.settings 0 n ≢ edge c.self.inside.settings 0 (n - 1)) c.self.invariant.len_is
    (at_flush c.self.inside.settings c.self.invariant.valid c.self.inside.len c.self.inside.flush c.self.invariant.flush_is here))

pub returns-clause-still : goal.returns-clause-still
returns-clause-still g c = rw (← c.self.view_is) (λ before.
    subst (λ n. edge c.self.inside.settings 0 n ≡ edge c.self.inside.settings 0 (n - 1)) c.self.invariant.len_is
    (before_flush c.self.inside.settings c.self.invariant.valid c.self.inside.len c.self.inside.flush c.self.invariant.flush_is before))
