use Rattle.std.proofs.Common.{◌≡◌, ◌-◌, length, arith, ap, ◌∙◌}
use Rattle.lert_spec.specs.{Counts.weighed, Look.look_up_to}
use Rattle.lert_reference.proofs.reports.add_each.Goals as goal

pub returns : goal.returns
returns c =
    let last : c.loop-m.m - 1 ≡ length c.args.events.now = omega arith in
    c.loop-m.invariant ∙ ap (look_up_to weighed c.args.s.now c.args.events.now) last
