use Rattle.std.proofs.Common.{◌-◌}
use Rattle.lert_bench.proofs.route.Routing.route_all.Given as goal

abbrev pub decreases-loop-item : goal.decreases-loop-item
decreases-loop-item l = l.reader.limit - l.reader.given
