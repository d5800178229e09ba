use Rattle.std.proofs.Common.{◌≡◌, ◌+◌, length}
use Rattle.lert_fleet.specs.Cones.{IsPassOf}
use Rattle.lert_worker.specs.crew.Passes.{AllQuiet, AllShow, AreLeaving, Brought, IsQuiet, Shows, Turned}
use Rattle.lert_worker.proofs.crew.hiring.dismiss.Given as goal

abbrev pub invariant-loop-worker : goal.invariant-loop-worker
invariant-loop-worker g l = record {
  belongs : IsPassOf l.pass l.fleet;
  lo_is : l.pass.lo ≡ l.initial.pass.lo;
  total : l.pass.hi + length l.crew.items ≡ l.initial.pass.hi + length l.initial.crew.items;
  leaving : AreLeaving l.fleet (l.initial.pass.hi + length l.initial.crew.items) l.crew.items;
  quiet : IsQuiet l.initial.pass → AllQuiet l.initial.crew.items → IsQuiet l.pass × AllQuiet l.crew.items;
  shows : (brought : Brought) (turned : Turned) → Shows brought turned l.initial.pass.lo l.initial.pass.hi l.initial.pass →
      AllShow brought turned (l.initial.pass.hi + length l.initial.crew.items) l.initial.crew.items →
      Shows brought turned l.initial.pass.lo l.pass.hi l.pass × AllShow brought turned (l.initial.pass.hi + length l.initial.crew.items) l.crew.items;
}

abbrev pub decreases-loop-worker : goal.decreases-loop-worker
decreases-loop-worker g l = goal.left-loop-worker g l
