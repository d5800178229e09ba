use Rattle.std.proofs.Common.{◌≡◌}
use Rattle.lert_worker.specs.{Outbox.{IsResting, MaySend}, Runs.RunsSoFar}
use Rattle.lert_worker.proofs.run.run_traces.Given as goal

-- the traces so far were read to their ends
abbrev pub invariant-loop-place : goal.invariant-loop-place
invariant-loop-place g l = record {
  may : MaySend g.H.Held l.fleet l.pass l.outbox;
  resting : IsResting l.outbox;
  settings : l.outbox.settings ≡ l.fn.outbox.settings;
  by_is : l.outbox.entry.by ≡ l.fn.outbox.entry.by;
  hi_is : l.pass.hi ≡ l.fn.pass.hi;
  so_far : RunsSoFar g.S.Source.remaining g.S.Faulty.faults g.S.Faulty.mark l.fn.outbox.settings l.fn.outbox.entry.by l.traces.items
      l.place l.fn.readers.items l.fn.pass l.readers.items l.pass;
}
