use Rattle.std.proofs.Common.{◌≡◌}
use Rattle.lert_host.proofs.text_sink.TextSinkSink.write.Given as goal

-- a call that is made again counts no fault
abbrev pub invariant-loop : goal.invariant-loop
invariant-loop g l = l.self.faults ≡ l.fn.self.faults
