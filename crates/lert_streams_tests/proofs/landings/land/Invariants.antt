use Rattle.std.specs.List.{All}
use Rattle.lert_streams_tests.specs.Ready.{IsReady}
use Rattle.lert_streams_tests.proofs.landings.land.Given as goal

-- the landings may take what is left
abbrev pub invariant-loop-step : goal.invariant-loop-step
invariant-loop-step g l = record { ready : All (IsReady l.last l.left) l.landings }
