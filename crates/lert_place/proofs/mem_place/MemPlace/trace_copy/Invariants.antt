use Rattle.std.proofs.Common.{◌≡◌, drop}
use Rattle.lert_place.specs.Shelf.{trace_named}
use Rattle.lert_place.proofs.mem_place.MemPlace.trace_copy.Given as goal

-- no trace so far has the name
abbrev pub invariant-loop-trace : goal.invariant-loop-trace
invariant-loop-trace l =
    trace_named l.self-inside.traces.items l.name ≡ trace_named (drop l.trace-index l.self-inside.traces.items) l.name
