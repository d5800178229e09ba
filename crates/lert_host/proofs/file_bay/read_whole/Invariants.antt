use Rattle.std.proofs.Common.{◌≤◌, length}
use Rattle.lert_host.proofs.file_bay.read_whole.Given as goal

-- what was read lies within
abbrev pub invariant-loop : goal.invariant-loop
invariant-loop l = l.done ≤ length l.into
