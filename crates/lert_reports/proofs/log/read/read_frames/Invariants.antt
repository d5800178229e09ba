use Rattle.std.proofs.Common.{◌≡◌, ◌+◌, ◌≤◌, None, length}
use Rattle.lert_reports.specs.LogText.{left_at, frame_fields}
use Rattle.lert_reports.proofs.log.read.read_frames.Given as goal

-- none of the frames so far is broken
abbrev pub invariant-loop-k : goal.invariant-loop-k
invariant-loop-k l =
    (left_at l.payload (frame_fields l.settings l.payload l.start l.k) ≡ None)
    × (l.start + l.k ≤ length l.payload)
