use Rattle.std.proofs.Common.{◌≡◌, ◌-◌}
use Rattle.lert_frames.specs.Place.{frame_lens}
use Rattle.lert_frames.proofs.place.frame_place.Given as goal

-- the bytes of the levels so far
abbrev pub invariant-loop-lower : goal.invariant-loop-lower
invariant-loop-lower l = l.before ≡ frame_lens l.settings l.version (l.lower - 1)
