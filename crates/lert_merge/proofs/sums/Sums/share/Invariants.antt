use Rattle.std.proofs.Common.{◌≡◌, drop}
use Rattle.lert_merge.specs.Givers.{share_in}
use Rattle.lert_merge.proofs.sums.Sums.share.Given as goal

abbrev pub invariant-loop-giver : goal.invariant-loop-giver
invariant-loop-giver l = share_in (drop l.giver-index l.giver-items) l.fn.stream ≡ share_in l.giver-items l.fn.stream
