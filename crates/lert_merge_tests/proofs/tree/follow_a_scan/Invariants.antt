use Rattle.std.proofs.Common.{◌≡◌, length}
use Rattle.lert_merge_tests.proofs.tree.follow_a_scan.Given as goal

abbrev pub invariant-loop-key : goal.invariant-loop-key
invariant-loop-key g l = (length l.tree.keys ≡ length l.keys) × (length l.keys ≡ length l.fn.keys) × (l.tree.room ≡ l.fn.tree.room)
