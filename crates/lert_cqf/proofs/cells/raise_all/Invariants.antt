use Rattle.std.proofs.Common.{◌≡◌, ◌+◌, ◌<◌, ◌≤◌, ℕ, get_or}
use Rattle.lert_cqf.proofs.cells.raise_all.Given as goal

abbrev pub invariant-loop-number : goal.invariant-loop-number
invariant-loop-number l = record {
  raised : (g : ℕ) → g < l.number-index → get_or l.numbers g 0 ≡ get_or l.initial.numbers g 0 + 1;
  others : (g : ℕ) → l.number-index ≤ g → get_or l.numbers g 0 ≡ get_or l.initial.numbers g 0;
}
