use Rattle.std.proofs.Common.{◌≡◌, ◌≤◌, ◌^◌, ◌++◌, ◌∷◌, List, ℕ, length, map, take}
use Rattle.lert_counter.specs.{Group.written, Reading.number_of}
use Rattle.lert_counter.proofs.SpelledLemmas.{SpelledTo}
use Rattle.lert_counter.proofs.read.scan_digits.Given as goal

abbrev pub invariant-loop-len : goal.invariant-loop-len
invariant-loop-len l = record {
  small : l.number ≤ 2 ^ 47;
  few : l.len ≤ 6;
  spelled : SpelledTo l.base l.x l.len l.slots l.number;
  so_far : (ds back : List ℕ) → length ds ≤ 6 → l.slots ≡ map (written l.x) ds ++ l.x ∷ back
      → number_of l.base ds ≤ 2 ^ 47 → (l.len ≤ length ds) × (l.number ≡ number_of l.base (take l.len ds));
}
