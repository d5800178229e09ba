use Rattle.std.proofs.Common.{◌≡◌, ◌+◌, ◌-◌, ◌*◌, ◌<◌, ◌≤◌, ℕ, length, get_or, false}
use Rattle.lert_slotbits.specs.Bits.{row_of}
use Rattle.lert_slotbits.proofs.ScanLemmas.{Marks}
use Rattle.lert_slotbits.proofs.scan.first_bit.Given as goal

abbrev pub invariant-loop-word : goal.invariant-loop-word
invariant-loop-word l = record {
  within : l.index < length l.words;
  reached : l.from < 64 * (l.index + 1);
  fits : l.word < 18446744073709551616;
  passed : (k : ℕ) → l.from ≤ k → k < 64 * l.index → get_or (row_of l.words) k false ≡ l.on → ⊥;
  marks : Marks l.on l.words l.from l.index l.word;
}

abbrev pub decreases-loop-word : goal.decreases-loop-word
decreases-loop-word l = length l.words - l.index
