use Rattle.std.proofs.Common.{◌≡◌, ◌-◌, ◌*◌, ◌/◌, ◌<◌, ◌≤◌, ℕ, get_or, false}
use Rattle.std.specs.Int.{bit_at}
use Rattle.lert_slotbits.specs.Bits.{row_of, gapped}
use Rattle.lert_slotbits.proofs.gap.open.Given as goal

abbrev pub invariant-loop-index : goal.invariant-loop-index
invariant-loop-index l = record {
  done : (i : ℕ) → i < 64 * l.index → get_or (row_of l.words) i false ≡ get_or (gapped (row_of l.initial.words) l.from l.to) i false;
  todo : (j : ℕ) → l.index ≤ j → get_or l.words j 0 ≡ get_or l.initial.words j 0;
  first : l.index ≡ l.from / 64 → l.carry ≡ 0;
  carried : l.from / 64 < l.index → l.carry ≡ bit_at (get_or l.initial.words (l.index - 1) 0) 63;
  carry : l.carry < 2;
}
