use Rattle.std.proofs.Common.{◌≡◌, ◌++◌, drop, length}
use Rattle.lert_text.specs.Drill.{hexadecimal}
use Rattle.lert_text.proofs.hexadecimal.push_hexadecimal.Given as goal

-- the digits of the rest stand before those that were written
abbrev pub invariant-loop-place : goal.invariant-loop-place
invariant-loop-place l = record {
  sized : length l.digits ≡ 16;
  written : hexadecimal l.place l.rest ++ drop l.place l.digits ≡ hexadecimal 16 l.fn.number;
}
