use Rattle.std.proofs.Common.{◌≡◌, List, replicate, map}
use Rattle.std.specs.Prelude.{All, []}
use Rattle.lert_buffers.specs.Rings.{IsRing}
use Rattle.lert_spec.specs.declared.item.Item.{Item}
use Rattle.lert_buffers.proofs.buffers.Buffers.new.Given as goal

abbrev pub invariant-loop : goal.invariant-loop
invariant-loop l = record {
  empty : map (λ r. r.items) l.rings.items ≡ replicate {A = List Item} l.counter [];
  rooms : All (IsRing l.packet) l.rings.items;
}
