use Rattle.std.proofs.Common.{◌≡◌}
use Rattle.lert_base.specs.Entries.{packet_of}
use Rattle.lert_conelock.proofs.Waiting.{IsWaiting}
use Rattle.lert_conelock.proofs.turn.take_turn.Given as goal

abbrev pub invariant-loop : goal.invariant-loop
invariant-loop g l = record {
  can_next : (goal.iterator-loop g).can_next l.iterator';
  is_finite : (goal.iterator-loop g).is_finite l.iterator';
  table : l.seat.table_id ≡ l.fn.seat.table_id;
  waiting : IsWaiting (packet_of l.entry) l.fn.seat.me l.seat.me;
}
