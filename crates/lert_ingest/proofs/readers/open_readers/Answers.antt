use Rattle.std.proofs.Common.{◌∙◌, List, ◌++◌, length, ap, refl, arith}
use Rattle.std.specs.VecDeque.{deque_capacity}
use Rattle.lert_ingest.specs.Readers.{fresh_reader, fresh_readers}
use Rattle.lert_ingest.proofs.Pouring.{poured_as, room_behind}
use Rattle.lert_ingest.proofs.readers.open_readers.Goals as goal

pub loop-source-init : goal.loop-source-init
loop-source-init g c = record {
  items_are = ap (λ xs. xs ++ fresh_readers c.args.traces.items) c.requires.empty;
  room = let none = ap (λ xs. length xs) c.requires.empty in let room = c.requires.room in omega (arith, none, room);
  capacity = refl;
}

pub loop-source-smaller : goal.loop-source-smaller
loop-source-smaller g c = let n = ap (λ (xs : List g.row.S.Denot). length xs) c.in-Some.ensures.items in omega (arith, n)

pub loop-source-preserved : goal.loop-source-preserved
loop-source-preserved g c =
    let held = c.loop-source.invariant in
    record {
      items_are = poured_as fresh_reader c.loop-source.readers.items c.loop-source.traces.items c.push_back_reserved.new.self.items
          c.pop_front.new.self.items c.in-Some.source c.new.result c.new.ensures c.push_back_reserved.ensures.items c.in-Some.ensures.items ∙ held.items_are;
      room = room_behind c.loop-source.readers.items c.loop-source.traces.items c.push_back_reserved.new.self.items c.pop_front.new.self.items c.new.result c.in-Some.source
          c.push_back_reserved.ensures.items c.in-Some.ensures.items (deque_capacity c.loop-source.readers) (deque_capacity c.push_back_reserved.new.self)
          c.push_back_reserved.ensures.capacity held.room;
      capacity = c.pop_front.ensures.capacity ∙ held.capacity;
    }
