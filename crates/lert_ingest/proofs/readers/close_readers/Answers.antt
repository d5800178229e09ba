use Rattle.std.proofs.Common.{◌∙◌, List, ◌++◌, length, ap, arith}
use Rattle.std.specs.VecDeque.{deque_capacity}
use Rattle.lert_trace.specs.Reader.{Reading}
use Rattle.lert_ingest.specs.Readers.{sources_of}
use Rattle.lert_ingest.proofs.Pouring.{poured_as, room_behind}
use Rattle.lert_ingest.proofs.readers.close_readers.Goals as goal

pub loop-reader-init : goal.loop-reader-init
loop-reader-init g c = record {
  items_are = ap (λ xs. xs ++ sources_of c.args.readers.items) c.requires.empty;
  room = let none = ap (λ xs. length xs) c.requires.empty in let room = c.requires.room in omega (arith, none, room);
}

pub loop-reader-smaller : goal.loop-reader-smaller
loop-reader-smaller g c = let n = ap (λ (xs : List (Reading g.row.S.Denot)). length xs) c.in-Some.ensures.items in omega (arith, n)

pub loop-reader-preserved : goal.loop-reader-preserved
loop-reader-preserved g c =
    let held = c.loop-reader.invariant in
    record {
      items_are = poured_as (λ (r : Reading g.row.S.Denot). r.source) c.loop-reader.traces.items c.loop-reader.readers.items c.push_back_reserved.new.self.items
          c.pop_front.new.self.items c.in-Some.reader c.into_source.result c.into_source.ensures c.push_back_reserved.ensures.items c.in-Some.ensures.items ∙ held.items_are;
      room = room_behind c.loop-reader.traces.items c.loop-reader.readers.items c.push_back_reserved.new.self.items c.pop_front.new.self.items c.into_source.result c.in-Some.reader
          c.push_back_reserved.ensures.items c.in-Some.ensures.items (deque_capacity c.loop-reader.traces) (deque_capacity c.push_back_reserved.new.self)
          c.push_back_reserved.ensures.capacity held.room;
    }
