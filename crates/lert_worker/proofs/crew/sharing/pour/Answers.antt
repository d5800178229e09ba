use Rattle.std.proofs.Common.{◌∙◌, List, length, ap, refl, arith}
use Rattle.std.specs.VecDeque.{deque_capacity}
use Rattle.lert_worker.proofs.crew.Pouring.{poured, still_room}
use Rattle.lert_worker.proofs.crew.sharing.pour.Goals as goal

pub loop-next-init : goal.loop-next-init
loop-next-init g c = record { items_are = refl; room = c.requires }

pub loop-next-smaller : goal.loop-next-smaller
loop-next-smaller g c = let n = ap (λ (xs : List g.row.T.Denot). length xs) c.in-Some.ensures.items in omega (arith, n)

pub loop-next-preserved : goal.loop-next-preserved
loop-next-preserved g c =
    let held = c.loop-next.invariant in
    record {
      items_are = poured c.loop-next.list.items c.loop-next.rest.items c.push_back_reserved.new.self.items c.pop_front.new.self.items c.in-Some.next
          c.push_back_reserved.ensures.items c.in-Some.ensures.items ∙ held.items_are;
      room = still_room c.loop-next.list.items c.loop-next.rest.items c.push_back_reserved.new.self.items c.pop_front.new.self.items c.in-Some.next
          c.push_back_reserved.ensures.items c.in-Some.ensures.items (deque_capacity c.loop-next.list) (deque_capacity c.push_back_reserved.new.self)
          c.push_back_reserved.ensures.capacity held.room;
    }
