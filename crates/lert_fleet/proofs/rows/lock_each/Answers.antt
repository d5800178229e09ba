use Rattle.std.proofs.{Common.{List, Some, length, map, rules, refl, ap, ◌∙◌, arith}, lemmas.List.nil_from_length, lemmas.List.Elements.All-pop}
use Rattle.crossbeam_utils.specs.Padded.{padded_value}
use Rattle.lert_base.specs.Packet.{Packet}
use Rattle.lert_fleet.proofs.{Places.length_pushed, Locking.{locking_begun, locking_pushed, locking_last, locking_whole, locking_back}}
use Rattle.lert_fleet.proofs.rows.lock_each.Goals as goal

pub loop-state-init : goal.loop-state-init
loop-state-init g c = let no_lock = ap length c.requires.none.0 in let no_pass = ap length c.requires.none.1 in record {
  locking = locking_begun c.args.numbers c.args.states.items c.args.locks.items c.args.passes.items c.requires.none.0 c.requires.none.1;
  opened = c.requires.opened;
  locks_room = omega (arith, no_lock, c.requires.room.0);
  passes_room = omega (arith, no_pass, c.requires.room.1);
  states_room = omega (arith, no_lock, c.args.states.ok);
  capacity = refl;
}

pub new-requires-clause-opened : goal.new-requires-clause-opened
new-requires-clause-opened g c = λ lifetimes outlive. let popped = All-pop (λ state. (h : List Packet) × g.S.Held.stands_for state h) c.loop-state.states.items c.pop.new.self.items
    (Some c.in-Some.state) c.in-Some.ensures.items c.loop-state.invariant.opened in
    popped.1

pub loop-state-preserved : goal.loop-state-preserved
loop-state-preserved g c = let popped = All-pop (λ state. (h : List Packet) × g.S.Held.stands_for state h) c.loop-state.states.items c.pop.new.self.items
    (Some c.in-Some.state) c.in-Some.ensures.items c.loop-state.invariant.opened in
    let was = c.loop-state.invariant in
    let fewer = length_pushed c.loop-state.states.items c.pop.new.self.items c.in-Some.state c.in-Some.ensures.items in
    let locks = length_pushed c.push_reserved.new.self.items c.loop-state.locks.items c.new-in-Ok.result c.push_reserved.ensures.items in
    let passes = length_pushed c.push_reserved-in-Ok.new.self.items c.loop-state.passes.items c.in-Ok.pass c.push_reserved-in-Ok.ensures.items in
    record {
      locking = locking_pushed c.args.numbers c.args.states.items c.loop-state.states.items c.pop.new.self.items c.in-Some.state
          c.in-Some.ensures.items c.loop-state.locks.items c.push_reserved.new.self.items c.loop-state.passes.items
          c.push_reserved-in-Ok.new.self.items was.locking c.new-in-Ok.result c.in-Ok.lock c.in-Ok.pass c.new-in-Ok.ensures
          c.push_reserved.ensures.items c.push_reserved-in-Ok.ensures.items c.in-Ok.ensures.lock.0 c.in-Ok.ensures.lock.1 c.in-Ok.ensures.pass;
      opened = popped.0;
      locks_room = omega (arith, fewer, locks, was.locks_room, c.push_reserved.ensures.capacity);
      passes_room = omega (arith, fewer, passes, was.passes_room, c.push_reserved-in-Ok.ensures.capacity);
      states_room = omega (arith, fewer, locks, was.states_room, c.pop.ensures.capacity);
      capacity = c.pop.ensures.capacity ∙ was.capacity;
    }

pub close_each-requires-clause-whole : goal.close_each-requires-clause-whole
close_each-requires-clause-whole g c = locking_whole c.args.numbers c.args.states.items c.loop-state.states.items (map padded_value c.loop-state.locks.items) c.loop-state.passes.items
    c.loop-state.invariant.locking

pub returns-in-Err-clause-back : goal.returns-in-Err-clause-back
returns-in-Err-clause-back g c = locking_back g.S.Held c.args.numbers c.args.states.items c.loop-state.states.items
    (map padded_value c.loop-state.locks.items) c.loop-state.passes.items c.close_each.result.items c.loop-state.invariant.locking
    c.pop.new.self.items c.in-Some.state c.in-Err.state c.in-Some.ensures.items c.in-Err.ensures.back
    c.push_reserved-in-Err.new.self.items c.push_reserved-in-Err.ensures.items c.close_each.ensures

pub returns-clause-locks : goal.returns-clause-locks
returns-clause-locks g c = locking_last c.args.numbers c.args.states.items c.loop-state.states.items (map padded_value c.loop-state.locks.items) c.loop-state.passes.items
    c.loop-state.invariant.locking (nil_from_length c.loop-state.states.items (search rules))
