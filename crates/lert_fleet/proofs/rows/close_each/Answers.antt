use Rattle.std.proofs.{Common.{map, sym, ◌∙◌, vec_capacity, vec_len, arith}, lemmas.List.nil_from_length}
use Rattle.crossbeam_utils.specs.Padded.{padded_value}
use Rattle.lert_fleet.proofs.{Places.{has_room, is_fewer, length_pushed, not_alone}, Closing.{closing_done, closing_first, closing_many, next_whole, next_closed}}
use Rattle.lert_fleet.proofs.rows.close_each.Goals as goal

pub loop-lock-init : goal.loop-lock-init
loop-lock-init g c = record {
  closing = closing_first g.S.Held (map padded_value c.args.locks.items) c.args.passes.items c.args.states.items c.requires.whole;
  room = c.requires.room;
}

pub close-requires-clause-belongs : goal.close-requires-clause-belongs
close-requires-clause-belongs g c =
    (next_whole g.S.Held (map padded_value c.args.locks.items) c.args.passes.items c.args.states.items c.loop-lock.locks.items
    c.pop.new.self.items c.in-Some.lock c.in-Some.ensures.items c.loop-lock.passes.items c.pop-in-Some.new.self.items
    c.in-Some-pop.pass c.in-Some-pop.ensures.items c.loop-lock.states.items c.loop-lock.invariant.closing
    c.into_inner.result c.into_inner.ensures c.requires.whole).belongs

pub close-requires-clause-whole : goal.close-requires-clause-whole
close-requires-clause-whole g c =
    let whole = next_whole g.S.Held (map padded_value c.args.locks.items) c.args.passes.items c.args.states.items c.loop-lock.locks.items
    c.pop.new.self.items c.in-Some.lock c.in-Some.ensures.items c.loop-lock.passes.items c.pop-in-Some.new.self.items
    c.in-Some-pop.pass c.in-Some-pop.ensures.items c.loop-lock.states.items c.loop-lock.invariant.closing
    c.into_inner.result c.into_inner.ensures c.requires.whole in
    (whole.lo_is, whole.hi_is)

pub loop-lock-preserved : goal.loop-lock-preserved
loop-lock-preserved g c =
    let more = length_pushed c.push_reserved.new.self.items c.loop-lock.states.items c.close.result c.push_reserved.ensures.items in
    let fewer = length_pushed c.loop-lock.locks.items c.pop.new.self.items c.in-Some.lock c.in-Some.ensures.items in
    record {
      closing = next_closed g.S.Held (map padded_value c.args.locks.items) c.args.passes.items c.args.states.items c.loop-lock.locks.items
          c.pop.new.self.items c.in-Some.lock c.in-Some.ensures.items c.loop-lock.passes.items c.pop-in-Some.new.self.items
          c.in-Some-pop.pass c.in-Some-pop.ensures.items c.loop-lock.states.items c.loop-lock.invariant.closing
          c.into_inner.result c.into_inner.ensures
          c.close.result c.close.ensures c.push_reserved.new.self.items c.push_reserved.ensures.items;
      room = omega (arith, more, fewer, c.loop-lock.invariant.room, c.push_reserved.ensures.capacity);
    }

pub unreachable-requires : goal.unreachable-requires
unreachable-requires g c =
    let many = closing_many g.S.Held (map padded_value c.args.locks.items) c.args.passes.items c.args.states.items c.loop-lock.locks.items c.loop-lock.passes.items
    c.loop-lock.states.items c.loop-lock.invariant.closing in
    not_alone c.pop.new.self.items c.in-Some.lock c.loop-lock.locks.items c.loop-lock.passes.items c.in-Some.ensures.items many
    (sym c.loop-lock.passes.ok.0 ∙ c.in_default-pop.ensures.cases.0)

pub push_reserved-requires : goal.push_reserved-requires
push_reserved-requires g c =
    has_room c.loop-lock.states.items (vec_len c.loop-lock.states) (vec_capacity c.loop-lock.states) c.loop-lock.locks.items c.pop.new.self.items c.in-Some.lock
    c.loop-lock.states.ok.0 c.in-Some.ensures.items c.loop-lock.invariant.room

pub loop-lock-smaller : goal.loop-lock-smaller
loop-lock-smaller g c = is_fewer c.loop-lock.locks.items c.pop.new.self.items c.in-Some.lock c.in-Some.ensures.items

pub destroy_empty-requires : goal.destroy_empty-requires
destroy_empty-requires g c = c.in_default.ensures.cases.1

pub destroy_empty-requires-2 : goal.destroy_empty-requires-2
destroy_empty-requires-2 g c =
    let many = closing_many g.S.Held (map padded_value c.args.locks.items) c.args.passes.items c.args.states.items c.loop-lock.locks.items c.loop-lock.passes.items
    c.loop-lock.states.items c.loop-lock.invariant.closing in
    c.loop-lock.passes.ok.0 ∙ (many ∙ (sym c.loop-lock.locks.ok.0 ∙ c.in_default.ensures.cases.0))

pub returns : goal.returns
returns g c =
    let many = closing_many g.S.Held (map padded_value c.args.locks.items) c.args.passes.items c.args.states.items c.loop-lock.locks.items c.loop-lock.passes.items
    c.loop-lock.states.items c.loop-lock.invariant.closing in
    let none = sym c.loop-lock.locks.ok.0 ∙ c.in_default.ensures.cases.0 in
    closing_done g.S.Held (map padded_value c.args.locks.items) c.args.passes.items c.args.states.items c.loop-lock.locks.items c.loop-lock.passes.items
    c.loop-lock.states.items c.reverse.new.self.items (nil_from_length c.loop-lock.locks.items none) (nil_from_length c.loop-lock.passes.items (many ∙ none))
    c.loop-lock.invariant.closing c.reverse.ensures.items
