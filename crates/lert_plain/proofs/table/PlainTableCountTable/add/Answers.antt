use Rattle.std.proofs.{Common.{◌^◌, ◌<◌, ◌≡◌, ◌+◌, ◌∙◌, sym, ap, ap₂, arith, set, subst, IsOk, vec_capacity}, lemmas.Bool.both_ways}
use Rattle.lert_spec.specs.Table.{plus}
use Rattle.lert_spec.proofs.Tables.{count_le-total}
use Rattle.lert_plain.specs.Contents.{Contents, IsKept}
use Rattle.lert_plain.proofs.{Places.{plus-present, plus-absent}, Kept.{IsKept-plus, no_more, has_place}, table.PlainTableCountTable.add.Goals.{After-index_mut, After-insert}}
use Rattle.lert_plain.proofs.table.PlainTableCountTable.add.Goals as goal

-- what the call requires, of the fields
room_in_Ok : (c : After-index_mut) → c.self.inside.adds < c.self.inside.room
room_in_Ok c = subst (λ (t : Contents). t.adds < t.room) (sym c.self.view_is) c.requires.has_room

below_in_Ok : (c : After-index_mut) → c.args.tail < 2 ^ (c.self.inside.quotient_bits + c.self.inside.width)
below_in_Ok c = subst (λ (t : Contents). c.args.tail < 2 ^ (t.quotient_bits + t.width)) (sym c.self.view_is) c.requires.below

room_in_Err : (c : After-insert) → c.self.inside.adds < c.self.inside.room
room_in_Err c = subst (λ (t : Contents). t.adds < t.room) (sym c.self.view_is) c.requires.has_room

below_in_Err : (c : After-insert) → c.args.tail < 2 ^ (c.self.inside.quotient_bits + c.self.inside.width)
below_in_Err c = subst (λ (t : Contents). c.args.tail < 2 ^ (t.quotient_bits + t.width)) (sym c.self.view_is) c.requires.below

-- the piece whose count is raised in place
raised : (c : After-index_mut) → plus c.self.inside.pieces.items c.args.tail c.args.n ≡
    set c.self.inside.pieces.items c.in-Ok.at (record { tail = c.index_mut.result.now.tail; count = c.index_mut.result.now.count + c.args.n })
raised c =
    let pieces = c.self.inside.pieces.items in
    let here = rw c.deref.ensures.value at c.in-Ok.ensures in
    let item = c.index_mut.ensures.value in
    plus-present 0 (2 ^ (c.self.inside.quotient_bits + c.self.inside.width)) pieces c.args.tail c.args.n c.in-Ok.at c.index_mut.result.now c.self.invariant.ascending here
    ∙ ap₂ (λ tail count. set pieces c.in-Ok.at (record { tail = tail; count = count + c.args.n }))
    (sym (here.same c.index_mut.result.now) ∙ sym (ap (λ p. p.tail) item)) (sym (ap (λ p. p.count) item))

pub overflow_add-index_mut : goal.overflow_add-index_mut
overflow_add-index_mut c =
    let here = rw c.deref.ensures.value at c.in-Ok.ensures in
    let count = ap (λ p. p.count) c.index_mut.ensures.value in
    omega (
      arith,
      count,
      count_le-total c.self.inside.pieces.items c.in-Ok.at c.index_mut.result.now here.within,
      no_more _ _ _ _ _ c.self.invariant,
      c.requires.few,
      room_in_Ok c,
      c.self.invariant.small,
    )

pub invariant_of-self : goal.invariant_of-self
invariant_of-self c =
    let here = (goal.at-invariant_of-self c).After-index_mut in
    subst (λ pieces. IsKept pieces (c.self.inside.adds + 1) c.self.inside.room
    (c.self.inside.quotient_bits + c.self.inside.width) c.self.inside.pieces.cap) (raised here)
    (IsKept-plus c.self.inside.pieces.items c.args.tail c.args.n c.self.inside.adds c.self.inside.room
    (c.self.inside.quotient_bits + c.self.inside.width) c.self.inside.pieces.cap c.self.inside.pieces.cap
    c.self.invariant (below_in_Ok here) c.requires.some c.requires.few (room_in_Ok here) (omega arith))

pub returns-in-Ok-clause-pieces : goal.returns-in-Ok-clause-pieces
returns-in-Ok-clause-pieces c =
    sym (raised (goal.at-returns-in-Ok-clause-pieces c).After-index_mut)
    ∙ ap (λ (t : Contents). plus t.pieces c.args.tail c.args.n) c.self.view_is

-- there was a place, so the new piece was put in
put_in : (c : After-insert) → IsOk c.insert.result
put_in c =
    let place = has_place c.self.inside.pieces.items c.self.inside.adds c.self.inside.room
    (c.self.inside.quotient_bits + c.self.inside.width) c.self.inside.pieces.cap c.self.invariant (room_in_Err c) in
    c.insert.ensures.succeeds (omega (arith, c.self.inside.pieces.ok.0))

grown : (c : After-insert) → plus c.self.inside.pieces.items c.args.tail c.args.n ≡ c.insert.new.self.items
grown c =
    let gone = rw c.deref.ensures.value at c.in-Err.ensures in
    let put = put_in c in
    plus-absent c.self.inside.pieces.items c.args.tail c.args.n c.in-Err.at gone
    ∙ sym (rw put at c.insert.ensures.items)

pub prove-unreachable-requires : goal.prove-unreachable-requires
prove-unreachable-requires c =
    both_ways _ (sym c.is_ok-inserted.ensures.value ∙ c.if-prove.true)
    (put_in (goal.at-prove-unreachable-requires c).After-insert)

pub invariant_of-self-in-Err : goal.invariant_of-self-in-Err
invariant_of-self-in-Err c =
    let there = (goal.at-invariant_of-self-in-Err c).After-insert in
    subst (λ pieces. IsKept pieces (c.self.inside.adds + 1) c.self.inside.room
    (c.self.inside.quotient_bits + c.self.inside.width) (vec_capacity c.insert.new.self)) (grown there)
    (IsKept-plus c.self.inside.pieces.items c.args.tail c.args.n c.self.inside.adds c.self.inside.room
    (c.self.inside.quotient_bits + c.self.inside.width) c.self.inside.pieces.cap (vec_capacity c.insert.new.self)
    c.self.invariant (below_in_Err there) c.requires.some c.requires.few (room_in_Err there) c.insert.ensures.capacity)

pub returns-in-Err-clause-pieces : goal.returns-in-Err-clause-pieces
returns-in-Err-clause-pieces c =
    sym (grown (goal.at-returns-in-Err-clause-pieces c).After-insert)
    ∙ ap (λ (t : Contents). plus t.pieces c.args.tail c.args.n) c.self.view_is
