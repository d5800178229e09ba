use Rattle.std.proofs.Common.{◌+◌, ◌^◌, ◌<◌, ap, sym, ◌∙◌, subst, arith}
use Rattle.lert_cqf.specs.Contents.{Contents}
use Rattle.lert_census.proofs.Adding.{one_added, adds_are, all_added}
use Rattle.lert_census.proofs.region.add_all.Goals as goal

pub add-requires-clause-has_room : goal.add-requires-clause-has_room
add-requires-clause-has_room c =
    omega (
      arith,
      adds_are c.args.settings.now c.args.table.now c.loop-number.table c.args.keys.now c.args.weights.now c.loop-number.number c.requires.same
          (omega (arith, c.loop-number-test.true)) c.loop-number.invariant,
      ap (λ (t : Contents). t.room) c.loop-number.invariant,
      c.requires.room,
      c.loop-number-test.true,
    )

pub add-requires-clause-below : goal.add-requires-clause-below
add-requires-clause-below c =
    subst (λ bits. c.tail_of.result < 2 ^ bits) (sym (ap (λ (t : Contents). t.quotient_bits + t.width) c.loop-number.invariant ∙ c.requires.tails)) c.tail_of.ensures.below

pub add-requires-clause-some : goal.add-requires-clause-some
add-requires-clause-some c =
    omega (arith, c.requires.some c.loop-number.number 0 (omega (arith, c.requires.same, c.loop-number-test.true)), c.from.ensures)

pub loop-number-preserved : goal.loop-number-preserved
loop-number-preserved c =
    one_added c.args.settings.now c.args.table.now c.loop-number.table c.add.new.self c.args.keys.now c.args.weights.now c.loop-number.number c.tail_of.result c.from.result
    c.requires.same c.loop-number-test.true c.loop-number.invariant c.tail_of.ensures.value c.from.ensures
    (λ i. record {
      pieces = c.add.ensures.pieces i;
      adds = c.add.ensures.adds i;
      room = c.add.ensures.room i;
      quotient_bits = c.add.ensures.quotient_bits i;
      width = c.add.ensures.width i;
    })

pub returns : goal.returns
returns c =
    all_added c.args.settings.now c.args.table.now c.loop-number.table c.args.keys.now c.args.weights.now c.loop-number.number c.requires.same
    (omega (arith, c.loop-number-test.false, c.loop-number.auto.number-end)) c.loop-number.invariant
