use Rattle.std.proofs.Common.{◌≡◌, ◌+◌, ◌/◌, ◌%◌, ◌^◌, ◌<◌, List, arith, sym, ap, ◌∙◌, subst}
use Rattle.lert_spec.specs.{Table.{total, plus}, declared.piece.Piece.Piece}
use Rattle.lert_spec.proofs.Tables.{total-plus}
use Rattle.lert_cqf.specs.Contents.{Contents, IsKept, IsPutting, built}
use Rattle.lert_cqf.proofs.TableLemmas.{built_more, adds_few, no_more}
use Rattle.lert_cqf.proofs.table.CqfCountTable.add.Goals as goal

pub overflow_add-self : goal.overflow_add-self
overflow_add-self c = omega (arith, adds_few _ _ _ _ _ _ _ _ _ _ c.self.invariant.0)

pub overflow_add-self-2 : goal.overflow_add-self-2
overflow_add-self-2 c =
    omega (arith, c.self.invariant.1, no_more _ _ _ _ _ _ _ _ _ _ c.self.invariant.0, adds_few _ _ _ _ _ _ _ _ _ _ c.self.invariant.0, c.requires.few)

pub invariant_of-self : goal.invariant_of-self
invariant_of-self c =
    let view = sym c.self.view_is in
    let putting : IsPutting c.self.inside.adds c.self.inside.quotient_bits c.self.inside.width c.self.inside.room c.args.tail c.args.n c.parts-home.result.0 c.parts-home.result.1 = record {
      positive = c.requires.some;
      few = c.requires.few;
      fits = subst (λ (t : Contents). t.adds < t.room) view c.requires.has_room;
      below = subst (λ (t : Contents). c.args.tail < 2 ^ (t.quotient_bits + t.width)) view c.requires.below;
      word = c.ranges.tail.fits;
      home_is = c.parts-home.ensures.quotient ∙ ap (λ (t : Contents). c.args.tail / 2 ^ t.width) view;
      rest_is = c.parts-home.ensures.remainder ∙ ap (λ (t : Contents). c.args.tail % 2 ^ t.width) view;
    } in
    let more : built c.push.new.self ≡ plus (built c.self.inside.added) c.args.tail c.args.n = ap built c.push.ensures ∙ built_more c.self.inside.added c.args.tail c.args.n in (
      subst (λ (t : List Piece). IsKept t c.self.inside.quotient_bits c.self.inside.width (c.self.inside.adds + 1) c.self.inside.room c.put.new.self.slots.items c.put.new.self.occupied
          c.put.new.self.run_ends c.put.new.self.used c.put.new.self.spill)
          (sym more)
          (c.put.ensures (built c.self.inside.added) c.self.inside.quotient_bits c.self.inside.adds c.self.inside.room c.args.tail c.self.invariant.0 putting),
      ap (λ sum. sum + c.args.n) c.self.invariant.1 ∙ sym (total-plus (built c.self.inside.added) c.args.tail c.args.n) ∙ sym (ap total more),
    )
