use Rattle.std.proofs.{Common.{◌∙◌, ap, arith, length, refl, []}, lemmas.List.{get_or-set_other, get_or_default}}
use Rattle.lert_spec.specs.declared.numbers.Numbers.{Numbers}
use Rattle.lert_levels.proofs.{rows.MoveLaws.{rows_moved, moved_on}, rows.RowLaws.all_rows}
use Rattle.lert_levels.proofs.rows.rows.move_rows.Goals as goal

pub bounds-rows-lower : goal.bounds-rows-lower
bounds-rows-lower c = omega (arith, c.loop-lower-test.true, c.loop-lower.auto.rows)

pub move_row-requires : goal.move_row-requires
move_row-requires c =
    let i = c.loop-lower.lower in
    let row = c.index-rows-lower.result in
    let same = get_or_default c.loop-lower.rows i row [] (omega (arith, c.loop-lower-test.true, c.loop-lower.auto.rows)) ∙ c.loop-lower.invariant.left i [] (omega arith) in
    let bins = ap (λ (s : Numbers). s.bins) c.numbers-valid.ensures.value in
    record {
      first = c.requires.first;
      last = c.requires.last;
      from = omega arith;
      to = omega (arith, c.loop-lower-test.true, c.requires.rows.levels);
      few = omega (arith, ap length same, ((all_rows c.args.settings.now c.args.rows.now c.requires.rows).each i c.loop-lower-test.true).few, bins, c.numbers-valid.ensures.valid.limits.bins_to);
    }

pub loop-lower-init : goal.loop-lower-init
loop-lower-init c = record { done = λ k below. absurd (omega (arith, below)); left = λ k d past. refl }

pub loop-lower-preserved : goal.loop-lower-preserved
loop-lower-preserved c =
    let i = c.loop-lower.lower in
    record {
      done = moved_on c.args.settings.now c.args.m c.args.rows.now c.loop-lower.rows i c.index-rows-lower.result c.move_row.new.row (omega arith) c.loop-lower.invariant.done
          c.loop-lower.invariant.left c.move_row.ensures;
      left = λ k d past. get_or-set_other c.loop-lower.rows i k c.move_row.new.row d (λ same. omega arith) ∙ c.loop-lower.invariant.left k d (omega arith);
    }

pub returns : goal.returns
returns c = rows_moved c.args.settings.now c.args.m c.args.rows.now c.loop-lower.rows (omega arith) (λ k below. c.loop-lower.invariant.done k (omega arith))
