use Rattle.std.proofs.{Common.{◌≡◌, ◌∙◌, ◌<◌, length, get_or, [], subst, ap, sym, arith}, lemmas.List.{length-map, same_lists}}
use Rattle.lert_levels.specs.{declared.rows.bin_at.BinAt.BinAt, rows.Named.AreNamed}
use Rattle.lert_levels.proofs.rows.NamedLaws.{part_within, frames_there, next_place, named_count, named_few, row_restored, restored_more}
use Rattle.lert_levels.proofs.rows.named.restore_rows.Goals as goal

pub frames_at-frames-requires : goal.frames_at-frames-requires
frames_at-frames-requires c =
    let named = c.requires.directory.named in
    let part = part_within c.args.directory.now c.requires.directory.rows named.text_is c.loop-lower.lower c.loop-lower.at
    (omega (arith, c.loop-lower-test.true, c.loop-lower.auto.rows, c.requires.levels, named.at.levels)) (c.loop-lower.invariant.place c.requires.directory.rows named) in
    record { place = omega (arith, part); within = part }

pub restore_row-requires : goal.restore_row-requires
restore_row-requires c =
    let s = c.args.settings.now in
    let named = c.requires.directory.named in
    let rows = c.requires.directory.rows in
    let i = c.loop-lower.lower in
    let within : i < s.levels = omega (arith, c.loop-lower-test.true, c.loop-lower.auto.rows, c.requires.levels) in
    let long : length c.frames_at-frames.result.now ≡ length (get_or rows i []) = ap length (c.frames_at-frames.ensures.frames
    ∙ frames_there c.args.directory.now rows named.text_is i c.loop-lower.at (omega (arith, within, named.at.levels)) (c.loop-lower.invariant.place rows named))
    ∙ length-map (get_or rows i []) (λ (bin : BinAt). bin.frame) in
    record {
      within = c.requires.within;
      from = omega arith;
      to = omega (arith, within);
      count = long ∙ named_count s c.args.n0 c.args.directory.now rows named i within;
      few = omega (arith, long, named_few s c.args.n0 c.args.directory.now rows named i within);
    }

pub loop-lower-preserved : goal.loop-lower-preserved
loop-lower-preserved c =
    let i = c.loop-lower.lower in
    let text = c.args.directory.now in
    let within : i < c.args.settings.now.levels = omega (arith, c.loop-lower-test.true, c.loop-lower.auto.rows, c.requires.levels) in
    record {
      place = λ named is.
          (let at_is = c.loop-lower.invariant.place named is in
          let below : i < length named = omega (arith, within, is.at.levels) in
          let long = ap length (c.frames_at-frames.ensures.frames ∙ frames_there text named is.text_is i c.loop-lower.at below at_is) in
          let row_long = length-map (get_or named i []) (λ (bin : BinAt). bin.frame) in
          omega (arith, next_place text named is.text_is i c.loop-lower.at below at_is, long, row_long));
      done = λ named is.
          restored_more named c.loop-lower.rows i c.restore_row.new.row (omega (arith, c.loop-lower-test.true, c.loop-lower.auto.rows)) (omega (arith, within, is.at.levels))
          (c.loop-lower.invariant.done named is)
          (row_restored c.args.settings.now c.args.n0 text named is i within c.loop-lower.at (c.loop-lower.invariant.place named is) c.restore_row.new.row c.frames_at-frames.result.now
          c.restore_row.ensures.ranges c.restore_row.ensures.frames c.frames_at-frames.ensures.frames);
    }

pub returns : goal.returns
returns c =
    let named = c.requires.directory.named in
    let rows = c.requires.directory.rows in
    let all = same_lists c.loop-lower.rows rows (omega (arith, c.loop-lower.auto.rows, c.requires.levels, named.at.levels))
    (λ k d below. c.loop-lower.invariant.done rows named k d (omega (arith, below, c.loop-lower-test.false))) in
    subst (AreNamed c.args.settings.now c.args.n0 c.args.directory.now) (sym all) named
