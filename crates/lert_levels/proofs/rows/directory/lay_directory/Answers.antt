use Rattle.std.proofs.{Common.{◌∙◌, length, arith, ap}, lemmas.List.take_all}
use Rattle.lert_levels.specs.rows.Rows.{directory_text}
use Rattle.lert_levels.proofs.rows.DirectoryLaws.{room_left, part_more}
use Rattle.lert_levels.proofs.rows.directory.lay_directory.Goals as goal

pub lay_row-requires : goal.lay_row-requires
lay_row-requires c = record {
  few = omega (arith, c.bins.ensures.few, ap length c.bins.ensures.bins);
  room = omega (
    arith,
    room_left c.args.rows.now c.loop-row.row-index c.row-item.result c.loop-row-test.true c.row-item.is,
    ap length c.loop-row.invariant.text,
    ap length c.bins.ensures.bins,
    c.loop-row.invariant.room,
  );
}

pub loop-row-init : goal.loop-row-init
loop-row-init c = record { text = c.clear.ensures.items; room = omega (arith, c.requires, c.clear.ensures.capacity); grows = omega (arith, c.clear.ensures.capacity) }

pub loop-row-preserved : goal.loop-row-preserved
loop-row-preserved c =
    let is = c.loop-row.invariant in
    let laid = c.lay_row.ensures in
    record {
      text = part_more c.args.rows.now c.loop-row.row-index c.row-item.result c.bins.result.now c.loop-row.directory.items c.lay_row.new.directory.items c.loop-row-test.true c.row-item.is
          c.bins.ensures.bins is.text laid.text;
      room = omega (arith, is.room, laid.capacity);
      grows = omega (arith, is.grows, laid.capacity);
    }

pub returns : goal.returns
returns c = record {
  text = c.loop-row.invariant.text ∙ ap directory_text (take_all c.loop-row.row-index c.args.rows.now c.loop-row-test.false);
  capacity = c.loop-row.invariant.grows;
}
