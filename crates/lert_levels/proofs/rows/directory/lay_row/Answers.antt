use Rattle.std.proofs.{Common.{◌∙◌, ◌++◌, ◌∷◌, map, length, ap, arith}, lemmas.List.take_all}
use Rattle.lert_levels.specs.{declared.rows.bin_at.BinAt.BinAt, rows.Rows.no_bin}
use Rattle.lert_levels.proofs.rows.DirectoryLaws.{frame_more, frame_room}
use Rattle.lert_levels.proofs.rows.directory.lay_row.Goals as goal

pub loop-bin-init : goal.loop-bin-init
loop-bin-init c = record {
  text = c.put.ensures.items;
  room = omega (arith, c.requires.room, c.put.ensures.capacity);
  grows = c.put.ensures.capacity;
}

pub loop-bin-preserved : goal.loop-bin-preserved
loop-bin-preserved c =
    let is = c.loop-bin.invariant in
    let put = c.put-in-loop-bin in
    record {
      text = frame_more c.args.directory.now.items c.loop-bin.directory.items put.new.directory.items c.args.row.now c.loop-bin.bin-index no_bin c.loop-bin-test.true is.text
          put.ensures.items;
      room = omega (arith, is.room, put.ensures.capacity);
      grows = omega (arith, is.grows, put.ensures.capacity);
    }

pub put-requires-in-loop-bin : goal.put-requires-in-loop-bin
put-requires-in-loop-bin c =
    let is = c.loop-bin.invariant in
    frame_room c.args.directory.now.items c.loop-bin.directory.items c.args.row.now c.loop-bin.bin-index _ c.loop-bin-test.true is.text is.room

pub returns-clause-text : goal.returns-clause-text
returns-clause-text c =
    c.loop-bin.invariant.text
    ∙ ap (λ bins. c.args.directory.now.items ++ (length c.args.row.now ∷ map (λ (bin : BinAt). bin.frame) bins)) (take_all c.loop-bin.bin-index c.args.row.now c.loop-bin-test.false)

pub put-requires : goal.put-requires
put-requires c = omega (arith, c.requires.room)

pub bounds-row-bin-index : goal.bounds-row-bin-index
bounds-row-bin-index c = c.loop-bin-test.true
