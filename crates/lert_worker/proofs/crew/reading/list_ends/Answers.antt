use Rattle.std.proofs.Common.{◌∙◌, arith}
use Rattle.lert_worker.proofs.crew.Lists.{all_ends, ends_more, ends_room}
use Rattle.lert_worker.proofs.crew.reading.list_ends.Goals as goal

pub loop-by-init : goal.loop-by-init
loop-by-init g c = record { ends_are = c.requires.empty; room = c.requires.room }

pub loop-by-preserved : goal.loop-by-preserved
loop-by-preserved g c = record {
  ends_are = c.push_reserved.ensures.items ∙ ends_more c.args.crew.now c.loop-by.by c.index-crew-by.result c.end.result c.loop-by.ends.items c.loop-by-test.true c.index-crew-by.is
      c.end.ensures c.loop-by.invariant.ends_are;
  room = let r = c.loop-by.invariant.room in let k = c.push_reserved.ensures.capacity in omega (arith, r, k);
}

pub push_reserved-requires : goal.push_reserved-requires
push_reserved-requires g c =
    let n = ends_room c.args.crew.now c.loop-by.by c.loop-by.ends.items c.loop-by-test.true c.loop-by.invariant.ends_are in
    let room = c.loop-by.invariant.room in
    let held = c.loop-by.ends.ok.0 in
    let t = c.loop-by-test.true in
    omega (arith, n, room, held, t)

pub returns : goal.returns
returns g c = c.loop-by.invariant.ends_are
    ∙ all_ends c.args.crew.now c.loop-by.by (let a = c.loop-by-test.false in let b = c.loop-by.auto.by-end in omega (arith, a, b))
