use Rattle.std.proofs.Common.{◌≡◌, ◌+◌, ◌<◌, ◌∙◌, ◌++◌, None, replicate, length, ap, sym, subst, arith, add-one, refl}
use Rattle.lert_levels.specs.Parts.{ArePartsOf, streams_to, oldest_stream, newest_stream, part_at, set_two}
use Rattle.lert_levels.proofs.{PartLaws.{IsAdded, level_added, streams_more, streams_few_more, parts_none, some_streams}, rows.ReadLaws.row_here, parts.lay_parts.Goals.After-add_streams-in-loop-lower}
use Rattle.lert_levels.proofs.parts.lay_parts.Goals as goal

-- the row's streams, once they are added
added : (c : After-add_streams-in-loop-lower) → IsAdded c.args.settings.now c.args.m c.args.young c.args.rows.now c.loop-lower.lower c.add_streams-in-loop-lower.new.parts.items
added c =
    let here = row_here c.args.rows.now c.loop-lower.lower c.index-rows-lower.result c.bins.result.now c.loop-lower-test.true c.index-rows-lower.is c.bins.ensures.bins in
    level_added c.args.settings.now c.args.m c.args.young c.args.rows.now c.requires.some c.requires.parts c.loop-lower.lower c.loop-lower-test.true _ (ap length (sym here))
    c.loop-lower.parts.items c.add_streams-in-loop-lower.new.parts.items c.loop-lower.invariant.parts c.add_streams-in-loop-lower.ensures.parts

pub add_streams-requires : goal.add_streams-requires
add_streams-requires c = omega (arith, ap length c.clear.ensures.items, c.clear.ensures.capacity, c.requires.few_young, c.requires.room)

pub loop-lower-init : goal.loop-lower-init
loop-lower-init c = record {
  parts = parts_none c.args.settings.now c.args.m c.args.young c.args.rows.now c.requires.some c.requires.parts c.add_streams.new.parts.items
      (c.add_streams.ensures.parts ∙ ap (λ ps. ps ++ replicate c.args.young None) c.clear.ensures.items);
  oldest = refl;
  few = omega (arith, c.requires.few_young);
  room = omega (arith, c.add_streams.ensures.room, c.clear.ensures.capacity);
}

pub bounds-rows-lower : goal.bounds-rows-lower
bounds-rows-lower c = c.loop-lower-test.true

pub add_streams-requires-in-loop-lower : goal.add_streams-requires-in-loop-lower
add_streams-requires-in-loop-lower c =
    let i = c.loop-lower.lower in
    let s = c.args.settings.now in
    let rows = c.args.rows.now in
    let below = c.loop-lower-test.true in
    let few = streams_few_more c.args.young rows i s.bins s.levels below (c.requires.rows.each i below).few (omega (arith, below, c.requires.rows.few)) c.loop-lower.invariant.few in
    let here = row_here rows i c.index-rows-lower.result c.bins.result.now below c.index-rows-lower.is c.bins.ensures.bins in
    omega (
      arith,
      c.loop-lower.invariant.parts.len,
      streams_more c.args.young rows i below,
      ap length here,
      few.0,
      few.1,
      c.requires.room,
      c.loop-lower.invariant.room,
    )

pub newest_of-newest-requires : goal.newest_of-newest-requires
newest_of-newest-requires c = record {
  first = c.requires.first;
  last = c.requires.last;
  from = omega (arith, c.loop-lower-test.true);
  to = omega (arith, c.loop-lower-test.true, c.requires.rows.few);
  some = omega (arith, c.len.ensures, (added (goal.at.newest_of-newest-requires c).After-add_streams-in-loop-lower).len, c.requires.some);
}

pub set_part-requires : goal.set_part-requires
set_part-requires c =
    let s = c.args.settings.now in
    let i = c.loop-lower.lower in
    let rows = c.args.rows.now in
    let parts = c.add_streams-in-loop-lower.new.parts.items in
    let is = added (goal.at.set_part-requires c).After-add_streams-in-loop-lower in
    let whole : c.len.result ≡ streams_to c.args.young rows (i + 1) = omega (arith, c.len.ensures, is.len) in
    record {
      oldest = subst (λ n. n < length parts) (sym c.loop-lower.invariant.oldest) is.oldest;
      newest = some_streams c.newest_of-newest.result (part_at s c.args.m c.args.young rows i).newest (λ stream. stream < length parts)
          (c.newest_of-newest.ensures ∙ ap (newest_stream s c.args.m (i + 1)) whole) is.newest;
    }

pub loop-lower-preserved : goal.loop-lower-preserved
loop-lower-preserved c =
    let i = c.loop-lower.lower in
    let s = c.args.settings.now in
    let rows = c.args.rows.now in
    let was = c.loop-lower.invariant in
    let is = added (goal.at.loop-lower-preserved c).After-add_streams-in-loop-lower in
    let below = c.loop-lower-test.true in
    let few = streams_few_more c.args.young rows i s.bins s.levels below (c.requires.rows.each i below).few (omega (arith, below, c.requires.rows.few)) was.few in
    let whole : c.len.result ≡ streams_to c.args.young rows (i + 1) = omega (arith, c.len.ensures, is.len) in
    let begun : c.len-begun.result ≡ streams_to c.args.young rows i = omega (arith, c.len-begun.ensures, was.parts.len) in
    let newest_is = c.newest_of-newest.ensures ∙ ap (newest_stream s c.args.m (i + 1)) whole in
    record {
      parts = is.more c.set_part.new.parts.items (c.set_part.ensures.parts ∙ (λ j. set_two c.add_streams-in-loop-lower.new.parts.items (was.oldest j) (newest_is j) i));
      oldest = begun ∙ ap (oldest_stream c.args.young rows) (sym (add-one i));
      few = few.0;
      room = omega (arith, was.room, c.add_streams-in-loop-lower.ensures.room, c.set_part.ensures.room);
    }

pub returns : goal.returns
returns c =
    let all : c.loop-lower.lower ≡ length c.args.rows.now = omega (arith, c.loop-lower-test.false, c.loop-lower.auto.lower-end) in
    record {
      parts = subst (λ n. ArePartsOf c.args.settings.now c.args.m c.args.young c.args.rows.now (streams_to c.args.young c.args.rows.now n) n c.loop-lower.parts.items) all
          c.loop-lower.invariant.parts;
      room = c.loop-lower.invariant.room;
    }
