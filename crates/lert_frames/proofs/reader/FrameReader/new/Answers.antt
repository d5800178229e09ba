use Rattle.std.proofs.Common.{arith}
use Rattle.lert_frames.{specs.Decoded.decoder_floor, proofs.ReadingLaws.{given_none, sums_begun}}
use Rattle.lert_frames.proofs.reader.FrameReader.new.Goals as goal

pub invariant_of-result : goal.invariant_of-result
invariant_of-result c = record {
  reading = record {
    valid = c.begin-place.ensures.valid;
    known = (omega arith, omega arith);
    first = c.requires.first;
    last = c.requires.last;
    decoded = given_none (decoder_floor c.begin-place.new.decoder) _ _ c.new-2.ensures c.in_ok-with_capacity.ensures.items;
    limit = c.begin-place.ensures.limit;
    below = omega (arith, c.begin-place.ensures.floor);
    sums = sums_begun 1 0 _ _ c.new-2.ensures c.in_ok-with_capacity.ensures.items;
    within = omega arith;
    room = c.in_ok-with_capacity.ensures.exact;
    stands = c.begin-place.ensures.stands;
  };
}
