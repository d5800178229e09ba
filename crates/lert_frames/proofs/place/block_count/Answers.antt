use Rattle.std.proofs.Common.{ap, ◌∙◌, ◌/◌, ◌^◌}
use Rattle.lert_frames.proofs.PlaceLaws.{shift_is, some_blocks, few_blocks}
use Rattle.lert_frames.proofs.place.block_count.Goals as goal

pub returns : goal.returns
returns c =
    let bits = c.quotient_bits.ensures in
    record {
      value = ap (λ n. n / 64) (shift_is c.quotient_bits.result bits.least bits.most) ∙ ap (λ n. 2 ^ n / 64) bits.value;
      some = some_blocks c.quotient_bits.result c.quotient_bits.ensures.least c.quotient_bits.ensures.most;
      few = few_blocks c.quotient_bits.result c.quotient_bits.ensures.least c.quotient_bits.ensures.most;
    }
