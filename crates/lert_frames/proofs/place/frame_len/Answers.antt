use Rattle.std.proofs.Common.{◌+◌, ◌*◌, ◌/◌, arith, ap₂}
use Rattle.lert_frames.proofs.place.frame_len.Goals as goal

pub overflow_mul-result : goal.overflow_mul-result
overflow_mul-result c = omega (arith, c.block_count.ensures.few)

pub overflow_mul-result-2 : goal.overflow_mul-result-2
overflow_mul-result-2 c = omega (arith, c.most_slots-most.ensures.few)

pub overflow_add-result : goal.overflow_add-result
overflow_add-result c = omega (arith, c.most_slots-most.ensures.few, c.block_count.ensures.few)

pub overflow_mul-result-3 : goal.overflow_mul-result-3
overflow_mul-result-3 c = omega (arith, c.most_slots-most.ensures.few)

pub overflow_add-result-2 : goal.overflow_add-result-2
overflow_add-result-2 c = omega (arith, c.most_slots-most.ensures.few, c.block_count.ensures.few)

pub returns : goal.returns
returns c = ap₂ (λ blocks most. 20 * blocks + 8 * most + 8 * (most / 64)) c.block_count.ensures.value c.most_slots-most.ensures.value
