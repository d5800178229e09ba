use Rattle.std.{proofs.Common.{◌≡◌, ◌<◌, ◌≤◌, ◌∙◌, ◌+◌, ◌*◌, ◌/◌, ◌^◌, ℕ, length, drop, ap, ap₂, sym, subst, arith, lit<}, proofs.Math.Nat.pow-le-pow_right}
use Rattle.lert_blocks.specs.Frame.{blocks_found, blocks_len}
use Rattle.lert_spec.{specs.Edges.tail_bits, specs.Limits.IsValid}
use Rattle.lert_frames.{specs.Decoded.IsBetween, specs.Place.{block_count, blocks_bytes, frame_len, most_slots, tail_limit}, proofs.PlaceLaws.tails_are, proofs.StandsLaws.stands_as}
use Rattle.lert_frames.proofs.read.begin.Goals as goal

valid : (c : goal.After-block_count) → IsValid c.args.settings.now
valid c = subst IsValid c.numbers-valid.ensures.value c.numbers-valid.ensures.valid

-- the blocks and the remainders have all tails
all_tails : (c : goal.After-block_count) → 64 * c.block_count.result * 2 ^ c.width-width.result ≡ tail_limit c.args.settings.now
all_tails c =
    ap₂ (λ blocks width. 64 * blocks * 2 ^ width) c.block_count.ensures.value c.width-width.ensures.value
    ∙ tails_are c.args.settings.now (valid c) c.args.level c.requires.last

-- the frame's place is within reach
reach_of : (place blocks most : ℕ) → place + (20 * blocks + 8 * most + 8 * (most / 64)) < 2 ^ 42 → place + 20 * blocks + 9 * most < 2 ^ 43
reach_of place blocks most fits = omega (arith, fits)

wide_enough : (width : ℕ) → 26 ≤ width → 8 ≤ width
wide_enough width least = omega (arith, least)

pub start-requires-clause-narrow : goal.start-requires-clause-narrow
start-requires-clause-narrow c = wide_enough _ c.width-width.ensures.least

pub start-requires-clause-wide : goal.start-requires-clause-wide
start-requires-clause-wide c = c.width-width.ensures.most

pub start-requires-clause-reach : goal.start-requires-clause-reach
start-requires-clause-reach c =
    let s = c.args.settings.now in
    let level = c.args.level in
    let most = c.most_slots-most.ensures.value in
    subst (λ blocks. c.frame_place-place.result + 20 * blocks + 9 * c.most_slots-most.result < 2 ^ 43) (sym c.block_count.ensures.value)
    (subst (λ n. c.frame_place-place.result + 20 * block_count s level + 9 * n < 2 ^ 43) (sym most)
    (reach_of c.frame_place-place.result (block_count s level) (most_slots s c.args.version level) c.frame_place-place.ensures.end))

pub start-requires-clause-tails : goal.start-requires-clause-tails
start-requires-clause-tails c =
    let few = pow-le-pow_right {n = 2} (lit< tt) {i = tail_bits c.args.settings.now} {j = 64} (omega arith) in omega (arith, few, all_tails c)

pub start-requires-clause-most : goal.start-requires-clause-most
start-requires-clause-most c = omega (arith, c.most_slots-most.ensures.few)

-- the bytes of the most slots fill the frame's place
pub returns : goal.returns
returns c =
    let place = c.frame_place-place.result in
    let s = c.args.settings.now in
    let fills : place + blocks_bytes c.block_count.result c.most_slots-most.result ≡ place + frame_len s c.args.version c.args.level =
    ap₂ (λ blocks most. place + blocks_bytes blocks most) c.block_count.ensures.value c.most_slots-most.ensures.value in
    record {
      valid = subst IsValid c.numbers-valid.ensures.value c.numbers-valid.ensures.valid;
      place = c.frame_place-place.ensures.value;
      floor = c.start.ensures.floor;
      read = c.start.ensures.read;
      from = c.start.ensures.place;
      end = λ file. c.start.ensures.end file ∙ ap (λ blocks. place + blocks_len blocks (drop place file)) c.block_count.ensures.value;
      found = λ file.
          c.start.ensures.found file
          ∙ (λ i. blocks_found (c.block_count.ensures.value i) (c.width-width.ensures.value i) 0 (c.most_slots-most.ensures.value i) (c.frame_place-place.ensures.value i)
          (length file) (drop (c.frame_place-place.ensures.value i) file));
      limit =
          c.start.ensures.limit
          ∙ (ap₂ (λ blocks width. 64 * blocks * 2 ^ width) c.block_count.ensures.value c.width-width.ensures.value
          ∙ tails_are c.args.settings.now (subst IsValid c.numbers-valid.ensures.value c.numbers-valid.ensures.valid) c.args.level c.requires.last);
      stands = stands_as s c.args.version c.args.level place c.start.new.self (subst (λ (end : ℕ). IsBetween place end c.start.new.self) fills c.start.ensures.between);
    }
