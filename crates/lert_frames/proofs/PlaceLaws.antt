-- Places of frames don't overlap, and end early.
use Rattle.std.proofs.Common.{◌≡◌, ◌≢◌, ℕ, zero, suc, ◌+◌, ◌-◌, ◌*◌, ◌/◌, ◌%◌, ◌^◌, ◌<◌, ◌≤◌, ◌==◌, ◌⊎◌, cond, true, false, inl, inr, ap, sym, ◌∙◌, subst, arith}
use Rattle.std.{proofs.Math.Nat.{mod-eq_of_lt, mul-le-mul_left, mul-le-mul_right, one-le-pow, pow-le-pow_right}, proofs.lemmas.Bool.{cases_lt, cases_order}}
use Rattle.std.{proofs.lemmas.Nat.{leading_top, mul-le, pow-add, pow_pos}, proofs.lemmas.Nat.Bits.ones_shr}
use Rattle.lert_spec.{specs.declared.numbers.Numbers.Numbers, specs.Edges.{span, spans, quotient_bits, width, tail_bits}, specs.Limits.IsValid}
use Rattle.lert_spec.proofs.LimitLaws.{span_grows, quotient_bits_by_zeros}
use Rattle.lert_frames.specs.Place.{block_count, frame_len, frame_lens, frame_place, most_slots, slots_each, tail_limit}

-- one level more
pub frame_lens-more : (s : Numbers) (version level : ℕ) → 1 ≤ level → frame_lens s version (level - 1) + frame_len s version level ≡ frame_lens s version level
frame_lens-more s version zero from = absurd (omega (arith, from))
frame_lens-more s version (suc level) from = let same : suc level - 1 ≡ level = omega arith in ap (λ n. frame_lens s version n + frame_len s version (suc level)) same

-- more levels have more bytes
pub frame_lens_grow : (s : Numbers) (version low high : ℕ) → low ≤ high → frame_lens s version low ≤ frame_lens s version high
frame_lens_grow s version low zero below = let none : low ≡ 0 = omega (arith, below) in subst (λ n. frame_lens s version n ≤ 0) (sym none) (omega arith)
frame_lens_grow s version low (suc high) below = elim (cases_order low (suc high)) [
  | inl same ↦ subst (λ n. frame_lens s version n ≤ frame_lens s version (suc high)) (sym same) (omega arith)
  | inr (inl less) ↦ omega (arith, frame_lens_grow s version low high (omega (arith, less)))
  | inr (inr more) ↦ absurd (omega (arith, more, below))
]

-- one span is no more than all up to it
span_of_spans : (s : Numbers) (level : ℕ) → span s level ≤ spans s level
span_of_spans s zero = omega arith
span_of_spans s (suc level) = omega arith

-- a frame has no more than four slots for each item of a bin
pub slots_each_few : (version : ℕ) → slots_each version ≤ 4
slots_each_few version = elim (version == 1) as (λ b. cond b 2 4 ≤ 4) [
  | true ↦ omega arith
  | false ↦ omega arith
]

module _ (s : Numbers) (valid : IsValid s) where
  spans_from : (level : ℕ) → 4 ≤ span s level
  spans_from level = mul-le 4 1 s.base (s.ratio ^ level) valid.limits.base_from (one-le-pow level s.ratio (omega (arith, valid.limits.ratio_from)))

  -- all spans together
  all_spans : spans s s.levels ≤ 2 ^ 31
  all_spans =
      let more = mul-le-mul_right (spans s s.levels) (let two : 1 ≤ s.bins - 1 = omega (arith, valid.limits.bins_from) in two) in
      omega (arith, more, valid.positions_fit)

  -- the last level's is less than half of them
  span_less : (level : ℕ) → 1 ≤ level → span s level < spans s level
  span_less zero first = absurd (omega (arith, first))
  span_less (suc level) first = omega (arith, spans_from level, span_of_spans s level)

  pub span_fits : (level : ℕ) → level ≤ s.levels → 4 * span s level < 2 ^ 32
  span_fits level within =
      let more = mul-le-mul_right (spans s s.levels) (let two : 1 ≤ s.bins - 1 = omega (arith, valid.limits.bins_from) in two) in
      let last = span_less s.levels valid.limits.levels_from in
      omega (arith, span_grows s level s.levels (omega (arith, valid.limits.ratio_from)) within, valid.positions_fit, more, last)

  -- a level has as many quotients as a span has events, fewer than twice as many, or 64
  pub quotients_few : (level : ℕ) → level ≤ s.levels → 2 ^ quotient_bits s level ≤ 64 + 2 * span s level
  quotients_few level within =
      let by = quotient_bits_by_zeros s level valid within in
      let wide = span_fits level within in
      let some = spans_from level in
      let top = leading_top 64 (span s level - 1) (omega arith) (omega arith) in
      elim (cases_lt 6 (suc top.0)) [
        | inl above ↦ let is : quotient_bits s level ≡ suc top.0 = omega (arith, by.0, top.1) in
            let power = ap (λ n. 2 ^ n) is in omega (arith, power, top.2)
        | inr below ↦ let is : quotient_bits s level ≡ 6 = omega (arith, by.0, top.1) in
            let power = ap (λ n. 2 ^ n) is in omega (arith, power)
      ]

  -- all slots of a frame, and so of a block, are counted by 32 bits
  pub slots_fit : (version level : ℕ) → level ≤ s.levels → most_slots s version level < 2 ^ 32
  slots_fit version level within = omega (arith, span_fits level within, mul-le-mul_right (span s level) (slots_each_few version))

  -- the blocks of a level have its quotients, and these and the remainders are the tails
  pub blocks_are : (level : ℕ) → level ≤ s.levels → 64 * block_count s level ≡ 2 ^ quotient_bits s level
  blocks_are level within =
      let q = quotient_bits s level in
      let from : 6 ≤ q = omega (arith, (quotient_bits_by_zeros s level valid within).0) in
      let split : 2 ^ q ≡ 2 ^ 6 * 2 ^ (q - 6) = (let sum : q ≡ 6 + (q - 6) = omega (arith, from) in ap (λ n. 2 ^ n) sum) ∙ pow-add 2 6 (q - 6) in
      omega (arith, split)

  pub tails_are : (level : ℕ) → level ≤ s.levels → 64 * block_count s level * 2 ^ width s level ≡ tail_limit s
  tails_are level within =
      let q = quotient_bits s level in
      let most : q ≤ 32 = omega (arith, (quotient_bits_by_zeros s level valid within)) in
      let sum : q + width s level ≡ tail_bits s = omega (arith, most, valid.limits.cone_bits_to) in
      ap (λ n. n * 2 ^ width s level) (blocks_are level within) ∙ (sym (pow-add 2 q (width s level)) ∙ ap (λ n. 2 ^ n) sum)

  -- each level has at most thirty-four bytes an item, and twenty more
  frame_len_within : (version level : ℕ) → level ≤ s.levels → frame_len s version level ≤ 20 + 34 * span s level
  frame_len_within version level within =
      omega (arith, quotients_few level within, mul-le-mul_right (span s level) (slots_each_few version))

  lens_by_spans : (version level : ℕ) → level ≤ s.levels → frame_lens s version level ≤ 20 * level + 34 * spans s level
  lens_by_spans version zero within = omega arith
  lens_by_spans version (suc level) within =
      let h = lens_by_spans version level (omega (arith, within)) in let one = frame_len_within version (suc level) within in omega (arith, h, one)

  all_lens : (version : ℕ) → frame_lens s version s.levels ≤ 2 ^ 37
  all_lens version = omega (arith, lens_by_spans version s.levels (omega arith), all_spans, valid.limits.levels_to)

  pub all_places : (version : ℕ) → (s.bins + 1) * frame_lens s version s.levels < 2 ^ 42
  all_places version =
      let more = mul-le-mul_right (frame_lens s version s.levels) (let few : s.bins + 1 ≤ 17 = omega (arith, valid.limits.bins_to) in few) in
      omega (arith, more, all_lens version)

  -- the bytes of some levels
  pub places_within : (version level : ℕ) → level ≤ s.levels → (s.bins + 1) * frame_lens s version level < 2 ^ 42
  places_within version level within = omega (arith, mul-le-mul_left (s.bins + 1) (frame_lens_grow s version level s.levels within), all_places version)

  pub lens_within : (version level : ℕ) → level ≤ s.levels → frame_lens s version level ≤ 2 ^ 37
  lens_within version level within = omega (arith, frame_lens_grow s version level s.levels within, all_lens version)

-- a place ends with those of its level
pub place_ends : (s : Numbers) (version level frame : ℕ) → 1 ≤ level → frame ≤ s.bins → frame_place s version level frame + frame_len s version level ≤ (s.bins + 1) * frame_lens s version level
place_ends s version level frame from within =
    let more = mul-le-mul_right (frame_len s version level) (let few : frame + 1 ≤ s.bins + 1 = omega (arith, within) in few) in
    let sum = ap (λ n. (s.bins + 1) * n) (frame_lens-more s version level from) in
    omega (arith, more, sum)

-- the places of a younger level stand before those of an older one
younger_before : (s : Numbers) (version level frame older other : ℕ) → 1 ≤ level → frame ≤ s.bins → level < older →
    frame_place s version level frame + frame_len s version level ≤ frame_place s version older other
younger_before s version level frame older other from within below =
    let more = mul-le-mul_left (s.bins + 1) (frame_lens_grow s version level (older - 1) (omega (arith, below))) in
    omega (arith, place_ends s version level frame from within, more)

-- and a lower frame of a level before a higher one
lower_before : (s : Numbers) (version level frame other : ℕ) → frame < other → frame_place s version level frame + frame_len s version level ≤ frame_place s version level other
lower_before s version level frame other below =
    let more = mul-le-mul_right (frame_len s version level) (let up : frame + 1 ≤ other = omega (arith, below) in up) in
    omega (arith, more)

pub places_apart : (s : Numbers) (version level frame other_level other : ℕ) → 1 ≤ level → frame ≤ s.bins → 1 ≤ other_level → other ≤ s.bins →
    (other_level ≢ level) ⊎ (other ≢ frame) →
    (frame_place s version other_level other + frame_len s version other_level ≤ frame_place s version level frame)
    ⊎ (frame_place s version level frame + frame_len s version level ≤ frame_place s version other_level other)
places_apart s version level frame other_level other from within other_from other_within differ = elim (cases_order other_level level) [
  | inl same ↦ elim (cases_order other frame) [
    | inl twice ↦ absurd (neither same twice differ)
    | inr (inl lower) ↦ inl (subst (λ (n : ℕ). frame_place s version n other + frame_len s version n ≤ frame_place s version level frame) (sym same) (lower_before s version level other frame lower))
    | inr (inr higher) ↦ inr (subst (λ (n : ℕ). frame_place s version level frame + frame_len s version level ≤ frame_place s version n other) (sym same)
        (lower_before s version level frame other higher))
  ]
  | inr (inl younger) ↦ inl (younger_before s version other_level other level frame other_from other_within younger)
  | inr (inr older) ↦ inr (younger_before s version level frame other_level other from within older)
]
  where
    neither : other_level ≡ level → other ≡ frame → (other_level ≢ level) ⊎ (other ≢ frame) → ⊥
    neither same twice (inl apart) = apart same
    neither same twice (inr apart) = apart twice

-- a level's quotients counted by a shift, which loses none, and so its blocks
module _ (bits : ℕ) (least : 6 ≤ bits) (most : bits ≤ 30) where
  quotients_from : 2 ^ 6 ≤ 2 ^ bits
  quotients_from = pow-le-pow_right (omega arith) least

  quotients_to : 2 ^ bits ≤ 2 ^ 30
  quotients_to = pow-le-pow_right (omega arith) most

  pub shift_is : 1 * 2 ^ bits % 2 ^ 64 ≡ 2 ^ bits
  shift_is = let short : 1 * 2 ^ bits < 2 ^ 64 = omega (arith, quotients_to) in mod-eq_of_lt short ∙ omega arith

  pub some_blocks : 1 ≤ 1 * 2 ^ bits % 2 ^ 64 / 64
  some_blocks = omega (arith, shift_is, quotients_from)

  pub few_blocks : 1 * 2 ^ bits % 2 ^ 64 / 64 ≤ 2 ^ 26
  few_blocks = omega (arith, shift_is, quotients_to)

-- the greatest tail and one more
pub limit_is : (bits : ℕ) → bits ≤ 8 → 18446744073709551615 / 2 ^ bits + 1 ≡ 2 ^ (64 - bits)
limit_is bits few = let is = ones_shr 64 bits (omega (arith, few)) in omega (arith, is, pow_pos (64 - bits))
