-- Where a decoder stands in a frame's place, through its steps.
use Rattle.std.proofs.Common.{◌≡◌, ℕ, ◌+◌, ◌-◌, ◌*◌, ◌<◌, ◌≤◌, min, ap, sym, ◌∙◌, subst, arith}
use Rattle.lert_blocks.specs.Text.{word_count}
use Rattle.lert_frames.{specs.declared.decoder.Ahead.Ahead, specs.declared.decoder.Decoder.Decoder, specs.declared.decoder.Present.Present, specs.declared.fields.Head.Head}
use Rattle.lert_frames.{specs.Decoded.IsBetween, specs.Place.{blocks_bytes, frame_len}, specs.Reading.StandsIn, specs.Steps.fields_len, specs.Window.place_of}
use Rattle.lert_spec.specs.declared.numbers.Numbers.{Numbers}

-- ---- numbers

behind : (place at next count : ℕ) → next ≡ at + count → place ≤ at → place ≤ next
behind place at next count is low = omega (arith, is, low)

-- a block that is begun takes no more than was left for it
begun_fits : (at next end some count blocks most : ℕ) → 1 ≤ blocks → count ≤ most → next ≡ at + (12 + 8 * word_count count) →
    at + (8 * some + blocks_bytes blocks most) ≤ end → next + (8 * count + blocks_bytes (blocks - 1) (most - count)) ≤ end
begun_fits at next end some count blocks most more few is fits = omega (arith, more, few, is, fits)

begun_ends : (at ends next count : ℕ) → ends ≡ at + 12 → next ≡ at + (12 + 8 * word_count count) → ends + 8 * word_count count ≤ next
begun_ends at ends next count ends_is is = omega (arith, ends_is, is)

-- a word is passed
word_fits : (at next end some passed rest : ℕ) → passed ≤ some → next ≡ at + 8 * passed → at + (8 * some + rest) ≤ end → next + (8 * (some - passed) + rest) ≤ end
word_fits at next end some passed rest few is fits = omega (arith, few, is, fits)

word_ends : (ends ends' at next some passed : ℕ) → passed ≡ min some 64 → 0 < some - passed → ends' ≡ ends + 8 → next ≡ at + 8 * passed →
    ends + 8 * word_count some ≤ at → ends' + 8 * word_count (some - passed) ≤ next
word_ends ends ends' at next some passed passed_is more ends_is is fits = omega (arith, passed_is, more, ends_is, is, fits)

-- ---- steps

module _ (place end : ℕ) (old new : Decoder) (is : IsBetween place end old) where
  -- nothing was passed
  pub between_still : new.block ≡ old.block → new.ahead ≡ old.ahead → place_of new.window ≡ place_of old.window → (0 < old.block.some → place_of new.ends ≡ place_of old.ends) →
      IsBetween place end new
  between_still block ahead window ends = record {
    from = subst (λ n. place ≤ n) (sym window) is.from;
    within = subst (λ n. n ≤ end) (λ i. sym window i + (8 * (sym block i).some + blocks_bytes (sym ahead i).blocks (sym ahead i).most)) is.within;
    ends = λ more.
        let some : new.block.some ≡ old.block.some = ap (λ (b : Present). b.some) block in
        let was : 0 < old.block.some = subst (λ n. 0 < n) some more in
        let there = is.ends was in (
          subst (λ n. place ≤ n) (sym (ends was)) there.0,
          subst (λ n. n ≤ place_of new.window) (λ i. sym (ends was) i + 8 * word_count (sym some i)) (subst (λ n. place_of old.ends + 8 * word_count old.block.some ≤ n) (sym window) there.1),
        );
  }

  -- a block is begun, which has so many slots
  pub between_begun : (head : Head) (block : Present) (ahead : Ahead) → new.block ≡ block → new.ahead ≡ ahead → block.some ≡ head.count → ahead.blocks ≡ old.ahead.blocks - 1 →
      ahead.most ≡ old.ahead.most - head.count → 1 ≤ old.ahead.blocks → head.count ≤ old.ahead.most → place_of new.window ≡ place_of old.window + fields_len head →
      place_of new.ends ≡ place_of old.window + 12 → IsBetween place end new
  between_begun head block ahead block_is ahead_is some_is blocks_is most_is more few window ends =
      let some : new.block.some ≡ head.count = ap (λ (b : Present). b.some) block_is ∙ some_is in
      let blocks : new.ahead.blocks ≡ old.ahead.blocks - 1 = ap (λ (a : Ahead). a.blocks) ahead_is ∙ blocks_is in
      let most : new.ahead.most ≡ old.ahead.most - head.count = ap (λ (a : Ahead). a.most) ahead_is ∙ most_is in
      record {
        from = behind place (place_of old.window) (place_of new.window) (fields_len head) window is.from;
        within = subst (λ n. n ≤ end) (λ i. place_of new.window + (8 * sym some i + blocks_bytes (sym blocks i) (sym most i)))
            (begun_fits (place_of old.window) (place_of new.window) end old.block.some head.count old.ahead.blocks old.ahead.most more few window is.within);
        ends = λ _. (
          behind place (place_of old.window) (place_of new.ends) 12 ends is.from,
          subst (λ n. place_of new.ends + 8 * word_count n ≤ place_of new.window) (sym some)
              (begun_ends (place_of old.window) (place_of new.ends) (place_of new.window) head.count ends window),
        );
      }

  -- a word of the present block is passed
  pub between_passed : (passed : ℕ) → passed ≡ min old.block.some 64 → new.block.some ≡ old.block.some - passed → new.ahead ≡ old.ahead →
      place_of new.window ≡ place_of old.window + 8 * passed → place_of new.ends ≡ place_of old.ends + 8 → 0 < old.block.some → IsBetween place end new
  between_passed passed passed_is some ahead window ends more = record {
    from = behind place (place_of old.window) (place_of new.window) (8 * passed) window is.from;
    within = subst (λ n. n ≤ end) (λ i. place_of new.window + (8 * sym some i + blocks_bytes (sym ahead i).blocks (sym ahead i).most))
        (word_fits (place_of old.window) (place_of new.window) end old.block.some passed (blocks_bytes old.ahead.blocks old.ahead.most) (omega (arith, passed_is)) window is.within);
    ends = λ left.
        let there = is.ends more in (
          behind place (place_of old.ends) (place_of new.ends) 8 ends there.0,
          subst (λ n. place_of new.ends + 8 * word_count n ≤ place_of new.window) (sym some)
              (word_ends (place_of old.ends) (place_of new.ends) (place_of old.window) (place_of new.window) old.block.some passed passed_is
              (subst (λ n. 0 < n) some left) ends window there.1),
        );
  }

-- ---- in a frame's place

module _ (s : Numbers) (version level place : ℕ) where
  pub stands_as : (d : Decoder) → IsBetween place (place + frame_len s version level) d → StandsIn s version level place d
  unfolding StandsIn
  stands_as d is = is

  pub between_of : (d : Decoder) → StandsIn s version level place d → IsBetween place (place + frame_len s version level) d
  unfolding StandsIn
  between_of d is = is

  pub stands_on : (old new : Decoder) → ((from end : ℕ) → IsBetween from end old → IsBetween from end new) → StandsIn s version level place old → StandsIn s version level place new
  stands_on old new on is = stands_as new (on place (place + frame_len s version level) (between_of old is))
