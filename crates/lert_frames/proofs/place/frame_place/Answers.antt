use Rattle.std.proofs.Common.{◌≡◌, ◌+◌, ◌*◌, ◌-◌, ◌≤◌, ◌<◌, ◌^◌, ℕ, arith, subst, ap, ap₂, sym, ◌∙◌, ◌⊎◌}
use Rattle.lert_spec.specs.Limits.{IsValid}
use Rattle.lert_frames.{specs.Place.{frame_len, frame_lens, frame_place}, proofs.PlaceLaws.{lens_within, place_ends, places_within, places_apart, frame_lens-more}}
use Rattle.lert_frames.proofs.place.frame_place.Goals as goal

-- the place as it is summed up
module _ (c : goal.After-frame_len) where
  valid : IsValid c.args.settings.now
  valid = subst IsValid c.numbers-places.ensures.value c.numbers-places.ensures.valid

  same_level : c.loop-lower.lower ≡ c.args.level
  same_level = omega arith

  before_is : c.loop-lower.before ≡ frame_lens c.args.settings.now c.args.version (c.args.level - 1)
  before_is = c.loop-lower.invariant ∙ ap (λ n. frame_lens c.args.settings.now c.args.version (n - 1)) same_level

  first_is : (c.numbers-places.result.bins + 1) * c.loop-lower.before ≡ (c.args.settings.now.bins + 1) * frame_lens c.args.settings.now c.args.version (c.args.level - 1)
  first_is = ap₂ (λ bins before. (bins + 1) * before) (ap (λ s. s.bins) c.numbers-places.ensures.value) before_is

  second_is : c.from.result * c.frame_len.result ≡ c.args.frame * frame_len c.args.settings.now c.args.version c.args.level
  second_is = ap₂ (λ frame len. frame * len) c.from.ensures c.frame_len.ensures

  place_is : (c.numbers-places.result.bins + 1) * c.loop-lower.before + c.from.result * c.frame_len.result ≡ frame_place c.args.settings.now c.args.version c.args.level c.args.frame
  place_is = ap₂ (λ a b. a + b) first_is second_is

  ends : frame_place c.args.settings.now c.args.version c.args.level c.args.frame + frame_len c.args.settings.now c.args.version c.args.level < 2 ^ 42
  ends = omega (
    arith,
    place_ends c.args.settings.now c.args.version c.args.level c.args.frame c.requires.first c.requires.frame,
    places_within c.args.settings.now valid c.args.version c.args.level c.requires.last,
  )

pub overflow_add-before : goal.overflow_add-before
overflow_add-before c =
    let s = c.args.settings.now in
    let valid : IsValid s = subst IsValid c.numbers-places.ensures.value c.numbers-places.ensures.valid in
    let more = frame_lens-more s c.args.version c.loop-lower.lower (omega arith) in
    omega (arith, more, c.loop-lower.invariant, c.frame_len-before.ensures, lens_within s valid c.args.version c.loop-lower.lower (omega (arith, c.requires.last)))

pub loop-lower-preserved : goal.loop-lower-preserved
loop-lower-preserved c =
    let s = c.args.settings.now in
    let same : c.loop-lower.lower ≡ c.loop-lower.lower + 1 - 1 = omega arith in
    ap₂ (λ a b. a + b) c.loop-lower.invariant c.frame_len-before.ensures ∙ (frame_lens-more s c.args.version c.loop-lower.lower (omega arith) ∙ ap (frame_lens s c.args.version) same)

pub overflow_mul-result : goal.overflow_mul-result
overflow_mul-result c =
    let s = c.args.settings.now in
    let valid : IsValid s = subst IsValid c.numbers-places.ensures.value c.numbers-places.ensures.valid in
    let same_level : c.loop-lower.lower ≡ c.args.level = omega arith in
    let before : c.loop-lower.before ≡ frame_lens s c.args.version (c.args.level - 1) = c.loop-lower.invariant ∙ ap (λ n. frame_lens s c.args.version (n - 1)) same_level in
    let first : (c.numbers-places.result.bins + 1) * c.loop-lower.before ≡ (s.bins + 1) * frame_lens s c.args.version (c.args.level - 1) = ap₂ (λ bins n. (bins + 1) * n)
    (ap (λ t. t.bins) c.numbers-places.ensures.value) before in
    omega (arith, first, places_within s valid c.args.version (c.args.level - 1) (omega (arith, c.requires.last)))

pub overflow_mul-result-2 : goal.overflow_mul-result-2
overflow_mul-result-2 c = omega (arith, ends c, second_is c)

pub overflow_add-result : goal.overflow_add-result
overflow_add-result c = omega (arith, ends c, place_is c)

pub returns : goal.returns
returns c = record {
  value = place_is c;
  end = omega (arith, ends c, place_is c);
  apart = λ other_level other from within differ.
      subst (λ (n : ℕ). (frame_place c.args.settings.now c.args.version other_level other + frame_len c.args.settings.now c.args.version other_level ≤ n) ⊎
      (n + frame_len c.args.settings.now c.args.version c.args.level ≤ frame_place c.args.settings.now c.args.version other_level other)) (sym (place_is c))
      (places_apart c.args.settings.now c.args.version c.args.level c.args.frame other_level other c.requires.first c.requires.frame from within differ);
}
