-- Calls on a window, one behind another.
use Rattle.std.{proofs.Common.{◌≡◌, ℕ, ◌+◌, ◌-◌, ◌*◌, ◌^◌, ◌<◌, ◌≤◌, length, drop, refl, sym, ap, ◌∙◌, subst, arith}, proofs.Math.Nat.mul-le-mul_right}
use Rattle.lert_bay.specs.Kept.{Bays}
use Rattle.lert_blocks.specs.Text.{word_count}
use Rattle.lert_frames.{specs.declared.decoder.Ahead.Ahead, specs.declared.decoder.Decoder.Decoder, specs.declared.decoder.Present.Present, specs.declared.fields.Head.Head}
use Rattle.lert_frames.{specs.declared.window.Window.Window, specs.Standing.IsStanding, specs.Steps.{ReadsAhead, Passes, IsFitting, fields_len}, specs.Window.{count_of, place_of, room_of}}
use Rattle.lert_frames.proofs.FieldLaws.{end_of}

module _ {B : Type 0} (bays : Bays B) (before between : B) (same : bays.files between ≡ bays.files before) (old middle new : Window) (first : ReadsAhead bays before old middle) where
  pub ahead_on : ReadsAhead bays between middle new → ReadsAhead bays before old new
  ahead_on second = record {
    place = second.place ∙ first.place;
    room = second.room ∙ first.room;
    grows = omega (arith, first.grows, second.grows);
    later = omega (arith, first.later, second.later);
    come = λ seen told. second.come seen (same ∙ told) ∙ first.come seen told;
    read = λ seen told from near is. second.read seen (same ∙ told) from (omega (arith, near, first.later)) (first.read seen told from near is);
  }

  pub passes_on : (count : ℕ) → Passes bays between count middle new → Passes bays before count old new
  passes_on count second = record {
    place = second.place ∙ ap (λ n. n + count) first.place;
    room = second.room ∙ first.room;
    come = λ seen told. second.come seen (same ∙ told) ∙ ap (drop count) (first.come seen told);
    read = λ seen told from near is. second.read seen (same ∙ told) from (omega (arith, near, first.place)) (first.read seen told from (omega (arith, near, end_of old)) is);
  }

-- no call
pub ahead_none : {B : Type 0} (bays : Bays B) (before : B) (w : Window) → ReadsAhead bays before w w
ahead_none bays before w = record { place = refl; room = refl; grows = omega arith; later = omega arith; come = λ seen told. refl; read = λ seen told from near is. is }

-- a decoder whose windows read ahead, and what of it is at hand
standing_with : (d : Decoder) (window ends : Window) (slots : ℕ) → place_of window ≡ place_of d.window → room_of window ≡ room_of d.window → room_of ends ≡ room_of d.ends →
    slots ≡ length d.slots.items → 8 * d.block.from ≤ count_of window → (0 < d.block.from → 8 ≤ count_of ends) → place_of ends + 8 * word_count d.block.some < 2 ^ 43 →
    IsStanding d.width d.block d.ahead window ends slots
standing_with d window ends slots place room ends_room slots_are hand word ends_reach =
    let was = d.standing in
    record {
      narrow = was.narrow;
      wide = was.wide;
      first = was.first;
      tails = was.tails;
      order = was.order;
      least = was.least;
      from = was.from;
      near = was.near;
      hand = hand;
      word = word;
      most = was.most;
      some = was.some;
      count = was.count;
      reach = omega (arith, was.reach, place);
      ends_reach = ends_reach;
      window_room = room ∙ was.window_room;
      ends_room = ends_room ∙ was.ends_room;
      slots_room = slots_are ∙ was.slots_room;
    }

pub standing_ahead : (d : Decoder) (window ends : Window) (slots : ℕ) → place_of window ≡ place_of d.window → room_of window ≡ room_of d.window → count_of d.window ≤ count_of window →
    place_of ends ≡ place_of d.ends → room_of ends ≡ room_of d.ends → count_of d.ends ≤ count_of ends → slots ≡ length d.slots.items → IsStanding d.width d.block d.ahead window ends slots
standing_ahead d window ends slots place room grows ends_place ends_room ends_grow slots_are =
    standing_with d window ends slots place room ends_room slots_are (omega (arith, d.standing.hand, grows)) (λ some. omega (arith, d.standing.word some, ends_grow))
    (omega (arith, d.standing.ends_reach, ends_place))

-- one without a present block, whose words of run ends may stand anywhere
pub standing_decoded : (d : Decoder) (window ends : Window) (slots : ℕ) → d.block.some ≡ 0 → place_of window ≡ place_of d.window → room_of window ≡ room_of d.window →
    place_of ends < 2 ^ 43 → room_of ends ≡ room_of d.ends → slots ≡ length d.slots.items → IsStanding d.width d.block d.ahead window ends slots
standing_decoded d window ends slots none place room ends_place ends_room slots_are =
    standing_with d window ends slots place room ends_room slots_are (omega (arith, d.standing.from, none)) (λ some. absurd (omega (arith, d.standing.from, none, some)))
    (omega (arith, ends_place, none))

-- its places
pub window_near : (d : Decoder) → place_of d.window < 2 ^ 43
window_near d = omega (arith, d.standing.reach)

pub ends_near : (d : Decoder) → place_of d.ends < 2 ^ 43
ends_near d = omega (arith, d.standing.ends_reach)

pub fields_near : (d : Decoder) (head : Head) (place : ℕ) → 1 ≤ d.ahead.blocks → head.count ≤ d.ahead.most → place ≡ place_of d.window → place + fields_len head < 2 ^ 43
fields_near d head place some few is = omega (arith, d.standing.reach, some, few, is)

-- a decoder whose next block is begun
pub standing_begun : (d : Decoder) (head : Head) (block : Present) (ahead : Ahead) (window ends : Window) → d.block.some ≡ 0 → 1 ≤ d.ahead.blocks → head.count < 2 ^ 32 → IsFitting d.ahead.most head →
    block ≡ record { first = 64 * d.ahead.next; some = head.count; from = 0; walk = record { occupied = head.occupied; least = 0 } } →
    ahead ≡ record { next = d.ahead.next + 1; blocks = d.ahead.blocks - 1; most = d.ahead.most - head.count } → place_of window ≡ place_of d.window + fields_len head → room_of window ≡ 8192 →
    place_of ends ≡ place_of d.window + 12 → room_of ends ≡ 8192 → (slots : ℕ) → slots ≡ 72 → IsStanding d.width block ahead window ends slots
standing_begun d head block ahead window ends none some count_fits fits block_is ahead_is place room ends_place ends_room slots slots_room =
    let was = d.standing in
    let all : d.ahead.next + 1 + (d.ahead.blocks - 1) ≡ d.ahead.next + d.ahead.blocks = omega (arith, some) in
    let one : (64 * d.ahead.next + 64) * 2 ^ d.width ≤ 64 * (d.ahead.next + d.ahead.blocks) * 2 ^ d.width = mul-le-mul_right (2 ^ d.width)
    (let e : 64 * d.ahead.next + 64 ≤ 64 * (d.ahead.next + d.ahead.blocks) = omega (arith, some) in e) in
    let tails : 64 * (d.ahead.next + 1 + (d.ahead.blocks - 1)) * 2 ^ d.width ≤ 2 ^ 64 = subst (λ n. 64 * n * 2 ^ d.width ≤ 2 ^ 64) (sym all) was.tails in
    subst (λ (b : Present). IsStanding d.width b ahead window ends slots) (sym block_is) (subst (λ (a : Ahead). IsStanding d.width
    (record { first = 64 * d.ahead.next; some = head.count; from = 0; walk = record { occupied = head.occupied; least = 0 } }) a window ends slots) (sym ahead_is) (record {
      narrow = was.narrow;
      wide = was.wide;
      first = omega (arith, one, was.tails);
      tails = tails;
      order = λ is. omega arith;
      least = omega arith;
      from = omega arith;
      near = omega arith;
      hand = omega arith;
      word = λ is. absurd (omega (arith, is));
      most = omega (arith, was.most);
      some = count_fits;
      count = omega (arith, was.count);
      reach = omega (arith, was.reach, none, place, some, fits.within);
      ends_reach = omega (arith, was.reach, none, ends_place, fits.within);
      window_room = room;
      ends_room = ends_room;
      slots_room = slots_room;
    }))

-- the same, said of the moment before a call that changed no file
pub ahead_since : {B : Type 0} (bays : Bays B) (before between : B) (old new : Window) → bays.files between ≡ bays.files before → ReadsAhead bays between old new → ReadsAhead bays before old new
ahead_since bays before between old new same ahead = ahead_on bays before between same old old new (ahead_none bays before old) ahead
