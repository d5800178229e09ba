-- What a step over the slots of one word leaves.
use Rattle.std.proofs.Common.{◌≡◌, ℕ, ◌+◌, ◌-◌, ◌*◌, ◌^◌, ◌<◌, ◌≤◌, min, nat_lt, Bool, List, ◌++◌, length, drop, All, Some, Ok, refl, sym, ap, ◌∙◌, subst, inl, inr, arith, lt-ltb, le-ltb}
use Rattle.std.{specs.Prelude.IsErrOf, proofs.lemmas.Bool.{cases_eq, cases_lt, cond-true, cond-false}, proofs.lemmas.List.drop_at, proofs.Math.Nat.mul-le-mul_right}
use Rattle.lert_base.{specs.declared.pieces.PieceFault.PieceFault, specs.declared.pieces.PieceFault.TheVariants.{Failed, Malformed}}
use Rattle.lert_bay.{specs.declared.bay.TheConstants.FRAMES, specs.Files.Files, specs.Kept.{Bays, OnlyReads}}
use Rattle.lert_slotbits.specs.Bits.{word_bits}
use Rattle.lert_spec.{specs.declared.piece.Piece.Piece, specs.Table.AscendsFrom}
use Rattle.lert_blocks.{specs.declared.decoder.Walk.Walk, specs.Decoding.{floor_of, rest_found, with_front}, specs.Walk.{behind, places}, proofs.PieceLaws.ascends_below}
use Rattle.lert_frames.{specs.declared.decoder.Ahead.Ahead, specs.declared.decoder.Decoder.Decoder, specs.declared.decoder.Present.Present}
use Rattle.lert_frames.{specs.Decoded.{ends_there, slots_there, found_by, end_by, floor_by}, specs.Steps.Steps, specs.Window.{place_of, to_come, IsRead}}
use Rattle.lert_frames.{proofs.DecodedLaws.{given, slot_spot, word_gives, word_end}, proofs.FaultLaws.{not_err, same_place}}
use Rattle.lert_frames.{proofs.FloorLaws.{bounded_by_limit, floor_high, block_rises, floor_none, floor_some}, proofs.SlotLaws.slots_len, proofs.StandsLaws.between_passed}

-- the place of a slot, as it is answered
pub spot_is : (place end there count at spot : ℕ) (fault : PieceFault) → at ≤ count → count ≤ there → (count ≤ at → there ≤ count) →
    (at < count → fault ≡ Malformed (place + 8 * at)) → (count ≤ at → (n : ℕ) → fault ≡ Malformed n → n ≡ end) → fault ≡ Malformed spot → slot_spot place end there at ≡ spot
spot_is place end there count at spot fault near within short here missing is = elim (cases_lt at count) [
  | inl less ↦
      cond-true (nat_lt at there) (place + 8 * at) end (lt-ltb at there (omega (arith, less, within))) ∙ same_place (place + 8 * at) spot (sym (here less) ∙ is)
  | inr more ↦
      (let all = short more in cond-false (nat_lt at there) (place + 8 * at) end (le-ltb at there (omega (arith, more, near, all))) ∙ sym (missing more spot is))
]

-- the floor of a walk is no higher than that of the block behind it
floor_behind : (width first next : ℕ) (walk : Walk) (block : Present) (ahead : Ahead) → block.first ≡ first → block.walk ≡ walk → ahead.next ≡ next → first + 64 ≤ 64 * next → walk.least ≤ 2 ^ width →
    floor_of width first walk ≤ floor_by width block ahead
floor_behind width first next walk block ahead first_is walk_is next_is order few = elim (cases_eq block.some 0) [
  | inl none ↦ (
      let is = floor_none width block ahead none in
      let high = floor_high width first (first + 64) walk.least (places first (word_bits walk.occupied)) few (block_rises first walk.occupied) in
      let later : (first + 64) * 2 ^ width ≤ 64 * ahead.next * 2 ^ width = mul-le-mul_right (2 ^ width) (let e : first + 64 ≤ 64 * ahead.next = omega (arith, order, next_is) in e) in
      omega (arith, is, high, later))
  | inr some ↦ (
      let is = floor_some width block ahead some in
      let same : floor_of width block.first block.walk ≡ floor_of width first walk = λ i. floor_of width (first_is i) (walk_is i) in
      omega (arith, is, same))
]

-- a word is decoded
pub record DecodesWord (walk : Walk) (upto passed : ℕ) (put : List Piece) (old new : Decoder) : Type 0 where
  pub width : new.width ≡ old.width
  pub ahead : new.ahead ≡ old.ahead
  pub block : new.block ≡ record { first = old.block.first; some = old.block.some - passed; from = upto - passed; walk = walk }
  pub passed_is : passed ≡ min old.block.some 64
  pub place : place_of new.window ≡ place_of old.window + 8 * passed
  pub ends : place_of new.ends ≡ place_of old.ends + 8
  pub low : old.block.from ≤ upto
  pub high : passed ≤ upto
  pub ascend : AscendsFrom (floor_of old.width old.block.first old.block.walk) (floor_of old.width old.block.first walk) put
  pub counts : All (λ piece. piece.count ≤ 2 ^ 47) put
  pub rises : floor_of old.width old.block.first old.block.walk ≤ floor_of old.width old.block.first walk
  pub least : walk.least ≤ 2 ^ old.width

-- what is told of it
pub record DecodesTold (walk : Walk) (upto passed : ℕ) (put : List Piece) (old new : Decoder) (file : List ℕ) : Type 0 where
  pub come : to_come new.window file ≡ drop (8 * passed) (to_come old.window file)
  pub come_ends : to_come new.ends file ≡ drop 8 (to_come old.ends file)
  pub read : (from : ℕ) → from ≤ place_of old.window → IsRead old.window from file → IsRead new.window from file
  pub within : upto ≤ slots_len old.block.some (to_come old.ends file) (to_come old.window file)
  pub decoded : rest_found old.width old.block.first old.block.walk (drop old.block.from (ends_there old.block.some (to_come old.ends file)))
      (drop old.block.from (slots_there old.block.some (to_come old.ends file) (to_come old.window file)))
      ≡ with_front put (upto - old.block.from) (rest_found old.width old.block.first walk (drop upto (ends_there old.block.some (to_come old.ends file)))
      (drop upto (slots_there old.block.some (to_come old.ends file) (to_come old.window file))))

pub steps_word : {B : Type 0} (bays : Bays B) (before after : B) (old new : Decoder) (walk : Walk) (upto passed : ℕ) (put : List Piece) → 0 < old.block.some →
    DecodesWord walk upto passed put old new → ((seen : Files) → bays.files before ≡ Some seen → DecodesTold walk upto passed put old new (seen FRAMES)) →
    OnlyReads bays before after (IsErrOf {T = Unit {0}} {E = PieceFault} (Ok tt) Failed) → Steps bays before after old new put (Ok tt)
steps_word bays before after old new walk upto passed put some made known only =
    let now_is = floor_some old.width old.block old.ahead (λ none. omega (arith, none, some)) in
    let behind_is = floor_behind old.width old.block.first old.ahead.next walk new.block new.ahead (ap (λ (b : Present). b.first) made.block) (ap (λ (b : Present). b.walk) made.block)
    (ap (λ (a : Ahead). a.next) made.ahead) (old.standing.order some) made.least in
    let wide : floor_by new.width new.block new.ahead ≡ floor_by old.width new.block new.ahead = ap (λ n. floor_by n new.block new.ahead) made.width in
    record {
      gives = λ seen told.
          let file = seen FRAMES in
          let is = known seen told in
          word_gives old.width (place_of old.window) (length file) old.block (to_come old.ends file) (to_come old.window file) walk upto passed put made.passed_is made.low made.high
          is.within is.decoded old.ahead
          ∙ (λ i. behind (given put) (found_by (sym made.width i) (sym made.block i) (sym made.ahead i) (sym made.place i) (length file) (sym is.come_ends i) (sym is.come i)));
      malformed = λ seen told at is. absurd (not_err _ _ is);
      refused = λ seen told. tt;
      ascend = subst (λ n. AscendsFrom n (floor_by new.width new.block new.ahead) put) (sym now_is)
          (ascends_below (floor_of old.width old.block.first old.block.walk) (floor_of old.width old.block.first walk) (floor_by new.width new.block new.ahead) put
          (omega (arith, behind_is, wide)) made.ascend);
      counts = made.counts;
      floor = omega (arith, now_is, behind_is, wide, made.rises);
      limit = λ i. 64 * ((made.ahead i).next + (made.ahead i).blocks) * 2 ^ made.width i;
      bounded = bounded_by_limit new;
      work = (let left : new.block.some ≡ old.block.some - passed = ap (λ (b : Present). b.some) made.block in
          let rest : new.ahead.blocks ≡ old.ahead.blocks = ap (λ (a : Ahead). a.blocks) made.ahead in omega (arith, left, rest, some, made.passed_is));
      stays = tt;
      read = λ seen told. (known seen told).read;
      moves = omega (arith, made.place);
      between = λ place end is. between_passed place end old new is passed made.passed_is (ap (λ (b : Present). b.some) made.block) made.ahead made.place made.ends some;
      end = λ seen told.
          let file = seen FRAMES in
          let is = known seen told in
          (λ i. end_by (made.block i) (made.ahead i) (made.place i) (is.come i))
          ∙ word_end old.width (place_of old.window) (length file) old.block (to_come old.ends file) (to_come old.window file) walk upto passed put made.passed_is made.low made.high
          is.within is.decoded old.ahead;
      only_reads = only;
    }

-- ---- what was decoded of the slots at hand is so of all that are to come

module _ (width first from at : ℕ) (walk : Walk) (there : List Bool) (now hand behind_hand all : List ℕ) (now_is : now ≡ hand) (all_is : hand ++ behind_hand ≡ all) where
  pub all_decoded : (upto : ℕ) (after : Walk) (old new put : List Piece) → new ≡ old ++ put →
      rest_found width first walk (drop from there) (drop from (now ++ behind_hand)) ≡ with_front put at (rest_found width first after (drop upto there) (drop upto (now ++ behind_hand))) →
      rest_found width first walk (drop from there) (drop from all) ≡ with_front (drop (length old) new) at (rest_found width first after (drop upto there) (drop upto all))
  all_decoded upto after old new put pieces_are decoded =
      let pieces : put ≡ drop (length old) new = sym (ap (drop (length old)) pieces_are ∙ drop_at old put (length old) refl) in
      subst (λ (xs : List ℕ). rest_found width first walk (drop from there) (drop from xs) ≡ with_front (drop (length old) new) at (rest_found width first after (drop upto there) (drop upto xs)))
      (ap (λ ys. ys ++ behind_hand) now_is ∙ all_is)
      (subst (λ (ps : List Piece). rest_found width first walk (drop from there) (drop from (now ++ behind_hand))
      ≡ with_front ps at (rest_found width first after (drop upto there) (drop upto (now ++ behind_hand)))) pieces decoded)

  pub all_left : (rest_found width first walk (drop from there) (drop from (now ++ behind_hand))).left ≡ Some at → (rest_found width first walk (drop from there) (drop from all)).left ≡ Some at
  all_left left = subst (λ (xs : List ℕ). (rest_found width first walk (drop from there) (drop from xs)).left ≡ Some at) (ap (λ ys. ys ++ behind_hand) now_is ∙ all_is) left
