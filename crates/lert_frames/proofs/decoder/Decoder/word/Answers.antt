use Rattle.std.proofs.Common.{◌≡◌, ℕ, ◌<◌, ◌≤◌, ◌+◌, ◌*◌, ◌-◌, ◌∙◌, min, List, Ok, Err, length, take, drop, ap, sym, subst, refl, arith, length-take}
use Rattle.std.{proofs.lemmas.List.{length-take-le, take_all}, proofs.lemmas.Result.err_from_is_err_and}
use Rattle.lert_bay.specs.declared.bay.TheConstants.{FRAMES}
use Rattle.lert_frames.{specs.declared.decoder.Decoder.Decoder, specs.declared.decoder.Present.Present, specs.declared.step.Word.Word, specs.declared.window.Window.Window}
use Rattle.lert_frames.{specs.Decoded.{ends_there, found_by, slots_there}, specs.Steps.IsAtHand, specs.Window.{count_of, place_of, to_come}, proofs.AheadLaws.{ahead_none, window_near}}
use Rattle.lert_frames.{proofs.DecodedLaws.word_left, proofs.FaultLaws.{fault_is, no_place, not_err}, proofs.SlotLaws.{hand_end, hand_slots, hand_there, hand_within, slots_len}}
use Rattle.lert_frames.{proofs.OrderLaws.here, proofs.StepLaws.{steps_refused, steps_since}, proofs.WordStepLaws.{all_decoded, all_left, spot_is, steps_word}, proofs.WriteLaws.same_err}
use Rattle.lert_frames.proofs.CallLaws.{reads_turned, reads_then}
use Rattle.lert_spec.specs.declared.piece.Piece.{Piece}
use Rattle.lert_frames.proofs.decoder.Decoder.word.Goals as goal

-- ---- numbers

more_room : (n : ℕ) → n ≤ n + 64
more_room n = omega arith

le_trans : {a b c : ℕ} → a ≤ b → b ≤ c → a ≤ c
le_trans {a} {b} {c} one two = omega (arith, one, two)

past_near : {at count : ℕ} → count ≤ at → at < 72 → count < 72
past_near {at} {count} past near = omega (arith, past, near)

at_hand_first : (at count : ℕ) (slots : List ℕ) → at ≤ length (take count slots) → at ≤ count
at_hand_first at count slots near = omega (arith, near, length-take count slots)

upto_there : (upto count : ℕ) (slots : List ℕ) (there : ℕ) → upto ≤ length (take count slots) → count ≤ there → upto ≤ there
upto_there upto count slots there near within = omega (arith, near, length-take count slots, within)

kept_same : (items old : List Piece) → items ≡ old → take (length old) items ≡ old
kept_same items old same = ap (take (length old)) same ∙ take_all (length old) old (here (length old))

few_same : (items old : List Piece) → items ≡ old → length items ≤ length old + 64
few_same items old same = omega (arith, ap (λ (xs : List Piece). length xs) same)

-- ---- what calls want

module _ (block : Present) (window ends : Window) (word : Word) (slots : List ℕ) (is : IsAtHand block window ends word) (long : length slots ≡ 72) where
  counted : length (take word.count slots) ≡ word.count
  counted = length-take-le word.count slots (omega (arith, is.few, long))

  few_slots : length (take word.count slots) ≤ min block.some 72
  few_slots = omega (arith, counted, is.few)

  from_there : block.from ≤ length (take word.count slots)
  from_there = omega (arith, counted, is.from)

  few_at_hand : word.count ≤ 72
  few_at_hand = omega (arith, is.few)

  passed_there : (upto : ℕ) → 0 < block.some → min block.some 64 ≤ upto → upto ≤ length (take word.count slots) →
      (upto ≤ block.some) × (8 * upto ≤ count_of window) × (8 ≤ count_of ends) × (64 < upto → 16 ≤ count_of ends)
  passed_there upto some low high = (
    omega (arith, counted, high, is.few),
    omega (arith, counted, high, is.hand),
    omega (arith, counted, high, some, low, is.known, is.hand_ends),
    λ past. omega (arith, counted, high, past, is.known, is.hand_ends),
  )

-- the slots of a decoder
slots_are : (d : Decoder) (slots : List ℕ) → slots ≡ d.slots.items → length slots ≡ 72
slots_are d slots are = ap (λ (xs : List ℕ). length xs) are ∙ d.standing.slots_room

from_near : (d : Decoder) → d.block.from ≤ 64
from_near d = omega (arith, d.standing.near)

pub read_word-requires : goal.read_word-requires
read_word-requires g c = c.requires.some

pub slice_bounds-slots-end : goal.slice_bounds-slots-end
slice_bounds-slots-end g c =
    let middle = c.read_word.new.self in
    sym (counted middle.block middle.window middle.ends c.in_ok-word.word c.deref.result.now c.in_ok-word.ensures.hand (slots_are middle c.deref.result.now c.deref.ensures.value))

pub decode-requires : goal.decode-requires
decode-requires g c =
    let middle = c.read_word.new.self in
    let hand = c.in_ok-word.ensures.hand in
    let long = slots_are middle c.deref.result.now c.deref.ensures.value in
    record {
      narrow = middle.standing.narrow;
      wide = middle.standing.wide;
      reach = middle.standing.first;
      few = few_slots middle.block middle.window middle.ends c.in_ok-word.word c.deref.result.now hand long;
      from = from_there middle.block middle.window middle.ends c.in_ok-word.word c.deref.result.now hand long;
      word = from_near middle;
      room = c.requires.room;
    }

pub pass_word-requires : goal.pass_word-requires
pass_word-requires g c =
    let middle = c.read_word.new.self in
    let read = c.in_ok-word.ensures in
    let decoded = c.in-Ok.ensures in
    let some = subst (λ (b : Present). 0 < b.some) (sym read.block) c.requires.some in
    let passed = passed_there middle.block middle.window middle.ends c.in_ok-word.word c.deref.result.now read.hand (slots_are middle c.deref.result.now c.deref.ensures.value) c.in-Ok.upto some
    decoded.upto.0 decoded.upto.1 in
    record {
      some = some;
      word = decoded.upto.0;
      last = passed.0;
      near = decoded.upto.2;
      hand = passed.1;
      ends = passed.2;
      next = passed.3;
      least = decoded.least middle.standing.least;
    }

pub slot_fault-requires : goal.slot_fault-requires
slot_fault-requires g c =
    let middle = c.read_word.new.self in
    record {
      few = few_at_hand middle.block middle.window middle.ends c.in_ok-word.word c.deref.result.now c.in_ok-word.ensures.hand (slots_are middle c.deref.result.now c.deref.ensures.value);
      reach = window_near middle;
    }

-- ---- its ends

pub returns-in_err-word : goal.returns-in_err-word
returns-in_err-word g c =
    let p = err_from_is_err_and c.from_residual.result c.from_residual.ensures.1 in
    let before = c.args.bay.now in
    let after = c.read_word.new.bay in
    let middle = c.read_word.new.self in
    let read = c.in_err-word.ensures in
    let items = c.args.pieces.now.items in
    rw (p.1, p.2) (record {
      steps = steps_refused _ before after c.args.self.now middle read.width _ _ read.block read.ahead read.window (λ _. read.ends.place)
          (λ seen told i. found_by (read.width i) (read.block i) (read.ahead i) (read.window.place i) (length (seen FRAMES)) (read.ends.come seen told i) (read.window.come seen told i))
          (λ seen told at is. absurd (no_place at _ read.failed is))
          (reads_turned (λ is. same_err _ _ is) read.only_reads);
      kept = take_all (length items) items (here (length items));
      none = refl;
      few = more_room (length items);
      capacity = refl;
    })

pub returns-in-Ok : goal.returns-in-Ok
returns-in-Ok g c =
    let before = c.args.bay.now in
    let after = c.read_word.new.bay in
    let old = c.args.self.now in
    let middle = c.read_word.new.self in
    let read = c.in_ok-word.ensures in
    let decoded = c.in-Ok.ensures in
    let passes = c.pass_word.ensures in
    let some_slots = subst (λ (b : Present). 0 < b.some) (sym read.block) c.requires.some in
    record {
      steps =
          steps_since _ before after old middle _ _ (Ok tt) read.width read.block read.ahead read.window read.ends
          (steps_word _ before after middle c.pass_word.new.self c.decode.new.walk c.in-Ok.upto (min middle.block.some 64) _ some_slots
          (record {
            width = passes.width;
            ahead = passes.ahead;
            block = passes.block;
            passed_is = refl;
            place = passes.place;
            ends = passes.ends_place;
            low = decoded.upto.3;
            high = decoded.upto.0;
            ascend = decoded.ascend;
            counts = decoded.counts;
            rises = decoded.rises;
            least = decoded.least middle.standing.least;
          })
          (λ seen told.
          let ends = to_come middle.ends (seen FRAMES) in
          let slots = to_come middle.window (seen FRAMES) in
          let some = middle.block.some in
          let word = c.in_ok-word.word in
          let hand = read.slots seen told in
          let there = ends_there some ends in
          let behind = drop word.count (slots_there some ends slots) in
          let now_is : take word.count c.deref.result.now ≡ take word.count middle.slots.items = ap (take word.count) c.deref.ensures.value in
          let there_too = hand_there some ends slots word.ends word.count (take word.count middle.slots.items) hand in
          let found = decoded.found there behind (hand_slots some ends slots word.ends word.count (take word.count middle.slots.items) hand _ now_is refl refl refl) in
          record {
            come = passes.come (seen FRAMES);
            come_ends = passes.come_ends (seen FRAMES);
            read = λ from near is. passes.read from (seen FRAMES) is;
            within = upto_there c.in-Ok.upto word.count c.deref.result.now _ decoded.upto.1 (hand_within some ends slots word.ends word.count (take word.count middle.slots.items) hand);
            decoded = all_decoded middle.width middle.block.first middle.block.from (c.in-Ok.upto - middle.block.from) middle.block.walk there _ (take word.count middle.slots.items) behind
                (slots_there some ends slots) now_is there_too c.in-Ok.upto c.decode.new.walk _ _ found.0 found.1 found.2;
          })
          (reads_turned (λ is. absurd (not_err _ _ is)) read.only_reads));
      kept = decoded.kept;
      none = tt;
      few = decoded.few;
      capacity = decoded.capacity;
    }

pub returns-in-Err : goal.returns-in-Err
returns-in-Err g c =
    let before = c.args.bay.now in
    let between = c.read_word.new.bay in
    let after = c.slot_fault.new.bay in
    let middle = c.read_word.new.self in
    let read = c.in_ok-word.ensures in
    let left = c.in-Err.ensures in
    let fault = c.slot_fault.ensures in
    let len_is = c.len-len.ensures ∙ c.args.pieces.now.ok.0 in
    let same = c.truncate.ensures.items ∙ (ap (λ n. take n c.decode.new.pieces.items) len_is ∙ left.kept) in
    record {
      steps =
          steps_since _ before after c.args.self.now middle _ _ (Err c.slot_fault.result) read.width read.block read.ahead read.window read.ends
          (steps_refused _ before after middle middle refl _ c.slot_fault.result refl refl
          (ahead_none _ before middle.window) (λ _. refl) (λ seen told. refl)
          (λ seen told spot is.
          let ends = to_come middle.ends (seen FRAMES) in
          let slots = to_come middle.window (seen FRAMES) in
          let some = middle.block.some in
          let word = c.in_ok-word.word in
          let items = take word.count middle.slots.items in
          let hand = read.slots seen told in
          let there = ends_there some ends in
          let behind = drop word.count (slots_there some ends slots) in
          let now_is : take word.count c.deref.result.now ≡ items = ap (take word.count) c.deref.ensures.value in
          let within = hand_within some ends slots word.ends word.count items hand in
          let near = at_hand_first c.in-Err.at word.count c.deref.result.now left.at.1 in
          let found = left.found there behind (hand_slots some ends slots word.ends word.count items hand _ now_is refl refl refl) in
          word_left middle.width (place_of middle.window) (length (seen FRAMES)) c.in-Err.at spot middle.block middle.ahead ends slots left.at.0 (le_trans read.hand.from within)
          (spot_is (place_of middle.window) (length (seen FRAMES)) (slots_len some ends slots) word.count c.in-Err.at spot c.slot_fault.result near within
          (λ past. hand_end some ends slots word.ends word.count items hand (past_near past left.at.2))
          fault.here (λ past n named. fault.end past seen (read.only_reads.seen ∙ told) n named) is)
          (all_left middle.width middle.block.first middle.block.from (c.in-Err.at - middle.block.from) middle.block.walk there _ items behind (slots_there some ends slots) now_is
          (hand_there some ends slots word.ends word.count items hand) found))
          (reads_then g.met.B.Bay.since_earlier read.only_reads (reads_turned (λ is. fault_is _ _ is) fault.only_reads)));
      kept = kept_same c.truncate.new.self.items c.args.pieces.now.items same;
      none = same;
      few = few_same c.truncate.new.self.items c.args.pieces.now.items same;
      capacity = c.truncate.ensures.capacity ∙ left.capacity;
    }
