use Rattle.std.proofs.Common.{◌≡◌, ℕ, ◌+◌, ◌*◌, ◌^◌, ◌<◌, ◌≤◌, ◌∙◌, Bool, List, ◌++◌, length, take, drop, sym, ap, ap₂, subst, refl, inr, arith, length-drop}
use Rattle.std.{proofs.lemmas.Result.err_from_is_err_and, specs.Int.div_ceil}
use Rattle.lert_bay.{specs.declared.bay.TheConstants.FRAMES, specs.Settled.part}
use Rattle.byteorder.specs.Endian.{little_bytes}
use Rattle.lert_blocks.{specs.declared.block.Block.Block, specs.Text.{ends_of, slots_of, word_count, words_of, numbers_text}, proofs.FieldLaws.length-numbers_text, proofs.FillingLaws.length_left}
use Rattle.lert_frames.{specs.declared.long.Long.Long, specs.declared.outlet.Outlet.Outlet, specs.Outlet.next_place, specs.Spilt.{Reaches, block_bytes}, proofs.OrderLaws.{at_least, here}}
use Rattle.lert_frames.{proofs.SpiltLaws.{counted_slots, counted_ends, all_end, begin_first, ends_fit, moved_places, words_end}, proofs.CallLaws.{writes_on, writes_as, told_then}}
use Rattle.lert_frames.{proofs.ClosingLaws.{long_text, moved_as, ends_written, slots_written, parts_stay}, proofs.OutletLaws.{out_reaches, out_within}, proofs.WriteLaws.{on_ok, if_ok}}
use Rattle.lert_frames.proofs.closing.close_long.Goals as goal

-- ---- numbers

high_as : (next n slots end : ℕ) → n ≡ slots → next + 8 * slots ≤ end → next + 8 * n ≤ end
high_as next n slots end is high = subst (λ n. next + 8 * n ≤ end) (sym is) high

low_as : {begin from target : ℕ} → begin ≤ from → (words : ℕ) → target ≡ from + 12 + 8 * words → begin ≤ target
low_as {begin} {from} {target} low words is = omega (arith, low, is)

block_end : (begin words slots at : ℕ) → words ≡ word_count slots → at ≡ begin + 12 + 8 * words + 8 * slots → at ≡ begin + block_bytes slots
block_end begin words slots at words_are is = omega (arith, words_are, is)

all_slots : (out slots count : ℕ) → slots ≡ count → 64 * out + slots ≡ 64 * out + count
all_slots out slots count is = ap (λ n. 64 * out + n) is

same_end : (to target count n : ℕ) → to ≡ target → count ≡ n → to + 8 * count ≤ target + 8 * n
same_end to target count n to_is count_is = omega (arith, to_is, count_is)

bits_there : (m len : ℕ) (bits : List Bool) → length (drop (64 * m) bits) ≡ len → 0 < len → 64 * m ≤ length bits
bits_there m len bits is some = omega (arith, length-drop (64 * m) bits, is, some)

ends_end_is : (at none next words m begin len : ℕ) → at + none ≡ next + 8 * words → none ≡ 0 → next ≡ begin + 12 + 8 * m → words ≡ word_count len →
    at ≡ begin + 12 + 8 * word_count (64 * m + len)
ends_end_is at none next words m begin len place empty next_is words_are = omega (arith, place, empty, next_is, words_are)

some_all : (m len : ℕ) → 0 < len → 0 < 64 * m + len
some_all m len some = omega (arith, some)

words_behind : (begin n : ℕ) → 0 < n → begin + 12 < begin + 12 + 8 * word_count n
words_behind begin n some = omega (arith, some)

slots_behind : (target n at : ℕ) → 0 < n → at ≡ target + 8 * n → target < at
slots_behind target n at some is = omega (arith, some, is)

low_words : (begin words : ℕ) → begin + 12 ≤ begin + 12 + 8 * words
low_words begin words = omega arith

before_end : (slots n end : ℕ) → slots + 8 * n ≡ end → slots ≤ end
before_end slots n end is = omega (arith, is)

ends_small : (n len size : ℕ) → n ≡ word_count len → len ≤ 512 → size ≡ 512 → 8 * n ≤ size
ends_small n len size is few size_is = omega (arith, is, few, size_is)

slots_small : (n len size : ℕ) → n ≡ len → len ≤ 512 → size ≡ 8192 → 8 * n ≤ size
slots_small n len size is few size_is = omega (arith, is, few, size_is)

head_small : (size : ℕ) → size ≡ 512 → 12 ≤ size
head_small size is = omega (arith, is)

in_reach : (place end : ℕ) → place ≤ end → end ≤ 2 ^ 62 → place < 2 ^ 63
in_reach place end within near = omega (arith, within, near)

words_of_bits : (words n : ℕ) → words ≡ div_ceil n 64 → words ≡ word_count n
words_of_bits words n is = omega (arith, is)

-- ---- the places of the block

module _ (l : Long) (b : Block) (e o : Outlet) (reach : Reaches l b.len (2 ^ 62) e o) where
  wrote_ends : (ends : List ℕ) → ends ≡ take (word_count b.len) b.ends.items → (high : ℕ) → next_place o + 8 * b.len ≤ high → next_place e + 8 * length ends ≤ high
  wrote_ends ends are = all_end l b.len (2 ^ 62) e o reach (length ends) (counted_ends b ends are)

  wrote_slots : (slots : List ℕ) → slots ≡ take b.len b.slots.items → (high : ℕ) → next_place o + 8 * b.len ≤ high → next_place o + 8 * length slots ≤ high
  wrote_slots slots are high = high_as (next_place o) (length slots) b.len high (counted_slots b slots are)

-- ---- what calls want

pub write_numbers-requires : goal.write_numbers-requires
write_numbers-requires g c =
    let b = c.args.block.now in
    let o = c.args.outlet.now in
    let reach = c.requires.reach in
    let last = next_place o + 8 * b.len in
    record {
      size = ends_small (length c.ends.result.now) b.len _ (counted_ends b c.ends.result.now c.ends.ensures.value) b.sized.2 c.requires.ends_size;
      reach = in_reach _ last (wrote_ends c.args.long b c.args.ends.now o reach c.ends.result.now c.ends.ensures.value last (here last)) reach.slots_fit;
    }

pub write_numbers-requires-2 : goal.write_numbers-requires-2
write_numbers-requires-2 g c =
    let b = c.args.block.now in
    let o = c.args.outlet.now in
    let reach = c.requires.reach in
    let last = next_place o + 8 * b.len in
    record {
      size = slots_small (length c.slots.result.now) b.len _ (counted_slots b c.slots.result.now c.slots.ensures) b.sized.2 c.requires.size;
      reach = in_reach _ last (wrote_slots c.args.long b c.args.ends.now o reach c.slots.result.now c.slots.ensures last (here last)) reach.slots_fit;
    }

pub move_down-requires : goal.move_down-requires
move_down-requires g c =
    let l = c.args.long in
    let b = c.args.block.now in
    let reach = c.requires.reach in
    let ceil = words_of_bits c.div_ceil.result (64 * l.words + length c.slots-2.result.now) c.div_ceil.ensures in
    let moved = moved_places l b.len (2 ^ 62) c.args.ends.now c.args.outlet.now reach (64 * l.words + length c.slots-2.result.now) c.div_ceil.result
    (all_slots l.words _ b.len (counted_slots b c.slots-2.result.now c.slots-2.ensures)) ceil in
    record {
      order = moved.0;
      reach = in_reach _ _ (subst (λ n. l.slots + 8 * (64 * l.words + length c.slots-2.result.now) ≤ n) moved.2 (here _)) reach.slots_fit;
      size = c.in_ok-write_numbers-2.ensures.size ∙ c.requires.size;
    }

pub write_head-requires : goal.write_head-requires
write_head-requires g c =
    let l = c.args.long in
    let b = c.args.block.now in
    let reach = c.requires.reach in
    let moved = moved_places l b.len (2 ^ 62) c.args.ends.now c.args.outlet.now reach (64 * l.words + b.len) (word_count (64 * l.words + b.len)) refl refl in
    record { reach = in_reach _ _ moved.3 reach.slots_fit; size = head_small _ (c.in_ok-write_numbers.ensures.size ∙ c.requires.ends_size) }

-- ---- its ends

pub returns-in_err-write_numbers : goal.returns-in_err-write_numbers
returns-in_err-write_numbers g c =
    let p = err_from_is_err_and c.from_residual.result c.from_residual.ensures.1 in
    let l = c.args.long in
    let b = c.args.block.now in
    let e = c.args.ends.now in
    let o = c.args.outlet.now in
    let one = c.in_err-write_numbers.ensures in
    rw p.1 (record {
      there = λ seen told later told_later width number limit pieces up spilt. tt;
      place = tt;
      empty = tt;
      size = c.requires.size;
      ends_size = one.size ∙ c.requires.ends_size;
      writes = λ begin end low high.
          let first = begin_first l b.len (2 ^ 62) e o c.requires.reach begin low in
          writes_as (λ _. refl) (one.writes begin end first.0 (wrote_ends l b e o c.requires.reach c.ends.result.now c.ends.ensures.value end high));
    })

pub returns-in_err-write_numbers-2 : goal.returns-in_err-write_numbers-2
returns-in_err-write_numbers-2 g c =
    let p = err_from_is_err_and c.from_residual-in_err-write_numbers-2.result c.from_residual-in_err-write_numbers-2.ensures.1 in
    let l = c.args.long in
    let b = c.args.block.now in
    let e = c.args.ends.now in
    let o = c.args.outlet.now in
    let one = c.in_ok-write_numbers.ensures in
    let two = c.in_err-write_numbers-2.ensures in
    rw p.1 (record {
      there = λ seen told later told_later width number limit pieces up spilt. tt;
      place = tt;
      empty = tt;
      size = two.size ∙ c.requires.size;
      ends_size = one.size ∙ c.requires.ends_size;
      writes = λ begin end low high.
          let first = begin_first l b.len (2 ^ 62) e o c.requires.reach begin low in
          writes_on g.met.B.Bay.since_earlier (one.writes begin end first.0 (wrote_ends l b e o c.requires.reach c.ends.result.now c.ends.ensures.value end high))
          (writes_as (λ _. refl) (two.writes begin end first.1 (wrote_slots l b e o c.requires.reach c.slots.result.now c.slots.ensures end high)));
    })

pub returns-in_err-move_down : goal.returns-in_err-move_down
returns-in_err-move_down g c =
    let p = err_from_is_err_and c.from_residual-in_err-move_down.result c.from_residual-in_err-move_down.ensures.1 in
    let l = c.args.long in
    let b = c.args.block.now in
    let e = c.args.ends.now in
    let o = c.args.outlet.now in
    let reach = c.requires.reach in
    let one = c.in_ok-write_numbers.ensures in
    let two = c.in_ok-write_numbers-2.ensures in
    let three = c.in_err-move_down.ensures in
    let ceil = words_of_bits c.div_ceil.result (64 * l.words + length c.slots-2.result.now) c.div_ceil.ensures in
    let moved = moved_places l b.len (2 ^ 62) e o reach (64 * l.words + length c.slots-2.result.now) c.div_ceil.result
    (all_slots l.words _ b.len (counted_slots b c.slots-2.result.now c.slots-2.ensures)) ceil in
    rw p.1 (record {
      there = λ seen told later told_later width number limit pieces up spilt. tt;
      place = tt;
      empty = tt;
      size = three.size;
      ends_size = one.size ∙ c.requires.ends_size;
      writes = λ begin end low high.
          let first = begin_first l b.len (2 ^ 62) e o reach begin low in
          writes_on g.met.B.Bay.since_earlier
          (writes_on g.met.B.Bay.since_earlier (one.writes begin end first.0 (wrote_ends l b e o reach c.ends.result.now c.ends.ensures.value end high))
          (two.writes begin end first.1 (wrote_slots l b e o reach c.slots.result.now c.slots.ensures end high)))
          (writes_as (λ _. refl) (three.writes begin end (low_as low c.div_ceil.result refl) (at_least moved.1 high)));
    })

pub returns : goal.returns
returns g c =
    let l = c.args.long in
    let b = c.args.block.now in
    let e = c.args.ends.now in
    let o = c.args.outlet.now in
    let reach = c.requires.reach in
    let one = c.in_ok-write_numbers.ensures in
    let two = c.in_ok-write_numbers-2.ensures in
    let three = c.in_ok-move_down.ensures in
    let m = l.words in
    let n = 64 * m + b.len in
    let target = l.begin + 12 + 8 * word_count n in
    let last = next_place o + 8 * b.len in
    let ends_are = c.ends.ensures.value in
    let count : 64 * m + length c.slots-2.result.now ≡ n = all_slots m _ b.len (counted_slots b c.slots-2.result.now c.slots-2.ensures) in
    let ceil = words_of_bits c.div_ceil.result (64 * m + length c.slots-2.result.now) c.div_ceil.ensures in
    let goal_at : l.begin + 12 + 8 * c.div_ceil.result ≡ target = ap (λ words. l.begin + 12 + 8 * words) (ceil ∙ ap word_count count) in
    let at_is : c.move_down.new.outlet.at ≡ target + 8 * n = three.place ∙ ap₂ (λ to k. to + 8 * k) goal_at count in
    let places = moved_places l b.len (2 ^ 62) e o reach n (word_count n) refl refl in
    let some = some_all m b.len c.requires.some in
    record {
      there = λ seen told later told_later width number limit pieces up spilt.
          let ends_call = one.writes (l.begin + 12) l.slots reach.ends_at (words_end l b.len (2 ^ 62) e o reach (length c.ends.result.now) (counted_ends b c.ends.result.now ends_are)) in
          let slots_call = two.writes l.slots last reach.slots_at (wrote_slots l b e o reach c.slots.result.now c.slots.ensures last (here last)) in
          let moved = three.writes target (target + 8 * n) (subst (λ t. target ≤ t) (sym goal_at) (here target)) (same_end _ target _ n goal_at count) in
          let wrote_head = c.write_head.ensures.writes l.begin (l.begin + 12) (here l.begin) (here (l.begin + 12)) in
          let first = told_then ends_call.within told in
          let ends_out = one.out seen told first.0 first.1 (l.begin + 12) _ spilt.ends_out in
          let within = bits_there m b.len (ends_of width pieces) (length_left width number (64 * m) pieces b spilt.filled b.sized.2 b.sized.1) c.requires.some in
          let ends_end : c.write_numbers.new.outlet.at ≡ target =
          ends_end_is c.write_numbers.new.outlet.at c.write_numbers.new.outlet.len (next_place e) (length c.ends.result.now) m l.begin b.len one.place one.empty reach.ends_next
          (counted_ends b c.ends.result.now ends_are) in
          let ends_first : part (first.0 FRAMES) (l.begin + 12) target ≡ numbers_text (words_of (ends_of width pieces)) =
          ap (part (first.0 FRAMES) (l.begin + 12)) (sym ends_end)
          ∙ ends_written (l.begin + 12) m (ends_of width pieces) c.ends.result.now (first.0 FRAMES) c.write_numbers.new.outlet within
          (c.ends.ensures.words width number (64 * m) pieces spilt.filled) ends_out one.empty in
          let ends_there : target ≤ length (first.0 FRAMES) =
          subst (λ t. t ≤ length (first.0 FRAMES)) ends_end
          (out_reaches (l.begin + 12) _ (first.0 FRAMES) c.write_numbers.new.outlet ends_out (subst (λ t. l.begin + 12 < t) (sym ends_end) (words_behind l.begin n some))) in
          let slots_first = out_within _ (l.begin + 12) l.slots l.slots _ o _ _ seen first.0 told first.1 ends_call.within (ends_fit l b.len (2 ^ 62) e o reach).2 (inr (here l.slots))
          spilt.slots_out in
          let parts =
          parts_stay _ _ _ _ _ first.0 later first.1 told_later l.begin target l.slots last n (low_words l.begin (word_count n)) places.0 (before_end l.slots n last places.2) some
          slots_call.within moved.within wrote_head.within (numbers_text (words_of (ends_of width pieces))) (numbers_text (slots_of width pieces)) ends_there ends_first
          (length-numbers_text (slots_of width pieces) ∙ ap (λ k. 8 * k) (sym spilt.filled.skipped))
          (λ second told_second. slots_written l.slots (64 * m) n (slots_of width pieces) c.slots.result.now (second FRAMES) c.write_numbers-2.new.outlet (c.slots.ensures ∙ spilt.filled.slots)
          (sym spilt.filled.skipped) (two.out first.0 first.1 second told_second l.slots _ slots_first) two.empty)
          (λ second third told_second told_third longer. moved_as (second FRAMES) (third FRAMES) l.slots _ target _ n goal_at count longer (three.moved second told_second third told_third)) in
          let second = told_then slots_call.within first.1 in
          let third = told_then moved.within second.1 in
          on_ok _ _ c.write_head.result (c.write_head.ensures.there third.0 third.1 later told_later) (λ head.
          long_text width number m pieces b spilt.filled (omega arith) (later FRAMES) l.begin target c.move_down.new.outlet.at (low_words l.begin (word_count n))
          (slots_behind target n _ some at_is) at_is
          (subst (λ (bytes : List ℕ). part (later FRAMES) l.begin (l.begin + 12) ≡ bytes) (ap₂ (λ o k. little_bytes 8 o ++ little_bytes 4 k) c.occupied.ensures count) head)
          parts.0 (ap (part (later FRAMES) target) at_is ∙ parts.1));
      place = if_ok _ c.write_head.result (block_end l.begin (word_count n) n c.move_down.new.outlet.at refl at_is);
      empty = if_ok _ c.write_head.result three.empty;
      size = three.size;
      ends_size = c.write_head.ensures.size ∙ (one.size ∙ c.requires.ends_size);
      writes = λ begin end low high.
          let first = begin_first l b.len (2 ^ 62) e o reach begin low in
          let moved = moved_places l b.len (2 ^ 62) e o reach (64 * m + length c.slots-2.result.now) c.div_ceil.result count ceil in
          writes_on g.met.B.Bay.since_earlier
          (writes_on g.met.B.Bay.since_earlier
          (writes_on g.met.B.Bay.since_earlier (one.writes begin end first.0 (wrote_ends l b e o reach c.ends.result.now ends_are end high))
          (two.writes begin end first.1 (wrote_slots l b e o reach c.slots.result.now c.slots.ensures end high)))
          (three.writes begin end (low_as low c.div_ceil.result refl) (at_least moved.1 high)))
          (c.write_head.ensures.writes begin end low (at_least places.3 high));
    }
