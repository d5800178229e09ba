-- The words of run ends and the slots of a block, in parts.
use Rattle.std.proofs.Common.{◌≡◌, ℕ, ◌+◌, ◌-◌, ◌*◌, ◌<◌, ◌≤◌, Bool, List, ◌++◌, length, take, drop, get_or, sym, ap, ◌∙◌, inl, inr, arith, length-append, length-drop}
use Rattle.std.{proofs.lemmas.Bool.cases_lt, proofs.lemmas.Grind.flat_map-append}
use Rattle.std.proofs.lemmas.List.{ext_get_or, get_or_append_left, get_or-append_right, take-append-le, drop-append-le, take_at, drop-drop, drop_at, length-take-le, take-append-drop}
use Rattle.std.{proofs.lemmas.List.FromFn.{get_or-map-range_with_len, length-map-range_with_len}, proofs.Math.Seq.take-add}
use Rattle.byteorder.specs.Endian.{little_bytes}
use Rattle.lert_blocks.{specs.declared.block.Block.Block, specs.Text.{number_of_bits, word_count, words_of, numbers_text}}
use Rattle.lert_frames.{specs.declared.long.Long.Long, specs.declared.outlet.Outlet.Outlet, specs.Outlet.next_place, specs.Spilt.Reaches}

-- ---- the slots of a block in memory, and their words of run ends

pub counted_slots : (b : Block) (slots : List ℕ) → slots ≡ take b.len b.slots.items → length slots ≡ b.len
counted_slots b slots are = ap (λ (xs : List ℕ). length xs) are ∙ length-take-le b.len b.slots.items (omega (arith, b.sized.0, b.sized.2))

pub counted_ends : (b : Block) (ends : List ℕ) → ends ≡ take (word_count b.len) b.ends.items → length ends ≡ word_count b.len
counted_ends b ends are = ap (λ (xs : List ℕ). length xs) are ∙ length-take-le (word_count b.len) b.ends.items (omega (arith, b.sized.1, b.sized.2))

-- ---- words

word_at : (bits : List Bool) (r : ℕ) → r < word_count (length bits) → get_or (words_of bits) r 0 ≡ number_of_bits (take 64 (drop (64 * r) bits))
word_at bits r within = get_or-map-range_with_len (λ r. number_of_bits (take 64 (drop (64 * r) bits))) 0 (word_count (length bits)) r r 0 within (omega arith)

word_counts : (bits : List Bool) → length (words_of bits) ≡ word_count (length bits)
word_counts bits = length-map-range_with_len (λ r. number_of_bits (take 64 (drop (64 * r) bits))) 0 (word_count (length bits))

pub words_of-append : (n : ℕ) (xs ys : List Bool) → length xs ≡ 64 * n → words_of (xs ++ ys) ≡ words_of xs ++ words_of ys
words_of-append n xs ys long =
    let all = length-append xs ys in
    let count : word_count (length xs) ≡ n = omega arith in
    let both : word_count (length (xs ++ ys)) ≡ n + word_count (length ys) = omega arith in
    let first : length (words_of xs) ≡ n = word_counts xs ∙ count in
    ext_get_or 0 (words_of (xs ++ ys)) (words_of xs ++ words_of ys)
    (omega (arith, word_counts (xs ++ ys), word_counts ys, length-append (words_of xs) (words_of ys)))
    (λ r below.
    let within : r < word_count (length (xs ++ ys)) = omega (arith, word_counts (xs ++ ys)) in
    word_at (xs ++ ys) r within
    ∙ elim (cases_lt r n) [
      | inl here ↦
          ap (λ (bs : List Bool). number_of_bits (take 64 bs)) (drop-append-le (64 * r) xs ys (omega arith))
          ∙ ap number_of_bits (take-append-le 64 (drop (64 * r) xs) ys (omega (arith, length-drop (64 * r) xs)))
          ∙ sym (get_or_append_left (words_of xs) (words_of ys) 0 r (omega (arith, first)) ∙ word_at xs r (omega arith))
      | inr behind ↦
          let split : 64 * r ≡ 64 * n + 64 * (r - n) = omega arith in
          ap (λ k. number_of_bits (take 64 (drop k (xs ++ ys)))) split
          ∙ ap (λ (bs : List Bool). number_of_bits (take 64 bs))
          (sym (drop-drop (64 * (r - n)) (64 * n) (xs ++ ys)) ∙ ap (drop (64 * (r - n))) (drop_at xs ys (64 * n) long))
          ∙ sym (get_or-append_right (words_of xs) (words_of ys) n r 0 first behind ∙ word_at ys (r - n) (omega arith))
    ])

pub words_of-take : (n : ℕ) (bits : List Bool) → 64 * n ≤ length bits → words_of (take (64 * n) bits) ≡ take n (words_of bits)
words_of-take n bits within =
    let front = take (64 * n) bits in
    let long : length front ≡ 64 * n = length-take-le (64 * n) bits within in
    let count : length (words_of front) ≡ n = word_counts front ∙ omega arith in
    sym (ap (λ (bs : List Bool). take n (words_of bs)) (sym (take-append-drop (64 * n) bits))
    ∙ ap (take n) (words_of-append n front (drop (64 * n) bits) long)
    ∙ take_at (words_of front) (words_of (drop (64 * n) bits)) n count)

pub numbers_text-append : (xs ys : List ℕ) → numbers_text (xs ++ ys) ≡ numbers_text xs ++ numbers_text ys
numbers_text-append xs ys = flat_map-append (little_bytes 8) xs ys

-- ---- more of them

pub ends_more : (m k : ℕ) (bits : List Bool) (words : List ℕ) → 64 * (m + k) ≤ length bits → words ≡ words_of (drop (64 * m) bits) →
    numbers_text (words_of (take (64 * m) bits)) ++ numbers_text (take k words) ≡ numbers_text (words_of (take (64 * (m + k)) bits))
ends_more m k bits words within are =
    let sum : 64 * (m + k) ≡ 64 * m + 64 * k = omega arith in
    let left : 64 * k ≤ length (drop (64 * m) bits) = omega (arith, length-drop (64 * m) bits) in
    sym (numbers_text-append (words_of (take (64 * m) bits)) (take k words))
    ∙ ap (λ (ns : List ℕ). numbers_text (words_of (take (64 * m) bits) ++ ns)) (ap (take k) are ∙ sym (words_of-take k (drop (64 * m) bits) left))
    ∙ ap numbers_text (sym (words_of-append m (take (64 * m) bits) (take (64 * k) (drop (64 * m) bits)) (length-take-le (64 * m) bits (omega arith)))
    ∙ ap words_of (sym (ap (λ n. take n bits) sum ∙ take-add (64 * m) (64 * k) bits)))

-- and the rest of them
pub ends_rest : (m : ℕ) (bits : List Bool) (words : List ℕ) → 64 * m ≤ length bits → words ≡ words_of (drop (64 * m) bits) →
    numbers_text (words_of (take (64 * m) bits)) ++ numbers_text words ≡ numbers_text (words_of bits)
ends_rest m bits words within are =
    sym (numbers_text-append (words_of (take (64 * m) bits)) words)
    ∙ ap (λ (ns : List ℕ). numbers_text (words_of (take (64 * m) bits) ++ ns)) are
    ∙ ap numbers_text (sym (words_of-append m (take (64 * m) bits) (drop (64 * m) bits) (length-take-le (64 * m) bits within)) ∙ ap words_of (take-append-drop (64 * m) bits))

pub slots_more : (n k : ℕ) (all slots : List ℕ) → slots ≡ drop n all → numbers_text (take n all) ++ numbers_text (take k slots) ≡ numbers_text (take (n + k) all)
slots_more n k all slots are =
    sym (numbers_text-append (take n all) (take k slots))
    ∙ ap numbers_text (ap (λ (ns : List ℕ). take n all ++ take k ns) are ∙ sym (take-add n k all))

pub slots_rest : (n : ℕ) (all slots : List ℕ) → slots ≡ drop n all → numbers_text (take n all) ++ numbers_text slots ≡ numbers_text all
slots_rest n all slots are =
    sym (numbers_text-append (take n all) slots) ∙ ap numbers_text (ap (λ (ns : List ℕ). take n all ++ ns) are ∙ take-append-drop n all)

-- ---- places

-- writes go on
pub reaches_on : (l : Long) (slots end : ℕ) (e o later_e later_o : Outlet) → e.at ≤ later_e.at → next_place later_e ≡ next_place e → o.at ≤ later_o.at → next_place later_o ≡ next_place o →
    Reaches l slots end e o → Reaches l slots end later_e later_o
reaches_on l slots end e o later_e later_o ends_at ends_is at is reach = record {
  ends_at = omega (arith, reach.ends_at, ends_at);
  ends_next = ends_is ∙ reach.ends_next;
  words_fit = omega (arith, reach.words_fit, ends_is);
  slots_at = omega (arith, reach.slots_at, at);
  slots_next = is ∙ reach.slots_next;
  slots_fit = omega (arith, reach.slots_fit, is);
}

-- so many words more are out, with their slots
pub reaches_more : (l : Long) (slots end go len left : ℕ) (e o later_e later_o : Outlet) → len ≤ slots → left + 64 * go ≡ len →
    e.at ≤ later_e.at → next_place later_e ≡ next_place e + 8 * go → o.at ≤ later_o.at → next_place later_o ≡ next_place o + 8 * (64 * go) →
    Reaches l slots end e o → Reaches (record { begin = l.begin; slots = l.slots; words = l.words + go }) (slots - (len - left)) end later_e later_o
reaches_more l slots end go len left e o later_e later_o few sum ends_at ends_is at is reach =
    let gone : len - left ≡ 64 * go = omega (arith, sum) in
    record {
      ends_at = omega (arith, reach.ends_at, ends_at);
      ends_next = omega (arith, ends_is, reach.ends_next);
      words_fit = omega (arith, reach.words_fit, ends_is, gone, few, sum);
      slots_at = omega (arith, reach.slots_at, at);
      slots_next = omega (arith, is, reach.slots_next);
      slots_fit = omega (arith, reach.slots_fit, is, gone, few, sum);
    }

-- the places of a long block in their order
module _ (l : Long) (slots end : ℕ) (e o : Outlet) (reach : Reaches l slots end e o) where
  pub begin_first : (begin : ℕ) → begin ≤ l.begin → (begin ≤ e.at) × (begin ≤ o.at)
  begin_first begin low = (omega (arith, reach.ends_at, low), omega (arith, reach.ends_at, reach.ends_next, reach.words_fit, reach.slots_at, low))

  pub ends_last : (high : ℕ) → next_place o ≤ high → next_place e ≤ high
  ends_last high within = omega (arith, reach.words_fit, reach.slots_next, within)

  -- the words end before the slots begin
  pub ends_fit : (next_place e ≤ l.slots) × (e.at ≤ l.slots) × (l.begin + 12 ≤ l.slots) × (l.slots ≤ next_place o)
  ends_fit = (omega (arith, reach.words_fit), omega (arith, reach.words_fit), omega (arith, reach.words_fit, reach.ends_at), omega (arith, reach.slots_at))

  -- what a block still has goes behind them
  pub words_end : (n : ℕ) → n ≡ word_count slots → next_place e + 8 * n ≤ l.slots
  words_end n is = omega (arith, reach.words_fit, is)

  pub all_end : (n : ℕ) → n ≡ word_count slots → (high : ℕ) → next_place o + 8 * slots ≤ high → next_place e + 8 * n ≤ high
  all_end n is high within = omega (arith, reach.words_fit, reach.slots_at, is, within)

  -- and the slots are moved down
  pub moved_places : (count words : ℕ) → count ≡ 64 * l.words + slots → words ≡ word_count count →
      (l.begin + 12 + 8 * words ≤ l.slots) × (l.begin + 12 + 8 * words + 8 * count ≤ next_place o + 8 * slots) ×
      (l.slots + 8 * count ≡ next_place o + 8 * slots) × (l.begin + 12 ≤ next_place o + 8 * slots)
  moved_places count words count_is words_is = (
    omega (arith, reach.words_fit, reach.ends_next, count_is, words_is),
    omega (arith, reach.words_fit, reach.ends_next, reach.slots_next, count_is, words_is),
    omega (arith, reach.slots_next, count_is),
    omega (arith, reach.words_fit, reach.ends_next, reach.slots_next),
  )
