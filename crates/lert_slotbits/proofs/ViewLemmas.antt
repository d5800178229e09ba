-- The bits of a row that are shown: the first so many of its words'.
use Rattle.std.proofs.Common.{◌≡◌, ℕ, suc, zero, ◌+◌, ◌*◌, ◌/◌, ◌<◌, ◌≤◌, Bool, true, false, not, List, ◌∷◌, ◌++◌, length, take, drop, get_or, set, replicate}
use Rattle.std.proofs.Common.{refl, sym, ap, ◌∙◌, arith, Some, slice_get}
use Rattle.std.proofs.lemmas.List.{length-take-le, take-append-drop, take_at, take-replicate, replicate-append-replicate, set-append_left, take-take, get_or-take, length-set}
use Rattle.std.proofs.lemmas.List.Edits.{insert-append_left, remove-append_left, length-remove}
use Rattle.std.proofs.lemmas.Option.{slice_get-get_or}
use Rattle.std.specs.Prelude.{insert, remove}
use Rattle.lert_slotbits.specs.Bits.{bits_in, word_bits, row_of, gapped, trues, IsFirst}
use Rattle.lert_slotbits.proofs.RowLemmas.{length_row}
use Rattle.lert_slotbits.proofs.GapLemmas.{length_gapped}
use Rattle.lert_slotbits.proofs.CountLemmas.{trues_take_grows, trues_set_more}

pub long_enough : (ws : List ℕ) (len : ℕ) → length ws ≡ len / 64 + 1 → len < length (row_of ws)
long_enough ws len h = let long = length_row ws in omega arith

pub length_view : (ws : List ℕ) (len : ℕ) → length ws ≡ len / 64 + 1 → length (take len (row_of ws)) ≡ len
length_view ws len h = length-take-le len (row_of ws) (let long = long_enough ws len h in omega arith)

-- a row of zeros
clear_bits : (d : ℕ) → bits_in d 0 ≡ replicate d false
clear_bits zero = refl
clear_bits (suc d) = ap (λ (bs : List Bool). false ∷ bs) (clear_bits d)

clear_word : word_bits 0 ≡ replicate 64 false
unfolding word_bits
clear_word = clear_bits 64

clear_row : (n : ℕ) → row_of (replicate n 0) ≡ replicate (64 * n) false
clear_row zero = refl
clear_row (suc n) =
    let e : 64 * suc n ≡ 64 + 64 * n = omega arith in
    rw (e, clear_word, clear_row n) (replicate-append-replicate 64 (64 * n) false)

pub clear_view : (len : ℕ) → take len (row_of (replicate (len / 64 + 1) 0)) ≡ replicate len false
clear_view len = ap (take len) (clear_row (len / 64 + 1)) ∙ take-replicate len (64 * (len / 64 + 1)) false (omega arith)

-- a bit written below the end
pub take-set_below : (len i : ℕ) (bits : List Bool) (on : Bool) → i < len → len ≤ length bits → take len (set bits i on) ≡ set (take len bits) i on
take-set_below len i bits on h k =
    let long = length-take-le len bits k in
    ap (λ (bs : List Bool). take len (set bs i on)) (sym (take-append-drop len bits))
    ∙ ap (take len) (set-append_left (take len bits) (drop len bits) i on (omega arith))
    ∙ take_at (set (take len bits) i on) (drop len bits) len (length-set (take len bits) i on ∙ long)

-- a gap below the end
gapped-append : (xs ys : List Bool) (from to : ℕ) → from ≤ to → to < length xs → gapped (xs ++ ys) from to ≡ gapped xs from to ++ ys
gapped-append xs ys from to order within =
    ap (λ (bs : List Bool). insert bs from false) (remove-append_left xs ys to within)
    ∙ insert-append_left (remove xs to) ys from false (let shorter = length-remove xs to within in omega arith)

pub take-gapped : (len from to : ℕ) (bits : List Bool) → from ≤ to → to < len → len ≤ length bits → take len (gapped bits from to) ≡ gapped (take len bits) from to
take-gapped len from to bits order within long =
    let all = length-take-le len bits long in
    ap (λ (bs : List Bool). take len (gapped bs from to)) (sym (take-append-drop len bits))
    ∙ ap (take len) (gapped-append (take len bits) (drop len bits) from to order (omega arith))
    ∙ take_at (gapped (take len bits) from to) (drop len bits) len (length_gapped (take len bits) from to order (omega arith) ∙ all)

-- a place that was selected below the end
pub selected : (len place k : ℕ) (bits : List Bool) → place < len → len ≤ length bits → get_or bits place false ≡ true → trues (take place bits) ≡ k
    → (slice_get (take len bits) place ≡ Some true) × (trues (take place (take len bits)) ≡ k) × (k < trues (take len bits))
selected len place k bits h long set counts =
    let all = length-take-le len bits long in
    let grows = trues_take_grows bits (place + 1) len (omega arith) in
    let more = trues_set_more bits place (omega arith) set in (
      slice_get-get_or (take len bits) place false (omega arith) ∙ ap Some (get_or-take len bits place false h ∙ set),
      ap trues (take-take place len bits (omega arith)) ∙ counts,
      omega arith,
    )

is_other : (on b : Bool) → (b ≡ on → ⊥) → b ≡ not on
is_other true true apart = absurd (apart refl)
is_other true false apart = refl
is_other false true apart = refl
is_other false false apart = absurd (apart refl)

-- the first bit of a kind, where it is below the end
pub first_shown : (on : Bool) (bits : List Bool) (len from place : ℕ) → IsFirst on bits from place → place < len → len ≤ length bits → IsFirst on (take len bits) from place
first_shown on bits len from place first low long = record {
  behind = first.behind;
  within = omega (arith, length-take-le len bits long, low);
  found = get_or-take len bits place false low ∙ first.found;
  others = λ k after before is. first.others k after before (sym (get_or-take len bits k false (omega (arith, before, low))) ∙ is);
}

-- and none of it is shown, where it is not
pub none_shown : (on : Bool) (bits : List Bool) (len from end : ℕ) → ((k : ℕ) → from ≤ k → k < end → get_or bits k false ≡ on → ⊥) → len ≤ end → len ≤ length bits →
    (k : ℕ) → from ≤ k → k < length (take len bits) → get_or (take len bits) k false ≡ not on
none_shown on bits len from end none far long k after within =
    let low : k < len = omega (arith, within, length-take-le len bits long) in
    is_other on (get_or (take len bits) k false) (λ is. none k after (omega (arith, low, far)) (sym (get_or-take len bits k false low) ∙ is))
