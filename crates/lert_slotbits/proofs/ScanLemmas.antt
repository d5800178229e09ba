-- Bits of a kind in a word.
use Rattle.std.proofs.Common.{◌≡◌, ℕ, suc, zero, ◌+◌, ◌-◌, ◌*◌, ◌/◌, ◌%◌, ◌^◌, ◌<◌, ◌≤◌, ◌≢◌, Bool, true, false, cond, ◌==◌, List, length, get_or, refl, sym, ap, ◌∙◌, inl, inr, arith}
use Rattle.std.proofs.{lemmas.Bool.{cases_lt, false≢true}, lemmas.Nat.{shl_whole, shr_below, pow_pos}, lemmas.Nat.Bits.{bit_at-lt, bit_at_cat_low, bit_at_cat_high, bit_at-zero}}
use Rattle.std.specs.Int.{bit_at}
use Rattle.lert_slotbits.specs.Bits.{row_of, IsFirst}
use Rattle.lert_slotbits.proofs.{RowLemmas.length_row, GapLemmas.row_bit, WordLemmas.bit_at-div}

-- a marked bit is one of the kind
pub mark_tells : (on : Bool) (b m : ℕ) → b < 2 → m ≡ cond on b (1 - b) → m ≡ 1 → (b == 1) ≡ on
mark_tells true b m small is set = let e : b ≡ 1 = omega arith in (rw e refl)
mark_tells false b m small is set = let e : b ≡ 0 = omega arith in (rw e refl)

pub mark_told : (on : Bool) (b m : ℕ) → b < 2 → m ≡ cond on b (1 - b) → (b == 1) ≡ on → m ≡ 1
mark_told true zero m small is same = absurd (false≢true same)
mark_told true (suc zero) m small is same = is
mark_told true (suc (suc b)) m small is same = absurd (omega arith)
mark_told false zero m small is same = is
mark_told false (suc zero) m small is same = absurd (false≢true (sym same))
mark_told false (suc (suc b)) m small is same = absurd (omega arith)

-- the lowest bits are cleared
cleared_whole : (word at : ℕ) → at < 64 → word < 2 ^ 64 → word / 2 ^ at * 2 ^ at % 18446744073709551616 ≡ word / 2 ^ at * 2 ^ at + 0
cleared_whole word at narrow fits =
    let e : 64 - at + at ≡ 64 = omega arith in
    let whole = shl_whole (word / 2 ^ at) (64 - at) at 64 (shr_below word (64 - at) at (rw e fits)) (omega arith) in omega (arith, whole)

pub cleared_low : (word at i : ℕ) → at < 64 → word < 2 ^ 64 → i < at → bit_at (word / 2 ^ at * 2 ^ at % 18446744073709551616) i ≡ 0
cleared_low word at i narrow fits h = ap (λ n. bit_at n i) (cleared_whole word at narrow fits) ∙ bit_at_cat_low (word / 2 ^ at) at 0 i h ∙ bit_at-zero i

pub cleared_high : (word at i : ℕ) → at < 64 → word < 2 ^ 64 → at ≤ i → bit_at (word / 2 ^ at * 2 ^ at % 18446744073709551616) i ≡ bit_at word i
cleared_high word at i narrow fits h =
    ap (λ n. bit_at n i) (cleared_whole word at narrow fits) ∙ bit_at_cat_high (word / 2 ^ at) at 0 i (pow_pos at) h
    ∙ bit_at-div word at (i - at) ∙ ap (bit_at word) (let e : at + (i - at) ≡ i = omega arith in e)

-- the bits of a kind in a word, from a place on
pub record Marks (on : Bool) (ws : List ℕ) (from index word : ℕ) : Type 0 where
  pub here : (i : ℕ) → i < 64 → bit_at word i ≡ 1 → (from ≤ 64 * index + i) × (get_or (row_of ws) (64 * index + i) false ≡ on)
  pub only : (i : ℕ) → i < 64 → from ≤ 64 * index + i → get_or (row_of ws) (64 * index + i) false ≡ on → bit_at word i ≡ 1

pub marks_of : (on : Bool) (ws : List ℕ) (from index word : ℕ) → index < length ws → from ≤ 64 * index
    → ((i : ℕ) → i < 64 → bit_at word i ≡ cond on (bit_at (get_or ws index 0) i) (1 - bit_at (get_or ws index 0) i)) → Marks on ws from index word
marks_of on ws from index word inside low marked = record {
  here = λ i h set. (omega arith, row_bit ws index i h inside ∙ mark_tells on (bit_at (get_or ws index 0) i) (bit_at word i) (bit_at-lt (get_or ws index 0) i) (marked i h) set);
  only = λ i h behind same. mark_told on (bit_at (get_or ws index 0) i) (bit_at word i) (bit_at-lt (get_or ws index 0) i) (marked i h) (sym (row_bit ws index i h inside) ∙ same);
}

pub marks_first : (on : Bool) (ws : List ℕ) (from word first : ℕ) → from / 64 < length ws
    → ((i : ℕ) → i < 64 → bit_at word i ≡ cond on (bit_at (get_or ws (from / 64) 0) i) (1 - bit_at (get_or ws (from / 64) 0) i))
    → ((i : ℕ) → i < from % 64 → bit_at first i ≡ 0) → ((i : ℕ) → from % 64 ≤ i → i < 64 → bit_at first i ≡ bit_at word i) → Marks on ws from (from / 64) first
marks_first on ws from word first inside marked below behind =
    let all = marks_of on ws (64 * (from / 64)) (from / 64) word inside (omega arith) marked in
    record {
      here = λ i h set. elim (cases_lt i (from % 64)) [
        | inl less ↦ absurd (let none = below i less in omega arith)
        | inr more ↦ (omega arith, (all.here i h (sym (behind i more h) ∙ set)).1)
      ];
      only = λ i h at same. behind i (omega arith) h ∙ all.only i h (omega arith) same;
    }

-- none of the kind up to the next word
pub passed_word : (on : Bool) (ws : List ℕ) (from index word : ℕ) → word ≡ 0 → Marks on ws from index word
    → ((k : ℕ) → from ≤ k → k < 64 * index → get_or (row_of ws) k false ≡ on → ⊥) → (k : ℕ) → from ≤ k → k < 64 * (index + 1) → get_or (row_of ws) k false ≡ on →
    ⊥
passed_word on ws from index word none marks passed k h less same =
    elim (cases_lt k (64 * index)) [
      | inl before ↦ passed k h before same
      | inr here ↦ (let place : 64 * index + (k - 64 * index) ≡ k = omega arith in
          let set = marks.only (k - 64 * index) (omega arith) (omega arith) (rw place same) in
          let zero_bit = ap (λ w. bit_at w (k - 64 * index)) none ∙ bit_at-zero (k - 64 * index) in omega arith)
    ]

-- the lowest mark is the first of the kind
pub first_of : (on : Bool) (ws : List ℕ) (from index word low : ℕ) → index < length ws → word ≢ 0 → word < 2 ^ 64 → Marks on ws from index word
    → ((k : ℕ) → from ≤ k → k < 64 * index → get_or (row_of ws) k false ≡ on → ⊥)
    → (low < 64) × (bit_at word low ≡ 1) × ((i : ℕ) → i < low → bit_at word i ≡ 0) → IsFirst on (row_of ws) from (64 * index + low)
first_of on ws from index word low inside some fits marks passed lowest =
    let here = marks.here low lowest.0 lowest.1 in
    let narrow = lowest.0 in
    record {
      behind = here.0;
      within = rw (length_row ws) (omega arith);
      found = here.1;
      others = λ k h less same. elim (cases_lt k (64 * index)) [
        | inl before ↦ passed k h before same
        | inr at ↦ (let place : 64 * index + (k - 64 * index) ≡ k = omega arith in
            let set = marks.only (k - 64 * index) (omega arith) (omega arith) (rw place same) in
            let clear = lowest.2 (k - 64 * index) (omega arith) in omega arith)
      ];
    }
