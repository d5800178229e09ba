-- Blocks with one piece more.
use Rattle.std.proofs.Common.{◌≡◌, ◌≢◌, ℕ, suc, ◌+◌, ◌-◌, ◌*◌, ◌/◌, ◌%◌, ◌^◌, ◌<◌, ◌≤◌, Bool, true, false, cond, not, ◌==◌, ◌||◌, ◌⊎◌, List, [], ◌∷◌, ◌++◌, length, drop, get_or, set, replicate}
use Rattle.std.proofs.Common.{refl, sym, ap, ◌∙◌, inl, inr, arith}
use Rattle.std.specs.List.{list_any}
use Rattle.std.specs.Int.{bit_at}
use Rattle.std.proofs.lemmas.Bool.{cases_eq, or_left, or_right, or_from}
use Rattle.std.proofs.lemmas.Bool.Decides.{nat_tests}
use Rattle.std.proofs.lemmas.Grind.{flat_map-append}
use Rattle.std.proofs.lemmas.List.{append-nil, append_assoc, drop-append-le, ext_get_or, length-append, length-drop, length-replicate, replicate-append-replicate, set_at}
use Rattle.std.proofs.lemmas.List.Folds.{list_any-append}
use Rattle.std.proofs.lemmas.List.FromFn.{length-map-range_with_len, get_or-map-range_with_len}
use Rattle.std.proofs.lemmas.Nat.{div_below, pow_pos}
use Rattle.std.proofs.Math.Nat.{mul-le-mul_left}
use Rattle.lert_counter.proofs.GroupLemmas.{length_group-positive}
use Rattle.lert_counter.proofs.Widths.{width_least}
use Rattle.lert_slotbits.specs.Bits.{word_bits}
use Rattle.lert_slotbits.proofs.RowLemmas.{bit_of_word, length_word_bits}
use Rattle.lert_spec.specs.declared.piece.Piece.{Piece}
use Rattle.lert_spec.specs.Table.{AscendsFrom}
use Rattle.lert_blocks.specs.Text.{quotient_of, group_of, slots_of, is_last, ends_of, occupied_of}

-- ---- slots

pub slots_of-push : (width : ℕ) (ps : List Piece) (p : Piece) → slots_of width (ps ++ p ∷ []) ≡ slots_of width ps ++ group_of width p
slots_of-push width ps p = flat_map-append (group_of width) ps (p ∷ []) ∙ ap (λ (t : List ℕ). slots_of width ps ++ t) (append-nil (group_of width p))

-- ---- run ends

-- those before the last slot of a piece
abbrev pub ends_before : ℕ → List Piece → Piece → List Bool
ends_before width [] p = replicate (length (group_of width p) - 1) false
ends_before width (q ∷ qs) p = replicate (length (group_of width q) - 1) false ++ is_last width q (qs ++ p ∷ []) ∷ ends_before width qs p

is_last_kept : (width : ℕ) (q : Piece) (qs : List Piece) (p : Piece) (rest : List Piece) → is_last width q (qs ++ p ∷ rest) ≡ is_last width q (qs ++ p ∷ [])
is_last_kept width q [] p rest = refl
is_last_kept width q (r ∷ rs) p rest = refl

pub ends_of-split : (width : ℕ) (qs : List Piece) (p : Piece) (rest : List Piece) → ends_of width (qs ++ p ∷ rest) ≡ ends_before width qs p ++ is_last width p rest ∷ ends_of width rest
ends_of-split width [] p rest = refl
ends_of-split width (q ∷ qs) p rest =
    let front = replicate (length (group_of width q) - 1) false in
    ap (λ b. front ++ b ∷ ends_of width (qs ++ p ∷ rest)) (is_last_kept width q qs p rest)
    ∙ ap (λ (bs : List Bool). front ++ is_last width q (qs ++ p ∷ []) ∷ bs) (ends_of-split width qs p rest)
    ∙ sym (append_assoc front (is_last width q (qs ++ p ∷ []) ∷ ends_before width qs p) (is_last width p rest ∷ ends_of width rest))

-- the last slot of pieces ends a run
pub ends_of-push : (width : ℕ) (qs : List Piece) (p : Piece) → ends_of width (qs ++ p ∷ []) ≡ ends_before width qs p ++ true ∷ []
ends_of-push width qs p = ends_of-split width qs p []

-- and no more, where a piece of the same quotient comes behind it
pub ends_of-push_two : (width : ℕ) (qs : List Piece) (q p : Piece) → ends_of width ((qs ++ q ∷ []) ++ p ∷ [])
    ≡ ends_before width qs q ++ not (quotient_of width p == quotient_of width q) ∷ (replicate (length (group_of width p) - 1) false ++ true ∷ [])
ends_of-push_two width qs q p = ap (ends_of width) (append_assoc qs (q ∷ []) (p ∷ [])) ∙ ends_of-split width qs q (p ∷ [])

pub length_ends : (width least limit : ℕ) (ps : List Piece) → AscendsFrom least limit ps → length (ends_of width ps) ≡ length (slots_of width ps)
length_ends width least limit [] t = refl
length_ends width least limit (p ∷ ps) t =
    let g = group_of width p in
    let some : 0 < length g = length_group-positive width (p.tail % 2 ^ width) p.count t.2 in
    omega (
      arith,
      length-append (replicate (length g - 1) false) (is_last width p ps ∷ ends_of width ps),
      length-replicate (length g - 1) false,
      length-append g (slots_of width ps),
      length_ends width (p.tail + 1) limit ps t.3,
    )

-- ---- the same in the bits of a row

-- a group's last slot is marked behind other bits
marked_behind : (bits : List Bool) (len g room at : ℕ) → length bits ≡ len → 0 < g → len + g ≤ room → at ≡ len + g - 1
    → set (bits ++ replicate (room - len) false) at true ≡ (bits ++ (replicate (g - 1) false ++ true ∷ [])) ++ replicate (room - (len + g)) false
marked_behind bits len g room at long some within at_is =
    let front = replicate (g - 1) false in
    let back = replicate (room - (len + g)) false in
    let count : g - 1 + suc (room - (len + g)) ≡ room - len = omega arith in
    let split : replicate (room - len) false ≡ front ++ false ∷ back =
    ap (λ n. replicate n false) (sym count) ∙ sym (replicate-append-replicate (g - 1) (suc (room - (len + g))) false) in
    let place : length (bits ++ front) ≡ at = omega (arith, length-append bits front, length-replicate (g - 1) false) in
    ap (λ (bs : List Bool). set (bits ++ bs) at true) split
    ∙ ap (λ (bs : List Bool). set bs at true) (sym (append_assoc bits front (false ∷ back)))
    ∙ set_at (bits ++ front) false back true at place
    ∙ sym (append_assoc (bits ++ front) (true ∷ []) back)
    ∙ ap (λ (bs : List Bool). bs ++ back) (append_assoc bits front (true ∷ []))

-- the mark before it is taken off
taken_off : (bits back : List Bool) (same : Bool) (at : ℕ) → length bits ≡ at → cond same (set (bits ++ true ∷ back) at false) (bits ++ true ∷ back) ≡ bits ++ not same ∷ back
taken_off bits back true at long = set_at bits true back false at long
taken_off bits back false at long = refl

-- a list is empty, or has a last item
pub last_of : {X : Type 0} (xs : List X) → (xs ≡ []) ⊎ ((front : List X) × (last : X) × (xs ≡ front ++ last ∷ []))
last_of [] = inl refl
last_of (x ∷ xs) = elim (last_of xs) [
  | inl none ↦ inr ([], x, ap (λ (t : List _). x ∷ t) none)
  | inr (front, last, is) ↦ inr (x ∷ front, last, ap (λ (t : List _). x ∷ t) is)
]

-- the row of a block whose pieces get one more
module _ (width skip len room : ℕ) (p : Piece) (row : List Bool) (same : Bool) (some : 0 < length (group_of width p)) (within : len + length (group_of width p) ≤ room) where
  pub put_row_first : row ≡ drop skip [] ++ replicate (room - len) false → skip + len ≡ 0 → same ≡ false
      → set (cond same (set row (len - 1) false) row) (len + length (group_of width p) - 1) true
      ≡ drop skip (ends_of width (p ∷ [])) ++ replicate (room - (len + length (group_of width p))) false
  put_row_first row_is empty apart =
      let none : skip ≡ 0 = omega arith in
      rw (apart, row_is, none) (marked_behind [] len (length (group_of width p)) room _ (omega arith) some within refl)

  pub put_row_more : (qs : List Piece) (q : Piece) → row ≡ drop skip (ends_of width (qs ++ q ∷ [])) ++ replicate (room - len) false
      → skip + len ≡ length (ends_of width (qs ++ q ∷ [])) → 0 < len → same ≡ (quotient_of width p == quotient_of width q)
      → set (cond same (set row (len - 1) false) row) (len + length (group_of width p) - 1) true
      ≡ drop skip (ends_of width ((qs ++ q ∷ []) ++ p ∷ [])) ++ replicate (room - (len + length (group_of width p))) false
  put_row_more qs q row_is whole behind same_is =
      let g = length (group_of width p) in
      let front = drop skip (ends_before width qs q) in
      let back = replicate (room - len) false in
      let all : skip + len ≡ length (ends_before width qs q) + 1 =
      omega (arith, ap length (ends_of-push width qs q), length-append (ends_before width qs q) (true ∷ [])) in
      let long : length front ≡ len - 1 = simp length-drop (omega arith) in
      let cut : (bs : List Bool) → drop skip (ends_before width qs q ++ bs) ≡ front ++ bs = λ bs. drop-append-le skip (ends_before width qs q) bs (omega arith) in
      let is : row ≡ front ++ true ∷ back =
      row_is ∙ ap (λ (bs : List Bool). drop skip bs ++ back) (ends_of-push width qs q) ∙ ap (λ (bs : List Bool). bs ++ back) (cut (true ∷ [])) ∙ append_assoc front (true ∷ []) back in
      let first : cond same (set row (len - 1) false) row ≡ (front ++ not same ∷ []) ++ back =
      ap (λ (bs : List Bool). cond same (set bs (len - 1) false) bs) is ∙ taken_off front back same (len - 1) long ∙ sym (append_assoc front (not same ∷ []) back) in
      let here : length (front ++ not same ∷ []) ≡ len = omega (arith, length-append front (not same ∷ [])) in
      ap (λ (bs : List Bool). set bs (len + g - 1) true) first
      ∙ marked_behind (front ++ not same ∷ []) len g room _ here some within refl
      ∙ ap (λ (bs : List Bool). bs ++ replicate (room - (len + g)) false)
      (append_assoc front (not same ∷ []) (replicate (g - 1) false ++ true ∷ [])
      ∙ ap (λ b. front ++ not b ∷ (replicate (g - 1) false ++ true ∷ [])) same_is
      ∙ sym (cut (not (quotient_of width p == quotient_of width q) ∷ (replicate (g - 1) false ++ true ∷ [])))
      ∙ ap (drop skip) (sym (ends_of-push_two width qs q p)))

-- ---- quotients

pub occupied_at : (width block i : ℕ) (ps : List Piece) → i < 64 → get_or (occupied_of width block ps) i false ≡ list_any (λ p. quotient_of width p == 64 * block + i) ps
occupied_at width block i ps h = get_or-map-range_with_len (λ k. list_any (λ p. quotient_of width p == 64 * block + k) ps) 0 64 i i false h (omega arith)

pub length_occupied : (width block : ℕ) (ps : List Piece) → length (occupied_of width block ps) ≡ 64
length_occupied width block ps = length-map-range_with_len (λ k. list_any (λ p. quotient_of width p == 64 * block + k) ps) 0 64

-- a word whose bits are these quotients
pub occupied_by : (width block word : ℕ) (ps : List Piece) → ((i : ℕ) → i < 64 → (bit_at word i == 1) ≡ list_any (λ p. quotient_of width p == 64 * block + i) ps)
    → word_bits word ≡ occupied_of width block ps
occupied_by width block word ps same =
    ext_get_or false (word_bits word) (occupied_of width block ps) (length_word_bits word ∙ sym (length_occupied width block ps))
    (λ i h. let within : i < 64 = rw (length_word_bits word) at h in
    bit_of_word word i within ∙ same i within ∙ sym (occupied_at width block i ps within))

pub occupied_none : (width block : ℕ) → word_bits 0 ≡ occupied_of width block []
unfolding word_bits
occupied_none width block = refl

-- one quotient more
pub occupied_more : (width block word more : ℕ) (ps : List Piece) (p : Piece) → word_bits word ≡ occupied_of width block ps → quotient_of width p / 64 ≡ block
    → bit_at more (quotient_of width p % 64) ≡ 1 → ((i : ℕ) → i ≢ quotient_of width p % 64 → bit_at more i ≡ bit_at word i)
    → word_bits more ≡ occupied_of width block (ps ++ p ∷ [])
occupied_more width block word more ps p was inside here others =
    occupied_by width block more (ps ++ p ∷ []) (λ i h.
    let test : Piece → Bool = λ q. quotient_of width q == 64 * block + i in
    let before : (bit_at word i == 1) ≡ list_any test ps =
    sym (bit_of_word word i h) ∙ ap (λ (bs : List Bool). get_or bs i false) was ∙ occupied_at width block i ps h in
    elim (cases_eq i (quotient_of width p % 64)) [
      | inl same ↦ (let is : test p ≡ true = grind (arith, nat_tests) in
          ap (λ k. bit_at more k == 1) same ∙ ap (λ b. b == 1) here
          ∙ sym (list_any-append test ps (p ∷ []) ∙ or_right (list_any test ps) (test p || false) (or_left (test p) false is)))
      | inr apart ↦ (let is : test p ≡ false = grind (arith, nat_tests) in
          ap (λ b. b == 1) (others i apart) ∙ before
          ∙ sym (list_any-append test ps (p ∷ []) ∙ ap (λ b. list_any test ps || b) (or_from (test p) false is refl) ∙ or_false (list_any test ps)))
    ])
  where
    or_false : (b : Bool) → (b || false) ≡ b
    or_false true = refl
    or_false false = refl

-- a quotient has at most 56 bits
pub quotient_small : (width : ℕ) (p : Piece) → 8 ≤ width → p.tail < 2 ^ 64 → quotient_of width p < 2 ^ 56
quotient_small width p narrow fits =
    let wide = width_least width narrow in
    let reach : 2 ^ 56 * 256 ≤ 2 ^ 56 * 2 ^ width = mul-le-mul_left (2 ^ 56) wide in
    div_below p.tail (2 ^ width) (2 ^ 56) (pow_pos width) (omega arith)
