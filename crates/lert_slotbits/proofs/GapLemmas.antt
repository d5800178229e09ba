-- A gap in a list, place by place.
use Rattle.std.proofs.Common.{◌≡◌, ℕ, ◌+◌, ◌-◌, ◌*◌, ◌/◌, ◌%◌, ◌==◌, ◌<◌, ◌≤◌, Bool, false, List, length, get_or, set, inl, inr, refl, sym, ap, ◌∙◌, arith}
use Rattle.std.proofs.lemmas.List.Edits.{length-insert, length-remove, get_or-insert_below, get_or-insert_at, get_or-insert_above, get_or-remove_below, get_or-remove_above}
use Rattle.std.proofs.{lemmas.Bool.{cases_lt, cases_eq}, lemmas.List.{ext_get_or, get_or-set_same, get_or-set_other, length-set}}
use Rattle.std.specs.{Prelude.remove, Int.bit_at}
use Rattle.lert_slotbits.specs.Bits.{gapped, row_of}
use Rattle.lert_slotbits.proofs.RowLemmas.{length_row, bit_of_row}

module _ (bits : List Bool) (from to : ℕ) (order : from ≤ to) (within : to < length bits) where
  pub length_gapped : length (gapped bits from to) ≡ length bits
  length_gapped =
      let shorter = length-remove bits to within in
      let longer = length-insert (remove bits to) from false (omega arith) in omega arith

  room : from ≤ length (remove bits to)
  room = let shorter = length-remove bits to within in omega arith

  pub gapped_below : (i : ℕ) → i < from → get_or (gapped bits from to) i false ≡ get_or bits i false
  gapped_below i h = get_or-insert_below (remove bits to) from false false i h room ∙ get_or-remove_below bits to false i (omega arith) within

  pub gapped_at : get_or (gapped bits from to) from false ≡ false
  gapped_at = get_or-insert_at (remove bits to) from false false room

  pub gapped_inside : (i : ℕ) → from < i → i ≤ to → get_or (gapped bits from to) i false ≡ get_or bits (i - 1) false
  gapped_inside i h k =
      let e : i ≡ i - 1 + 1 = omega arith in
      ap (λ n. get_or (gapped bits from to) n false) e
      ∙ get_or-insert_above (remove bits to) from false false (i - 1) (omega arith) room
      ∙ get_or-remove_below bits to false (i - 1) (omega arith) within

  pub gapped_above : (i : ℕ) → to < i → get_or (gapped bits from to) i false ≡ get_or bits i false
  gapped_above i h =
      let e : i ≡ i - 1 + 1 = omega arith in
      ap (λ n. get_or (gapped bits from to) n false) e
      ∙ get_or-insert_above (remove bits to) from false false (i - 1) (omega arith) room
      ∙ get_or-remove_above bits to false (i - 1) (omega arith) within
      ∙ ap (λ n. get_or bits n false) (sym e)

-- one word of a gap, place by place
pub record IsMovedPart (old new index from to carry : ℕ) : Type 0 where
  pub below : (i : ℕ) → i < 64 → 64 * index + i < from → bit_at new i ≡ bit_at old i
  pub at_first : (i : ℕ) → i < 64 → 64 * index + i ≡ from → bit_at new i ≡ carry
  pub carried : from < 64 * index → bit_at new 0 ≡ carry
  pub inside : (i : ℕ) → i < 64 → 0 < i → from < 64 * index + i → 64 * index + i ≤ to → bit_at new i ≡ bit_at old (i - 1)
  pub above : (i : ℕ) → i < 64 → to < 64 * index + i → bit_at new i ≡ bit_at old i

-- the bit of a word of the row
pub row_bit : (ws : List ℕ) (index i : ℕ) → i < 64 → index < length ws → get_or (row_of ws) (64 * index + i) false ≡ (bit_at (get_or ws index 0) i == 1)
row_bit ws index i h k =
    let word : (64 * index + i) / 64 ≡ index = omega arith in
    let at : (64 * index + i) % 64 ≡ i = omega arith in
    bit_of_row ws (64 * index + i) (omega arith) ∙ rw (word, at) refl

module _ (ws : List ℕ) (from to : ℕ) (order : from ≤ to) (within : to < 64 * length ws) where
  row_long : to < length (row_of ws)
  row_long = rw (length_row ws) within

  -- the bit that a moved word has is that of the gapped row
  moved_bit : (index new carry : ℕ) → index < length ws → from / 64 ≤ index → index ≤ to / 64
      → (index ≡ from / 64 → carry ≡ 0) → (from / 64 < index → carry ≡ bit_at (get_or ws (index - 1) 0) 63)
      → IsMovedPart (get_or ws index 0) new index from to carry
      → (i : ℕ) → i < 64 → (bit_at new i == 1) ≡ get_or (gapped (row_of ws) from to) (64 * index + i) false
  moved_bit index new carry inside low high first carried part i h =
      elim (cases_lt (64 * index + i) from) [
        | inl below ↦ rw (part.below i h below) (sym (gapped_below (row_of ws) from to order row_long (64 * index + i) below ∙ row_bit ws index i h inside))
        | inr not_below ↦ elim (cases_eq (64 * index + i) from) [
          | inl same ↦ (let none : carry ≡ 0 = first (omega arith) in
              rw (part.at_first i h same, none, same) (sym (gapped_at (row_of ws) from to order row_long)))
          | inr behind ↦ elim (cases_lt to (64 * index + i)) [
            | inl above ↦ rw (part.above i h above) (sym (gapped_above (row_of ws) from to order row_long (64 * index + i) above ∙ row_bit ws index i h inside))
            | inr within_gap ↦ elim (cases_eq i 0) [
              | inl start ↦ (let later : from / 64 < index = omega arith in
                  let place : 64 * index + i - 1 ≡ 64 * (index - 1) + 63 = omega arith in
                  rw (start, part.carried (omega arith), carried later)
                  (sym (gapped_inside (row_of ws) from to order row_long (64 * index + 0) (omega arith) (omega arith)
                  ∙ ap (λ n. get_or (row_of ws) n false) (let e : 64 * index + 0 - 1 ≡ 64 * (index - 1) + 63 = omega arith in e)
                  ∙ row_bit ws (index - 1) 63 (omega arith) (omega arith))))
              | inr more ↦ rw (part.inside i h (omega arith) (omega arith) (omega arith))
                  (sym (gapped_inside (row_of ws) from to order row_long (64 * index + i) (omega arith) (omega arith)
                  ∙ ap (λ n. get_or (row_of ws) n false) (let e : 64 * index + i - 1 ≡ 64 * index + (i - 1) = omega arith in e)
                  ∙ row_bit ws index (i - 1) (omega arith) inside))
            ]
          ]
        ]
      ]

  -- before the first word nothing has moved
  pub gap_starts : (i : ℕ) → i < 64 * (from / 64) → get_or (row_of ws) i false ≡ get_or (gapped (row_of ws) from to) i false
  gap_starts i h = sym (gapped_below (row_of ws) from to order row_long i (omega arith))

  -- one word more
  pub gap_goes_on : (now : List ℕ) (index new carry : ℕ) → length now ≡ length ws → index < length ws → from / 64 ≤ index → index ≤ to / 64
      → (index ≡ from / 64 → carry ≡ 0) → (from / 64 < index → carry ≡ bit_at (get_or ws (index - 1) 0) 63)
      → IsMovedPart (get_or ws index 0) new index from to carry
      → ((i : ℕ) → i < 64 * index → get_or (row_of now) i false ≡ get_or (gapped (row_of ws) from to) i false)
      → (i : ℕ) → i < 64 * (index + 1) → get_or (row_of (set now index new)) i false ≡ get_or (gapped (row_of ws) from to) i false
  gap_goes_on now index new carry long inside low high first carried part done i h =
      let at : i % 64 < 64 = omega arith in
      let all : i < 64 * length (set now index new) = rw (length-set now index new, long) (omega arith) in
      elim (cases_eq (i / 64) index) [
        | inl same ↦ (let place : 64 * index + i % 64 ≡ i = omega arith in let room : index < length now = omega arith in
            bit_of_row (set now index new) i all ∙ rw (same, get_or-set_same now index new 0 room) (moved_bit index new carry inside low high first carried part (i % 64) at)
            ∙ ap (λ n. get_or (gapped (row_of ws) from to) n false) place)
        | inr other ↦ (let old : i < 64 * length now = rw long (omega arith) in
            bit_of_row (set now index new) i all ∙ rw (get_or-set_other now index (i / 64) new 0 other) (sym (bit_of_row now i old))
            ∙ done i (omega arith))
      ]

  -- and at the end the whole row
  pub gap_ends : (now : List ℕ) → length now ≡ length ws → ((i : ℕ) → i < 64 * (to / 64 + 1) → get_or (row_of now) i false ≡ get_or (gapped (row_of ws) from to) i false)
      → ((j : ℕ) → to / 64 + 1 ≤ j → get_or now j 0 ≡ get_or ws j 0) → row_of now ≡ gapped (row_of ws) from to
  gap_ends now long done todo =
      ext_get_or false (row_of now) (gapped (row_of ws) from to) (length_row now ∙ ap (λ n. 64 * n) long ∙ sym (length_row ws) ∙ sym (length_gapped (row_of ws) from to order row_long))
      (λ i h. let within_row : i < 64 * length now = rw (length_row now) at h in
      elim (cases_lt i (64 * (to / 64 + 1))) [
        | inl less ↦ done i less
        | inr more ↦ (let old : i < 64 * length ws = rw (← long) within_row in
            bit_of_row now i within_row ∙ rw (todo (i / 64) (omega arith)) (sym (bit_of_row ws i old)) ∙ sym (gapped_above (row_of ws) from to order row_long i (omega arith)))
      ])

  -- a gap in one word
  pub gap_within : from / 64 ≡ to / 64 → (new : ℕ) → IsMovedPart (get_or ws (from / 64) 0) new (from / 64) from to 0
      → row_of (set ws (from / 64) new) ≡ gapped (row_of ws) from to
  gap_within same new part =
      let one = gap_goes_on ws (from / 64) new 0 refl (omega arith) (omega arith) (omega arith) (λ _. refl) (λ h. absurd (omega arith)) part gap_starts in
      gap_ends (set ws (from / 64) new) (length-set ws (from / 64) new) (λ i h. one i (omega arith)) (λ j h. get_or-set_other ws (from / 64) j new 0 (omega arith))
