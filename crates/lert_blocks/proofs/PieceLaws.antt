-- Pieces in ascending tails: their bounds, and the pieces of each block.
use Rattle.std.proofs.Common.{◌≡◌, ℕ, zero, suc, ◌+◌, ◌*◌, ◌/◌, ◌^◌, ◌<◌, ◌≤◌, ◌==◌, max, List, [], ◌∷◌, ◌++◌, refl, sym, ap, ap₂, ◌∙◌, inl, inr, arith, eq-eqb, ne_eqb, pow_pos}
use Rattle.std.proofs.{lemmas.Bool.{cases_eq, cond-true, cond-false}, lemmas.Grind.flat_map-append, lemmas.Nat.{div_below, le-div}, Math.Nat.{div-mul-le_self, mul-le-mul_right, div-add-mod, mod-lt}}
use Rattle.std.specs.{Prelude.flat_map, List.range_with_len}
use Rattle.lert_spec.specs.{declared.piece.Piece.Piece, Table.AscendsFrom}
use Rattle.lert_blocks.specs.Text.{quotient_of, group_of, slots_of, pieces_in}

-- ---- bounds

-- from a lesser tail on
pub ascends_from : (low least limit : ℕ) (ps : List Piece) → low ≤ least → AscendsFrom least limit ps → AscendsFrom low limit ps
ascends_from low least limit [] h up = tt
ascends_from low least limit (p ∷ ps) h up = (omega (arith, up.0), up.1, up.2, up.3)

-- below a greater limit
pub ascends_below : (least limit high : ℕ) (ps : List Piece) → limit ≤ high → AscendsFrom least limit ps → AscendsFrom least high ps
ascends_below least limit high [] h up = tt
ascends_below least limit high (p ∷ ps) h up = (up.0, omega (arith, up.1), up.2, ascends_below (p.tail + 1) limit high ps h up.3)

-- pieces behind others
pub ascends_append : (least middle limit : ℕ) (ps qs : List Piece) → least ≤ middle → middle ≤ limit → AscendsFrom least middle ps → AscendsFrom middle limit qs →
    AscendsFrom least limit (ps ++ qs)
ascends_append least middle limit [] qs low high up more = ascends_from least middle limit qs low more
ascends_append least middle limit (p ∷ ps) qs low high up more =
    (up.0, omega (arith, up.1), up.2, ascends_append (p.tail + 1) middle limit ps qs (omega (arith, up.1)) high up.3 more)

-- ---- the block of a tail

pub block_grows : (width a b : ℕ) → a ≤ b → a / 2 ^ width / 64 ≤ b / 2 ^ width / 64
block_grows width a b h =
    let wide = le-div (a / 2 ^ width) b (2 ^ width) (pow_pos width) (let under = div-mul-le_self a (2 ^ width) in omega arith) in omega arith

block_from : (width block tail : ℕ) → 64 * block * 2 ^ width ≤ tail → block ≤ tail / 2 ^ width / 64
block_from width block tail h = let wide = le-div (64 * block) tail (2 ^ width) (pow_pos width) h in omega arith

pub block_below : (width block tail : ℕ) → tail < 64 * block * 2 ^ width → tail / 2 ^ width / 64 < block
block_below width block tail h = let wide = div_below tail (2 ^ width) (64 * block) (pow_pos width) h in omega arith

pub in_block : (width block tail : ℕ) → tail / 2 ^ width / 64 ≡ block → (64 * block * 2 ^ width ≤ tail) × (tail < 64 * (block + 1) * 2 ^ width)
in_block width block tail is =
    let q = tail / 2 ^ width in
    let under = div-mul-le_self tail (2 ^ width) in
    let low = mul-le-mul_right (2 ^ width) (let few : 64 * block ≤ q = omega arith in few) in
    let high = mul-le-mul_right (2 ^ width) (let more : q + 1 ≤ 64 * (block + 1) = omega arith in more) in
    let parts = div-add-mod tail (2 ^ width) in
    let rest = mod-lt tail {m = 2 ^ width} (pow_pos width) in
    (omega arith, omega arith)

-- ---- the pieces of a block

pub pieces_in-ascend : (width block least limit : ℕ) (ps : List Piece) → AscendsFrom least limit ps →
    AscendsFrom (64 * block * 2 ^ width) (64 * (block + 1) * 2 ^ width) (pieces_in width block ps)
pieces_in-ascend width block least limit ps up =
    let low = 64 * block * 2 ^ width in
    ascends_from low (max least low) (64 * (block + 1) * 2 ^ width) (pieces_in width block ps) (omega arith) (from width block least limit ps up)
  where
    from : (width block least limit : ℕ) (ps : List Piece) → AscendsFrom least limit ps →
        AscendsFrom (max least (64 * block * 2 ^ width)) (64 * (block + 1) * 2 ^ width) (pieces_in width block ps)
    from width block least limit [] up = tt
    from width block least limit (p ∷ ps) up =
        let low = 64 * block * 2 ^ width in
        let high = 64 * (block + 1) * 2 ^ width in
        let more = from width block (p.tail + 1) limit ps up.3 in
        elim (cases_eq (quotient_of width p / 64) block) [
          | inl here ↦ (let within = in_block width block p.tail here in
              rw (eq-eqb (quotient_of width p / 64) block here)
              (omega (arith, up.0, within), within.1, up.2, ascends_from (p.tail + 1) (max (p.tail + 1) low) high (pieces_in width block ps) (omega arith) more))
          | inr elsewhere ↦ rw (ne_eqb (quotient_of width p / 64) block elsewhere)
              (ascends_from (max least low) (max (p.tail + 1) low) high (pieces_in width block ps) (omega (arith, up.0)) more)
        ]

-- none of a block before theirs
pub pieces_in-none : (width block least limit : ℕ) (ps : List Piece) → block < least / 2 ^ width / 64 → AscendsFrom least limit ps → pieces_in width block ps ≡ []
pieces_in-none width block least limit [] before up = refl
pieces_in-none width block least limit (p ∷ ps) before up =
    let here = block_grows width least p.tail up.0 in
    let later = block_grows width least (p.tail + 1) (omega (arith, up.0)) in
    cond-false (quotient_of width p / 64 == block) (p ∷ pieces_in width block ps) (pieces_in width block ps) (ne_eqb (quotient_of width p / 64) block (λ e. omega (arith, e, here)))
    ∙ pieces_in-none width block (p.tail + 1) limit ps (omega arith) up.3

-- ---- pieces are the join of those of their blocks

abbrev by_blocks : ℕ → List Piece → ℕ → ℕ → List Piece
by_blocks width ps first count = flat_map (λ block. pieces_in width block ps) (range_with_len first count)

none_by_blocks : (width first count : ℕ) → by_blocks width [] first count ≡ []
none_by_blocks width first zero = refl
none_by_blocks width first (suc count) = none_by_blocks width (first + 1) count

other_blocks : (width first count : ℕ) (p : Piece) (ps : List Piece) → quotient_of width p / 64 < first → by_blocks width (p ∷ ps) first count ≡ by_blocks width ps first count
other_blocks width first zero p ps before = refl
other_blocks width first (suc count) p ps before =
    ap₂ (λ (xs ys : List Piece). xs ++ ys)
    (cond-false (quotient_of width p / 64 == first) (p ∷ pieces_in width first ps) (pieces_in width first ps) (ne_eqb (quotient_of width p / 64) first (λ e. omega (arith, e))))
    (other_blocks width (first + 1) count p ps (omega arith))

first_piece : (width first count limit : ℕ) (p : Piece) (ps : List Piece) → first ≤ quotient_of width p / 64 → quotient_of width p / 64 < first + count →
    AscendsFrom (p.tail + 1) limit ps → by_blocks width (p ∷ ps) first count ≡ p ∷ by_blocks width ps first count
first_piece width first zero limit p ps low high up = absurd (omega arith)
first_piece width first (suc count) limit p ps low high up =
    elim (cases_eq (quotient_of width p / 64) first) [
      | inl here ↦ ap₂ (λ (xs ys : List Piece). xs ++ ys)
          (cond-true (quotient_of width p / 64 == first) (p ∷ pieces_in width first ps) (pieces_in width first ps) (eq-eqb (quotient_of width p / 64) first here))
          (other_blocks width (first + 1) count p ps (omega arith))
      | inr later ↦ (let none = pieces_in-none width first (p.tail + 1) limit ps (let grows = block_grows width p.tail (p.tail + 1) (omega arith) in omega (arith, later)) up in
          ap₂ (λ (xs ys : List Piece). xs ++ ys)
          (cond-false (quotient_of width p / 64 == first) (p ∷ pieces_in width first ps) (pieces_in width first ps) (ne_eqb (quotient_of width p / 64) first later) ∙ none)
          (first_piece width (first + 1) count limit p ps (omega (arith, later)) (omega arith) up)
          ∙ sym (ap (λ (xs : List Piece). p ∷ (xs ++ by_blocks width ps (first + 1) count)) none))
    ]

by_blocks_from : (width first count least : ℕ) (ps : List Piece) → first ≤ least / 2 ^ width / 64 → AscendsFrom least (64 * (first + count) * 2 ^ width) ps →
    by_blocks width ps first count ≡ ps
by_blocks_from width first count least [] low up = none_by_blocks width first count
by_blocks_from width first count least (p ∷ ps) low up =
    let here = block_grows width least p.tail up.0 in
    let later = block_grows width least (p.tail + 1) (omega (arith, up.0)) in
    first_piece width first count (64 * (first + count) * 2 ^ width) p ps (omega arith) (block_below width (first + count) p.tail up.1) up.3
    ∙ ap (λ (qs : List Piece). p ∷ qs) (by_blocks_from width first count (p.tail + 1) ps (omega arith) up.3)

pub pieces_by_block : (width first count : ℕ) (pieces : List Piece) → AscendsFrom (64 * first * 2 ^ width) (64 * (first + count) * 2 ^ width) pieces →
    flat_map (λ block. pieces_in width block pieces) (range_with_len first count) ≡ pieces
pieces_by_block width first count pieces up =
    by_blocks_from width first count (64 * first * 2 ^ width) pieces (block_from width first (64 * first * 2 ^ width) (omega arith)) up

flat_map-flat_map : {A B C : Type 0} (f : B → List C) (g : A → List B) (xs : List A) → flat_map f (flat_map g xs) ≡ flat_map (λ x. flat_map f (g x)) xs
flat_map-flat_map f g [] = refl
flat_map-flat_map {C = C} f g (x ∷ xs) = flat_map-append f (g x) (flat_map g xs) ∙ ap (λ (cs : List C). flat_map f (g x) ++ cs) (flat_map-flat_map f g xs)

pub slots_by_block : (width first count : ℕ) (pieces : List Piece) → AscendsFrom (64 * first * 2 ^ width) (64 * (first + count) * 2 ^ width) pieces →
    slots_of width pieces ≡ flat_map (λ block. slots_of width (pieces_in width block pieces)) (range_with_len first count)
slots_by_block width first count pieces up =
    ap (slots_of width) (sym (pieces_by_block width first count pieces up))
    ∙ flat_map-flat_map (group_of width) (λ block. pieces_in width block pieces) (range_with_len first count)
