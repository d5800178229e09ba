-- Pieces block by block.
use Rattle.std.proofs.Common.{◌≡◌, ℕ, suc, zero, ◌+◌, ◌*◌, ◌/◌, ◌^◌, ◌<◌, ◌≤◌, ◌⊎◌, ◌==◌, cond, List, [], ◌∷◌, ◌++◌, drop, refl, ap, ap₂, ◌∙◌, subst}
use Rattle.std.proofs.Common.{inl, inr, arith, append-nil, eq-eqb, ne_eqb, pow_pos}
use Rattle.std.proofs.lemmas.Bool.{cases_lt, cases_Bool}
use Rattle.std.proofs.lemmas.List.Concat.{flat_map-append}
use Rattle.std.proofs.lemmas.List.Elements.{filter-append}
use Rattle.std.proofs.lemmas.Nat.{div_below, le-div}
use Rattle.lert_spec.specs.declared.piece.Piece.{Piece}
use Rattle.lert_spec.specs.Table.{AscendsFrom}
use Rattle.lert_blocks.specs.Text.{quotient_of, group_of, slots_of, is_last, pieces_in, block_text, blocks_text}
use Rattle.lert_blocks.proofs.RunLaws.{runs, Rises, rises_to, run_goes_on}

-- ---- pieces below a tail, and those from it on

pub record Split (low middle limit : ℕ) (pieces : List Piece) : Type 0 where
  pub front : List Piece
  pub back : List Piece
  pub whole : pieces ≡ front ++ back
  pub first : AscendsFrom low middle front
  pub second : AscendsFrom middle limit back

pub split_at : (low middle limit : ℕ) (pieces : List Piece) → low ≤ middle → AscendsFrom low limit pieces → Split low middle limit pieces
split_at low middle limit [] order up = record { front = []; back = []; whole = refl; first = tt; second = tt }
split_at low middle limit (p ∷ ps) order up = elim (cases_lt p.tail middle) [
  | inl less ↦ (let rest = split_at (p.tail + 1) middle limit ps (omega (arith, less)) up.3 in
      record { front = p ∷ rest.front; back = rest.back; whole = ap (λ (qs : List Piece). p ∷ qs) rest.whole; first = (up.0, less, up.2, rest.first); second = rest.second })
  | inr more ↦ record { front = []; back = p ∷ ps; whole = refl; first = tt; second = (more, up.1, up.2, up.3) }
]

-- ---- pieces of some blocks

abbrev pub InBlocks : ℕ → ℕ → ℕ → List Piece → Type 0
InBlocks width low high [] = Unit {0}
InBlocks width low high (p ∷ ps) = (low ≤ quotient_of width p / 64) × (quotient_of width p / 64 < high) × InBlocks width low high ps

pub in_blocks : (width low high least limit : ℕ) (ps : List Piece) → 64 * low * 2 ^ width ≤ least → limit ≤ 64 * high * 2 ^ width → AscendsFrom least limit ps → InBlocks width low high ps
in_blocks width low high least limit [] under over up = tt
in_blocks width low high least limit (p ∷ ps) under over up =
    let above : 64 * low ≤ quotient_of width p = le-div (64 * low) p.tail (2 ^ width) (pow_pos width) (omega (arith, under, up.0)) in
    let below : quotient_of width p < 64 * high = div_below p.tail (2 ^ width) (64 * high) (pow_pos width) (omega (arith, over, up.1)) in
    (omega (arith, above), omega (arith, below), in_blocks width low high (p.tail + 1) limit ps (omega (arith, under, up.0)) over up.3)

-- those whose runs are of these blocks
pub in_blocks_of_runs : (width low high : ℕ) (ps : List Piece) → Rises (64 * low) (64 * high) (runs width ps) → InBlocks width low high ps
in_blocks_of_runs width low high [] rise = tt
in_blocks_of_runs width low high (p ∷ ps) rise = (
  omega (arith, rise.0),
  omega (arith, rise.1),
  in_blocks_of_runs width low high ps (elim (cases_Bool (is_last width p ps)) [
    | inl last ↦ rises_to (64 * low) (quotient_of width p + 1) (64 * high) (64 * high) (runs width ps) (omega (arith, rise.0)) (omega arith)
        (subst (λ b. Rises (quotient_of width p + 1) (64 * high) (cond b (runs width ps) (drop 1 (runs width ps)))) last rise.2)
    | inr on ↦ subst (λ (qs : List ℕ). Rises (64 * low) (64 * high) qs) (run_goes_on width p ps on)
        (rise.0, rise.1, subst (λ b. Rises (quotient_of width p + 1) (64 * high) (cond b (runs width ps) (drop 1 (runs width ps)))) on rise.2)
  ]),
)

pub in_blocks_wide : (width low more least high : ℕ) (ps : List Piece) → low ≤ more → least ≤ high → InBlocks width more least ps → InBlocks width low high ps
in_blocks_wide width low more least high [] under over are = tt
in_blocks_wide width low more least high (p ∷ ps) under over are = (omega (arith, under, are.0), omega (arith, over, are.1), in_blocks_wide width low more least high ps under over are.2)

pub in_blocks-append : (width low high : ℕ) (front back : List Piece) → InBlocks width low high front → InBlocks width low high back → InBlocks width low high (front ++ back)
in_blocks-append width low high [] back first second = second
in_blocks-append width low high (p ∷ front) back first second = (first.0, first.1, in_blocks-append width low high front back first.2 second)

-- all of one block, or none of another
pieces_in-all : (width block : ℕ) (ps : List Piece) → InBlocks width block (suc block) ps → pieces_in width block ps ≡ ps
pieces_in-all width block [] are = refl
pieces_in-all width block (p ∷ ps) are =
    ap₂ (λ b (qs : List Piece). cond b (p ∷ qs) qs) (eq-eqb (quotient_of width p / 64) block (omega (arith, are.0, are.1))) (pieces_in-all width block ps are.2)

pieces_in-none : (width block low high : ℕ) (ps : List Piece) → (block < low) ⊎ (high ≤ block) → InBlocks width low high ps → pieces_in width block ps ≡ []
pieces_in-none width block low high [] apart are = refl
pieces_in-none width block low high (p ∷ ps) apart are =
    ap₂ (λ b (qs : List Piece). cond b (p ∷ qs) qs)
    (ne_eqb (quotient_of width p / 64) block (λ e. elim apart [ inl less ↦ omega (arith, e, less, are.0) | inr more ↦ omega (arith, e, more, are.1) ]))
    (pieces_in-none width block low high ps apart are.2)

module _ (width block high : ℕ) (front back : List Piece) (first : InBlocks width block (suc block) front) (second : InBlocks width (suc block) high back) where
  pieces_in-first : pieces_in width block (front ++ back) ≡ front
  pieces_in-first =
      filter-append (λ p. quotient_of width p / 64 == block) front back
      ∙ (ap₂ (λ (ps qs : List Piece). ps ++ qs) (pieces_in-all width block front first) (pieces_in-none width block (suc block) high back (inl (omega arith)) second)
      ∙ append-nil front)

  pieces_in-later : (k : ℕ) → suc block ≤ k → pieces_in width k (front ++ back) ≡ pieces_in width k back
  pieces_in-later k more =
      filter-append (λ p. quotient_of width p / 64 == k) front back
      ∙ ap (λ (ps : List Piece). ps ++ pieces_in width k back) (pieces_in-none width k block (suc block) front (inr more) first)

  later_text : (from count : ℕ) → suc block ≤ from → blocks_text width from count (front ++ back) ≡ blocks_text width from count back
  later_text from zero more = refl
  later_text from (suc count) more =
      ap₂ (λ (xs ys : List ℕ). xs ++ ys) (ap (block_text width from) (pieces_in-later from more)) (later_text (from + 1) count (omega (arith, more)))

  -- the text of one block, and that of those behind it
  pub blocks_text-split : (count : ℕ) → blocks_text width block (suc count) (front ++ back) ≡ block_text width block front ++ blocks_text width (suc block) count back
  blocks_text-split count =
      ap₂ (λ (xs ys : List ℕ). xs ++ ys) (ap (block_text width block) pieces_in-first)
      (later_text (block + 1) count (omega arith) ∙ ap (λ n. blocks_text width n count back) (let e : block + 1 ≡ suc block = omega arith in e))

pub slots_of-append : (width : ℕ) (front back : List Piece) → slots_of width (front ++ back) ≡ slots_of width front ++ slots_of width back
slots_of-append width front back = flat_map-append (group_of width) front back
