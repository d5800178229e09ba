-- The least tail that may come of a frame.
use Rattle.std.{proofs.Common.{◌≡◌, ℕ, ◌+◌, ◌*◌, ◌^◌, ◌<◌, ◌≤◌, ◌==◌, List, [], ◌∷◌, subst, inl, inr, arith, eq-eqb, ne_eqb}, proofs.lemmas.Bool.{cases_eq, cond-true, cond-false}}
use Rattle.std.proofs.Math.Nat.{mul-le-mul_right}
use Rattle.lert_slotbits.{specs.Bits.word_bits, proofs.RowLemmas.length_word_bits}
use Rattle.lert_blocks.{specs.Decoding.floor_of, specs.Walk.{places, floor_from}, proofs.RunLaws.{Rises, places_rise}, proofs.WalkLaws.floor_low}
use Rattle.lert_frames.{specs.declared.decoder.Ahead.Ahead, specs.declared.decoder.Decoder.Decoder, specs.declared.decoder.Present.Present, specs.Decoded.{floor_by, decoder_floor, decoder_limit}}

-- the floor of quotients that rise to an end
pub floor_high : (width low end least : ℕ) (qs : List ℕ) → least ≤ 2 ^ width → Rises low end qs → floor_from width end qs least ≤ end * 2 ^ width
floor_high width low end least [] few rise = omega arith
floor_high width low end least (q ∷ qs) few rise =
    let next : (q + 1) * 2 ^ width ≤ end * 2 ^ width = mul-le-mul_right (2 ^ width) (let e : q + 1 ≤ end = omega (arith, rise.1) in e) in omega (arith, next, few)

pub block_rises : (first occupied : ℕ) → Rises first (first + 64) (places first (word_bits occupied))
block_rises first occupied =
    subst (λ n. Rises first (first + n) (places first (word_bits occupied))) (length_word_bits occupied) (places_rise first (word_bits occupied))

module _ (width : ℕ) (block : Present) (ahead : Ahead) where
  pub floor_none : block.some ≡ 0 → floor_by width block ahead ≡ 64 * ahead.next * 2 ^ width
  floor_none none = cond-true (block.some == 0) (64 * ahead.next * 2 ^ width) (floor_of width block.first block.walk) (eq-eqb block.some 0 none)

  pub floor_some : (block.some ≡ 0 → ⊥) → floor_by width block ahead ≡ floor_of width block.first block.walk
  floor_some some = cond-false (block.some == 0) (64 * ahead.next * 2 ^ width) (floor_of width block.first block.walk) (ne_eqb block.some 0 some)

  -- it is that of the next block at most
  pub floor_within : (0 < block.some → block.first + 64 ≤ 64 * ahead.next) → block.walk.least ≤ 2 ^ width → floor_by width block ahead ≤ 64 * ahead.next * 2 ^ width
  floor_within order few = elim (cases_eq block.some 0) [
    | inl none ↦ (let is = floor_none none in omega (arith, is))
    | inr some ↦ (
        let is = floor_some some in
        let high = floor_high width block.first (block.first + 64) block.walk.least (places block.first (word_bits block.walk.occupied)) few (block_rises block.first block.walk.occupied) in
        let next = mul-le-mul_right (2 ^ width) (order (omega (arith, some))) in
        omega (arith, is, high, next))
  ]

  -- and that of its block at least
  pub floor_from_first : (first : ℕ) → (block.some ≡ 0 → first ≤ 64 * ahead.next) → ((block.some ≡ 0 → ⊥) → first ≤ block.first) → first * 2 ^ width ≤ floor_by width block ahead
  floor_from_first first low low_block = elim (cases_eq block.some 0) [
    | inl none ↦ (let is = floor_none none in let next = mul-le-mul_right (2 ^ width) (low none) in omega (arith, is, next))
    | inr some ↦ (
        let is = floor_some some in
        let more = floor_low width block.first (block.first + 64) block.walk.least (places block.first (word_bits block.walk.occupied)) (omega arith) (block_rises block.first block.walk.occupied) in
        let next = mul-le-mul_right (2 ^ width) (low_block some) in
        omega (arith, is, more, next))
  ]

pub bounded_by_limit : (d : Decoder) → decoder_floor d ≤ decoder_limit d
bounded_by_limit d =
    let within = floor_within d.width d.block d.ahead d.standing.order d.standing.least in
    let rest : 64 * d.ahead.next * 2 ^ d.width ≤ 64 * (d.ahead.next + d.ahead.blocks) * 2 ^ d.width = mul-le-mul_right (2 ^ d.width) (
    let e : 64 * d.ahead.next ≤ 64 * (d.ahead.next + d.ahead.blocks) = omega arith in e) in
    omega (arith, within, rest)
