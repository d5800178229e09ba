-- What a reader gave and what is to come of it ascend below the limit of tails.
use Rattle.std.proofs.Common.{◌≡◌, ℕ, ◌+◌, ◌*◌, ◌<◌, ◌≤◌, ◌^◌, Bool, List, [], ◌∷◌, ◌++◌, All, length, take, drop, eqb, Option, Some, None}
use Rattle.std.proofs.Common.{◌↔◌, false, replicate, refl, sym, ap, ◌∙◌, subst, inl, inr, arith, length-take, length-drop, append_assoc, eq-eqb, ne_eqb}
use Rattle.std.proofs.Math.Nat.{mul-le-mul_right}
use Rattle.std.proofs.lemmas.Bool.{cases_eq, cond-true, cond-false}
use Rattle.std.proofs.lemmas.List.{take_at}
use Rattle.std.proofs.lemmas.List.Elements.{All-append}
use Rattle.lert_bay.specs.declared.bay.TheConstants.{FRAMES}
use Rattle.lert_bay.specs.Files.{Files}
use Rattle.lert_blocks.specs.Decoding.{floor_of}
use Rattle.lert_blocks.specs.Frame.{numbers_in}
use Rattle.lert_blocks.specs.Walk.{Found, behind, behind_at, walk, places, floor_from}
use Rattle.lert_blocks.proofs.PieceLaws.{ascends_below, ascends_append}
use Rattle.lert_blocks.proofs.RunLaws.{Rises, places_rise}
use Rattle.lert_blocks.proofs.WalkLaws.{walk_ascends, walk_counts, blocks_ascend, blocks_counts}
use Rattle.lert_slotbits.specs.Bits.{word_bits, row_of}
use Rattle.lert_slotbits.proofs.RowLemmas.{length_word_bits}
use Rattle.lert_spec.specs.declared.piece.Piece.{Piece}
use Rattle.lert_spec.specs.Table.{AreGiven, AscendsFrom}
use Rattle.lert_spec.proofs.GivenLaws.{given_take, given_wide}
use Rattle.lert_frames.specs.Decoded.{words_there, ends_there, slots_there, block_rest, blocks_rest, found_by, floor_by, decoder_found, decoder_floor, decoder_limit}
use Rattle.lert_frames.specs.Place.{tail_limit}
use Rattle.lert_frames.specs.ToCome.{left_of, pieces_of, ready_of, if_whole, told_of, Breaks}
use Rattle.lert_frames.specs.declared.decoder.Ahead.{Ahead}
use Rattle.lert_frames.specs.declared.decoder.Decoder.{Decoder}
use Rattle.lert_frames.specs.declared.decoder.Present.{Present}
use Rattle.lert_frames.specs.declared.reader.FrameReader.{FrameReader}

-- more pieces behind those given
pub given_on : (low high : ℕ) (before put : List Piece) → low ≤ high → AreGiven low before → AscendsFrom low high put → All (λ piece. piece.count ≤ 2 ^ 47) put →
    AreGiven high (before ++ put)
given_on low high before put up are ascend counts = record {
  table = ascends_append 0 low high before put (omega arith) up are.table ascend;
  counts = All-append (λ (piece : Piece). piece.count ≤ 2 ^ 47) before put are.counts counts;
}

-- ---- what is found behind something

ascends_at : (left : Option ℕ) (least middle limit : ℕ) (first second : Found) → least ≤ middle → middle ≤ limit → AscendsFrom least middle first.pieces →
    AscendsFrom middle limit second.pieces → AscendsFrom least limit (behind_at left first second).pieces
ascends_at None least middle limit first second low high up more = ascends_append least middle limit first.pieces second.pieces low high up more
ascends_at (Some at) least middle limit first second low high up more = ascends_below least middle limit first.pieces high up

counts_at : (left : Option ℕ) (first second : Found) → All (λ piece. piece.count ≤ 2 ^ 47) first.pieces → All (λ piece. piece.count ≤ 2 ^ 47) second.pieces →
    All (λ piece. piece.count ≤ 2 ^ 47) (behind_at left first second).pieces
counts_at None first second few more = All-append (λ (piece : Piece). piece.count ≤ 2 ^ 47) first.pieces second.pieces few more
counts_at (Some at) first second few more = few

-- ---- the present block

-- no tail that may come is above those of the block
floor_within : (width end least : ℕ) (quotients : List ℕ) (low : ℕ) → least ≤ 2 ^ width → Rises low end quotients → floor_from width end quotients least ≤ end * 2 ^ width
floor_within width end least [] low few rise = omega arith
floor_within width end least (q ∷ quotients) low few rise = let more = mul-le-mul_right (2 ^ width) rise.1 in omega (arith, few, more)

nothing_left : (bits : List Bool) → length bits ≡ 0 → bits ≡ []
nothing_left [] none = refl
nothing_left (bit ∷ bits) none = absurd (omega (arith, none))

module _ (width : ℕ) (block : Present) (place end : ℕ) (ends slots : List ℕ) where
  -- none, where it is decoded
  rest_none : block.some ≡ 0 → (block_rest width block place end ends slots).pieces ≡ []
  unfolding block_rest
  rest_none none =
      let all = ends_there block.some ends in
      let some = drop block.from (slots_there block.some ends slots) in
      let bits = row_of (numbers_in (words_there block.some ends) ends) ++ replicate block.some false in
      let few : length (drop block.from all) ≡ 0 = omega (arith, length-drop block.from all, length-take block.some bits, none) in
      ap (λ bits. (walk (length bits) width (places block.first (word_bits block.walk.occupied)) block.walk.least bits some).pieces) (nothing_left (drop block.from all) few)

  rise : Rises block.first (block.first + 64) (places block.first (word_bits block.walk.occupied))
  rise = subst (λ n. Rises block.first (block.first + n) (places block.first (word_bits block.walk.occupied))) (length_word_bits block.walk.occupied)
      (places_rise block.first (word_bits block.walk.occupied))

  rest_ascends : AscendsFrom (floor_of width block.first block.walk) ((block.first + 64) * 2 ^ width) (block_rest width block place end ends slots).pieces
  unfolding block_rest
  rest_ascends = walk_ascends _ width (block.first + 64) ((block.first + 64) * 2 ^ width) block.first block.walk.least _ _ _ rise (omega arith)

  rest_counts : All (λ piece. piece.count ≤ 2 ^ 47) (block_rest width block place end ends slots).pieces
  unfolding block_rest
  rest_counts = walk_counts _ width block.walk.least _ _ _

-- ---- all that is found

module _ (width : ℕ) (block : Present) (ahead : Ahead) (place end : ℕ) (ends slots : List ℕ) where
  found_ascends : (0 < block.some → block.first + 64 ≤ 64 * ahead.next) → block.walk.least ≤ 2 ^ width →
      (floor_by width block ahead ≤ 64 * (ahead.next + ahead.blocks) * 2 ^ width)
      × AscendsFrom (floor_by width block ahead) (64 * (ahead.next + ahead.blocks) * 2 ^ width) (found_by width block ahead place end ends slots).pieces
  unfolding found_by
  found_ascends order few =
      let first = block_rest width block place end ends slots in
      let second = blocks_rest width block ahead place end slots in
      let middle = 64 * ahead.next * 2 ^ width in
      let limit = 64 * (ahead.next + ahead.blocks) * 2 ^ width in
      let low = floor_of width block.first block.walk in
      let more : middle ≤ limit = mul-le-mul_right (2 ^ width) (let up : 64 * ahead.next ≤ 64 * (ahead.next + ahead.blocks) = omega arith in up) in
      let later : AscendsFrom middle limit second.pieces = blocks_ascend ahead.blocks width ahead.next ahead.most _ end _ in
      let Goal : ℕ → Type 0 = λ floor. (floor ≤ limit) × AscendsFrom floor limit (behind first second).pieces in
      elim (cases_eq block.some 0) [
        | inl none ↦ subst Goal (sym (cond-true (eqb block.some 0) middle low (eq-eqb block.some 0 none))) (
          more,
          ascends_at first.left middle middle limit first second (omega arith) more
              (subst (λ (ps : List Piece). AscendsFrom middle middle ps) (sym (rest_none width block place end ends slots none)) tt) later,
        )
        | inr some ↦ (
            let last = mul-le-mul_right (2 ^ width) (order (omega (arith, some))) in
            let floor : low ≤ (block.first + 64) * 2 ^ width = floor_within width (block.first + 64) block.walk.least _ block.first few (rise width block place end ends slots) in
            let within : low ≤ middle = omega (arith, floor, last) in
            subst Goal (sym (cond-false (eqb block.some 0) middle low (ne_eqb block.some 0 some))) (
              omega (arith, within, more),
              ascends_at first.left low middle limit first second within more
                  (ascends_below low ((block.first + 64) * 2 ^ width) middle first.pieces last (rest_ascends width block place end ends slots)) later,
            ))
      ]

  found_counts : All (λ piece. piece.count ≤ 2 ^ 47) (found_by width block ahead place end ends slots).pieces
  unfolding found_by
  found_counts =
      let first = block_rest width block place end ends slots in
      counts_at first.left first (blocks_rest width block ahead place end slots) (rest_counts width block place end ends slots)
      (blocks_counts ahead.blocks width ahead.next ahead.most _ end _)

-- what a decoder finds ascends from its floor to its limit
pub decoder_ascends : (d : Decoder) (file : List ℕ) → (decoder_floor d ≤ decoder_limit d) × AscendsFrom (decoder_floor d) (decoder_limit d) (decoder_found d file).pieces
decoder_ascends d file = found_ascends d.width d.block d.ahead _ _ _ _ d.standing.order d.standing.least

pub decoder_counts : (d : Decoder) (file : List ℕ) → All (λ piece. piece.count ≤ 2 ^ 47) (decoder_found d file).pieces
decoder_counts d file = found_counts d.width d.block d.ahead _ _ _ _

-- ---- a reader

whole_is : (left : Option ℕ) (all pieces : List Piece) → if_whole left all ≡ Some pieces → all ≡ pieces
whole_is None all pieces is = cc
whole_is (Some at) all pieces is = absurd (cc)

pub in_order : (told : Option Files) (r : FrameReader) (pieces : List Piece) → told_of told r ≡ Some pieces → AreGiven (tail_limit r.settings) (r.gave ++ pieces)
in_order None r pieces is = absurd (cc)
in_order (Some seen) r pieces is =
    let file = seen FRAMES in
    let found = decoder_ascends r.decoder file in
    let all = given_on (decoder_floor r.decoder) (decoder_limit r.decoder) (r.gave ++ ready_of r) (decoder_found r.decoder file).pieces found.0 r.reading.decoded found.1
    (decoder_counts r.decoder file) in
    subst (λ (ps : List Piece). AreGiven (tail_limit r.settings) (r.gave ++ ps)) (whole_is (left_of r file) (pieces_of r file) pieces is)
    (subst (AreGiven (tail_limit r.settings)) (append_assoc r.gave (ready_of r) (decoder_found r.decoder file).pieces)
    (subst (λ limit. AreGiven limit ((r.gave ++ ready_of r) ++ (decoder_found r.decoder file).pieces)) r.reading.limit all))

-- the pieces that were given
pub gave_given : (r : FrameReader) → AreGiven (tail_limit r.settings) r.gave
gave_given r =
    let first : take (length r.gave) (r.gave ++ ready_of r) ≡ r.gave = take_at r.gave (ready_of r) (length r.gave) refl in
    given_wide (decoder_floor r.decoder) (tail_limit r.settings) r.gave r.reading.below
    (subst (AreGiven (decoder_floor r.decoder)) first (given_take (decoder_floor r.decoder) (length r.gave) (r.gave ++ ready_of r) r.reading.decoded))

-- what breaks does so through the same files
pub breaks_same : (before after : Option Files) (r : FrameReader) (at : ℕ) → before ≡ after → (Breaks before r at ↔ Breaks after r at)
breaks_same before after r at same = (λ breaks seen told. breaks seen (same ∙ told), λ breaks seen told. breaks seen (sym same ∙ told))
