-- What bytes at hand, and behind them those of a file, say as blocks, where only other places of the file were written.
use Rattle.std.proofs.Common.{◌≡◌, ℕ, ◌+◌, ◌-◌, ◌*◌, ◌<◌, ◌≤◌, ◌⊎◌, List, ◌++◌, length, take, drop, None, refl, sym, ap, ap₂, ◌∙◌, inl, inr, ⊎_elim, arith, append-nil, append_assoc}
use Rattle.std.{proofs.Common.{length-append, length-drop, length-take}, proofs.lemmas.Bool.{cases_eq, cases_lt}, proofs.lemmas.List.{drop-append-le, drop_all, take_all, take-append-drop}}
use Rattle.lert_blocks.{specs.Frame.blocks_found, specs.Text.word_count, specs.Walk.Found}
use Rattle.lert_frames.{specs.Apart.SamePlace, specs.declared.decoder.Decoder.Decoder, specs.declared.window.Window.Window, specs.Decoded.{decoder_found, found_by, IsBetween}}
use Rattle.lert_frames.{specs.Place.blocks_bytes, specs.Window.{at_hand, place_of, to_come}, proofs.DecodedLaws.found_ahead, proofs.FieldLaws.{end_of, length_hand}, proofs.FrontLaws.found_front}
use Rattle.lert_frames.{proofs.PartLaws.part_is, proofs.RestLaws.{AreThere, by_front}, proofs.SamePlaceLaws.same_part}

-- lists that begin with the same items, at least so many
pub record HasFront (count : ℕ) (old new : List ℕ) : Type 0 where
  pub front : List ℕ
  pub more : List ℕ
  pub other : List ℕ
  pub old_is : old ≡ front ++ more
  pub new_is : new ≡ front ++ other
  pub long : count ≤ length front

-- the second of two, where the first can't be
other_of : {P : Type 0} (a b : ℕ) → (a ≤ b) ⊎ P → b < a → P
other_of a b (inl long) short = absurd (omega (arith, long, short))
other_of a b (inr is) short = is

module _ (place len : ℕ) (old new : List ℕ) (kept : SamePlace place len old new) where
  -- ---- bytes at hand, which end at a place, and those of the file behind them

  module _ (hand : List ℕ) (from at : ℕ) (hand_is : from + length hand ≡ at) (low : place ≤ from) where
    -- where the file has all of the frame's place
    pub has_front : place + len ≤ length old → HasFront (place + len - from) (hand ++ drop at old) (hand ++ drop at new)
    has_front all = elim (cases_lt at (place + len)) [
      | inl short ↦ (
          let count = place + len - at in
          let end : place + len ≡ at + count = omega (arith, short) in
          let same : take count (drop at new) ≡ take count (drop at old) =
          sym (part_is new at count (place + len) end)
          ∙ (same_part place len old new kept at (place + len) (omega (arith, low, hand_is)) (omega arith) all ∙ part_is old at count (place + len) end) in
          let split = λ (file : List ℕ). (let is : hand ++ drop at file ≡ (hand ++ take count (drop at file)) ++ drop count (drop at file) =
          ap (λ xs. hand ++ xs) (sym (take-append-drop count (drop at file))) ∙ sym (append_assoc hand (take count (drop at file)) (drop count (drop at file))) in is) in
          record {
            front = hand ++ take count (drop at old);
            more = drop count (drop at old);
            other = drop count (drop at new);
            old_is = split old;
            new_is = split new ∙ ap (λ xs. (hand ++ xs) ++ drop count (drop at new)) same;
            long = omega (arith, hand_is, short, all, length-append hand (take count (drop at old)), length-take count (drop at old), length-drop at old);
          })
      | inr far ↦ record { front = hand; more = drop at old; other = drop at new; old_is = refl; new_is = refl; long = omega (arith, hand_is, far) }
    ]

    -- and where it ends there: more may be behind it now
    pub has_more : length old ≤ place + len → (more : List ℕ) × (hand ++ drop at new ≡ (hand ++ drop at old) ++ more)
    has_more short = elim (cases_lt (length old) at) [
      | inl past ↦ (
        drop at new,
        ap (λ xs. xs ++ drop at new) (sym (append-nil hand) ∙ ap (λ xs. hand ++ xs) (sym (drop_all at old (omega (arith, past))))),
      )
      | inr within ↦ (
          let end = length old in
          let longer = kept.longer in
          let front : drop at (take end new) ≡ drop at old =
          same_part place len old new kept at end (omega (arith, low, hand_is)) short (omega arith) ∙ ap (drop at) (take_all end old (omega arith)) in
          let behind : drop at new ≡ drop at old ++ drop end new =
          ap (drop at) (sym (take-append-drop end new))
          ∙ (drop-append-le at (take end new) (drop end new) (omega (arith, within, longer, length-take end new)) ∙ ap (λ xs. xs ++ drop end new) front) in
          (drop end new, ap (λ xs. hand ++ xs) behind ∙ sym (append_assoc hand (drop at old) (drop end new))))
    ]

    -- so they say the same as blocks that fit the place
    pub blocks_kept : (n width block most : ℕ) → from + blocks_bytes n most ≤ place + len →
        (place + len ≤ length old) ⊎ ((blocks_found n width block most from (length old) (hand ++ drop at old)).left ≡ None) →
        blocks_found n width block most from (length new) (hand ++ drop at new) ≡ blocks_found n width block most from (length old) (hand ++ drop at old)
    blocks_kept n width block most fits sure = elim (cases_lt (length old) (place + len)) [
      | inr all ↦
          (let f = has_front all in
          let long : blocks_bytes n most ≤ length f.front = omega (arith, fits, f.long) in
          ap (blocks_found n width block most from (length new)) f.new_is
          ∙ (found_front n width block most from 0 (length new) f.front f.other (inl long)
          ∙ sym (ap (blocks_found n width block most from (length old)) f.old_is ∙ found_front n width block most from 0 (length old) f.front f.more (inl long))))
      | inl short ↦
          (let m = has_more (omega (arith, short)) in
          ap (blocks_found n width block most from (length new)) m.1
          ∙ found_front n width block most from (length old) (length new) (hand ++ drop at old) m.0 (inr (other_of (place + len) (length old) sure short)))
    ]

-- ---- a decoder

-- the words of run ends stand before the slots, and these in the frame's place
words_fit : (ends at words slots rest end long : ℕ) → ends + words ≤ at → at + (slots + rest) ≤ end → end - ends ≤ long → words ≤ long
words_fit ends at words slots rest end long before within enough = omega (arith, before, within, enough)

slots_fit : (at wanted end long : ℕ) → at + wanted ≤ end → end - at ≤ long → wanted ≤ long
slots_fit at wanted end long within enough = omega (arith, within, enough)

-- the bytes at hand end at their place
hand_ends : (w : Window) → place_of w + length (at_hand w) ≡ w.at
hand_ends w = ap (λ n. place_of w + n) (length_hand w) ∙ end_of w

module _ (d : Decoder) (place len : ℕ) (old new : List ℕ) (kept : SamePlace place len old new) (between : IsBetween place (place + len) d) where
  abbrev pub IsKept : Type 0
  IsKept = (place + len ≤ length old) ⊎ ((decoder_found d old).left ≡ None) → decoder_found d new ≡ decoder_found d old

  -- between two blocks, only the window counts
  kept_between : d.block.some ≡ 0 → IsKept
  kept_between none sure =
      let from : d.block.from ≡ 0 = omega (arith, d.standing.from, none) in
      let at = place_of d.window in
      let ahead_is = λ (file : List ℕ). found_ahead d.width at (length file) d.block d.ahead (to_come d.ends file) (to_come d.window file) none from in
      let fits : at + blocks_bytes d.ahead.blocks d.ahead.most ≤ place + len = omega (arith, between.within) in
      ahead_is new
      ∙ (blocks_kept place len old new kept (at_hand d.window) at d.window.at (hand_ends d.window) between.from d.ahead.blocks d.width d.ahead.next d.ahead.most fits
      (⊎_elim (λ long. inl long) (λ whole. inr (ap (λ (found : Found). found.left) (sym (ahead_is old)) ∙ whole)) sure)
      ∙ sym (ahead_is old))

  -- in a block, the words of its run ends too
  module _ (some : 0 < d.block.some) where
    first_word : place ≤ place_of d.ends
    first_word = (between.ends some).0

    kept_there : place + len ≤ length old → decoder_found d new ≡ decoder_found d old
    kept_there all =
        let at = place_of d.window in
        let e = has_front place len old new kept (at_hand d.ends) (place_of d.ends) d.ends.at (hand_ends d.ends) first_word all in
        let w = has_front place len old new kept (at_hand d.window) at d.window.at (hand_ends d.window) between.from all in
        let words : 8 * word_count d.block.some ≤ length e.front = words_fit (place_of d.ends) at (8 * word_count d.block.some) (8 * d.block.some)
        (blocks_bytes d.ahead.blocks d.ahead.most) (place + len) (length e.front) (between.ends some).1 between.within e.long in
        let slots : 8 * d.block.some + blocks_bytes d.ahead.blocks d.ahead.most ≤ length w.front = slots_fit at (8 * d.block.some + blocks_bytes d.ahead.blocks d.ahead.most) (place + len)
        (length w.front) between.within w.long in
        let hand : 8 * d.block.from ≤ length w.front = omega (arith, d.standing.from, slots) in
        let there : AreThere d.block.some e.front w.front = record { words = words; slots_long = omega (arith, slots) } in
        let front = λ (end : ℕ) (more_ends more : List ℕ). by_front d.width at 0 d.block d.ahead e.front w.front d.standing.from hand end more_ends more (inl (there, slots)) in
        ap₂ (found_by d.width d.block d.ahead at (length new)) e.new_is w.new_is
        ∙ (front (length new) e.other w.other ∙ sym (ap₂ (found_by d.width d.block d.ahead at (length old)) e.old_is w.old_is ∙ front (length old) e.more w.more))

    kept_short : length old < place + len → (decoder_found d old).left ≡ None → decoder_found d new ≡ decoder_found d old
    kept_short short whole =
        let at = place_of d.window in
        let e = has_more place len old new kept (at_hand d.ends) (place_of d.ends) d.ends.at (hand_ends d.ends) first_word (omega (arith, short)) in
        let w = has_more place len old new kept (at_hand d.window) at d.window.at (hand_ends d.window) between.from (omega (arith, short)) in
        let hand : 8 * d.block.from ≤ length (to_come d.window old) =
        omega (arith, d.standing.hand, length_hand d.window, length-append (at_hand d.window) (drop d.window.at old)) in
        ap₂ (found_by d.width d.block d.ahead at (length new)) e.1 w.1
        ∙ by_front d.width at (length old) d.block d.ahead (to_come d.ends old) (to_come d.window old) d.standing.from hand (length new) e.0 w.0 (inr whole)

  -- what is to come stays
  pub decoder_kept : IsKept
  decoder_kept sure = elim (cases_eq d.block.some 0) [
    | inl none ↦ kept_between none sure
    | inr other ↦ elim (cases_lt (length old) (place + len)) [
      | inr all ↦ kept_there (omega (arith, other)) all
      | inl short ↦ kept_short (omega (arith, other)) short (other_of (place + len) (length old) sure short)
    ]
  ]
