-- The landings of the parts, as a piece lands.
use Rattle.std.proofs.Common.{ℕ, suc, ◌≡◌, ◌<◌, true, Option, Some, List, [], ◌∷◌, fold, replicate, length, map, get_or, set, refl, ap, sym, ◌∙◌, arith, inl, inr}
use Rattle.std.{proofs.lemmas.Bool.{cases_eq, eq-eqb, ne_eqb}, proofs.lemmas.List.{get_or-set_same, get_or-set_other, get_or-map, get_or-replicate, length-set, length-map, length-replicate}}
use Rattle.lert_levels.{specs.landing.Landed.taken, specs.declared.landing.landing.Landing.Landing, specs.landing.Summed.{summed, sums_of}, proofs.flush.PickLaws.each-picked}
use Rattle.lert_levels.specs.flush.Merged.{is_of, picked, with_piece}
use Rattle.lert_spec.{specs.declared.piece.Piece.Piece, specs.Table.plus}

-- ---- nothing is taken yet

none_summed : (lists : List (List Piece)) → ((k : ℕ) → k < length lists → get_or lists k [] ≡ []) → sums_of lists ≡ []
none_summed [] none = refl
none_summed (list ∷ lists) none =
    let first : list ≡ [] = none 0 (omega arith) in
    ap (λ (table : List Piece). fold summed (summed [] table) lists) first ∙ none_summed lists (λ k below. none (suc k) (omega (arith, below)))

pub none_landed : (parts : List (Option ℕ)) (part n : ℕ) → sums_of (picked parts part (replicate {A = List Piece} n [])) ≡ []
none_landed parts part n =
    none_summed (picked parts part (replicate {A = List Piece} n []))
    (each-picked (λ (list : List Piece). list ≡ []) [] parts part (replicate {A = List Piece} n [])
    (λ k below. get_or-replicate n k [] [] (omega (arith, below, length-replicate {A = List Piece} n []))))

-- ---- one landing takes the piece

pub landed_one : (landings new : List Landing) (of : Option ℕ) (own : ℕ) (piece : Piece) → of ≡ Some own → own < length landings →
    map taken new ≡ set (map taken landings) own (plus (get_or (map taken landings) own []) piece.tail piece.count) →
    (part : ℕ) (d : Landing) → part < length landings → taken (get_or new part d) ≡ with_piece (is_of of part) piece (taken (get_or landings part d))
landed_one landings new of own piece of_is within changed part d below =
    let tables = map taken landings in
    let its = plus (get_or tables own []) piece.tail piece.count in
    let len : length new ≡ length landings = sym (length-map new taken) ∙ (ap length changed ∙ (length-set tables own its ∙ length-map landings taken)) in
    let now : taken (get_or new part d) ≡ get_or (set tables own its) part [] =
    sym (get_or-map taken new part d [] (omega (arith, below, len))) ∙ ap (λ (ts : List (List Piece)). get_or ts part []) changed in
    let was : get_or tables part [] ≡ taken (get_or landings part d) = get_or-map taken landings part d [] below in
    now ∙ elim (cases_eq part own) [
      | inl same ↦ (
          let its_is : get_or (set tables own its) part [] ≡ its = ap (λ n. get_or (set tables own its) n []) same ∙ get_or-set_same tables own its [] (omega (
            arith,
            within,
            length-map landings taken,
          )) in
          let one : get_or tables own [] ≡ taken (get_or landings part d) = ap (λ n. get_or tables n []) (sym same) ∙ was in
          let of_part : is_of of part ≡ true = ap (λ o. is_of o part) of_is ∙ eq-eqb own part (sym same) in
          its_is ∙ (ap (λ (ps : List Piece). plus ps piece.tail piece.count) one ∙ sym (ap (λ b. with_piece b piece (taken (get_or landings part d))) of_part)))
      | inr other ↦ (
          let of_other = ap (λ o. is_of o part) of_is ∙ ne_eqb own part (λ same. other (sym same)) in
          get_or-set_other tables own part its [] other ∙ (was ∙ sym (ap (λ b. with_piece b piece (taken (get_or landings part d))) of_other)))
    ]
