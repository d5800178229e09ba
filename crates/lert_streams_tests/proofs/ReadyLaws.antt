-- Landings that are ready for the steps of a test.
use Rattle.std.proofs.Common.{ℕ, ◌≡◌, ◌-◌, ◌^◌, ◌<◌, ◌≤◌, List, [], All, length, map, get_or, set, ap, sym, ◌∙◌, subst, inl, inr, arith}
use Rattle.std.proofs.lemmas.Bool.{cases_eq}
use Rattle.std.proofs.lemmas.List.{get_or-map, get_or-set_same, get_or-set_other, length-map}
use Rattle.std.proofs.lemmas.List.Elements.{All-nil, All-weaker}
use Rattle.lert_frames.specs.Place.{tail_limit}
use Rattle.lert_spec.specs.declared.piece.Piece.{Piece}
use Rattle.lert_spec.specs.Edges.{span}
use Rattle.lert_spec.specs.Table.{plus, total}
use Rattle.lert_spec.proofs.{Tables.total-plus, CostLaws.{cost_to, costs_to}}
use Rattle.lert_levels.specs.declared.landing.landing.Landing.{Landing}
use Rattle.lert_levels.specs.landing.Landed.{taken, CanTake}
use Rattle.lert_levels.specs.landing.Landings.{Home, home}
use Rattle.lert_levels.specs.landing.Whole.{AreUpTo}
use Rattle.lert_levels.proofs.landing.SummedLaws.{plus_up_to}
use Rattle.lert_streams_tests.specs.Ready.{IsReady}

up_to : (last tail : ℕ) (pieces : List Piece) → last ≤ tail → AreUpTo last pieces → AreUpTo tail pieces
up_to last tail pieces above up = All-weaker (λ (p : Piece). p.tail ≤ last) (λ (p : Piece). p.tail ≤ tail) (λ p low. omega (arith, low, above)) pieces up

-- nothing is taken yet
pub ready_none : (events : ℕ) (l : Landing) → taken l ≡ [] → events ≤ span l.writer.settings l.writer.level → l.writer.settings.cone_bits ≡ 0 → IsReady 0 events l
ready_none events l none wide all_tails = record {
  ascends = subst (AreUpTo 0) (sym none) (All-nil (λ (p : Piece). p.tail ≤ 0));
  fits = omega (arith, ap total none, wide);
  all_tails = all_tails;
}

module _ (last left : ℕ) (piece : Piece) (above : last ≤ piece.tail) (fits : piece.count ≤ left) where
  pub can_take : (l : Landing) → IsReady last left l → 1 ≤ piece.count → piece.tail < 2 ^ 64 → CanTake l piece
  can_take l ready some word =
      let limit : tail_limit l.writer.settings ≡ 2 ^ 64 = ap (λ n. 2 ^ (64 - n)) ready.all_tails in
      record {
        ascends = up_to last piece.tail (taken l) above ready.ascends;
        below = omega (arith, limit, word);
        some = some;
        fits = omega (arith, costs_to l.writer.version (taken l), cost_to l.writer.version piece.count, ready.fits, fits);
      }

  -- one of the landings took the piece
  pub ready_more : (landings new : List Landing) (part : ℕ) → part < length landings → length new ≡ length landings →
      map taken new ≡ set (map taken landings) part (plus (get_or (map taken landings) part []) piece.tail piece.count) → map home new ≡ map home landings →
      All (IsReady last left) landings → All (IsReady piece.tail (left - piece.count)) new
  ready_more landings new part within len taken_are homes ready k d below =
      let under : k < length landings = omega (arith, below, len) in
      let l = get_or landings k d in
      let m = get_or new k d in
      let was : IsReady last left l = ready k d under in
      let home_is : home m ≡ home l = sym (get_or-map home new k d (home d) below) ∙ ap (λ (hs : List Home). get_or hs k (home d)) homes ∙ get_or-map home landings k d (home d) under in
      let wide : span m.writer.settings m.writer.level ≡ span l.writer.settings l.writer.level = ap (λ (h : Home). span h.settings h.level) home_is in
      let bits : m.writer.settings.cone_bits ≡ 0 = ap (λ (h : Home). h.settings.cone_bits) home_is ∙ was.all_tails in
      let here : taken m ≡ get_or (set (map taken landings) part (plus (get_or (map taken landings) part []) piece.tail piece.count)) k [] =
      sym (get_or-map taken new k d [] below) ∙ ap (λ (ts : List (List Piece)). get_or ts k []) taken_are in
      elim (cases_eq k part) [
        | inl same ↦ (
            let was_here : get_or (map taken landings) part [] ≡ taken l = ap (λ n. get_or (map taken landings) n []) (sym same) ∙ get_or-map taken landings k d [] under in
            let at : part < length (map taken landings) = omega (arith, within, length-map landings taken) in
            let is : taken m ≡ plus (taken l) piece.tail piece.count =
            here ∙ ap (λ n. get_or (set (map taken landings) part (plus (get_or (map taken landings) part []) piece.tail piece.count)) n []) same
            ∙ get_or-set_same (map taken landings) part (plus (get_or (map taken landings) part []) piece.tail piece.count) [] at
            ∙ ap (λ (ps : List Piece). plus ps piece.tail piece.count) was_here in
            record {
              ascends = subst (AreUpTo piece.tail) (sym is)
                  (plus_up_to (taken l) piece.tail piece.count piece.tail (omega arith) (up_to last piece.tail (taken l) above was.ascends));
              fits = omega (arith, ap total is, total-plus (taken l) piece.tail piece.count, was.fits, wide, fits);
              all_tails = bits;
            })
        | inr other ↦ (
            let is : taken m ≡ taken l =
            here ∙ get_or-set_other (map taken landings) part k (plus (get_or (map taken landings) part []) piece.tail piece.count) [] other ∙ get_or-map taken landings k d [] under in
            record {
              ascends = subst (AreUpTo piece.tail) (sym is) (up_to last piece.tail (taken l) above was.ascends);
              fits = omega (arith, ap total is, was.fits, wide);
              all_tails = bits;
            })
      ]
