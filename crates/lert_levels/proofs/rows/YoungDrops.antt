-- Level 0 as its oldest bin is dropped.
use Rattle.std.proofs.Common.{ℕ, suc, ◌≡◌, ◌+◌, ◌*◌, ◌≤◌, cond, ltb, min, List, [], ◌∷◌, ◌++◌, length, get_or, set, map, drop, ap, sym, ◌∙◌, subst, arith, inl, inr, length-append, take}
use Rattle.std.proofs.{Math.Nat.{div-add-mod, suc-mul}, lemmas.Bool.cases_lt, Math.ListN.get_or-append, Math.Seq.get_or-append_seam, lemmas.List.{map-append, length-map}}
use Rattle.lert_base.specs.declared.count_table.CountTable.{Ghosts as TablesOf}
use Rattle.lert_spec.specs.{declared.numbers.Numbers.Numbers, declared.piece.Piece.Piece, Bins.Bin, Edges.span, Table.costs}
use Rattle.lert_levels.specs.rows.Young.{seen_as, Young, bins_of, IsFilled, AreFilled}
use Rattle.lert_levels.proofs.rows.YoungLaws.{bins_of-none, bins_of-some, rest_of, some_bins, same_numbers}

-- tables behind the last position show nothing
bins_of-behind : (wide from to : ℕ) (tables more : List (List Piece)) → to ≤ from + length tables * wide → bins_of wide from to (tables ++ more) ≡ bins_of wide from to tables
bins_of-behind wide from to [] more covered = bins_of-none wide from to more (omega arith)
bins_of-behind wide from to (p ∷ tables) more covered =
    let step = suc-mul (length tables) wide in
    ap (λ bins. cond {A = List Bin} (ltb from to) (record { from = from; to = min to (from + wide); pieces = p } ∷ bins) []) (bins_of-behind wide (from + wide) to tables more (omega arith))

drop_filled : {T C : Type 0} (of : TablesOf T C) (tables : List T) {s : Numbers} {from to wide : ℕ} →
    AreFilled of s tables from to →
    wide ≡ span s 0 → 1 ≤ wide → from + wide ≤ to → (old new : T) → old ≡ get_or tables 0 old → of.pieces new ≡ [] → of.adds new ≡ 0 → of.room new ≡ of.room old →
    of.quotient_bits new ≡ of.quotient_bits old →
    of.width new ≡ of.width old →
    AreFilled of s (drop 1 (set tables 0 new) ++ take 1 (set tables 0 new)) (from + wide) to
drop_filled of [] {s} {from} {to} {wide} filled wide_is positive whole old new is pieces_are adds_is room_is quotient_is remainder_is =
    absurd (omega (arith, filled.len, some_bins s filled.valid))
drop_filled of (first ∷ rest) {s} {from} {to} {wide} filled wide_is positive whole old new is pieces_are adds_is room_is quotient_is remainder_is =
    let len : length (rest ++ new ∷ []) ≡ s.bins = omega (arith, length-append rest (new ∷ []), filled.len) in
    let parts = div-add-mod from (span s 0) in
    let oldest = filled.each 0 old (omega arith) in
    let bins : s.bins ≡ suc (length rest) = omega (arith, filled.len) in
    let all : s.bins * span s 0 ≡ suc (length rest) * span s 0 = ap (λ n. n * span s 0) bins in
    let step = suc-mul (length rest) (span s 0) in
    let within = filled.within in
    record {
      valid = filled.valid;
      len = len;
      aligned = rest_of (span s 0) from (from + wide) 1 0 filled.aligned (omega arith) (omega arith);
      ordered = whole;
      within = omega arith;
      last = filled.last;
      each = λ k d below. elim (cases_lt k (length rest)) [
        | inl inner ↦ (
            let at_it : get_or (rest ++ new ∷ []) k d ≡ get_or rest k d = get_or-append rest (new ∷ []) d k inner in
            let before = filled.each (suc k) d (omega arith) in
            let one = suc-mul k (span s 0) in
            let adds = before.added in
            subst (λ t. IsFilled of s (from + wide) to k t) (sym at_it) (record {
              added = omega arith;
              costly = before.costly;
              heavy = before.heavy;
              unused = λ over. before.unused (omega arith);
              of_zero = before.of_zero;
            }))
        | inr outer ↦ (
            let last : k ≡ length rest = omega arith in
            let at_it : get_or (rest ++ new ∷ []) k d ≡ new = ap (λ n. get_or (rest ++ new ∷ []) n d) last ∙ get_or-append_seam rest new [] d in
            let same : get_or (first ∷ rest) 0 old ≡ old = sym is in
            let over : to ≤ from + wide + k * span s 0 = (let at_last = ap (λ n. n * span s 0) last in omega arith) in
            subst (λ t. IsFilled of s (from + wide) to k t) (sym at_it) (record {
              added = adds_is ∙ omega arith;
              costly = omega (arith, adds_is, ap (costs 2) pieces_are);
              heavy = omega (arith, adds_is);
              unused = λ _. pieces_are;
              of_zero = same_numbers s oldest.of_zero (room_is ∙ ap of.room is) (quotient_is ∙ ap of.quotient_bits is) (remainder_is ∙ ap of.width is);
            }))
      ];
    }

drop_bins : {T C : Type 0} (of : TablesOf T C) (tables : List T) {s : Numbers} {from to wide : ℕ} {young : Young} →
    AreFilled of s tables from to →
    seen_as of s tables from to ≡ young →
    wide ≡ span s 0 → 1 ≤ wide → young.from + span young.settings 0 ≤ young.to → (new : T) →
    record { settings = s; from = from + wide; to = to; bins = bins_of (span s 0) (from + wide) to (map of.pieces (drop 1 (set tables 0 new) ++ take 1 (set tables 0 new))) }
    ≡ record young { from = young.from + span young.settings 0; bins = drop 1 young.bins }
drop_bins of [] {s} {from} {to} {wide} {young} filled seen wide_is positive whole new = absurd (omega (arith, filled.len, some_bins s filled.valid))
drop_bins of (first ∷ rest) {s} {from} {to} {wide} {young} filled seen wide_is positive whole new =
    let held = map of.pieces rest in
    let fits = subst (λ (y : Young). y.from + span y.settings 0 ≤ y.to) (sym seen) whole in
    let bins : s.bins ≡ suc (length rest) = omega (arith, filled.len) in
    let all : s.bins * span s 0 ≡ suc (length rest) * span s 0 = ap (λ n. n * span s 0) bins in
    let step = suc-mul (length rest) (span s 0) in
    let len : length held * span s 0 ≡ length rest * span s 0 = ap (λ n. n * span s 0) (length-map rest of.pieces) in
    let within = filled.within in
    let bins_are : bins_of (span s 0) (from + wide) to (map of.pieces (rest ++ new ∷ [])) ≡ drop 1 (bins_of (span s 0) from to (of.pieces first ∷ held)) =
    ap (bins_of (span s 0) (from + wide) to) (map-append of.pieces rest (new ∷ []))
    ∙ bins_of-behind (span s 0) (from + wide) to held (of.pieces new ∷ []) (omega arith)
    ∙ ap (λ w. bins_of (span s 0) (from + w) to held) wide_is
    ∙ sym (ap (drop 1) (bins_of-some (span s 0) from to (of.pieces first) held (omega arith))) in
    subst (λ (y : Young). seen_as of s (rest ++ new ∷ []) (from + wide) to
    ≡ record y { from = y.from + span y.settings 0; bins = drop 1 y.bins }) seen
    (λ i. record { settings = s; from = from + wide_is i; to = to; bins = bins_are i })

-- what is known where the oldest bin is dropped
pub record Drops {T C : Type 0} (of : TablesOf T C) (s : Numbers) (tables : List T) (from to : ℕ) (young : Young) (wide : ℕ) (new : T)
    (after : List T) : Type 0 where
  pub filled : AreFilled of s tables from to
  pub seen : seen_as of s tables from to ≡ young
  pub whole : young.from + span young.settings 0 ≤ young.to
  pub wide_is : wide ≡ span s 0
  pub positive : 1 ≤ wide
  pub after_is : after ≡ drop 1 (set tables 0 new) ++ take 1 (set tables 0 new)

module _ {T C : Type 0} {of : TablesOf T C} {s : Numbers} {tables : List T} {from to : ℕ} {young : Young} {wide : ℕ} {new : T} {after : List T}
    (drops : Drops of s tables from to young wide new after) where
  -- the same of the fields
  pub drops_whole : from + wide ≤ to
  drops_whole =
      let fits = subst (λ (y : Young). y.from + span y.settings 0 ≤ y.to) (sym drops.seen) drops.whole in
      omega (arith, drops.wide_is)

  pub dropped_filled : (old : T) → old ≡ get_or tables 0 old → of.pieces new ≡ [] → of.adds new ≡ 0 → of.room new ≡ of.room old →
      of.quotient_bits new ≡ of.quotient_bits old → of.width new ≡ of.width old →
      AreFilled of s after (from + wide) to
  dropped_filled old is pieces_are adds_is room_is quotient_is remainder_is =
      let fits = subst (λ (y : Young). y.from + span y.settings 0 ≤ y.to) (sym drops.seen) drops.whole in
      let wide_is = drops.wide_is in
      subst (λ (ts : List T). AreFilled of s ts (from + wide) to) (sym drops.after_is)
      (drop_filled of tables drops.filled drops.wide_is drops.positive (omega arith) old new is pieces_are adds_is room_is quotient_is remainder_is)

  pub dropped_bins : seen_as of s after (from + wide) to
      ≡ record young { from = young.from + span young.settings 0; bins = drop 1 young.bins }
  dropped_bins =
      (λ i. seen_as of s (drops.after_is i) (from + wide) to)
      ∙ drop_bins of tables drops.filled drops.seen drops.wide_is drops.positive drops.whole new
