-- Behind the last run all slots are 0.
use Rattle.std.proofs.{Common.{◌≡◌, ℕ, ◌+◌, ◌-◌, ◌^◌, ◌<◌, ◌≤◌, Bool, List, [], ◌∷◌, ◌++◌, length, replicate, get_or, drop, max, sym, ap, ◌∙◌, inl, inr, arith}, Math.Seq.drop-append-add}
use Rattle.std.proofs.{lemmas.Bool.cases_lt, lemmas.List.{drop-replicate, length-replicate}, lemmas.Nat.pow_pos}
use Rattle.lert_spec.specs.declared.piece.Piece.{Piece}
use Rattle.lert_cqf.specs.{Cells.{cells, cells_from, end_before}, Around.HomesAscend, Contents.IsKept, Layout.{by_quotient, texts, slot_count}}
use Rattle.lert_cqf.proofs.{SpillLemmas.{end_passes, end_here}, SplitLemmas.texts_above, ShortLemmas.reaches, TableLemmas.{homes_ascend, occupied_long}}

module _ {C : Type 0} (z : C) (n g : ℕ) where
  -- runs don't end before they begin
  end_from : (at : ℕ) (rs : List (ℕ × List C)) → at ≤ end_before at g rs
  end_from at [] = omega arith
  end_from at (r ∷ rs) = elim (cases_lt r.0 g) [
    | inl passes ↦ omega (arith, end_passes at g r rs passes, end_from (max at r.0 + length r.1) rs)
    | inr here ↦ omega (arith, end_here at g r rs here)
  ]

  past : (at end least : ℕ) (rs : List (ℕ × List C)) → HomesAscend least g rs → end_before at g rs ≤ end → drop (end - at) (cells_from z n at rs) ≡ replicate (n - end) z
  past at end least [] up reached =
      drop-replicate (end - at) (n - at) z ∙ ap (λ k. replicate k z) (let same : n - at - (end - at) ≡ n - end = omega (arith, reached) in same)
  past at end least (r ∷ rs) up reached =
      let next = max at r.0 + length r.1 in
      let there : end_before next g rs ≤ end = omega (arith, reached, end_passes at g r rs up.1) in
      let gap = replicate (r.0 - at) z in
      let rest = cells_from z n next rs in
      let parts : end - at ≡ length gap + (length r.1 + (end - next)) = omega (arith, end_from next rs, there, length-replicate (r.0 - at) z) in
      ap (λ k. drop k (gap ++ (r.1 ++ rest))) parts
      ∙ drop-append-add gap (r.1 ++ rest) (length r.1 + (end - next))
      ∙ drop-append-add r.1 rest (end - next)
      ∙ past next end (r.0 + 1) rs up.2 there

-- where the runs of a table end
module _ (pieces : List Piece) (quotient_bits width adds room : ℕ) (slots : List ℕ) (occupied ends used : List Bool) (spill : List ℕ)
    (k : IsKept pieces quotient_bits width adds room slots occupied ends used spill) (len : ℕ) (len_is : len ≡ length occupied) where
  homes_are : len ≡ 2 ^ quotient_bits
  homes_are = len_is ∙ occupied_long pieces quotient_bits width adds room slots occupied ends used spill k

  pub len_within : len < length spill
  len_within = omega (arith, homes_are, k.stand.lengths.spill_long)

  pub end_within : len + get_or spill len 0 ≤ length slots
  end_within =
      let some = pow_pos quotient_bits in
      let last = reaches pieces quotient_bits width adds room slots occupied ends used spill k (len - 1) (omega (arith, homes_are, some)) in
      let same : len - 1 + 1 ≡ len = omega (arith, homes_are, some) in
      omega (arith, last.ends, same, ap (λ i. get_or spill i 0) same)

  pub slots_short : length slots < 2 ^ 32
  slots_short = omega (arith, k.stand.lengths.short, k.stand.lengths.slots_long)

  pub past_end : drop (len + get_or spill len 0) slots ≡ replicate (length slots - (len + get_or spill len 0)) 0
  past_end =
      let end = len + get_or spill len 0 in
      let n = slot_count quotient_bits room in
      let ts = texts width (by_quotient width pieces) in
      let up = texts_above width 0 (2 ^ quotient_bits) (by_quotient width pieces) (homes_ascend pieces quotient_bits width adds room slots occupied ends used spill k) in
      let reached : end_before 0 (2 ^ quotient_bits) ts ≤ end =
      omega (arith, homes_are, ap (λ i. get_or spill i 0) homes_are, k.stand.spread.spill_is (2 ^ quotient_bits) (omega arith)) in
      let whole : end ≡ end - 0 = omega arith in
      ap (drop end) k.stand.spread.slots_are
      ∙ ap (λ m. drop m (cells 0 n ts)) whole
      ∙ past 0 n (2 ^ quotient_bits) 0 end 0 ts up reached
      ∙ ap (λ m. replicate (m - end) 0) (sym k.stand.lengths.slots_long)
