-- One slot more, step by step.
use Rattle.std.proofs.Common.{◌≡◌, ℕ, suc, ◌+◌, ◌-◌, ◌^◌, ◌<◌, ◌≤◌, Bool, true, false, List, [], ◌∷◌, ◌++◌, length, get_or, set, max, min, refl, ap, ◌∙◌, inl, inr, arith, length-append}
use Rattle.std.proofs.{lemmas.List.length-set, lemmas.List.Edits.{length-insert, length-remove}, lemmas.Bool.cases_lt}
use Rattle.std.specs.Prelude.{remove}
use Rattle.lert_slotbits.specs.Bits.{IsFirst, gapped}
use Rattle.lert_cqf.specs.{Cells.{stop, end_before, first_free}, Rows.{IsSpread, filled_gap, IsRaised}, Around.{total_length, IsOpening, IsWidened}}
use Rattle.lert_cqf.proofs.{CellLemmas.first_free-from, SpillLemmas.{end_passes, end_here}, SpreadLemmas.{free_found, spread_grown}, BegunLemmas.{total-append, free_within}}

pub length_filled : {C : Type 0} (xs : List C) (from to : ℕ) (v : C) → from ≤ to → to < length xs → length (filled_gap xs from to v) ≡ length xs
length_filled xs from to v order within =
    let shorter = length-remove xs to within in
    let longer = length-insert (remove xs to) from v (omega arith) in omega arith

-- no spill is greater than all cells of runs
end_bound : {C : Type 0} (at g : ℕ) (rs : List (ℕ × List C)) → end_before at g rs ≤ max at g + total_length rs
end_bound at g [] = omega arith
end_bound at g (r ∷ rs) =
    elim (cases_lt r.0 g) [
      | inl passes ↦ (let e = end_passes at g r rs passes in let h = end_bound (max at r.0 + length r.1) g rs in omega arith)
      | inr here ↦ (let e = end_here at g r rs here in omega arith)
    ]

pub spill_small : (n homes : ℕ) (ts : List (ℕ × List ℕ)) (slots : List ℕ) (ends used : List Bool) (spill : List ℕ) → IsSpread n homes ts slots ends used spill →
    homes + total_length ts ≤ n → n + 1 < 2 ^ 32
    → (g : ℕ) → g < length spill → get_or spill g 0 + 1 < 2 ^ 32
spill_small n homes ts slots ends used spill s fits short g within =
    let long = s.spill_long in
    let is = s.spill_is g (omega arith) in
    let bound = end_bound 0 g ts in omega arith

-- the cells of all runs as one has another text
pub total_at : (q : ℕ) (t : List ℕ) (before after : List (ℕ × List ℕ)) → total_length (before ++ (q, t) ∷ after) ≡ total_length before + length t + total_length after
total_at q t before after = let e = total-append before ((q, t) ∷ after) in omega arith

module _ (n homes home place last extra i : ℕ) (slots0 : List ℕ) (ends0 used0 : List Bool) (spill0 : List ℕ) (o : IsOpening n homes home place last extra slots0 ends0 used0 spill0)
    (slots : List ℕ) (ends used : List Bool) (spill : List ℕ) (w : IsWidened n homes home i o.before o.after o.front o.back slots ends used spill) (more : i < extra) where
  abbrev text : List ℕ
  text = o.front ++ (w.added ++ o.back)

  abbrev pub free_place : ℕ
  free_place = first_free (max (stop 0 o.before) home + length (o.front ++ (w.added ++ o.back))) o.after

  text_long : length text ≡ length (o.front ++ o.back) + i
  text_long = let a = w.added_long in omega (arith, length-append o.front (w.added ++ o.back), length-append w.added o.back, length-append o.front o.back)

  pub widened_total : homes + total_length (o.before ++ (home, text) ∷ o.after) + (extra - i) ≤ n
  widened_total =
      let a = total_at home text o.before o.after in
      let b = total_at home (o.front ++ o.back) o.before o.after in
      let c = text_long in
      let room = o.room in omega arith

  pub free_room : free_place < n
  free_room =
      let bound = free_within home text o.before o.after (o.around).below in
      let all = widened_total in
      let within = (o.around).within in omega arith

  pub free_first : IsFirst false used place free_place
  free_first =
      let at = o.place_is in
      free_found n home text o.before o.after free_room used place (w.spread).used_are (omega arith) (omega (arith, length-append o.front (w.added ++ o.back)))

  pub spill_room : (g : ℕ) → g < length spill → get_or spill g 0 + 1 < 2 ^ 32
  spill_room = spill_small n homes (o.before ++ (home, text) ∷ o.after) slots ends used spill w.spread (let all = widened_total in omega arith) (w.lengths).short

  pub opened : (v : ℕ) (slots' : List ℕ) (ends' used' : List Bool) (spill' : List ℕ) → slots' ≡ filled_gap slots place free_place v →
      ends' ≡ gapped ends (min place (last + i)) free_place
      → used' ≡ set used free_place true → IsRaised spill spill' (home + 1) (min free_place (length spill - 1)) →
      IsWidened n homes home (i + 1) o.before o.after o.front o.back slots' ends' used' spill'
  opened v slots' ends' used' spill' slots_are ends_are used_are raised =
      let start = max (stop 0 o.before) home in
      let long = text_long in
      let some = o.some in
      let at = o.place_is in
      let end = o.last_is in
      let low = first_free-from (start + length text) o.after in
      let lengths = w.lengths in
      let within = free_room in
      let parts = length-append o.front (w.added ++ o.back) in
      let k = length text - 1 in
      let whole : length text ≡ suc k = omega arith in
      let j = min (length o.front) k in
      let mark : min place (last + i) ≡ start + j = omega arith in
      let homes_is : min free_place (length spill - 1) ≡ min free_place homes = omega (arith, lengths.spill_long) in
      let grown = spread_grown n home o.front (w.added ++ o.back) v o.before o.after within homes k j slots ends used spill spill' w.spread o.around whole (omega arith) (rw homes_is at raised) in
      let slots_same : slots' ≡ filled_gap slots (start + length o.front) free_place v = slots_are ∙ ap (λ m. filled_gap slots m free_place v) at in
      let ends_same : ends' ≡ gapped ends (start + j) free_place = ends_are ∙ ap (λ m. gapped ends m free_place) mark in
      let slots_long = lengths.slots_long in
      let ends_long = lengths.ends_long in
      let used_long = lengths.used_long in
      record {
        added = v ∷ w.added;
        added_long = (let a = w.added_long in omega arith);
        spread = rw (slots_same, ends_same, used_are) grown;
        lengths = record {
          slots_long = ap (λ (t : List ℕ). length t) slots_are ∙ length_filled slots place free_place v (omega arith) (omega arith) ∙ slots_long;
          ends_long = ap (λ (t : List Bool). length t) ends_are ∙ length_filled ends (min place (last + i)) free_place false (omega arith) (omega arith) ∙ ends_long;
          used_long = ap (λ (t : List Bool). length t) used_are ∙ length-set used free_place true ∙ used_long;
          spill_long = raised.long ∙ lengths.spill_long;
          short = lengths.short;
        };
      }

  pub last_small : last + i < n
  last_small =
      let start = max (stop 0 o.before) home in
      let low = first_free-from (start + length text) o.after in
      let within = free_room in
      let long = text_long in
      let end = o.last_is in omega arith

  pub place_reached : home ≤ place
  place_reached = let at = o.place_is in omega arith

-- nothing is added at first
pub widened_first : (n homes home place last extra : ℕ) (slots : List ℕ) (ends used : List Bool) (spill : List ℕ) (o : IsOpening n homes home place last extra slots ends used spill)
    → IsWidened n homes home 0 o.before o.after o.front o.back slots ends used spill
widened_first n homes home place last extra slots ends used spill o = record { added = []; added_long = refl; spread = o.spread; lengths = o.lengths }
