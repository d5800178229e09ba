-- The rows as a run begins, or is written over; and where a run stands.
use Rattle.std.proofs.Common.{◌≡◌, ℕ, ◌+◌, ◌-◌, ◌<◌, ◌≤◌, Bool, true, false, List, [], ◌∷◌, ◌++◌, length, take, drop, replicate, get_or, set, max, min, refl}
use Rattle.std.proofs.Common.{sym, ap, ◌∙◌, inl, inr, arith, length-append, append_assoc}
use Rattle.std.specs.Prelude.{remove}
use Rattle.std.proofs.lemmas.List.{length-replicate, take_at, drop_at, map-append, set_at, length-take-le}
use Rattle.std.proofs.lemmas.List.Edits.{length-remove}
use Rattle.std.proofs.lemmas.Bool.{cases_lt}
use Rattle.lert_slotbits.specs.Bits.{gapped}
use Rattle.lert_cqf.specs.Cells.{cells_from, cells, stop, end_before, first_free}
use Rattle.lert_cqf.specs.Layout.{ends_of}
use Rattle.lert_cqf.specs.Rows.{reshaped, used_text, IsSpread, filled_gap, IsRaised}
use Rattle.lert_cqf.specs.Around.{HomesAscend, HomesBelow, IsAround, total_length}
use Rattle.lert_cqf.proofs.CellLemmas.{first_free-from, free_there, free_later}
use Rattle.lert_cqf.proofs.GrownLemmas.{front_of, start_of, length_front, cells_at, grown_cells, cells_empty}
use Rattle.lert_cqf.proofs.SpillLemmas.{spill_empty, below_unmoved, behind_run, home_start, home_end}
use Rattle.lert_cqf.proofs.SpreadLemmas.{free-reshaped, reshaped-append, start-reshaped, length_ends_of, length_used_text, used_grown, raised_spill}

pub total-append : {C : Type 0} (xs ys : List (ℕ × List C)) → total_length (xs ++ ys) ≡ total_length xs + total_length ys
total-append [] ys = omega arith
total-append (x ∷ xs) ys = let h = total-append xs ys in omega arith

-- no cell is used behind as many as there are homes and used cells
free_bound : {C : Type 0} (at : ℕ) (rs : List (ℕ × List C)) → first_free at rs ≤ at + total_length rs
free_bound at [] = omega arith
free_bound at (r ∷ rs) =
    elim (cases_lt at r.0) [
      | inl apart ↦ (let e = free_there at r rs apart in omega arith)
      | inr stuck ↦ (let e = free_later at r rs stuck in let h = free_bound (at + length r.1) rs in omega arith)
    ]

pub stop_bound : {C : Type 0} (at g : ℕ) (rs : List (ℕ × List C)) → HomesBelow g rs → stop at rs ≤ max at g + total_length rs
stop_bound at g [] h = omega arith
stop_bound at g (r ∷ rs) h = let more = stop_bound (max at r.0 + length r.1) g rs h.1 in omega (arith, h.0)

pub free_within : {C : Type 0} (q : ℕ) (t : List C) (before after : List (ℕ × List C)) → HomesBelow q before
    → first_free (max (stop 0 before) q + length t) after ≤ q + total_length (before ++ (q, t) ∷ after)
free_within q t before after below =
    let a = stop_bound 0 q before below in
    let b = free_bound (max (stop 0 before) q + length t) after in
    let c = total-append before ((q, t) ∷ after) in omega arith

-- homes below others
homes_ascend-weaker : {C : Type 0} (q limit : ℕ) (rs : List (ℕ × List C)) → HomesAscend (q + 1) limit rs → HomesAscend q limit rs
homes_ascend-weaker q limit [] h = tt
homes_ascend-weaker q limit (r ∷ rs) h = (omega (arith, h.0), h.1, h.2)

homes_ascend-reshaped : {C D : Type 0} (f : ℕ → List D) (least limit : ℕ) (rs : List (ℕ × List C)) → HomesAscend least limit rs → HomesAscend least limit (reshaped f rs)
homes_ascend-reshaped f least limit [] h = tt
homes_ascend-reshaped f least limit (r ∷ rs) h = (h.0, h.1, homes_ascend-reshaped f (r.0 + 1) limit rs h.2)

-- a run of no cells changes no row
reshaped_empty : {D : Type 0} (z : D) (f : ℕ → List D) (same : (k : ℕ) → length (f k) ≡ k) (none : f 0 ≡ []) (n q limit : ℕ) (before after : List (ℕ × List ℕ)) →
    HomesAscend q limit after → q ≤ n
    → cells z n (reshaped f (before ++ (q, []) ∷ after)) ≡ cells z n (reshaped f (before ++ after))
reshaped_empty {D} z f same none n q limit before after above fits =
    ap (cells z n) (reshaped-append f same before q [] after)
    ∙ ap (λ (t : List D). cells z n (reshaped f before ++ (q, t) ∷ reshaped f after)) none
    ∙ cells_empty z n q limit (reshaped f before) (reshaped f after) (homes_ascend-reshaped f q limit after above) fits
    ∙ ap (cells z n) (sym (map-append (λ (r : ℕ × List ℕ). (r.0, f (length r.1))) before after))

pub spread_empty : (n homes q : ℕ) (before after : List (ℕ × List ℕ)) (slots : List ℕ) (ends used : List Bool) (spill : List ℕ) → IsAround n homes q before after
    → IsSpread n homes (before ++ after) slots ends used spill → IsSpread n homes (before ++ (q, []) ∷ after) slots ends used spill
spread_empty n homes q before after slots ends used spill around s =
    let above = homes_ascend-weaker q homes after around.above in
    let fits : q ≤ n = omega (arith, around.within, around.fits) in
    record {
      slots_are = s.slots_are ∙ sym (cells_empty 0 n q homes before after above fits);
      ends_are = s.ends_are ∙ sym (reshaped_empty false ends_of length_ends_of refl n q homes before after above fits);
      used_are = s.used_are ∙ sym (reshaped_empty false used_text length_used_text refl n q homes before after above fits);
      spill_long = s.spill_long;
      spill_is = λ g h. s.spill_is g h ∙ sym (spill_empty q g homes before after around.below around.above);
    }

-- a gap that is filled afterwards
filled_later : (xs : List Bool) (from to : ℕ) → from ≤ to → to < length xs → set (gapped xs from to) from true ≡ filled_gap xs from to true
filled_later xs from to order within =
    let shorter = length-remove xs to within in
    set_at (take from (remove xs to)) false (drop from (remove xs to)) true from (length-take-le from (remove xs to) (omega arith))

pub length_cells : {C : Type 0} (z : C) (n at : ℕ) (rs : List (ℕ × List C)) → n ≤ at + length (cells_from z n at rs)
length_cells z n at [] = omega (arith, length-replicate (n - at) z)
length_cells z n at (r ∷ rs) =
    let more = length_cells z n (max at r.0 + length r.1) rs in
    omega (
      arith,
      length-append (replicate (r.0 - at) z) (r.1 ++ cells_from z n (max at r.0 + length r.1) rs),
      length-append r.1 (cells_from z n (max at r.0 + length r.1) rs),
      length-replicate (r.0 - at) z,
    )

-- a run begins with one cell
pub spread_begun : (n homes q v : ℕ) (before after : List (ℕ × List ℕ)) (slots : List ℕ) (ends used : List Bool) (spill raised : List ℕ) → IsAround n homes q before after
    → first_free (max (stop 0 before) q) after < n → IsSpread n homes (before ++ after) slots ends used spill
    → IsRaised spill raised (q + 1) (min (first_free (max (stop 0 before) q) after) homes)
    → IsSpread n homes (before ++ (q, v ∷ []) ∷ after) (filled_gap slots (max (stop 0 before) q) (first_free (max (stop 0 before) q) after) v)
    (set (gapped ends (max (stop 0 before) q) (first_free (max (stop 0 before) q) after)) (max (stop 0 before) q) true)
    (set used (first_free (max (stop 0 before) q) after) true) raised
spread_begun n homes q v before after slots ends used spill raised around room s r =
    let e = spread_empty n homes q before after slots ends used spill around s in
    let home = max (stop 0 before) q in
    let same : home + 0 ≡ home = omega arith in
    let place : first_free (home + 0) after ≡ first_free home after = ap (λ k. first_free k after) same in
    let start = start-reshaped ends_of length_ends_of q before in
    let ends_place : first_free (start_of false q (reshaped ends_of before) + 0) (reshaped ends_of after) ≡ first_free home after =
    ap (λ k. first_free k (reshaped ends_of after)) (let e : start_of false q (reshaped ends_of before) + 0 ≡ home = omega arith in e) ∙ free-reshaped ends_of length_ends_of home after in
    let low = first_free-from home after in
    let long : n ≤ length ends = (let whole = length_cells false n 0 (reshaped ends_of (before ++ (q, []) ∷ after)) in rw e.ends_are (omega arith)) in
    record {
      slots_are = ap (λ (c : List ℕ). filled_gap c home (first_free home after) v) e.slots_are
          ∙ ap (λ k. filled_gap (cells 0 n (before ++ (q, []) ∷ after)) k (first_free home after) v) (sym same)
          ∙ ap (λ k. filled_gap (cells 0 n (before ++ (q, []) ∷ after)) (home + 0) k v) (sym place)
          ∙ sym (grown_cells 0 n q v [] [] before after (omega arith));
      ends_are = filled_later ends home (first_free home after) (omega arith) (omega arith)
          ∙ ap (λ (c : List Bool). filled_gap c home (first_free home after) true) (e.ends_are ∙ ap (cells false n) (reshaped-append ends_of length_ends_of before q [] after))
          ∙ ap (λ k. filled_gap (cells false n (reshaped ends_of before ++ (q, []) ∷ reshaped ends_of after)) k (first_free home after) true)
          (let m : home ≡ start_of false q (reshaped ends_of before) + 0 = omega arith in m)
          ∙ ap (λ k. filled_gap (cells false n (reshaped ends_of before ++ (q, []) ∷ reshaped ends_of after)) (start_of false q (reshaped ends_of before) + 0) k true) (sym ends_place)
          ∙ sym (grown_cells false n q true [] [] (reshaped ends_of before) (reshaped ends_of after) (omega arith))
          ∙ sym (ap (cells false n) (reshaped-append ends_of length_ends_of before q (v ∷ []) after));
      used_are = ap (λ k. set used k true) (sym place) ∙ used_grown n q [] before after (omega arith) used (v ∷ []) refl e.used_are;
      spill_long = r.long ∙ s.spill_long;
      spill_is = raised_spill n homes q [] (v ∷ []) before after spill raised s.spill_long e.spill_is around refl (rw place r);
    }

-- what lies behind a run depends on its length alone
pub spread_over : (n homes q : ℕ) (t s : List ℕ) (before after : List (ℕ × List ℕ)) (slots over : List ℕ) (ends used : List Bool) (spill : List ℕ) →
    IsAround n homes q before after → length s ≡ length t
    → IsSpread n homes (before ++ (q, t) ∷ after) slots ends used spill → over ≡ cells 0 n (before ++ (q, s) ∷ after)
    → IsSpread n homes (before ++ (q, s) ∷ after) over ends used spill
spread_over n homes q t s before after slots over ends used spill around same sp is =
    record {
      slots_are = is;
      ends_are = sp.ends_are ∙ reshaped_same ends_of length_ends_of before q t s after same;
      used_are = sp.used_are ∙ reshaped_same used_text length_used_text before q t s after same;
      spill_long = sp.spill_long;
      spill_is = λ g h. sp.spill_is g h ∙ ap (λ e. e - g) (ends_same g);
    }
  where
    reshaped_same : (f : ℕ → List Bool) (fits : (k : ℕ) → length (f k) ≡ k) (before : List (ℕ × List ℕ)) (q : ℕ) (t s : List ℕ) (after : List (ℕ × List ℕ)) →
        length s ≡ length t
        → cells false n (reshaped f (before ++ (q, t) ∷ after)) ≡ cells false n (reshaped f (before ++ (q, s) ∷ after))
    reshaped_same f fits before q t s after same =
        ap (cells false n) (reshaped-append f fits before q t after ∙ ap (λ k. reshaped f before ++ (q, f k) ∷ reshaped f after) (sym same) ∙ sym (reshaped-append f fits before q s after))

    ends_same : (g : ℕ) → end_before 0 g (before ++ (q, t) ∷ after) ≡ end_before 0 g (before ++ (q, s) ∷ after)
    ends_same g = elim (cases_lt q g) [
      | inl behind ↦ behind_run g q t before after around.below behind ∙ ap (λ k. end_before (max (stop 0 before) q + k) g after) (sym same)
          ∙ sym (behind_run g q s before after around.below behind)
      | inr low ↦ below_unmoved 0 g q t s before after low
    ]

-- a part of a list between two others is written over
middle_over : (front u x w back y : List ℕ) → length y ≡ length x
    → take (length front + length u) (front ++ ((u ++ (x ++ w)) ++ back)) ++ (y ++ drop (length front + length u + length y) (front ++ ((u ++ (x ++ w)) ++ back)))
    ≡ front ++ ((u ++ (y ++ w)) ++ back)
middle_over front u x w back y same =
    let split : front ++ ((u ++ (x ++ w)) ++ back) ≡ (front ++ u) ++ (x ++ (w ++ back)) =
    ap (λ (t : List ℕ). front ++ t) (append_assoc u (x ++ w) back ∙ ap (λ (t : List ℕ). u ++ t) (append_assoc x w back)) ∙ sym (append_assoc front u (x ++ (w ++ back))) in
    let long = length-append front u in
    let first : take (length front + length u) (front ++ ((u ++ (x ++ w)) ++ back)) ≡ front ++ u =
    ap (take (length front + length u)) split ∙ take_at (front ++ u) (x ++ (w ++ back)) (length front + length u) long in
    let rest : drop (length front + length u + length y) (front ++ ((u ++ (x ++ w)) ++ back)) ≡ w ++ back =
    ap (drop (length front + length u + length y)) (split ∙ sym (append_assoc (front ++ u) x (w ++ back)))
    ∙ drop_at ((front ++ u) ++ x) (w ++ back) (length front + length u + length y) (omega (arith, length-append (front ++ u) x)) in
    ap (λ (t : List ℕ). t ++ (y ++ drop (length front + length u + length y) (front ++ ((u ++ (x ++ w)) ++ back)))) first
    ∙ ap (λ (t : List ℕ). (front ++ u) ++ (y ++ t)) rest
    ∙ append_assoc front u (y ++ (w ++ back)) ∙ ap (λ (t : List ℕ). front ++ t) (ap (λ (t : List ℕ). u ++ t) (sym (append_assoc y w back)) ∙ sym (append_assoc u (y ++ w) back))

pub cells_over : (n q : ℕ) (u x w y slots : List ℕ) (before after : List (ℕ × List ℕ)) → length y ≡ length x → slots ≡ cells 0 n (before ++ (q, u ++ (x ++ w)) ∷ after)
    → take (max (stop 0 before) q + length u) slots ++ (y ++ drop (max (stop 0 before) q + length u + length y) slots) ≡ cells 0 n (before ++ (q, u ++ (y ++ w)) ∷ after)
cells_over n q u x w y slots before after same is =
    let front = front_of 0 q before in
    let long = length_front 0 q before in
    let lengths : length (u ++ (y ++ w)) ≡ length (u ++ (x ++ w)) = omega (arith, length-append u (y ++ w), length-append u (x ++ w), length-append y w, length-append x w) in
    let back = cells_from 0 n (max (stop 0 before) q + length (u ++ (x ++ w))) after in
    let whole : slots ≡ front ++ ((u ++ (x ++ w)) ++ back) = is ∙ cells_at 0 n q (u ++ (x ++ w)) before after in
    ap (λ (t : List ℕ). take (max (stop 0 before) q + length u) t ++ (y ++ drop (max (stop 0 before) q + length u + length y) t)) whole
    ∙ ap (λ k. take (k + length u) (front ++ ((u ++ (x ++ w)) ++ back)) ++ (y ++ drop (k + length u + length y) (front ++ ((u ++ (x ++ w)) ++ back)))) (sym long)
    ∙ middle_over front u x w back y same
    ∙ ap (λ k. front ++ ((u ++ (y ++ w)) ++ cells_from 0 n (max (stop 0 before) q + k) after)) (sym lengths)
    ∙ sym (cells_at 0 n q (u ++ (y ++ w)) before after)

-- where a run stands: `start` and `end` are what the spills say
pub record StandsAt (q start end : ℕ) (t slots : List ℕ) (before : List (ℕ × List ℕ)) : Type 0 where
  pub start_is : start ≡ max (stop 0 before) q
  pub end_is : end ≡ max (stop 0 before) q + length t
  pub text : take (end - start) (drop start slots) ≡ t
  pub within : end ≤ length slots

pub stands_at : (n homes q : ℕ) (t : List ℕ) (before after : List (ℕ × List ℕ)) (slots : List ℕ) (ends used : List Bool) (spill : List ℕ) → IsAround n homes q before after →
    0 < length t
    → IsSpread n homes (before ++ (q, t) ∷ after) slots ends used spill → StandsAt q (q + get_or spill q 0) (q + 1 + get_or spill (q + 1) 0) t slots before
stands_at n homes q t before after slots ends used spill around some s =
    let front = front_of 0 q before in
    let long = length_front 0 q before in
    let first = s.spill_is q (omega (arith, around.within)) ∙ ap (λ e. e - q) (home_start q t before after around.below) in
    let last = s.spill_is (q + 1) (omega (arith, around.within)) ∙ ap (λ e. e - (q + 1)) (home_end q homes t before after around.below around.above) in
    let start_is : q + get_or spill q 0 ≡ max (stop 0 before) q = omega arith in
    let end_is : q + 1 + get_or spill (q + 1) 0 ≡ max (stop 0 before) q + length t = omega arith in
    let whole = s.slots_are ∙ cells_at 0 n q t before after in
    let back = cells_from 0 n (max (stop 0 before) q + length t) after in
    record {
      start_is = start_is;
      end_is = end_is;
      text = ap (λ k. take k (drop (q + get_or spill q 0) slots)) (let e : q + 1 + get_or spill (q + 1) 0 - (q + get_or spill q 0) ≡ length t = omega arith in e)
          ∙ ap (λ (c : List ℕ). take (length t) (drop (q + get_or spill q 0) c)) whole
          ∙ ap (take (length t)) (drop_at front (t ++ back) (q + get_or spill q 0) (omega arith))
          ∙ take_at t back (length t) refl;
      within = omega (arith, ap (λ (c : List ℕ). length c) whole, length-append front (t ++ back), length-append t back);
    }

-- where a run would begin
pub begins_at : (n homes q : ℕ) (before after : List (ℕ × List ℕ)) (slots : List ℕ) (ends used : List Bool) (spill : List ℕ) → IsAround n homes q before after
    → IsSpread n homes (before ++ after) slots ends used spill → q + get_or spill q 0 ≡ max (stop 0 before) q
begins_at n homes q before after slots ends used spill around s =
    let e = spread_empty n homes q before after slots ends used spill around s in
    let first = e.spill_is q (omega (arith, around.within)) ∙ ap (λ e. e - q) (home_start q [] before after around.below) in omega arith

-- a run stands within the slots
pub text_within : (n q : ℕ) (t slots : List ℕ) (before after : List (ℕ × List ℕ)) → slots ≡ cells 0 n (before ++ (q, t) ∷ after) →
    max (stop 0 before) q + length t ≤ length slots
text_within n q t slots before after is =
    let front = front_of 0 q before in
    let back = cells_from 0 n (max (stop 0 before) q + length t) after in
    omega (arith, ap (λ (c : List ℕ). length c) (is ∙ cells_at 0 n q t before after), length-append front (t ++ back), length-append t back, length_front 0 q before)
