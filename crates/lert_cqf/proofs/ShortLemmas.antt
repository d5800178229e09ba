-- A run of at most two slots: what it says of a remainder, and where it would stand if it is none.
use Rattle.std.proofs.Common.{◌≡◌, ◌≢◌, ℕ, suc, ◌+◌, ◌-◌, ◌*◌, ◌/◌, ◌%◌, ◌^◌, ◌<◌, ◌≤◌, Bool, true, false, List, [], ◌∷◌, ◌++◌, length}
use Rattle.std.proofs.Common.{take, drop, get_or, max, sym, ap, ◌∙◌, subst, inl, inr, ◌⊎◌, arith, length-append}
use Rattle.std.proofs.lemmas.Bool.{cases_eq, cases_lt}
use Rattle.std.proofs.lemmas.List.{get_or-drop, get_or-take}
use Rattle.std.proofs.Math.Seq.{drop-cons}
use Rattle.lert_counter.specs.Group.{group, digit_base}
use Rattle.lert_counter.proofs.DigitLemmas.{length_digits-positive}
use Rattle.lert_counter.proofs.GroupLemmas.{shape_of, length_middle}
use Rattle.lert_counter.proofs.GroupLemmas.Shape.{one, two, three, zeros, bare, guarded}
use Rattle.lert_runs.specs.RunText.{run_text, RemaindersAscend, count_in}
use Rattle.lert_runs.proofs.RunLemmas.{count_in-here, count_in-later}
use Rattle.lert_spec.specs.Table.{costs, count_of}
use Rattle.lert_spec.specs.declared.piece.Piece.{Piece}
use Rattle.lert_cqf.specs.Cells.{stop, end_before}
use Rattle.lert_cqf.specs.Layout.{by_quotient, texts, slot_count}
use Rattle.lert_cqf.specs.Around.{IsAround, total_length}
use Rattle.lert_cqf.specs.Growing.{Stand}
use Rattle.lert_cqf.specs.Contents.{IsKept}
use Rattle.lert_cqf.proofs.BegunLemmas.{spread_empty, begins_at, stop_bound, total-append}
use Rattle.lert_cqf.proofs.GrowingLemmas.{length_text-positive}
use Rattle.lert_cqf.proofs.SlotsLemmas.{total_slots}
use Rattle.lert_cqf.proofs.SpillLemmas.{home_end}
use Rattle.lert_cqf.proofs.SplitLemmas.{Holds, Lacks, find_quotient, texts-append, around_texts}
use Rattle.lert_cqf.proofs.TableLemmas.{runs_ascend, hold_at, hold_some, count_absent, count_present, was_held, lacked}

-- a group of one slot is a remainder that occurs once
pub one_slot : (width x c : ℕ) → 1 ≤ c → length (group width x c) ≤ 1 → (c ≡ 1) × (group width x c ≡ x ∷ [])
one_slot width x c positive short =
    elim (shape_of width x c positive) [
      | one e is ↦ (e, is)
      | two e is ↦ absurd (omega (arith, ap (λ (t : List ℕ). length t) is))
      | three z e is ↦ absurd (omega (arith, ap (λ (t : List ℕ). length t) is))
      | zeros z l is ↦ absurd (omega (arith, length-append {A = ℕ}, ap (λ (t : List ℕ). length t) is))
      | bare p l w is ↦ absurd (omega (arith, length-append {A = ℕ}, ap (λ (t : List ℕ). length t) is))
      | guarded p l w is ↦ absurd (omega (arith, length-append {A = ℕ}, ap (λ (t : List ℕ). length t) is))
    ]

-- the one remainder of a text of one slot
pub single : (width : ℕ) (ps : List (ℕ × ℕ)) → 0 < length ps → RemaindersAscend 0 ps → length (run_text width ps) ≤ 1 →
    (x : ℕ) × (ps ≡ (x, 1) ∷ []) × (run_text width ps ≡ x ∷ [])
single width [] some h short = absurd (omega arith)
single width (p ∷ []) some h short =
    let whole = length-append (group width p.0 p.1) [] in
    let o = one_slot width p.0 p.1 (h.1).0 (omega arith) in
    (p.0, ap (λ n. (p.0, n) ∷ []) o.0, ap (λ (t : List ℕ). t ++ []) o.1)
single width (p ∷ r ∷ ps) some h short =
    let rest = length_text-positive width (p.0 + 1) (r ∷ ps) (omega arith) h.2 in
    let first = length_text-positive width 0 (p ∷ []) (omega arith) (h.0, h.1, tt) in
    absurd (omega (arith, length-append (group width p.0 p.1) (run_text width (r ∷ ps)), length-append (group width p.0 p.1) []))

-- a group of two slots is a remainder that occurs twice
pub two_slots : (width x c : ℕ) → 1 ≤ c → length (group width x c) ≡ 2 → (c ≡ 2) × (group width x c ≡ x ∷ x ∷ [])
two_slots width x c positive two_long =
    elim (shape_of width x c positive) [
      | one e is ↦ absurd (omega (arith, ap (λ (t : List ℕ). length t) is))
      | two e is ↦ (e, is)
      | three z e is ↦ absurd (omega (arith, ap (λ (t : List ℕ). length t) is))
      | zeros z l is ↦ absurd (omega (arith, length-append {A = ℕ}, ap (λ (t : List ℕ). length t) is))
      | bare p l w is ↦ absurd (let some = length_digits-positive 5 (digit_base width x) (c - 3) in
          let long = length_middle x (c - 3) (digit_base width x) (x ∷ []) in omega (arith, ap (λ (t : List ℕ). length t) is))
      | guarded p l w is ↦ absurd (let some = length_digits-positive 5 (digit_base width x) (c - 3) in
          let long = length_middle x (c - 3) (digit_base width x) (x ∷ []) in omega (arith, ap (λ (t : List ℕ). length t) is))
    ]

-- of a text of two slots, as many are x as x occurs
pub pair_count : (width : ℕ) (ps : List (ℕ × ℕ)) (x a b m n : ℕ) → 0 < length ps → RemaindersAscend 0 ps → run_text width ps ≡ a ∷ b ∷ []
    → (a ≢ x → m ≡ 0) → (a ≡ x → m ≡ 1) → (b ≢ x → n ≡ 0) → (b ≡ x → n ≡ 1) → m + n ≡ count_in ps x
pair_count width [] x a b m n some h text a_not a_is b_not b_is = absurd (omega arith)
pair_count width (p ∷ []) x a b m n some h text a_not a_is b_not b_is =
    let long = ap (λ (t : List ℕ). length t) text in
    let whole = length-append (group width p.0 p.1) [] in
    let o = two_slots width p.0 p.1 (h.1).0 (omega arith) in
    let same : p.0 ∷ p.0 ∷ [] ≡ a ∷ b ∷ [] = sym (ap (λ (t : List ℕ). t ++ []) o.1) ∙ text in
    let first : p.0 ≡ a = cc in
    let second : p.0 ≡ b = cc in
    elim (cases_eq p.0 x) [
      | inl is ↦ (let i = a_is (sym first ∙ is) in let j = b_is (sym second ∙ is) in let c = count_in-here p [] x is in omega (arith, o.0))
      | inr not ↦ (let i = a_not (λ e. not (first ∙ e)) in let j = b_not (λ e. not (second ∙ e)) in let c = count_in-later p [] x not in omega arith)
    ]
pair_count width (p ∷ r ∷ []) x a b m n some h text a_not a_is b_not b_is =
    let long = ap (λ (t : List ℕ). length t) text in
    let whole = length-append (group width p.0 p.1) (run_text width (r ∷ [])) in
    let rest = length-append (group width r.0 r.1) [] in
    let front = length_text-positive width 0 (p ∷ []) (omega arith) (h.0, h.1, tt) in
    let front_long = length-append (group width p.0 p.1) [] in
    let back = length_text-positive width (p.0 + 1) (r ∷ []) (omega arith) h.2 in
    let o = one_slot width p.0 p.1 (h.1).0 (omega arith) in
    let q = one_slot width r.0 r.1 ((h.2).1).0 (omega arith) in
    let same : p.0 ∷ r.0 ∷ [] ≡ a ∷ b ∷ [] = sym (ap (λ (t : List ℕ). t ++ run_text width (r ∷ [])) o.1 ∙ ap (λ (t : List ℕ). p.0 ∷ (t ++ [])) q.1) ∙ text in
    let first : p.0 ≡ a = cc in
    let second : r.0 ≡ b = cc in
    let above : p.0 + 1 ≤ r.0 = (h.2).0 in
    elim (cases_eq p.0 x) [
      | inl is ↦ (let i = a_is (sym first ∙ is) in let j = b_not (λ e. absurd (omega arith)) in let c = count_in-here p (r ∷ []) x is in omega (arith, o.0))
      | inr not ↦ (let i = a_not (λ e. not (first ∙ e)) in
          let c = count_in-later p (r ∷ []) x not in
          elim (cases_eq r.0 x) [
            | inl is ↦ (let j = b_is (sym second ∙ is) in let d = count_in-here r [] x is in omega (arith, q.0))
            | inr other ↦ (let j = b_not (λ e. other (second ∙ e)) in let d = count_in-later r [] x other in omega arith)
          ])
    ]
pair_count width (p ∷ r ∷ s ∷ ps) x a b m n some h text a_not a_is b_not b_is =
    let long = ap (λ (t : List ℕ). length t) text in
    let whole = length-append (group width p.0 p.1) (run_text width (r ∷ s ∷ ps)) in
    let rest = length-append (group width r.0 r.1) (run_text width (s ∷ ps)) in
    let front = length_text-positive width 0 (p ∷ []) (omega arith) (h.0, h.1, tt) in
    let front_long = length-append (group width p.0 p.1) [] in
    let middle = length_text-positive width (p.0 + 1) (r ∷ []) (omega arith) ((h.2).0, (h.2).1, tt) in
    let middle_long = length-append (group width r.0 r.1) [] in
    let back = length_text-positive width (r.0 + 1) (s ∷ ps) (omega arith) (h.2).2 in
    absurd (omega arith)

-- two slots of a row
two_of : (at : ℕ) (xs : List ℕ) → at + 1 < length xs → take 2 (drop at xs) ≡ get_or xs at 0 ∷ get_or xs (suc at) 0 ∷ []
two_of at xs within =
    ap (take 2) (drop-cons xs at 0 (omega arith) ∙ ap (λ (t : List ℕ). get_or xs at 0 ∷ t) (drop-cons xs (suc at) 0 (omega arith)))

-- where a run of q stands, or would begin
pub record Reaches (q : ℕ) (slots spill : List ℕ) : Type 0 where
  pub within : q + 1 < length spill
  pub begins : q + get_or spill q 0 < length slots
  pub order : q + get_or spill q 0 ≤ q + 1 + get_or spill (q + 1) 0
  pub ends : q + 1 + get_or spill (q + 1) 0 ≤ length slots
  pub short : length slots + 1 < 2 ^ 32

module _ (pieces : List Piece) (quotient_bits width adds room : ℕ) (slots : List ℕ) (occupied ends used : List Bool) (spill : List ℕ)
    (k : IsKept pieces quotient_bits width adds room slots occupied ends used spill)
    (q : ℕ) (below : q < 2 ^ quotient_bits) where
  found : Holds (2 ^ quotient_bits) q (by_quotient width pieces) ⊎ Lacks (2 ^ quotient_bits) q (by_quotient width pieces)
  found = find_quotient (2 ^ quotient_bits) 0 0 q (by_quotient width pieces) (runs_ascend pieces quotient_bits width adds room slots occupied ends used spill k)

  -- a quotient that has no run
  module _ (l : Lacks (2 ^ quotient_bits) q (by_quotient width pieces)) where
    abbrev before : List (ℕ × List ℕ)
    before = texts width l.before

    abbrev after : List (ℕ × List ℕ)
    after = texts width l.after

    split : texts width (by_quotient width pieces) ≡ before ++ after
    split = ap (texts width) l.split ∙ texts-append width l.before l.after

    stand : Stand (slot_count quotient_bits room) (2 ^ quotient_bits) (before ++ after) slots ends used spill
    stand = subst (λ (t : List (ℕ × List ℕ)). Stand (slot_count quotient_bits room) (2 ^ quotient_bits) t slots ends used spill) split k.stand

    around : IsAround (slot_count quotient_bits room) (2 ^ quotient_bits) q before after
    around = around_texts width (slot_count quotient_bits room) (2 ^ quotient_bits) q l.before l.after l.below l.above below (omega arith)

    lack_start : q + get_or spill q 0 ≡ max (stop 0 before) q
    lack_start = begins_at (slot_count quotient_bits room) (2 ^ quotient_bits) q before after slots ends used spill around stand.spread

    lack_end : get_or spill (q + 1) 0 ≡ max (stop 0 before) q - (q + 1)
    lack_end =
        let e = spread_empty (slot_count quotient_bits room) (2 ^ quotient_bits) q before after slots ends used spill around stand.spread in
        let h : end_before 0 (q + 1) (before ++ (q, []) ∷ after) ≡ max (stop 0 before) q + 0 = home_end {C = ℕ} q (2 ^ quotient_bits) [] before after around.below around.above in
        e.spill_is (q + 1) (omega arith) ∙ ap (λ e. e - (q + 1)) h ∙ (let z : max (stop 0 before) q + 0 - (q + 1) ≡ max (stop 0 before) q - (q + 1) = omega arith in z)

    lack_within : max (stop 0 before) q < slot_count quotient_bits room
    lack_within =
        let sum = total_slots width (2 ^ quotient_bits) 0 (2 ^ quotient_bits * 2 ^ width) pieces ((k.limits).least_width) k.ascend in
        let all : total_length (before ++ after) ≤ 4 * costs 2 pieces = subst (λ (t : List (ℕ × List ℕ)). total_length t ≤ 4 * costs 2 pieces) split sum in
        let first = stop_bound 0 q before around.below in
        let parts = total-append before after in
        let few = k.cheap in
        let room = k.in_room in omega arith

    lack_reaches : Reaches q slots spill × (q + 1 + get_or spill (q + 1) 0 ≤ q + get_or spill q 0 + 1)
    lack_reaches =
        let start = lack_start in
        let end = lack_end in
        let within = lack_within in
        let lengths = stand.lengths in
        let slots_long = lengths.slots_long in
        let spill_long = lengths.spill_long in
        let short = lengths.short in
        (record { within = omega arith; begins = omega arith; order = omega arith; ends = omega arith; short = omega arith }, omega arith)

  -- a quotient that has one
  hold_reaches : (h : Holds (2 ^ quotient_bits) q (by_quotient width pieces)) → Reaches q slots spill
  hold_reaches h =
      let at = hold_at pieces quotient_bits width adds room slots occupied ends used spill k q h in
      let start = at.start_is in
      let end = at.end_is in
      let within = at.within in
      let some = hold_some pieces quotient_bits width adds room slots occupied ends used spill k q h in
      let lengths = (k.stand).lengths in
      let slots_long = lengths.slots_long in
      let spill_long = lengths.spill_long in
      let short = lengths.short in
      record { within = omega arith; begins = omega arith; order = omega arith; ends = omega arith; short = omega arith }

  pub reaches : Reaches q slots spill
  reaches = elim found [ inl h ↦ hold_reaches h | inr l ↦ (lack_reaches l).0 ]

  -- more than two slots lie between them
  pub long_run : q + get_or spill q 0 + 2 < q + 1 + get_or spill (q + 1) 0 → Holds (2 ^ quotient_bits) q (by_quotient width pieces)
  long_run more = elim found [ inl h ↦ h | inr l ↦ absurd (let short = (lack_reaches l).1 in omega arith) ]

  -- at most two slots lie between them: m says whether x stands in the first, n whether in the second
  pub short_count : (tail x m n : ℕ) → q ≡ tail / 2 ^ width → x ≡ tail % 2 ^ width → q + 1 + get_or spill (q + 1) 0 ≤ q + get_or spill q 0 + 2
      → (get_or occupied q false ≡ false → m ≡ 0) → (get_or slots (q + get_or spill q 0) 0 ≢ x → m ≡ 0)
      → (get_or occupied q false ≡ true → get_or slots (q + get_or spill q 0) 0 ≡ x → m ≡ 1)
      → (q + 1 + get_or spill (q + 1) 0 ≤ q + get_or spill q 0 + 1 → n ≡ 0) → (get_or slots (q + get_or spill (q + 1) 0) 0 ≢ x → n ≡ 0)
      → (q + get_or spill q 0 + 1 < q + 1 + get_or spill (q + 1) 0 → get_or slots (q + get_or spill (q + 1) 0) 0 ≡ x → n ≡ 1)
      → m + n ≡ count_of pieces tail
  short_count tail x m n q_is x_is short vacant other here none last_other last_here =
      elim found [
        | inl h ↦ hold_count h
        | inr l ↦ (let reach = lack_reaches l in let zero_second = none reach.1 in
            let zero_first = vacant (lacked pieces quotient_bits width adds room slots occupied ends used spill k q below l) in
            let absent = count_absent pieces quotient_bits width adds room slots occupied ends used spill k tail q q_is l in omega arith)
      ]
    where
      single_count : (h : Holds (2 ^ quotient_bits) q (by_quotient width pieces)) (y : ℕ) → h.pairs ≡ (y, 1) ∷ [] → get_or slots (q + get_or spill q 0) 0 ≡ y →
          m ≡ count_in h.pairs x
      single_count h y is there =
          elim (cases_eq y x) [
            | inl same ↦ here (was_held pieces quotient_bits width adds room slots occupied ends used spill k q h) (there ∙ same)
                ∙ sym (ap (λ (t : List (ℕ × ℕ)). count_in t x) is ∙ count_in-here (y, 1) [] x same)
            | inr apart ↦ other (λ e. apart (sym there ∙ e)) ∙ sym (ap (λ (t : List (ℕ × ℕ)). count_in t x) is ∙ count_in-later (y, 1) [] x apart)
          ]

      first_slot : (at end : ℕ) (xs : List ℕ) (y : ℕ) → at < end → take (end - at) (drop at xs) ≡ y ∷ [] → get_or xs at 0 ≡ y
      first_slot at end xs y more is =
          ap (λ i. get_or xs i 0) (let e : at ≡ at + 0 = omega arith in e) ∙ sym (get_or-drop at xs 0 0)
          ∙ sym (get_or-take (end - at) (drop at xs) 0 0 (omega arith)) ∙ ap (λ (t : List ℕ). get_or t 0 0) is

      hold_count : (h : Holds (2 ^ quotient_bits) q (by_quotient width pieces)) → m + n ≡ count_of pieces tail
      hold_count h =
          let at = hold_at pieces quotient_bits width adds room slots occupied ends used spill k q h in
          let start = at.start_is in
          let end = at.end_is in
          let text = at.text in
          let within = at.within in
          let some = hold_some pieces quotient_bits width adds room slots occupied ends used spill k q h in
          let is : count_in h.pairs x ≡ count_of pieces tail = count_present pieces quotient_bits width adds room slots occupied ends used spill k tail q x q_is x_is h in
          elim (cases_lt (q + get_or spill q 0 + 1) (q + 1 + get_or spill (q + 1) 0)) [
            | inr one_long ↦ (let one = single width h.pairs h.some h.ascend (omega arith) in
                let first = single_count h one.0 one.1 (first_slot (q + get_or spill q 0) (q + 1 + get_or spill (q + 1) 0) slots one.0 (omega arith) (text ∙ one.2)) in
                let second = none one_long in omega arith)
            | inl two_long ↦ (let two_is : q + 1 + get_or spill (q + 1) 0 - (q + get_or spill q 0) ≡ 2 = omega arith in
                let last_is : suc (q + get_or spill q 0) ≡ q + get_or spill (q + 1) 0 = omega arith in
                let slots_are = sym text ∙ ap (λ i. take i (drop (q + get_or spill q 0) slots)) two_is ∙ two_of (q + get_or spill q 0) slots (omega arith)
                ∙ ap (λ i. get_or slots (q + get_or spill q 0) 0 ∷ get_or slots i 0 ∷ []) last_is in
                pair_count width h.pairs x _ _ m n h.some h.ascend slots_are other
                (here (was_held pieces quotient_bits width adds room slots occupied ends used spill k q h)) last_other (last_here two_long) ∙ is)
          ]
