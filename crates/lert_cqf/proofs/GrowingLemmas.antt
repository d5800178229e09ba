-- A run that begins or grows, as a whole.
use Rattle.std.proofs.Common.{◌≡◌, ℕ, ◌+◌, ◌-◌, ◌^◌, ◌<◌, ◌≤◌, Bool, true, false, List, [], ◌∷◌, ◌++◌, length, take, drop, get_or, set, max, min, refl, sym}
use Rattle.std.proofs.Common.{ap, ◌∙◌, subst, arith, length-append, append_assoc}
use Rattle.std.proofs.Math.Seq.{take-add}
use Rattle.std.proofs.lemmas.List.{length-set, take-append-drop, length-take, length-drop}
use Rattle.lert_slotbits.specs.Bits.{IsFirst, gapped}
use Rattle.lert_counter.specs.Group.{group}
use Rattle.lert_counter.proofs.GroupLemmas.{length_group-positive}
use Rattle.lert_runs.specs.RunText.{run_text, RemaindersAscend, IsTextOf, count_in, pairs_plus}
use Rattle.lert_runs.specs.Growth.{IsGrowthOf}
use Rattle.lert_runs.specs.declared.grow.Growth.{Growth}
use Rattle.lert_cqf.specs.Cells.{cells, stop, first_free}
use Rattle.lert_cqf.specs.Rows.{IsSpread, filled_gap, IsRaised, run_slots}
use Rattle.lert_cqf.specs.Around.{total_length, IsOpening, IsWidened}
use Rattle.lert_cqf.specs.Growing.{Stand, IsGrowing, IsBeginning, HasBegun}
use Rattle.lert_cqf.proofs.CellLemmas.{first_free-from}
use Rattle.lert_cqf.proofs.SpreadLemmas.{free_found}
use Rattle.lert_cqf.proofs.BegunLemmas.{free_within, spread_begun, begins_at, spread_empty, StandsAt, stands_at, cells_over, spread_over, text_within}
use Rattle.lert_cqf.proofs.OpeningLemmas.{length_filled, spill_small, total_at}

-- a run text has a slot
pub length_text-positive : (width least : ℕ) (ps : List (ℕ × ℕ)) → 0 < length ps → RemaindersAscend least ps → 0 < length (run_text width ps)
length_text-positive width least [] some h = absurd (omega arith)
length_text-positive width least (p ∷ ps) some h = let one = length_group-positive width p.0 p.1 (h.1).0 in omega (arith, length-append (group width p.0 p.1) (run_text width ps))

over_long : (at : ℕ) (xs ys : List ℕ) → at + length ys ≤ length xs → length (take at xs ++ (ys ++ drop (at + length ys) xs)) ≡ length xs
over_long at xs ys h = omega (arith, length-append (take at xs) (ys ++ drop (at + length ys) xs), length-append ys (drop (at + length ys) xs), length-take at xs, length-drop (at + length ys) xs)

pub one_some : (v : ℕ) → 0 < length (v ∷ [])
one_some v = omega arith

-- a run that begins
module _ (n homes width home x count : ℕ) (slots : List ℕ) (ends used : List Bool) (spill : List ℕ) (b : IsBeginning n homes width home x count slots ends used spill) where
  abbrev pub begin_place : ℕ
  begin_place = max (stop 0 b.before) home

  abbrev pub begin_free : ℕ
  begin_free = first_free (max (stop 0 b.before) home) b.after

  pub begin_text : 0 < length (run_text width ((x, count) ∷ []))
  begin_text = length_text-positive width 0 ((x, count) ∷ []) (omega arith) (omega arith, b.fits, tt)

  pub begin_total : homes + total_length (b.before ++ (home, []) ∷ b.after) + 1 ≤ n
  begin_total =
      let a = total_at home [] b.before b.after in
      let c = total_at home (run_text width ((x, count) ∷ [])) b.before b.after in
      let some = begin_text in
      let room = b.room in omega arith

  same_free : first_free (max (stop 0 b.before) home + length {A = ℕ} []) b.after ≡ begin_free
  same_free = ap (λ k. first_free k b.after) (let e : max (stop 0 b.before) home + 0 ≡ max (stop 0 b.before) home = omega arith in e)

  pub begin_room : begin_free < n
  begin_room =
      let bound = free_within home [] b.before b.after (b.around).below in
      let all = begin_total in
      let same = same_free in
      let within = (b.around).within in omega arith

  empty : IsSpread n homes (b.before ++ (home, []) ∷ b.after) slots ends used spill
  empty = spread_empty n homes home b.before b.after slots ends used spill b.around (b.stand).spread

  pub begin_start : home + get_or spill home 0 ≡ begin_place
  begin_start = begins_at n homes home b.before b.after slots ends used spill b.around (b.stand).spread

  pub begin_low : begin_place ≤ begin_free
  begin_low = first_free-from (max (stop 0 b.before) home) b.after

  pub begin_first : IsFirst false used begin_place begin_free
  begin_first =
      let same = same_free in
      let room = begin_room in
      let found = free_found n home [] b.before b.after (omega arith) used begin_place empty.used_are (omega arith) (omega arith) in
      rw same at found

  pub begin_spill : (g : ℕ) → g < length spill → get_or spill g 0 + 1 < 2 ^ 32
  begin_spill = spill_small n homes (b.before ++ (home, []) ∷ b.after) slots ends used spill empty (let all = begin_total in omega arith) ((b.stand).lengths).short

  pub begun : (v : ℕ) (slots' : List ℕ) (ends' used' : List Bool) (spill' : List ℕ) → slots' ≡ filled_gap slots begin_place begin_free v
      → ends' ≡ set (gapped ends begin_place begin_free) begin_place true → used' ≡ set used begin_free true → IsRaised spill spill' (home + 1) (min begin_free (length spill - 1))
      → HasBegun n homes home b.before b.after slots' ends' used' spill'
  begun v slots' ends' used' spill' slots_are ends_are used_are raised =
      let lengths = (b.stand).lengths in
      let slots_long = lengths.slots_long in
      let ends_long = lengths.ends_long in
      let used_long = lengths.used_long in
      let low = begin_low in
      let within = begin_room in
      let homes_is : min begin_free (length spill - 1) ≡ min begin_free homes = omega (arith, lengths.spill_long) in
      let spread = spread_begun n homes home v b.before b.after slots ends used spill spill' b.around begin_room (b.stand).spread (rw homes_is at raised) in
      record {
        value = v;
        stand = record {
          spread = rw (slots_are, ends_are, used_are) spread;
          lengths = record {
            slots_long = ap (λ (t : List ℕ). length t) slots_are ∙ length_filled slots begin_place begin_free v low (omega arith) ∙ slots_long;
            ends_long = ap (λ (t : List Bool). length t) ends_are ∙ length-set (gapped ends begin_place begin_free) begin_place true
                ∙ length_filled ends begin_place begin_free false low (omega arith) ∙ ends_long;
            used_long = ap (λ (t : List Bool). length t) used_are ∙ length-set used begin_free true ∙ used_long;
            spill_long = raised.long ∙ lengths.spill_long;
            short = lengths.short;
          };
        };
      }

  -- and then takes the other slots of its group behind the first
  pub begin_fits : (v : ℕ) → homes + total_length (b.before ++ (home, v ∷ []) ∷ b.after) + (length (group width x count) - 1) ≤ n
  begin_fits v =
      let some = begin_text in
      let one = length-append (group width x count) [] in
      let room = b.room in
      let a = total_at home (v ∷ []) b.before b.after in
      let c = total_at home (run_text width ((x, count) ∷ [])) b.before b.after in omega arith

  abbrev pub begin_opening : (place last extra : ℕ) → place ≡ begin_place + 1 → last ≡ begin_place → extra ≡ length (group width x count) - 1 →
      (slots' : List ℕ) (ends' used' : List Bool) (spill' : List ℕ)
      → HasBegun n homes home b.before b.after slots' ends' used' spill' → IsOpening n homes home place last extra slots' ends' used' spill'
  begin_opening place last extra place_is last_is extra_is slots' ends' used' spill' h = record {
    before = b.before;
    after = b.after;
    front = h.value ∷ [];
    back = [];
    around = b.around;
    spread = (h.stand).spread;
    lengths = (h.stand).lengths;
    place_is = place_is;
    last_is = ap (λ k. k + 1) last_is;
    some = one_some h.value;
    room = rw extra_is (begin_fits h.value);
  }

  -- and is written over
  pub begin_written : (slots' : List ℕ) (ends' used' : List Bool) (spill' : List ℕ) (h : HasBegun n homes home b.before b.after slots' ends' used' spill')
      (extra : ℕ) → extra ≡ length (group width x count) - 1 → (slots'' over : List ℕ) (ends'' used'' : List Bool) (spill'' : List ℕ) →
      IsWidened n homes home extra b.before b.after (h.value ∷ []) [] slots'' ends'' used'' spill''
      → over ≡ take begin_place slots'' ++ (group width x count ++ drop (begin_place + length (group width x count)) slots'')
      → Stand n homes (b.before ++ (home, run_text width ((x, count) ∷ [])) ∷ b.after) over ends'' used'' spill''
  begin_written slots' ends' used' spill' h extra extra_is slots'' over ends'' used'' spill'' w is =
      let some = length_group-positive width x count (b.fits).0 in
      let text = h.value ∷ w.added in
      let added = w.added_long in
      let same : length (group width x count) ≡ length text = omega arith in
      let whole : slots'' ≡ cells 0 n (b.before ++ (home, [] ++ (text ++ [])) ∷ b.after) = (w.spread).slots_are in
      let written = cells_over n home [] text [] (group width x count) slots'' b.before b.after same whole in
      let place : begin_place + length {A = ℕ} [] ≡ begin_place = omega arith in
      let is_over : over ≡ cells 0 n (b.before ++ (home, run_text width ((x, count) ∷ [])) ∷ b.after) =
      is ∙ (rw place at written) in
      let lengths = w.lengths in
      record {
        spread = spread_over n homes home (text ++ []) (run_text width ((x, count) ∷ [])) b.before b.after slots'' over ends'' used'' spill'' b.around
            (omega (arith, length-append (group width x count) [], length-append text [])) w.spread is_over;
        lengths = record {
          slots_long = ap (λ (t : List ℕ). length t) is ∙ over_long begin_place slots'' (group width x count)
              (let inside = text_within n home (text ++ []) slots'' b.before b.after (w.spread).slots_are in omega (arith, length-append text [])) ∙ lengths.slots_long;
          ends_long = lengths.ends_long;
          used_long = lengths.used_long;
          spill_long = lengths.spill_long;
          short = lengths.short;
        };
      }

-- where the slots of a run lie
pub record RunBounds (home : ℕ) (text slots spill : List ℕ) : Type 0 where
  pub within : home + 1 < length spill
  pub order : get_or spill home 0 ≤ 1 + get_or spill (home + 1) 0
  pub end : home + 1 + get_or spill (home + 1) 0 ≤ length slots
  pub joined : home + get_or spill home 0 + length text ≡ home + 1 + get_or spill (home + 1) 0
  pub short : length slots + 1 < 2 ^ 32
  pub slice : run_slots home slots spill ≡ text

-- a run that grows
module _ (n homes width home x count : ℕ) (slots : List ℕ) (ends used : List Bool) (spill : List ℕ) (g : IsGrowing n homes width home x count slots ends used spill) where
  abbrev pub run : List ℕ
  run = run_text width g.pairs

  pub run_some : 0 < length run
  run_some = length_text-positive width 0 g.pairs g.some g.ascend

  pub grow_stands : StandsAt home (home + get_or spill home 0) (home + 1 + get_or spill (home + 1) 0) run slots g.before
  grow_stands = stands_at n homes home run g.before g.after slots ends used spill g.around run_some (g.stand).spread

  pub grow_text : IsTextOf width run g.pairs
  grow_text = record { ascend = g.ascend; text = refl }

  -- what bounds its slice
  pub grow_bounds : RunBounds home run slots spill
  grow_bounds =
      let at = grow_stands in
      let start = at.start_is in
      let end = at.end_is in
      let within = at.within in
      let some = run_some in
      let lengths = (g.stand).lengths in
      let slots_long = lengths.slots_long in
      let short = lengths.short in
      record {
        within = (let l = lengths.spill_long in let h = (g.around).within in omega arith);
        order = omega arith;
        end = within;
        joined = omega arith;
        short = omega arith;
        slice = at.text;
      }

  -- what is to be written, whichever slice the run was read from
  pub grow_of : (slice : List ℕ) (growth : Growth) → slice ≡ run → ((ps : List (ℕ × ℕ)) → IsTextOf width slice ps → IsGrowthOf width x count slice ps growth) →
      IsGrowthOf width x count run g.pairs growth
  grow_of slice growth same told = subst (λ (t : List ℕ). IsGrowthOf width x count t g.pairs growth) same (told g.pairs (record { ascend = g.ascend; text = same }))

  module _ (growth : Growth) (is : IsGrowthOf width x count run g.pairs growth) where
    abbrev pub behind : ℕ
    behind = growth.start + growth.old

    pub new_long : length (run_text width (pairs_plus g.pairs x count)) + growth.old ≡ length run + growth.len
    new_long =
        let within = is.within in
        let text = ap (λ (t : List ℕ). length t) (is.grown) in
        let new : length (take growth.len growth.text) ≡ length (group width x (count_in g.pairs x + count)) = ap (λ (t : List ℕ). length t) is.text in
        let longer = is.longer in
        let len = is.len in
        omega (
          arith,
          length-append (take growth.start run) (take growth.len growth.text ++ drop behind run),
          length-append (take growth.len growth.text) (drop behind run),
          length-take growth.start run,
          length-drop behind run,
        )

    pub grow_last : home + 1 + get_or spill (home + 1) 0 ≡ max (stop 0 g.before) home + length (take behind run ++ drop behind run)
    grow_last = let at = grow_stands in let end = at.end_is in let all = ap (λ (t : List ℕ). length t) (take-append-drop behind run) in omega arith

    pub grow_place : home + get_or spill home 0 + growth.start + growth.old ≡ max (stop 0 g.before) home + length (take behind run)
    grow_place = let at = grow_stands in let start = at.start_is in let within = is.within in let front_long = length-take behind run in omega arith

    pub grow_some : 0 < length (take behind run ++ drop behind run)
    grow_some = let some = run_some in let all = ap (λ (t : List ℕ). length t) (take-append-drop behind run) in omega arith

    pub grow_fits : homes + total_length (g.before ++ (home, take behind run ++ drop behind run) ∷ g.after) + (growth.len - growth.old) ≤ n
    grow_fits =
        let long = new_long in
        let room = g.room in
        let longer = is.longer in
        let all = ap (λ (t : List ℕ). length t) (take-append-drop behind run) in
        let c = total_at home (run_text width (pairs_plus g.pairs x count)) g.before g.after in
        let b = total_at home (take behind run ++ drop behind run) g.before g.after in omega arith

    pub grow_spread : IsSpread n homes (g.before ++ (home, take behind run ++ drop behind run) ∷ g.after) slots ends used spill
    grow_spread = rw (take-append-drop behind run) ((g.stand).spread)

    abbrev pub grow_opening : (place last : ℕ) → place ≡ home + get_or spill home 0 + growth.start + growth.old → last + 1 ≡ home + 1 + get_or spill (home + 1) 0
        → IsOpening n homes home place last (growth.len - growth.old) slots ends used spill
    grow_opening place last place_is last_is = record {
      before = g.before;
      after = g.after;
      front = take behind run;
      back = drop behind run;
      around = g.around;
      spread = grow_spread;
      lengths = (g.stand).lengths;
      place_is = place_is ∙ grow_place;
      last_is = last_is ∙ grow_last;
      some = grow_some;
      room = grow_fits;
    }

    pub grow_written : (slots'' over : List ℕ) (ends'' used'' : List Bool) (spill'' : List ℕ)
        → IsWidened n homes home (growth.len - growth.old) g.before g.after (take behind run) (drop behind run) slots'' ends'' used'' spill''
        → (at : ℕ) → at ≡ home + get_or spill home 0 + growth.start
        → over ≡ take at slots'' ++ (take growth.len growth.text ++ drop (at + length (take growth.len growth.text)) slots'')
        → Stand n homes (g.before ++ (home, run_text width (pairs_plus g.pairs x count)) ∷ g.after) over ends'' used'' spill''
    grow_written slots'' over ends'' used'' spill'' w where_at where_is written =
        let at = grow_stands in
        let start = at.start_is in
        let within = is.within in
        let longer = is.longer in
        let added = w.added_long in
        let u = take growth.start run in
        let middle = take growth.old (drop growth.start run) ++ w.added in
        let back = drop behind run in
        let new = take growth.len growth.text in
        let new_is : length new ≡ growth.len = ap (λ (t : List ℕ). length t) is.text ∙ sym is.len in
        let split : take behind run ++ (w.added ++ back) ≡ u ++ (middle ++ back) =
        ap (λ (t : List ℕ). t ++ (w.added ++ back)) (take-add growth.start growth.old run)
        ∙ append_assoc u (take growth.old (drop growth.start run)) (w.added ++ back)
        ∙ ap (λ (t : List ℕ). u ++ t) (sym (append_assoc (take growth.old (drop growth.start run)) w.added back)) in
        let u_long = length-take growth.start run in
        let middle_long = length-append (take growth.old (drop growth.start run)) w.added in
        let old_long = length-take growth.old (drop growth.start run) in
        let rest_long = length-drop growth.start run in
        let same : length new ≡ length middle = omega arith in
        let was : slots'' ≡ cells 0 n (g.before ++ (home, u ++ (middle ++ back)) ∷ g.after) =
        (w.spread).slots_are ∙ ap (λ (t : List ℕ). cells 0 n (g.before ++ (home, t) ∷ g.after)) split in
        let place : where_at ≡ max (stop 0 g.before) home + length u = omega arith in
        let over_is : over ≡ take (max (stop 0 g.before) home + length u) slots'' ++ (new ++ drop (max (stop 0 g.before) home + length u + length new) slots'') = (rw place at written) in
        let is_over : over ≡ cells 0 n (g.before ++ (home, run_text width (pairs_plus g.pairs x count)) ∷ g.after) =
        over_is ∙ cells_over n home u middle back new slots'' g.before g.after same was ∙ ap (λ (t : List ℕ). cells 0 n (g.before ++ (home, t) ∷ g.after)) is.grown in
        let inside = text_within n home (u ++ (middle ++ back)) slots'' g.before g.after was in
        let lengths = w.lengths in
        let total_long : length (run_text width (pairs_plus g.pairs x count)) ≡ length (take behind run ++ (w.added ++ back)) =
        ap (λ (t : List ℕ). length t) (sym is.grown) ∙ (omega (
          arith,
          length-append u (new ++ back),
          length-append new back,
          ap (λ (t : List ℕ). length t) split,
          length-append u (middle ++ back),
          length-append middle back,
        )) in
        record {
          spread = spread_over n homes home (take behind run ++ (w.added ++ back)) (run_text width (pairs_plus g.pairs x count)) g.before g.after slots'' over ends'' used'' spill'' g.around
              total_long w.spread is_over;
          lengths = record {
            slots_long = ap (λ (t : List ℕ). length t) over_is ∙ over_long (max (stop 0 g.before) home + length u) slots'' new
                (omega (arith, length-append u (middle ++ back), length-append middle back)) ∙ lengths.slots_long;
            ends_long = lengths.ends_long;
            used_long = lengths.used_long;
            spill_long = lengths.spill_long;
            short = lengths.short;
          };
        }

-- the slots between where a run begins and where it ends are its own
pub run_part : (home begin end : ℕ) (slots spill part : List ℕ) → part ≡ take (end - begin) (drop begin slots) → begin ≡ home + get_or spill home 0
    → end ≡ home + 1 + get_or spill (home + 1) 0 → part ≡ run_slots home slots spill
run_part home begin end slots spill part is begin_is end_is =
    is ∙ ap (λ k. take (k - begin) (drop begin slots)) end_is ∙ ap (λ k. take (home + 1 + get_or spill (home + 1) 0 - k) (drop k slots)) begin_is
