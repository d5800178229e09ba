-- The rows and the frames between two flushes, for those who keep a cone: with no event, and with one event more.
use Rattle.std.proofs.{Common.{ℕ, ◌≡◌, ◌-◌, ◌/◌, ◌<◌, ◌≤◌, suc, List, [], ◌++◌, length, map, replicate, ap, sym, ◌∙◌, arith, inl, inr, subst, slice_index_or}, lemmas.Bool.cases_lt}
use Rattle.std.proofs.lemmas.List.{length-replicate}
use Rattle.lert_frames.specs.Frame.{HoldsFrame}
use Rattle.lert_spec.specs.{declared.item.Item.Item, declared.numbers.Numbers.Numbers, Bins.tally, Counts.weighed, Edges.{span, edge, depth}}
use Rattle.lert_spec.proofs.LookLaws.{slice_range-append}
use Rattle.lert_levels.specs.{declared.rows.bin_at.BinAt.BinAt, rows.Rows.{range_of, row_of, IsAt, HoldsBins, tallied_in}}
use Rattle.lert_levels.proofs.{HoldLaws.bins_end, rows.MoveLaws.row_of-none, rows.RangeLaws.{cuts_none, edge_within, depth_moves, ranges_still}}

-- before the first event no row has a bin
pub IsAt-none : (s : Numbers) → IsAt s 0 (replicate s.levels [])
IsAt-none s = record {
  levels = length-replicate {A = List BinAt} s.levels [];
  each = λ level from within.
      ap (map range_of) (row_of-none s.levels level) ∙ sym (cuts_none (span s level) (edge s level 0) (edge s (level - 1) 0) (suc (0 / span s level))
      (omega (arith, edge_within s (level - 1) 0)));
}

-- and each frame holds what it is to hold
pub HoldsBins-none : (s : Numbers) (version : ℕ) (events : List Item) (file : List ℕ) → HoldsBins s version events (replicate s.levels []) file
HoldsBins-none s version events file level from within k d below = absurd (omega (arith, ap (length {A = BinAt}) (row_of-none s.levels level)))

-- at a position that is no flush position the rows stay those of the levels
pub IsAt-still : (s : Numbers) → 1 ≤ s.base → 1 ≤ s.ratio → (m : ℕ) (rows : List (List BinAt)) → edge s 0 m ≡ edge s 0 (m - 1) → IsAt s (m - 1) rows → IsAt s m rows
IsAt-still s base ratio m rows stays at =
    let shallow : depth s m < 1 = elim (cases_lt (depth s m) 1) [
      | inl none ↦ none
      | inr some ↦ absurd (depth_moves s base ratio 0 m (omega arith) stays)
    ] in
    record {
      levels = at.levels;
      each = λ level from within. at.each level from within ∙ sym (ranges_still s base ratio level m from within (omega arith));
    }

-- with later events behind them the frames hold the same
pub HoldsBins-append : (s : Numbers) (version : ℕ) (n : ℕ) (events others : List Item) (rows : List (List BinAt)) (file : List ℕ) → IsAt s n rows → n ≤ length events →
    HoldsBins s version events rows file → HoldsBins s version (events ++ others) rows file
HoldsBins-append s version n events others rows file at within holds level from last k d below =
    let ends = bins_end s n rows at level from last k d below in
    let bin = slice_index_or (row_of rows level) k d in
    let same : tallied_in s events bin ≡ tallied_in s (events ++ others) bin = ap (tally weighed s) (sym (slice_range-append events others bin.from bin.to (omega arith))) in
    subst (HoldsFrame s version level bin.frame file) same (holds level from last k d below)
