use Rattle.std.proofs.Common.{ℕ, ◌≡◌, ◌<◌, List, [], length, get_or}
use Rattle.lert_levels.specs.{landing.Landed.{taken, IsLanding}, landing.Landings.AreOfLevels, declared.landing.landing.Landing.Landing, rows.Landing.landing_frame}
use Rattle.lert_levels.proofs.merger.start_landings.Given as goal

-- the landings so far begin at their frames
abbrev pub invariant-loop-lower : goal.invariant-loop-lower
invariant-loop-lower l = record {
  len : length l.landings ≡ length l.fn.landings;
  started : (k : ℕ) (d : Landing) → k < l.lower →
      ((get_or l.landings k d).frame ≡ landing_frame l.settings l.m l.rows k) × ((get_or l.landings k d).writer.version ≡ l.version) × (taken (get_or l.landings k d) ≡ [])
      × ((file : List ℕ) → IsLanding (get_or l.landings k d) file);
  landings : AreOfLevels l.settings l.landings;
}
