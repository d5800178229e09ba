-- Landings that may take more.
use Rattle.std.specs.Prelude.{ℕ, ◌≡◌, ◌+◌, ◌≤◌}
use Rattle.lert_spec.specs.Edges.{span}
use Rattle.lert_spec.specs.Table.{total}
use Rattle.lert_levels.specs.declared.landing.landing.Landing.{Landing}
use Rattle.lert_levels.specs.landing.Landed.{taken}
use Rattle.lert_levels.specs.landing.Whole.{AreUpTo}

-- it took no tail above the last one, and has room for so many events
pub record IsReady (last left : ℕ) (l : Landing) : Type 0 where
  pub ascends : AreUpTo last (taken l)
  pub fits : total (taken l) + left ≤ span l.writer.settings l.writer.level
  pub all_tails : l.writer.settings.cone_bits ≡ 0
