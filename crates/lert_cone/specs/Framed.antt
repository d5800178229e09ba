-- The last flush of a cone, and what its frames hold whatever the journal has.
use Rattle.std.specs.Prelude.{◌≡◌, ℕ, zero, suc, ◌==◌, List, length, take, if◌then◌else◌}
use Rattle.lert_levels.specs.{declared.rows.bin_at.BinAt.BinAt, rows.Rows.HoldsBins}
use Rattle.lert_spec.specs.{declared.item.Item.Item, declared.numbers.Numbers.Numbers, Edges.edge, Items.AreOfVersion}

-- the last flush position that is at most n, or 0 where there is none
abbrev pub last_flush : Numbers → ℕ → ℕ
last_flush s zero = 0
last_flush s (suc n) = if edge s 0 (suc n) == edge s 0 n then last_flush s n else suc n

-- the events up to the last flush
abbrev pub flushed : Numbers → List Item → List Item
flushed s events = take (last_flush s (length events)) events

-- the frames that the rows name hold the bins of some events, as many as the older levels have after n events, whatever
-- events these are
pub record HoldsSome (version : ℕ) (s : Numbers) (n : ℕ) (rows : List (List BinAt)) (file : List ℕ) : Type 0 where
  pub events : List Item
  pub len : length events ≡ edge s 0 n
  pub light : AreOfVersion version events
  pub holds : HoldsBins s version events rows file
