-- What the tests' flushes begin with.
use Rattle.std.specs.Prelude.{ℕ, ◌≡◌, ◌+◌, ◌-◌}
use Rattle.lert_spec.specs.declared.numbers.Numbers.{Numbers}
use Rattle.lert_levels.specs.OnDisk.{OnDisk}
use Rattle.lert_levels.specs.rows.Rows.{IsAt}
use Rattle.lert_levels.specs.rows.Young.{Young}

-- three bins a level, of 4 events at level 0, 8 at level 1 and 16 at level 2
abbrev pub small : Numbers
small = record { threshold = 3; bins = 3; ratio = 2; base = 4; levels = 2; cone_bits = 8; room = 32; packet = 8 }

-- level 0 has the twelve positions up to m
pub record IsFilledTo (m : ℕ) (young : Young) : Type 0 where
  pub settings : young.settings ≡ small
  pub from : young.from + 12 ≡ m
  pub to : young.to ≡ m

-- m is a flush position, level 0 has the twelve positions up to it, and the rows are those of the position before it, in files
-- of version 2
pub record IsReady (m : ℕ) (young : Young) (disk : OnDisk) : Type 0 where
  pub filled : IsFilledTo m young
  pub disk_settings : disk.settings ≡ small
  pub disk_version : disk.version ≡ 2
  pub at : IsAt small (m - 1) disk.rows
