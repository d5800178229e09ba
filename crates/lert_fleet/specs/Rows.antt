-- What is done to every cone in turn, over plain lists.
use Rattle.std.specs.Prelude.{◌≡◌, List, ◌++◌, reverse}
use Rattle.lert_base.specs.declared.held.Held.{Ghosts as HeldOf}
use Rattle.lert_conelock.specs.Sight.{Sight, LockSight, BelongsTo, Closed}
use Rattle.lert_fleet.specs.Each.{EachThree}

-- the pass is one of this lock, and has all its numbers
pub record IsWholePass {H F : Type 0} (lock : LockSight H) (pass : Sight H F) : Type 0 where
  pub belongs : BelongsTo pass lock
  pub lo_is : pass.lo ≡ 0
  pub hi_is : pass.hi ≡ lock.numbers

-- the states of the closed locks, and behind them others, the last one first
pub record WereClosed {H T R F : Type 0} (held : HeldOf H T R F) (locks : List (LockSight H))
    (passes : List (Sight H F)) (others result : List H) : Type 0 where
  pub closed : List H
  pub result_is : result ≡ closed ++ reverse others
  pub each : EachThree (Closed held) locks passes closed
