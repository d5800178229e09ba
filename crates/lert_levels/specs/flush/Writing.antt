-- What the landings of a merge write.
use Rattle.std.specs.Prelude.{ℕ, ◌≡◌, List, map}
use Rattle.lert_bay.specs.{declared.bay.TheConstants.FRAMES, Files.IfTold, Kept.{Bays, KeepsBay}}
use Rattle.lert_levels.specs.{landing.Landings.{home, AreLandings, AreLanding, IsOutside}, declared.landing.landing.Landing.Landing, rows.Landing.KeepsRest}
use Rattle.lert_spec.specs.declared.numbers.Numbers.{Numbers}

-- Whatever calls answered: the same landings wrote into the places of their frames alone, and what they took stands there.
pub record LandingsWrite {B : Type 0} (bays : Bays B) (old : List Landing) (before : B) (new : List Landing) (after : B) (Failed : Type 0) : Type 0 where
  pub homes : map home new ≡ map home old
  pub landing : (s : Numbers) (version : ℕ) → AreLandings s version old → IfTold (bays.files before) (λ seen. AreLanding old (seen FRAMES) →
      IfTold (bays.files after) (λ later. AreLanding new (later FRAMES)))
  pub rest : KeepsRest bays (IsOutside old) before after
  pub kept : KeepsBay bays before after Failed
