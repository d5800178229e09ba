-- A run that stopped before its cones were finished isn't done.
use Rattle.std.proofs.Common.{◌≡◌, ℕ, List, Option, subst}
use Rattle.lert_bay.specs.Files.{Files}
use Rattle.lert_spec.specs.declared.numbers.Numbers.{Numbers}
use Rattle.lert_ingest.specs.{Stops.StopShows, declared.status.Status.Status, declared.status.Status.TheVariants.Done}
use Rattle.lert_top.specs.cones.Unmade.{IsUnmade}

pub reading_not_done : {S B : Type 0} (remaining : S → Option (List ℕ)) (faults : S → ℕ) (files : B → Option Files) (bay_faults : B → ℕ) (s : Numbers) (workers : ℕ)
    (opened backs : List S) (bays later : List B) (status : Status) → StopShows remaining faults files bay_faults s workers opened backs bays later status → status ≡ Done → ⊥
reading_not_done remaining faults files bay_faults s workers opened backs bays later status shows is =
    elim (subst (StopShows remaining faults files bay_faults s workers opened backs bays later) is shows) [ ]

pub unmade_not_done : {B : Type 0} (files : B → Option Files) (faults : B → ℕ) (s : Numbers) (bays later : List B) (status : Status) → IsUnmade files faults s bays later status →
    status ≡ Done → ⊥
unmade_not_done files faults s bays later status shows is = elim (subst (IsUnmade files faults s bays later) is shows) [ ]
