-- What cones take of all traces, said of the same bays later.
use Rattle.std.proofs.{Common.{◌≡◌, ℕ, ◌≤◌, List, Option, Some, None, slice_get, refl, sym, ◌∙◌, arith}, lemmas.Option.{none-some, slice_get_within}}
use Rattle.lert_bay.specs.Files.{Files, IfTold}
use Rattle.lert_spec.specs.{declared.item.Item.Item, declared.numbers.Numbers.Numbers, Edges.{capacity, weight_room}}
use Rattle.lert_ingest.specs.{Bays.AreLater, Stops.AreTaken, Traces.{part_length, part_weight}}
use Rattle.lert_ingest.proofs.BayLaws.{slice_get-some}

pub taken_since : {B : Type 0} (files : B → Option Files) (faults mark : B → ℕ) (s : Numbers) (traces : List (List Item)) (bays later : List B) →
    AreLater files faults mark bays later → AreTaken files s traces bays → AreTaken files s traces later
taken_since {B} files faults mark s traces bays later are taken number bay is = (one.0, light (files before.0) refl)
  where
    before : (before : B) × (slice_get bays number ≡ Some before)
    before = slice_get-some bays number (omega (arith, slice_get_within later number bay is, are.number))

    one : (part_length s number traces ≤ capacity s) × IfTold (files before.0) (λ _. part_weight s number traces ≤ weight_room s)
    one = taken number before.0 before.1

    -- a bay tells its files where it did before
    light : (was : Option Files) → files before.0 ≡ was → IfTold (files bay) (λ _. part_weight s number traces ≤ weight_room s)
    light None none seen told = absurd (none-some seen (sym ((are.each number before.0 bay before.1 is).tells.untold none) ∙ told))
    light (Some old) was seen told = one.1 old was
