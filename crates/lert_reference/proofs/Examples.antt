-- Worked examples of the definitions, computed.
use Rattle.std.proofs.Common.{◌≡◌, [], ◌∷◌, Some, None, true, refl, codes}
use Rattle.std.specs.Fmt.{digits}
use Rattle.lert_spec.specs.{Counts.{nth_occurrence, heavy}, Lines.lines}

ascending : heavy 2 (9 ∷ 1 ∷ 1 ∷ 9 ∷ 5 ∷ []) ≡ 1 ∷ 9 ∷ []
ascending = refl

second : nth_occurrence 2 9 (9 ∷ 1 ∷ 1 ∷ 9 ∷ []) ≡ Some 4
second = refl

never : nth_occurrence 3 9 (9 ∷ 1 ∷ 1 ∷ 9 ∷ []) ≡ None
never = refl

text_of_sevens : lines (record { events = 3; reports = record { key = 7; at = 3 } ∷ []; closed = true } ∷ [])
    ≡ codes "cone 0 events 3 reports 1 closed\n7 3\ntotal events 3 reports 1\n"
unfolding digits
text_of_sevens = refl

text_of_nothing : lines (record { events = 0; reports = []; closed = true } ∷ []) ≡ codes "cone 0 events 0 reports 0 closed\ntotal events 0 reports 0\n"
unfolding digits
text_of_nothing = refl
