-- The beginning of a journal of one cone, of others, and what is read of a log without a record.
use Rattle.std.proofs.Common.{◌≡◌, ℕ, List, [], ◌∷◌, ◌++◌, take, false, refl, ap, arith, inl, inr}
use Rattle.lert_spec.specs.declared.numbers.Numbers.{Numbers}
use Rattle.lert_reports.proofs.LogLaws.{records_none}
use Rattle.lert_journal.specs.Header.{magic, header}
use Rattle.lert_files.specs.{Headed.{BeginningLeaves, IsHeaded, HasOther}, Read.{most_directory, IsReadOf}}

abbrev alone : Numbers
alone = record { threshold = 3; bins = 3; ratio = 2; base = 4; levels = 2; cone_bits = 0; room = 32; packet = 8 }

abbrev four : Numbers
four = record alone { threshold = 4 }

abbrev journal : ℕ → List ℕ
journal version = header (magic version) alone 0 ++ 0 ∷ []

-- no byte, a cut header, another letter, a version that there isn't, and a header that nothing stands behind
no_byte : BeginningLeaves alone 0 [] 0
no_byte = inl refl

cut : BeginningLeaves alone 0 (take 20 (journal 2)) 20
cut = inl refl

other_letter : BeginningLeaves alone 0 (76 ∷ 69 ∷ 82 ∷ 84 ∷ 76 ∷ 1 ∷ 0 ∷ 0 ∷ []) 4
other_letter = inl refl

later_version : BeginningLeaves alone 0 (journal 3) 5
later_version = inl refl

no_gate : BeginningLeaves alone 0 (take 32 (journal 2)) 32
no_gate = inr (record { whole = refl; own = (refl, refl); short = omega arith }, refl)

-- its own header, of either version, and another threshold
own : IsHeaded alone 0 (journal 2)
own = record { headed = refl; known = (omega arith, omega arith); gate = omega arith }

own_first : IsHeaded alone 0 (journal 1)
own_first = record { headed = refl; known = (omega arith, omega arith); gate = omega arith }

other_threshold : HasOther four 0 (journal 1) (record { cone = 0; version = 1; numbers = alone })
other_threshold = record { whole = refl; kept_is = refl; other = λ own. omega (arith, ap (λ (n : Numbers). n.threshold) own.1) }

-- also where nothing stands behind its header
other_alone : HasOther four 0 (take 32 (journal 2)) (record { cone = 0; version = 2; numbers = alone })
other_alone = record { whole = refl; kept_is = refl; other = λ own. omega (arith, ap (λ (n : Numbers). n.threshold) own.1) }

-- a log without a record says that the journal is to be read from its header on
none_read : IsReadOf alone 0 0 32 1 false [] (0 ∷ 0 ∷ []) []
none_read = record { rules = records_none alone 0; n0_is = refl; offset_is = refl; first_is = refl; closed_is = refl; reports_are = refl; directory_is = refl }

room_of_directory : most_directory alone ≡ 10
room_of_directory = refl
