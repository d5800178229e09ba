-- The layout of a count table: slots, occupied quotients and run ends.
use Rattle.std.specs.Prelude.{ℕ, zero, suc, ◌+◌, ◌-◌, ◌*◌, ◌/◌, ◌%◌, ◌^◌, ◌==◌, Bool, true, false, List, [], ◌∷◌, ◌++◌, length, map, replicate, if◌then◌else◌}
use Rattle.lert_runs.specs.RunText.{run_text}
use Rattle.lert_spec.specs.declared.piece.Piece.{Piece}
use Rattle.lert_cqf.specs.Cells.{cells}

-- a pair in front of the runs: it joins the first run where that is of its quotient
abbrev pub in_front : ℕ → ℕ × ℕ → List (ℕ × List (ℕ × ℕ)) → List (ℕ × List (ℕ × ℕ))
in_front q pair [] = (q, pair ∷ []) ∷ []
in_front q pair (r ∷ rs) = if r.0 == q then (q, pair ∷ r.1) ∷ rs else (q, pair ∷ []) ∷ r ∷ rs

-- the pairs of remainder and count of each quotient that occurs, in ascending quotients
abbrev pub by_quotient : ℕ → List Piece → List (ℕ × List (ℕ × ℕ))
by_quotient width [] = []
by_quotient width (p ∷ ps) = in_front (p.tail / 2 ^ width) (p.tail % 2 ^ width, p.count) (by_quotient width ps)

-- the run text of each quotient
abbrev pub texts : ℕ → List (ℕ × List (ℕ × ℕ)) → List (ℕ × List ℕ)
texts width rs = map (λ (r : ℕ × List (ℕ × ℕ)). (r.0, run_text width r.1)) rs

-- a run of so many cells whose last one is marked
abbrev pub ends_of : ℕ → List Bool
ends_of zero = []
ends_of (suc n) = replicate n false ++ true ∷ []

-- the run ends of texts
abbrev pub marked_ends : List (ℕ × List ℕ) → List (ℕ × List Bool)
marked_ends ts = map (λ (t : ℕ × List ℕ). (t.0, ends_of (length t.1))) ts

-- the homes from `at` on, n of them in all: true where a run is of that quotient
abbrev pub homes_from : {C : Type 0} → ℕ → ℕ → List (ℕ × List C) → List Bool
homes_from n at [] = replicate (n - at) false
homes_from n at (r ∷ rs) = replicate (r.0 - at) false ++ true ∷ homes_from n (r.0 + 1) rs

-- the slots of a table with 2^q quotients and room for so many adds: none takes more than four
abbrev pub slot_count : ℕ → ℕ → ℕ
slot_count quotient_bits adds = 2 ^ quotient_bits + 4 * adds

-- what a table shows of itself
pub record Layout : Type 0 where
  pub slots : List ℕ
  pub occupied : List Bool
  pub run_ends : List Bool

-- a table with so many bits of quotient and remainder and such a room, laid out anew from its pieces: each run at its
-- quotient, or right behind the run before it where that reaches further; 0 and false where no run stands
abbrev pub layout : ℕ → ℕ → ℕ → List Piece → Layout
layout quotient_bits width room pieces = record {
  slots = cells 0 (slot_count quotient_bits room) (texts width (by_quotient width pieces));
  occupied = homes_from (2 ^ quotient_bits) 0 (by_quotient width pieces);
  run_ends = cells false (slot_count quotient_bits room) (marked_ends (texts width (by_quotient width pieces)));
}
