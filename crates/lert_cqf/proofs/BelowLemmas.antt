-- No count of a table is greater than all its counts together.
use Rattle.std.proofs.{Common.{ℕ, ◌/◌, ◌%◌, ◌^◌, ◌<◌, List, [], ◌∷◌, ◌++◌, sym, subst, inl, inr, arith}, lemmas.Bool.cases_eq}
use Rattle.lert_runs.specs.RunText.{CountsBelow}
use Rattle.lert_spec.specs.{Table.total, declared.piece.Piece.Piece}
use Rattle.lert_cqf.specs.Layout.{in_front, by_quotient}
use Rattle.lert_cqf.proofs.{QuotientLemmas.{Runs, front-none, front-same}, SplitLemmas.Holds}

-- each count of each run is below m
abbrev RunsBelow : ℕ → Runs → Type 0
RunsBelow m [] = Unit {0}
RunsBelow m (r ∷ rs) = CountsBelow m r.1 × RunsBelow m rs

front_below : (m q : ℕ) (pair : ℕ × ℕ) (rs : Runs) → pair.1 < m → RunsBelow m rs → RunsBelow m (in_front q pair rs)
front_below m q pair [] low below = ((low, tt), tt)
front_below m q pair (r ∷ rs) low below =
    elim (cases_eq r.0 q) [
      | inl same ↦ subst (RunsBelow m) (sym (front-same q pair r rs same)) ((low, below.0), below.1)
      | inr other ↦ subst (RunsBelow m) (sym (front-none q pair r rs other)) ((low, tt), below)
    ]

runs_below : (width m : ℕ) (table : List Piece) → total table < m → RunsBelow m (by_quotient width table)
runs_below width m [] low = tt
runs_below width m (p ∷ ps) low =
    front_below m (p.tail / 2 ^ width) (p.tail % 2 ^ width, p.count) (by_quotient width ps) (omega arith) (runs_below width m ps (omega arith))

below_at : (m q : ℕ) (pairs : List (ℕ × ℕ)) (before after : Runs) → RunsBelow m (before ++ (q, pairs) ∷ after) → CountsBelow m pairs
below_at m q pairs [] after below = below.0
below_at m q pairs (r ∷ rs) after below = below_at m q pairs rs after below.1

-- so each count of a run is below what is greater than all of them together
pub held_below : (width m homes q : ℕ) (table : List Piece) (h : Holds homes q (by_quotient width table)) → total table < m → CountsBelow m h.pairs
held_below width m homes q table h low = below_at m q h.pairs h.before h.after (subst (RunsBelow m) h.split (runs_below width m table low))
