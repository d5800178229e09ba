-- A table has at most four slots for each of what it costs.
use Rattle.std.proofs.{Common.{◌≡◌, ℕ, ◌+◌, ◌*◌, ◌/◌, ◌%◌, ◌^◌, ◌≤◌, List, [], ◌∷◌, length, inl, inr, arith, length-append}, lemmas.Bool.cases_eq}
use Rattle.lert_counter.specs.Group.{group}
use Rattle.lert_counter.proofs.GrowthLemmas.{length_group-four}
use Rattle.lert_runs.specs.RunText.{run_text}
use Rattle.lert_spec.specs.{Table.{costs, AscendsFrom}, declared.piece.Piece.Piece}
use Rattle.lert_cqf.specs.{Layout.{in_front, by_quotient, texts}, Around.total_length}
use Rattle.lert_cqf.proofs.QuotientLemmas.{Runs, front-none, front-same}

module _ (width homes : ℕ) where
  length_front_text : (q : ℕ) (pair : ℕ × ℕ) (rs : Runs) → total_length (texts width (in_front q pair rs)) ≡ length (group width pair.0 pair.1) + total_length (texts width rs)
  length_front_text q pair [] = omega (arith, length-append (group width pair.0 pair.1) [])
  length_front_text q pair (r ∷ rs) =
      elim (cases_eq r.0 q) [
        | inl same ↦ rw (front-same q pair r rs same) (omega (arith, length-append (group width pair.0 pair.1) (run_text width r.1)))
        | inr other ↦ rw (front-none q pair r rs other) (omega (arith, length-append (group width pair.0 pair.1) []))
      ]

  pub total_slots : (least limit : ℕ) (table : List Piece) → 8 ≤ width → AscendsFrom least limit table → total_length (texts width (by_quotient width table)) ≤ 4 * costs 2 table
  total_slots least limit [] wide t = omega arith
  total_slots least limit (p ∷ ps) wide t =
      let rest = total_slots (p.tail + 1) limit ps wide t.3 in
      let four = length_group-four width (p.tail % 2 ^ width) p.count wide (t.2) in
      let front = length_front_text (p.tail / 2 ^ width) (p.tail % 2 ^ width, p.count) (by_quotient width ps) in
      omega arith
