-- Where the reports of a record begin.
use Rattle.std.proofs.{Common.{ℕ, ◌+◌, ◌-◌, ◌*◌, ◌/◌, ◌≤◌, arith}, Math.Nat.div-le_self, lemmas.List.FromFn.length-range_with_len, lemmas.List.Sums.count_by-le-length}
use Rattle.std.specs.{Prelude.{nat_lt, min, max}, List.range_with_len}
use Rattle.lert_spec.specs.{declared.numbers.Numbers.Numbers, Edges.{span, edge}}
use Rattle.lert_reports.specs.LogText.{bin_count}

-- a level has at most a bin for each event and one more
pub bins_few : (s : Numbers) (level n : ℕ) → bin_count s level n ≤ n + 1
bins_few s level n =
    let low = edge s level n in
    let high = edge s (level - 1) n in
    let all = range_with_len 0 (n / span s level + 1) in
    omega (
      arith,
      count_by-le-length (λ k. nat_lt (max low (k * span s level)) (min high ((k + 1) * span s level))) all,
      length-range_with_len 0 (n / span s level + 1),
      div-le_self n (span s level),
    )
