-- What a store of reports is seen as, and what it keeps beside its list.
use Rattle.std.specs.Prelude.{ℕ, ◌≡◌, ◌+◌, ◌<◌, ◌≤◌, ◌^◌, All, List, [], bit_xor, fold, length, map}
use Rattle.lert_spec.specs.{declared.numbers.Numbers.Numbers, declared.piece.Piece.Piece, declared.report.Report.Report, Edges.key_limit, Mix.mix, Table.plus}

-- its settings, and its reports in their order
pub record Stored : Type 0 where
  pub settings : Numbers
  pub reports : List Report

-- the least number of bits from 6 on that give each of so many events a quotient of its own
pub record AreFewest (bits events : ℕ) : Type 0 where
  pub least : 6 ≤ bits
  pub each : events ≤ 2 ^ bits
  pub fewest : (fewer : ℕ) → 6 ≤ fewer → events ≤ 2 ^ fewer → bits ≤ fewer

-- the value under which the table counts a key: two keys of 64 bits have two
abbrev pub hidden : ℕ → ℕ → ℕ
hidden secret key = mix (bit_xor key secret)

-- how often each value occurs among those of the keys
abbrev pub hidden_tally : ℕ → List ℕ → List Piece
hidden_tally secret keys = fold (λ pieces key. plus pieces (hidden secret key) 1) [] keys

-- the table has a place for each report that the settings allow, a quotient too, and values of 64 bits
pub record IsRoomy (s : Numbers) (room quotient width : ℕ) : Type 0 where
  pub places : room ≡ s.room
  pub quotients : AreFewest quotient s.room
  pub whole : quotient + width ≡ 64

-- there is room for each report that the settings allow, and the table counts the values of the listed keys, one add each
pub record AreStored (s : Numbers) (secret : ℕ) (reports : List Report) (capacity : ℕ) (pieces : List Piece) (adds room quotient width : ℕ) : Type 0 where
  pub few : length reports ≤ s.room
  pub reserved : s.room ≤ capacity
  pub keys : All (λ report. report.key < key_limit s) reports
  pub counted : pieces ≡ hidden_tally secret (map (λ report. report.key) reports)
  pub added : adds ≡ length reports
  pub roomy : IsRoomy s room quotient width
