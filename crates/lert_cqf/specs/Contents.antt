-- What a table is seen as, and what its rows keep.
use Rattle.std.specs.Prelude.{ℕ, ◌+◌, ◌*◌, ◌/◌, ◌%◌, ◌^◌, ◌≡◌, ◌<◌, ◌≤◌, Bool, List, [], fold}
use Rattle.lert_spec.specs.{Table.{costs, total, plus, AscendsFrom}, declared.piece.Piece.Piece}
use Rattle.lert_cqf.specs.{Layout.{by_quotient, texts, homes_from, slot_count}, Growing.Stand}

-- the table that so many adds make
abbrev pub built : List Piece → List Piece
built adds = fold (λ table p. plus table p.tail p.count) [] adds

-- the pieces, how many adds made them and how many may, and the bits of quotients and remainders
pub record Contents : Type 0 where
  pub pieces : List Piece
  pub adds : ℕ
  pub room : ℕ
  pub quotient_bits : ℕ
  pub width : ℕ

-- the numbers that a table can be made with
pub record HaveLimits (quotient_bits width room : ℕ) : Type 0 where
  pub least_quotient : 6 ≤ quotient_bits
  pub most_quotient : quotient_bits ≤ 39
  pub least_width : 8 ≤ width
  pub most_width : width ≤ 58
  pub most_room : room ≤ 2 ^ 39

-- the rows are the layout of the pieces, which so many adds of 1 to 255 made
pub record IsKept (pieces : List Piece) (quotient_bits width adds room : ℕ) (slots : List ℕ) (occupied ends used : List Bool) (spill : List ℕ) : Type 0 where
  pub limits : HaveLimits quotient_bits width room
  pub ascend : AscendsFrom 0 (2 ^ quotient_bits * 2 ^ width) pieces
  pub narrow : AscendsFrom 0 (2 ^ 64) pieces
  pub cheap : costs 2 pieces ≤ adds
  pub some : adds ≤ total pieces
  pub in_room : adds ≤ room
  pub stand : Stand (slot_count quotient_bits room) (2 ^ quotient_bits) (texts width (by_quotient width pieces)) slots ends used spill
  pub occupied_is : occupied ≡ homes_from (2 ^ quotient_bits) 0 (by_quotient width pieces)

-- an add more of n fits, to a tail whose quotient and remainder are these
pub record IsPutting (adds quotient_bits width room tail n home x : ℕ) : Type 0 where
  pub positive : 1 ≤ n
  pub few : n ≤ 255
  pub fits : adds < room
  pub below : tail < 2 ^ (quotient_bits + width)
  pub word : tail < 2 ^ 64
  pub home_is : home ≡ tail / 2 ^ width
  pub rest_is : x ≡ tail % 2 ^ width
