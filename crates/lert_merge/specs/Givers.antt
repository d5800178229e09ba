-- The streams that have a part in a tail, and how much.
use Rattle.std.specs.Prelude.{ℕ, zero, suc, ◌≡◌, ◌+◌, ◌*◌, ◌<◌, ◌≤◌, ◌==◌, ◌^◌, Option, Some, List, [], ◌∷◌, length, if◌then◌else◌, sum_by}
use Rattle.lert_spec.specs.declared.piece.Piece.{Piece}
use Rattle.lert_merge.specs.declared.sums.Giver.{Giver}

-- for how many streams there is room
pub record Room : Type 0 where
  pub room : ℕ

-- the givers of the tail given last, those taken of the next one and its tail, the tail given last, and for how many there is room
pub record Taking : Type 0 where
  pub given : List Giver
  pub taken : List Giver
  pub tail : ℕ
  pub last : Option ℕ
  pub room : ℕ

-- a stream's count, 0 where it has no part
abbrev pub share_in : List Giver → ℕ → ℕ
share_in [] k = 0
share_in (giver ∷ givers) k = if giver.stream == k then giver.count else share_in givers k

-- the sum of a function of the first numbers
abbrev pub sum_below : (ℕ → ℕ) → ℕ → ℕ
sum_below f zero = 0
sum_below f (suc n) = sum_below f n + f n

-- 1 for each number but 0
abbrev pub present : ℕ → ℕ
present zero = 0
present (suc n) = 1

-- each has a part
abbrev pub AreCounted : List Giver → Type 0
AreCounted [] = Unit {0}
AreCounted (giver ∷ givers) = (1 ≤ giver.count) × AreCounted givers

-- each is one of the first streams, and none stands there twice: they are as many as have a share, and the shares' sum is theirs
pub record AreGivers (streams : ℕ) (givers : List Giver) : Type 0 where
  pub counted : AreCounted givers
  pub len : length givers ≡ sum_below (λ k. present (share_in givers k)) streams
  pub sum : sum_by (λ giver. giver.count) givers ≡ sum_below (share_in givers) streams

-- what was taken is given: its tail, with the sum of its counts
pub record IsSum (old new : Taking) (piece : Piece) : Type 0 where
  pub some : 1 ≤ length old.taken
  pub tail : piece.tail ≡ old.tail
  pub count : piece.count ≡ sum_by (λ giver. giver.count) old.taken
  pub counted : 1 ≤ piece.count
  pub small : piece.count < 2 ^ 63
  pub given : new.given ≡ old.taken
  pub taken : new.taken ≡ []
  pub last : new.last ≡ Some old.tail
  pub room : new.room ≡ old.room

-- what stands between two calls
pub record IsTaking (taken : List Giver) (sum room given_room taken_room : ℕ) : Type 0 where
  pub few : length taken ≤ 65535
  pub in_room : length taken ≤ room
  pub given_reserved : room ≤ given_room
  pub taken_reserved : room ≤ taken_room
  pub summed : sum ≡ sum_by (λ giver. giver.count) taken
  pub counted : length taken ≤ sum
  pub small : sum ≤ 140737488355328 * length taken
