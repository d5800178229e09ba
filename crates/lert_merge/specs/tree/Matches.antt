-- The matches of a tree: who wins and who loses at each place.
use Rattle.std.specs.Prelude.{ℕ, ◌≡◌, ◌+◌, ◌-◌, ◌*◌, ◌<◌, ◌≤◌, ◌⊎◌, List, length, nat_lt, if◌then◌else◌}
use Rattle.lert_merge.specs.tree.Race.{number_at, greatest}

-- the winner at a place of a tree whose nodes hold winners: a leaf is won by its own stream
abbrev pub winner_of : List ℕ → ℕ → ℕ
winner_of nodes place = if nat_lt place (length nodes) then number_at nodes place else place - length nodes

-- one of two has won, and the other has lost
abbrev pub ArePair : ℕ → ℕ → ℕ → ℕ → Type 0
ArePair one other winner loser = ((winner ≡ one) × (loser ≡ other)) ⊎ ((winner ≡ other) × (loser ≡ one))

-- leaves that have no stream have the greatest key
abbrev pub AreAbsent : List ℕ → ℕ → Type 0
AreAbsent keys streams = (k : ℕ) → streams ≤ k → k < length keys → number_at keys k ≡ greatest

-- each node names a leaf
abbrev pub AreBelow : List ℕ → ℕ → Type 0
AreBelow nodes leaves = (j : ℕ) → j < leaves → number_at nodes j < leaves

-- one of two with the lesser key, which has no stream only where neither has one
pub record IsWon (keys : List ℕ) (streams one other winner : ℕ) : Type 0 where
  pub which : (winner ≡ one) ⊎ (winner ≡ other)
  pub first : number_at keys winner ≤ number_at keys one
  pub second : number_at keys winner ≤ number_at keys other
  pub absent : streams ≤ winner → (streams ≤ one) × (streams ≤ other)

-- behind some place each node holds the winner of its match
abbrev pub AreWon : List ℕ → ℕ → List ℕ → ℕ → Type 0
AreWon keys streams nodes before = (j : ℕ) → 1 ≤ j → before ≤ j → j < length keys →
    IsWon keys streams (winner_of nodes (2 * j)) (winner_of nodes (2 * j + 1)) (winner_of nodes j)

-- a match: the loser has no lesser key
pub record IsMatch (keys : List ℕ) (one other winner loser : ℕ) : Type 0 where
  pub which : ArePair one other winner loser
  pub order : number_at keys winner ≤ number_at keys loser

-- the nodes hold the losers of all matches; who has won at each place, no memory says
pub record IsPlayed (keys nodes : List ℕ) (leaves first : ℕ) : Type 0 where
  pub winner : ℕ → ℕ
  pub leaf : (k : ℕ) → k < leaves → winner (leaves + k) ≡ k
  pub played : (j : ℕ) → 1 ≤ j → j < leaves → IsMatch keys (winner (2 * j)) (winner (2 * j + 1)) (winner j) (number_at nodes j)
  pub last : winner 1 ≡ first

-- what stands between two calls
pub record IsTree (keys nodes : List ℕ) (streams first room keys_room nodes_room : ℕ) : Type 0 where
  pub nodes_len : length nodes ≡ length keys
  pub few : length keys ≤ 131072
  pub enough : streams ≤ length keys
  pub below : AreBelow nodes (length keys)
  pub absent : AreAbsent keys streams
  pub played : IsPlayed keys nodes (length keys) first
  pub present : 1 ≤ streams → first < streams
  pub in_room : streams ≤ room
  pub keys_reserved : room + room ≤ keys_room
  pub nodes_reserved : room + room ≤ nodes_room
