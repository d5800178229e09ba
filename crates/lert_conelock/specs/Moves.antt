-- What the callers of a lock did to it: each take of it, each take that found it held, and each time it was freed.
use Rattle.std.specs.Prelude.{◌≡◌, ℕ, ◌<◌, ◌≤◌, ◌==◌, ◌⊎◌, List, [], ◌∷◌, ◌++◌, filter, replicate, sum_by, Option, Some, None}
use Rattle.lert_conelock.specs.Prefix.{IsPrefix}

-- a take and a free under a number, and a take that was missed by a pass of the numbers from one on and below another
pub data Move : Type 0 where
  Take : ℕ → Move
  Free : ℕ → Move
  Miss : ℕ → ℕ → Move

-- the number that a move comes under
abbrev pub mover : Move → ℕ
mover (Take number) = number
mover (Free number) = number
mover (Miss lo hi) = lo

-- the moves of a number
abbrev pub own_moves : List Move → ℕ → List Move
own_moves moves number = filter (λ move. mover move == number) moves

abbrev pub is_missed : Move → ℕ
is_missed (Take number) = 0
is_missed (Free number) = 0
is_missed (Miss lo hi) = 1

-- how many takes were missed
abbrev pub misses : List Move → ℕ
misses moves = sum_by is_missed moves

-- under which number the lock is held after a move, where it was held so before
abbrev pub held_next : Option ℕ → Move → Option ℕ
held_next who (Take number) = Some number
held_next who (Free number) = None
held_next who (Miss lo hi) = who

-- and after moves
abbrev pub held_after : Option ℕ → List Move → Option ℕ
held_after who [] = who
held_after who (move ∷ moves) = held_after (held_next who move) moves

-- another caller has the lock than a pass of these numbers
pub record IsAnothers (who : Option ℕ) (lo hi : ℕ) : Type 0 where
  pub number : ℕ
  pub held : who ≡ Some number
  pub outside : (number < lo) ⊎ (hi ≤ number)

-- a move may come while the lock is held so: a take of a free lock, a free by who has it, a miss while another has it
abbrev pub MayCome : Option ℕ → Move → Type 0
MayCome who (Take number) = who ≡ None
MayCome who (Free number) = who ≡ Some number
MayCome who (Miss lo hi) = IsAnothers who lo hi

-- moves in an order in which each may come
abbrev pub AreOrderly : Option ℕ → List Move → Type 0
AreOrderly who [] = Unit {0}
AreOrderly who (move ∷ moves) = MayCome who move × AreOrderly (held_next who move) moves

-- a call under a number that waits: takes that it missed, and then one that it won
abbrev pub waits_and_takes : ℕ → ℕ → ℕ → List Move
waits_and_takes number hi lost = replicate lost (Miss number hi) ++ Take number ∷ Free number ∷ []

-- more is known of a lock's moves than before, which are orderly; of a number's own ones these were added
pub record Moves (number : ℕ) (old added new : List Move) : Type 0 where
  pub begins : IsPrefix old new
  pub orderly : AreOrderly None new
  pub own : own_moves new number ≡ own_moves old number ++ added
