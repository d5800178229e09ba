-- The text of a run: the groups of remainders that ascend.
use Rattle.std.specs.Prelude.{ℕ, ◌+◌, ◌^◌, ◌≡◌, ◌<◌, ◌≤◌, ◌==◌, List, [], ◌∷◌, ◌++◌, nat_lt, if◌then◌else◌}
use Rattle.lert_counter.specs.Group.{group, IsCount}

-- the groups of remainders and their counts, one behind the other
abbrev pub run_text : ℕ → List (ℕ × ℕ) → List ℕ
run_text width [] = []
run_text width (p ∷ ps) = group width p.0 p.1 ++ run_text width ps

-- the remainders ascend from `least` on, and each count is one that a group can have
abbrev pub RemaindersAscend : ℕ → List (ℕ × ℕ) → Type 0
RemaindersAscend least [] = Unit {0}
RemaindersAscend least (p ∷ ps) = (least ≤ p.0) × IsCount p.1 × RemaindersAscend (p.0 + 1) ps

-- the slots are the text of these pairs
pub record IsTextOf (width : ℕ) (slots : List ℕ) (ps : List (ℕ × ℕ)) : Type 0 where
  pub ascend : RemaindersAscend 0 ps
  pub text : slots ≡ run_text width ps

-- each remainder is below m
abbrev pub RemaindersBelow : ℕ → List (ℕ × ℕ) → Type 0
RemaindersBelow m [] = Unit {0}
RemaindersBelow m (p ∷ ps) = (p.0 < m) × RemaindersBelow m ps

-- the slots are a run text: that of some pairs, whose remainders have at most `width` bits
abbrev pub IsRunText : ℕ → List ℕ → Type 0
IsRunText width slots = (ps : List (ℕ × ℕ)) × IsTextOf width slots ps × RemaindersBelow (2 ^ width) ps

-- how often a remainder stands in the pairs, 0 where it is absent
abbrev pub count_in : List (ℕ × ℕ) → ℕ → ℕ
count_in [] x = 0
count_in (p ∷ ps) x = if p.0 == x then p.1 else count_in ps x

-- each count is below m
abbrev pub CountsBelow : ℕ → List (ℕ × ℕ) → Type 0
CountsBelow m [] = Unit {0}
CountsBelow m (p ∷ ps) = (p.1 < m) × CountsBelow m ps

-- the pairs of the remainders below x
abbrev pub pairs_below : List (ℕ × ℕ) → ℕ → List (ℕ × ℕ)
pairs_below [] x = []
pairs_below (p ∷ ps) x = if nat_lt p.0 x then p ∷ pairs_below ps x else []

-- the pairs with n more of x: its count is raised, or a new pair stands in its place
abbrev pub pairs_plus : List (ℕ × ℕ) → ℕ → ℕ → List (ℕ × ℕ)
pairs_plus [] x n = (x, n) ∷ []
pairs_plus (p ∷ ps) x n =
    if nat_lt p.0 x then p ∷ pairs_plus ps x n
    else (if p.0 == x then (x, p.1 + n) ∷ ps else (x, n) ∷ p ∷ ps)

-- the slots of a remainder's group, none if it is absent
abbrev pub group_in : ℕ → List (ℕ × ℕ) → ℕ → List ℕ
group_in width ps x = if count_in ps x == 0 then [] else group width x (count_in ps x)
