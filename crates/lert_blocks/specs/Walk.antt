-- The pieces in the slots of a block, and the first slot that breaks a rule.
use Rattle.std.specs.Prelude.{ℕ, zero, suc, ◌+◌, ◌-◌, ◌*◌, ◌^◌, Bool, false, nat_lt, if◌then◌else◌, List, [], ◌∷◌, ◌++◌, take, drop, slice_index_or, Option, Some, None, Result, Ok, Err, option_map}
use Rattle.lert_counter.specs.declared.group.Group.{Group}
use Rattle.lert_spec.specs.declared.piece.Piece.{Piece}
use Rattle.lert_blocks.specs.Grammar.{group_read}

-- pieces, and behind them the place that breaks a rule, where one does
pub record Found : Type 0 where
  pub pieces : List Piece
  pub left : Option ℕ

-- nothing more is found, and nothing breaks a rule
abbrev pub nothing : Found
nothing = record { pieces = []; left = None }

-- a rule is broken here
abbrev pub broken : ℕ → Found
broken place = record { pieces = []; left = Some place }

-- what is found behind something: nothing more where that breaks a rule
abbrev pub behind_at : Option ℕ → Found → Found → Found
behind_at None first second = record { pieces = first.pieces ++ second.pieces; left = second.left }
behind_at (Some place) first second = first

abbrev pub behind : Found → Found → Found
behind first second = behind_at first.left first second

-- how many slots the group that begins here may have: those of its run, and at most so many
abbrev pub reach : ℕ → List Bool → ℕ
reach zero ends = 0
reach (suc most) [] = 0
reach (suc most) (end ∷ ends) = if end then 1 else suc (reach most ends)

-- the first of so many slots that isn't there, or has more than `width` bits
abbrev pub first_bad : ℕ → ℕ → List ℕ → Option ℕ
first_bad width zero slots = None
first_bad width (suc count) [] = Some 0
first_bad width (suc count) (slot ∷ slots) = if nat_lt slot (2 ^ width) then option_map suc (first_bad width count slots) else Some 0

-- a group, if its remainder is at least `least`
abbrev pub if_above : ℕ → Option ℕ → Option Group → Result Group ℕ
if_above least (Some place) read = Err place
if_above least None None = Err 0
if_above least None (Some g) = if nat_lt g.x least then Err 0 else Ok g

-- the group at the front of the slots, or which slot breaks a rule: one that isn't there or is too wide, or the first,
-- where no group begins, or that of a remainder below `least`. A group is judged once all its slots are there
abbrev pub group_at : ℕ → ℕ → List Bool → List ℕ → Result Group ℕ
group_at width least ends slots =
    if_above least (first_bad width (reach 9 ends) slots) (group_read width (take (reach 9 ends) slots))

-- what is found behind so many slots, with a piece before it
abbrev pub after_group : ℕ → ℕ → Group → Found → Found
after_group width quotient g found = record {
  pieces = record { tail = quotient * 2 ^ width + g.x; count = g.count } ∷ found.pieces;
  left = option_map (λ place. g.used + place) found.left;
}

abbrev pub walk_on : Result Group ℕ → (Group → Found) → Found
walk_on (Err place) more = broken place
walk_on (Ok g) more = more g

-- The pieces of slots, of which `ends` tells those that end a run: the first run is that of the first quotient, and its
-- remainders are from `least` on. A broken place is counted in slots.
abbrev pub walk : ℕ → ℕ → List ℕ → ℕ → List Bool → List ℕ → Found
walk zero width quotients least ends slots = nothing
walk (suc most) width quotients least [] slots = nothing
walk (suc most) width [] least (end ∷ ends) slots = broken 0
walk (suc most) width (q ∷ quotients) least (end ∷ ends) slots =
    walk_on (group_at width least (end ∷ ends) slots) (λ g. after_group width q g
    (if slice_index_or (end ∷ ends) (g.used - 1) false
    then walk most width quotients 0 (drop g.used (end ∷ ends)) (drop g.used slots)
    else walk most width (q ∷ quotients) (g.x + 1) (drop g.used (end ∷ ends)) (drop g.used slots)))

-- the quotients of a block, from `first` on, that these bits mark
abbrev pub places : ℕ → List Bool → List ℕ
places first [] = []
places first (bit ∷ bits) = if bit then first ∷ places (first + 1) bits else places (first + 1) bits

-- the least tail that may come: that of the first quotient that isn't passed, or of the next block's first one
abbrev pub floor_from : ℕ → ℕ → List ℕ → ℕ → ℕ
floor_from width end [] least = end * 2 ^ width
floor_from width end (q ∷ quotients) least = q * 2 ^ width + least
