-- What a decoder says of the slots of one word of run ends.
use Rattle.std.specs.Prelude.{◌≡◌, ℕ, ◌+◌, ◌-◌, ◌*◌, ◌^◌, ◌<◌, ◌≤◌, ◌++◌, ◌⊎◌, Bool, true, false, if◌then◌else◌, List, [], ◌∷◌, length, take, drop}
use Rattle.std.specs.Prelude.{min, slice_index, slice_index_or, Ok, Err, option_map}
use Rattle.lert_slotbits.specs.Bits.{word_bits}
use Rattle.lert_counter.specs.Group.{IsCount}
use Rattle.lert_counter.specs.declared.group.Group.{Group}
use Rattle.lert_spec.specs.declared.piece.Piece.{Piece}
use Rattle.lert_blocks.specs.declared.decoder.Slots.{Slots}
use Rattle.lert_blocks.specs.declared.decoder.Walk.{Walk}
use Rattle.lert_blocks.specs.declared.step.Step.{Step}
use Rattle.lert_blocks.specs.Walk.{Found, group_at, reach, walk, places, floor_from}

-- these are the run ends from the word's first slot on, and `more` the slots behind those at hand: none, where these
-- aren't all that a group of the word may reach
pub record AreSlots (slots : Slots) (ends : List Bool) (more : List ℕ) : Type 0 where
  pub some : length ends ≡ slots.some
  pub near : take 72 ends ≡ take (min slots.some 72) (word_bits slots.ends ++ word_bits slots.next_ends)
  pub missing : length slots.slots.now < min slots.some 72 → more ≡ []

-- what is found from where a walk stands, whose block has this first quotient
abbrev pub rest_found : ℕ → ℕ → Walk → List Bool → List ℕ → Found
rest_found width first at ends slots = walk (length ends) width (places first (word_bits at.occupied)) at.least ends slots

-- with pieces before it, which take so many slots
abbrev pub with_front : List Piece → ℕ → Found → Found
with_front pieces used found = record { pieces = pieces ++ found.pieces; left = option_map (λ place. used + place) found.left }

-- the least tail that may come
abbrev pub floor_of : ℕ → ℕ → Walk → ℕ
floor_of width first at = floor_from width (first + 64) (places first (word_bits at.occupied)) at.least

-- ---- one group of the word

-- the slots from `from` on are all that a group of the word may reach, and none has more than `width` bits
pub record AreWhole (width from : ℕ) (slots : Slots) : Type 0 where
  pub all : length slots.slots.now ≡ min slots.some 72
  pub narrow : (k : ℕ) → from ≤ k → k < length slots.slots.now → slice_index slots.slots.now k < 2 ^ width

-- a slot ends its run, or is above 0 and the next one, where one is there, is greater
abbrev pub IsAlone : ℕ → List ℕ → Bool → Type 0
IsAlone at slots ends_run = (ends_run ≡ true) ⊎ ((0 < slice_index slots at) × (at + 1 < length slots → slice_index slots at < slice_index slots (at + 1)))

-- so many slots the group at a slot may have
pub record IsReach (at : ℕ) (slots : Slots) (count : ℕ) : Type 0 where
  pub is : (ends : List Bool) (more : List ℕ) → AreSlots slots ends more → reach 9 (drop at ends) ≡ count
  pub some : 1 ≤ count
  pub most : count ≤ 9
  pub within : at + count ≤ slots.some

-- the group at a slot, and whether it ends its run
pub record IsStep (width least at : ℕ) (slots : Slots) (step : Step) : Type 0 where
  pub group : (ends : List Bool) (more : List ℕ) → AreSlots slots ends more
      → group_at width least (drop at ends) (drop at (slots.slots.now ++ more)) ≡ Ok step.group
  pub last : (ends : List Bool) (more : List ℕ) → AreSlots slots ends more
      → slice_index_or (drop at ends) (step.group.used - 1) false ≡ step.ends_run
  pub some : 1 ≤ step.group.used
  pub within : at + step.group.used ≤ length slots.slots.now
  pub few : step.group.used ≤ 9
  pub counts : IsCount step.group.count
  pub low : least ≤ step.group.x
  pub narrow : step.group.x < 2 ^ width

-- the slot that breaks a rule at the group of a slot
pub record IsLeft (width least at : ℕ) (slots : Slots) (place : ℕ) : Type 0 where
  pub is : (ends : List Bool) (more : List ℕ) → AreSlots slots ends more
      → group_at width least (drop at ends) (drop at (slots.slots.now ++ more)) ≡ Err (place - at)
  pub from : at ≤ place
  pub within : place ≤ length slots.slots.now
  pub near : place < at + 9

-- the walk behind a group: at the next quotient, where it ends its run
pub record GoesOn (step : Step) (occupied : ℕ) (behind : Walk) : Type 0 where
  pub least : behind.least ≡ (if step.ends_run then 0 else step.group.x + 1)
  pub quotients : (first : ℕ) → places first (word_bits behind.occupied)
      ≡ (if step.ends_run then drop 1 (places first (word_bits occupied)) else places first (word_bits occupied))

-- the piece of a group of the first quotient
pub record IsPieceOf (width first occupied : ℕ) (group : Group) (piece : Piece) : Type 0 where
  pub quotient : ℕ
  pub head : places first (word_bits occupied) ≡ quotient ∷ drop 1 (places first (word_bits occupied))
  pub tail : piece.tail ≡ quotient * 2 ^ width + group.x
  pub count : piece.count ≡ group.count
