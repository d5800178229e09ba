-- What reading a group of a text answers.
use Rattle.std.specs.Prelude.{ℕ, ◌+◌, ◌*◌, ◌^◌, ◌≡◌, ◌<◌, ◌≤◌, ◌==◌, ◌⊎◌, Option, Some, IfNone, IfSome, List, ◌∷◌, ◌++◌, fold, map, take, drop, length, slice_index, if◌then◌else◌}
use Rattle.lert_counter.specs.{Group.{group, written, digit_base, IsCount, BeginsWith}, declared.group.Group.Group}

-- the number that digits in base b spell, the most significant first
abbrev pub number_of : ℕ → List ℕ → ℕ
number_of b ds = fold (λ n d. n * b + d) 0 ds

-- the slots begin with `len` digits beside x and x again, which spell the count less `least`
pub record Spells (base x least : ℕ) (slots : List ℕ) (count len : ℕ) : Type 0 where
  pub ds : List ℕ
  pub back : List ℕ
  pub few : length ds ≤ 6
  pub text : slots ≡ map (written x) ds ++ x ∷ back
  pub count_is : count ≡ number_of base ds + least
  pub small : count ≤ 2 ^ 47
  pub len_is : len ≡ length ds

-- where the digits of a counter begin: behind its first value, and behind the 0 that may guard them
abbrev pub digits_at : List ℕ → ℕ
digits_at text = if slice_index text 1 == 0 then 2 else 1

-- digits are closed by the first value, which is above 0, and spell a count
abbrev pub SpellsCounter : ℕ → List ℕ → ℕ → ℕ → Type 0
SpellsCounter width text count len =
    Spells (digit_base width (slice_index text 0)) (slice_index text 0) 3 (drop (digits_at text) text) count len

-- a counter is read with no test of its digits
pub record IsSpelled (width : ℕ) (text : List ℕ) (g : Group) : Type 0 where
  pub len : ℕ
  pub spells : SpellsCounter width text g.count len
  pub first : g.x ≡ slice_index text 0
  pub used_is : g.used ≡ digits_at text + len + 1

-- the group of x and c, as read
abbrev pub read_as : ℕ → ℕ → ℕ → Group
read_as width x c = record { x = x; count = c; used = length (group width x c) }

-- two zeros stand side by side
abbrev pub HasTwoZeros : List ℕ → Type 0
HasTwoZeros slots = (k : ℕ) × (k + 1 < length slots) × (slice_index slots k ≡ 0) × (slice_index slots (k + 1) ≡ 0)

-- the text begins with the group that was read
pub record IsReadFrom (width : ℕ) (text : List ℕ) (g : Group) : Type 0 where
  pub first : g.x ≡ slice_index text 0
  pub counts : IsCount g.count
  pub begins : BeginsWith text (group width g.x g.count)
  pub len : g.used ≡ length (group width g.x g.count)

-- a counter of at least `least` is read where one stands, and else nothing
pub record IsCounterRead (width least : ℕ) (text : List ℕ) (result : Option Group) : Type 0 where
  pub there : (c : ℕ) → least ≤ c → c ≤ 2 ^ 47 → BeginsWith text (group width (slice_index text 0) c)
      → result ≡ Some (read_as width (slice_index text 0) c)
  pub read : IfSome result (λ g. (least ≤ g.count) × IsReadFrom width text g)

-- what is read behind a first 0, where the second value is above 0: a counter; else 0 alone, or nothing
pub record IsZeroRead (width : ℕ) (text : List ℕ) (result : Option Group) : Type 0 where
  pub there : (c : ℕ) → 4 ≤ c → c ≤ 2 ^ 47 → BeginsWith text (group width 0 c) → result ≡ Some (read_as width 0 c)
  pub read : IfSome result (λ g. IsReadFrom width text g
      × (((g.count ≡ 1) × ¬ HasTwoZeros (take 9 text)) ⊎ (4 ≤ g.count)))
  pub none : IfNone result (HasTwoZeros (take 9 text))

-- what may follow the group of x in a run text: nothing, or a greater value, and behind 0 no two zeros
pub record Follows (x : ℕ) (back : List ℕ) : Type 0 where
  pub above : 0 < length back → x < slice_index back 0
  pub apart : x ≡ 0 → ¬ HasTwoZeros back
