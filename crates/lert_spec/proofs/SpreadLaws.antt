-- Each count table is what some items weigh: as many of them as the table allows, none heavier than files of a version hold.
use Rattle.std.proofs.Common.{ℕ, ◌≡◌, ◌+◌, ◌-◌, ◌*◌, ◌/◌, ◌%◌, ◌^◌, ◌<◌, ◌≤◌, ◌==◌, zero, suc, Bool, true, false, cond, eqb, min, List, [], ◌∷◌, ◌++◌, length}
use Rattle.std.proofs.Common.{refl, ap, ap₂, sym, ◌∙◌, arith, inl, inr, lit<}
use Rattle.std.proofs.Math.Nat.{le_trans, le-min, min-eq_left, min-eq_right, min-le_left, min-le_right, mod-eq_of_lt, mul-le-mul_left, mul-le-mul_right, mul-suc, pow-le-pow_right}
use Rattle.std.proofs.lemmas.{Bool.{cases_lt, cases_eq, eq-eqb, ne_eqb}, List.length-append, List.Elements.{All-nil, All-cons, All-head, All-tail, All-append}, List.Sums.sum_by-cons}
use Rattle.std.specs.List.{All}
use Rattle.lert_spec.specs.{declared.item.Item.Item, declared.numbers.Numbers.Numbers, declared.piece.Piece.Piece, Bins.tally, Counts.{weighed, weight_of}, Edges.{key_bits, key_limit, tail_bits}}
use Rattle.lert_spec.specs.{Items.{most_weight, AreOfVersion}, Mix.tail_of, Table.{cost, costs, count_of, total, AscendsFrom, IsTable}}
use Rattle.lert_spec.proofs.{CostLaws.{cost_to, costs_to}, LookLaws.{HaveKeys, HaveKeys-append}, MixLaws.{unmixed, unmixed_below, mix-unmixed}, Tables.count_of-below}
use Rattle.lert_spec.proofs.TallyLaws.{WeighSome, tail_weight, tails_in, tails_in-append, tally_table, count_of-tally, total-tally, one_table, count_of-cons_same, count_of-cons_other}

-- ---- the items

-- so many items of a key that weigh so much together: each takes what it may, but leaves 1 for each one behind it
abbrev pub shares : ℕ → ℕ → ℕ → ℕ → List Item
shares most key zero weight = []
shares most key (suc others) weight =
    let own = min most (weight - others) in
    record { key = key; weight = own } ∷ shares most key others (weight - own)

-- so many items with the counts of pieces: a piece takes as many as its count, but leaves the pieces behind it as many as they cost
abbrev pub spread : ℕ → ℕ → List Piece → List Item
spread version n [] = []
spread version n (p ∷ ps) =
    let own = min p.count (n - costs version ps) in
    shares (most_weight version) (unmixed p.tail) own p.count ++ spread version (n - own) ps

-- what a count costs in items is enough of them, so heavy as they may be
cost_most : (version count : ℕ) → count ≤ most_weight version * cost version count
cost_most version count = elim (version == 1) as (λ b. count ≤ cond b 1 255 * cond b count ((count + 254) / 255)) [
  | true ↦ omega arith
  | false ↦ omega arith
]

most_some : (version : ℕ) → 1 ≤ most_weight version
most_some version = grind arith

-- so many, whatever they weigh
length-shares : (most key n weight : ℕ) → length (shares most key n weight) ≡ n
length-shares most key zero weight = refl
length-shares most key (suc others) weight = ap suc (length-shares most key others (weight - min most (weight - others)))

either_none : (b : Bool) → cond {A = ℕ} b 0 0 ≡ 0
either_none true = refl
either_none false = refl

either_sum : (b : Bool) (m n : ℕ) → cond b m 0 + cond b n 0 ≡ cond b (m + n) 0
either_sum true m n = refl
either_sum false m n = refl

-- that an item has a weight of a version
abbrev IsLight : ℕ → Item → Type 0
IsLight most item = (1 ≤ item.weight) × (item.weight ≤ most)

module _ (most key : ℕ) (some : 1 ≤ most) where
  -- what an item leaves is still enough for those behind it, and not too much
  share_leaves : (others weight : ℕ) → suc others ≤ weight → weight ≤ most * suc others →
      (1 ≤ min most (weight - others)) × (others ≤ weight - min most (weight - others)) × (weight - min most (weight - others) ≤ most * others)
  share_leaves others weight enough few =
      let product = mul-suc most others in
      let each = mul-le-mul_right others some in
      elim (cases_lt most (weight - others)) [
        | inl full ↦ rw (min-eq_left (let m : most ≤ weight - others = omega arith in m)) (some, omega arith, omega arith)
        | inr light ↦ rw (min-eq_right light) (omega arith, omega arith, omega arith)
      ]

  light-shares : (n weight : ℕ) → n ≤ weight → weight ≤ most * n → All (IsLight most) (shares most key n weight)
  light-shares zero weight enough few = All-nil (IsLight most)
  light-shares (suc others) weight enough few =
      let own = min most (weight - others) in
      let leaves = share_leaves others weight enough few in
      All-cons (IsLight most) (record { key = key; weight = own }) (shares most key others (weight - own))
      (leaves.0, omega arith)
      (light-shares others (weight - own) leaves.1 leaves.2)

  -- a tail has all of their weight, or nothing of it
  tails-shares : (s : Numbers) (tail n weight : ℕ) → n ≤ weight → weight ≤ most * n →
      tails_in weighed s tail (shares most key n weight) ≡ cond (eqb (tail_of s key) tail) weight 0
  tails-shares s tail zero weight enough few =
      let none : 0 ≡ weight = omega arith in
      sym (either_none (eqb (tail_of s key) tail)) ∙ ap (λ w. cond {A = ℕ} (eqb (tail_of s key) tail) w 0) none
  tails-shares s tail (suc others) weight enough few =
      let own = min most (weight - others) in
      let leaves = share_leaves others weight enough few in
      let is = eqb (tail_of s key) tail in
      let all : own + (weight - own) ≡ weight = omega (arith, min-le_right most (weight - others)) in
      sum_by-cons (tail_weight weighed s tail) (record { key = key; weight = own }) (shares most key others (weight - own))
      ∙ ap (λ rest. cond {A = ℕ} is own 0 + rest) (tails-shares s tail others (weight - own) leaves.1 leaves.2)
      ∙ either_sum is own (weight - own)
      ∙ ap (λ w. cond {A = ℕ} is w 0) all

-- ---- all pieces

-- a tail has at most the bits of a key, so it has one
tail_fits : (s : Numbers) (tail : ℕ) → tail < 2 ^ tail_bits s → tail < key_limit s
tail_fits s tail below =
    let fits = pow-le-pow_right {n = 2} (lit< tt) {i = tail_bits s} {j = key_bits s} (omega arith) in
    omega arith

pub tail-unmixed : (s : Numbers) (tail : ℕ) → tail < 2 ^ tail_bits s → tail_of s (unmixed tail) ≡ tail
tail-unmixed s tail below =
    ap (λ m. m % 2 ^ tail_bits s) (mix-unmixed tail (tail_fits s tail below)) ∙ mod-eq_of_lt below

module _ (version n : ℕ) (p : Piece) (ps : List Piece) (least : costs version (p ∷ ps) ≤ n) (upper : n ≤ total (p ∷ ps)) where
  -- what the first piece gets is no more than its count, and enough for it, and what it leaves is enough for the others, and not too much
  first_gets : let own = min p.count (n - costs version ps) in
      (own ≤ p.count) × (p.count ≤ most_weight version * own) × (own ≤ n) × (costs version ps ≤ n - own) × (n - own ≤ total ps)
  first_gets =
      let own = min p.count (n - costs version ps) in
      let many : cost version p.count ≤ own = le-min (cost_to version p.count) (omega arith) in
      let heavy : p.count ≤ most_weight version * own = le_trans (cost_most version p.count) (mul-le-mul_left (most_weight version) many) in
      let most = min-le_right p.count (n - costs version ps) in (
        min-le_left p.count (n - costs version ps),
        heavy,
        omega arith,
        omega arith,
        elim (cases_lt p.count (n - costs version ps)) [
          | inl all ↦ omega (arith, min-eq_left (let m : p.count ≤ n - costs version ps = omega arith in m))
          | inr some ↦ omega (arith, costs_to version ps, min-eq_right some)
        ],
      )

-- they are as many as they are to be
pub length-spread : (version n : ℕ) (pieces : List Piece) → costs version pieces ≤ n → n ≤ total pieces → length (spread version n pieces) ≡ n
length-spread version n [] least upper = omega arith
length-spread version n (p ∷ ps) least upper =
    let own = min p.count (n - costs version ps) in
    let gets = first_gets version n p ps least upper in
    let first = shares (most_weight version) (unmixed p.tail) own p.count in
    omega (
      arith,
      gets.2,
      length-append first (spread version (n - own) ps),
      length-shares (most_weight version) (unmixed p.tail) own p.count,
      length-spread version (n - own) ps gets.3 gets.4,
    )

-- and each weighs something, and no more than files of the version hold
pub light-spread : (version n : ℕ) (pieces : List Piece) → costs version pieces ≤ n → n ≤ total pieces → AreOfVersion version (spread version n pieces)
light-spread version n [] least upper = All-nil (IsLight (most_weight version))
light-spread version n (p ∷ ps) least upper =
    let own = min p.count (n - costs version ps) in
    let gets = first_gets version n p ps least upper in
    All-append (IsLight (most_weight version)) (shares (most_weight version) (unmixed p.tail) own p.count) (spread version (n - own) ps)
    (light-shares (most_weight version) (unmixed p.tail) (most_some version) own p.count gets.0 gets.1)
    (light-spread version (n - own) ps gets.3 gets.4)

-- their keys have the bits of a key
keys-shares : (s : Numbers) (most key n weight : ℕ) → key < key_limit s → HaveKeys s weighed (shares most key n weight)
keys-shares s most key zero weight below = tt
keys-shares s most key (suc others) weight below = (below, keys-shares s most key others (weight - min most (weight - others)) below)

pub keys-spread : (s : Numbers) (version from n : ℕ) (pieces : List Piece) → AscendsFrom from (2 ^ tail_bits s) pieces → HaveKeys s weighed (spread version n pieces)
keys-spread s version from n [] ascends = tt
keys-spread s version from n (p ∷ ps) ascends =
    let own = min p.count (n - costs version ps) in
    HaveKeys-append s weighed (shares (most_weight version) (unmixed p.tail) own p.count) (spread version (n - own) ps)
    (keys-shares s (most_weight version) (unmixed p.tail) own p.count (unmixed_below p.tail (tail_fits s p.tail ascends.1)))
    (keys-spread s version (p.tail + 1) (n - own) ps ascends.3)

-- of each tail they weigh what the pieces count
tails-spread : (s : Numbers) (version from n : ℕ) (pieces : List Piece) → AscendsFrom from (2 ^ tail_bits s) pieces → costs version pieces ≤ n → n ≤ total pieces →
    (tail : ℕ) → tails_in weighed s tail (spread version n pieces) ≡ count_of pieces tail
tails-spread s version from n [] ascends least upper tail = refl
tails-spread s version from n (p ∷ ps) ascends least upper tail =
    let most = most_weight version in
    let own = min p.count (n - costs version ps) in
    let gets = first_gets version n p ps least upper in
    let rest = spread version (n - own) ps in
    let first : tails_in weighed s tail (shares most (unmixed p.tail) own p.count) ≡ cond (eqb p.tail tail) p.count 0 =
    tails-shares most (unmixed p.tail) (most_some version) s tail own p.count gets.0 gets.1
    ∙ ap (λ t. cond {A = ℕ} (eqb t tail) p.count 0) (tail-unmixed s p.tail ascends.1) in
    let others = tails-spread s version (p.tail + 1) (n - own) ps ascends.3 gets.3 gets.4 tail in
    tails_in-append weighed s tail (shares most (unmixed p.tail) own p.count) rest
    ∙ ap₂ (λ a b. a + b) first others
    ∙ elim (cases_eq p.tail tail) [
      | inl same ↦ (
          let none = count_of-below (p.tail + 1) (2 ^ tail_bits s) ps tail (omega arith) ascends.3 in
          let counted = ap (λ t. cond {A = ℕ} t p.count 0) (eq-eqb p.tail tail same) in
          omega (arith, count_of-cons_same p ps tail same))
      | inr differs ↦ (
          let counted = ap (λ t. cond {A = ℕ} t p.count 0) (ne_eqb p.tail tail differs) in
          omega (arith, count_of-cons_other p ps tail differs))
    ]

-- what files of a version hold weighs something
pub light_some : (version : ℕ) (items : List Item) → AreOfVersion version items → WeighSome weighed items
light_some version [] light = tt
light_some version (item ∷ items) light =
    let Light = IsLight (most_weight version) in
    ((All-head Light item items light).0, light_some version items (All-tail Light item items light))

-- so the table is theirs
pub tally-spread : (s : Numbers) (version n : ℕ) (pieces : List Piece) → IsTable (2 ^ tail_bits s) pieces → costs version pieces ≤ n → n ≤ total pieces →
    tally weighed s (spread version n pieces) ≡ pieces
tally-spread s version n pieces table least upper =
    let items = spread version n pieces in
    let some = light_some version items (light-spread version n pieces least upper) in
    one_table 0 (2 ^ tail_bits s) (tally weighed s items) pieces (tally_table weighed s items some) table
    (λ tail. count_of-tally weighed s items tail some ∙ tails-spread s version 0 n pieces table least upper tail)

-- and they weigh all that it counts
pub weight-spread : (s : Numbers) (version n : ℕ) (pieces : List Piece) → IsTable (2 ^ tail_bits s) pieces → costs version pieces ≤ n → n ≤ total pieces →
    weight_of weighed (spread version n pieces) ≡ total pieces
weight-spread s version n pieces table least upper =
    sym (total-tally weighed s (spread version n pieces)) ∙ ap total (tally-spread s version n pieces table least upper)
