-- A walk over the slots of a block: what its steps take, that it ends, and what is always true of the pieces that it finds.
use Rattle.std.proofs.Common.{◌≡◌, ℕ, zero, suc, ◌+◌, ◌-◌, ◌*◌, ◌^◌, ◌<◌, ◌≤◌, Bool, true, false, cond, List, [], ◌∷◌, All, length, take, drop, get_or}
use Rattle.std.proofs.Common.{Option, Some, None, option_map, Result, Ok, Err, refl, sym, ap, ap₂, ◌∙◌, subst, inl, inr, arith, ltb, lt-ltb, le-ltb}
use Rattle.std.proofs.lemmas.Bool.{cases_lt, cond-true, cond-false, cond_both}
use Rattle.std.proofs.lemmas.List.{get_or-take, take-take, length-take, length-drop}
use Rattle.std.proofs.lemmas.List.Elements.{All-nil, All-cons, All-append}
use Rattle.std.proofs.Math.Nat.{mul-le-mul_right}
use Rattle.lert_counter.specs.Group.{group, IsCount}
use Rattle.lert_counter.specs.declared.group.Group.{Group}
use Rattle.lert_slotbits.specs.Bits.{word_bits}
use Rattle.lert_slotbits.proofs.RowLemmas.{length_word_bits}
use Rattle.lert_spec.specs.declared.piece.Piece.{Piece}
use Rattle.lert_spec.specs.Table.{AscendsFrom}
use Rattle.lert_blocks.specs.Grammar.{group_read}
use Rattle.lert_blocks.specs.Walk.{Found, broken, behind_at, reach, first_bad, if_above, group_at, after_group, walk_on, walk, places, floor_from}
use Rattle.lert_blocks.specs.Frame.{occupied_in, count_in, block_len, head_left, slots_found, block_found, blocks_found}
use Rattle.lert_blocks.proofs.GroupLaws.{read_counts}
use Rattle.lert_blocks.proofs.PieceLaws.{ascends_from, ascends_below, ascends_append}
use Rattle.lert_blocks.proofs.RunLaws.{Rises, places_rise}

-- ---- one group

-- a group stands at the front of slots that are there and have so many bits at most
pub record IsGroupAt (width least : ℕ) (ends : List Bool) (slots : List ℕ) (g : Group) : Type 0 where
  pub counts : IsCount g.count
  pub some : 1 ≤ g.used
  pub few : g.used ≤ 9
  pub reached : g.used ≤ reach 9 ends
  pub within : g.used ≤ length ends
  pub there : g.used ≤ length slots
  pub low : least ≤ g.x
  pub narrow : g.x < 2 ^ width
  pub text : take g.used slots ≡ group width g.x g.count
  pub len : g.used ≡ length (group width g.x g.count)

above_ok : (least : ℕ) (bad : Option ℕ) (read : Option Group) (g : Group) → if_above least bad read ≡ Ok g → (bad ≡ None) × (read ≡ Some g) × (least ≤ g.x)
above_ok least (Some place) read g e = absurd (cc)
above_ok least None None g e = absurd (cc)
above_ok least None (Some h) g e =
    elim (cases_lt h.x least) [
      | inl less ↦ absurd (let lower : ◌≡◌ {A = Result Group ℕ} (Err 0) (Ok g) = sym (cond-true (ltb h.x least) (Err 0) (Ok h) (lt-ltb h.x least less)) ∙ e in cc)
      | inr more ↦ (let is : ◌≡◌ {A = Result Group ℕ} (Ok h) (Ok g) = sym (cond-false (ltb h.x least) (Err 0) (Ok h) (le-ltb h.x least more)) ∙ e in
          let same : h ≡ g = cc in (refl, ap Some same, subst (λ (k : Group). least ≤ k.x) same more))
    ]

map_none : (o : Option ℕ) → option_map suc o ≡ None → o ≡ None
map_none None e = refl
map_none (Some place) e = absurd (cc)

first_good : (width n slot : ℕ) (slots : List ℕ) → first_bad width (suc n) (slot ∷ slots) ≡ None → (slot < 2 ^ width) × (first_bad width n slots ≡ None)
first_good width n slot slots none =
    let later = option_map suc (first_bad width n slots) in
    elim (cases_lt slot (2 ^ width)) [
      | inl narrow ↦ (narrow, map_none (first_bad width n slots) (sym (cond-true (ltb slot (2 ^ width)) later (Some 0) (lt-ltb slot (2 ^ width) narrow)) ∙ none))
      | inr wide ↦ absurd (let bad : ◌≡◌ {A = Option ℕ} (Some 0) None = sym (cond-false (ltb slot (2 ^ width)) later (Some 0) (le-ltb slot (2 ^ width) wide)) ∙ none in cc)
    ]

-- no slot of so many is bad
pub first_bad-none : (width n : ℕ) (slots : List ℕ) (k : ℕ) → first_bad width n slots ≡ None → k < n → (k < length slots) × (get_or slots k 0 < 2 ^ width)
first_bad-none width zero slots k none h = absurd (omega arith)
first_bad-none width (suc n) [] k none h = absurd (cc)
first_bad-none width (suc n) (slot ∷ slots) zero none h = let first = first_good width n slot slots none in (omega arith, first.0)
first_bad-none width (suc n) (slot ∷ slots) (suc k) none h =
    let later = first_bad-none width n slots k (first_good width n slot slots none).1 (omega arith) in (omega (arith, later.0), later.1)

pub reach_within : (most : ℕ) (ends : List Bool) → reach most ends ≤ length ends
reach_within zero ends = omega arith
reach_within (suc most) [] = omega arith
reach_within (suc most) (true ∷ ends) = omega arith
reach_within (suc most) (false ∷ ends) = let h = reach_within most ends in omega arith

pub group_at-ok : (width least : ℕ) (ends : List Bool) (slots : List ℕ) (g : Group) → group_at width least ends slots ≡ Ok g → IsGroupAt width least ends slots g
group_at-ok width least ends slots g is =
    let n = reach 9 ends in
    let ok = above_ok least (first_bad width n slots) (group_read width (take n slots)) g is in
    let read = read_counts width (take n slots) g ok.1 in
    let long = length-take n slots in
    let inside = reach_within 9 ends in
    let used : g.used ≤ n = omega (arith, read.3) in
    let some : 0 < n = omega (arith, read.1) in
    let first : g.x ≡ get_or slots 0 0 = read.4 ∙ get_or-take n slots 0 0 some in
    let narrow = first_bad-none width n slots 0 ok.0 some in
    record {
      counts = read.0;
      some = read.1;
      few = read.2;
      reached = used;
      within = omega arith;
      there = omega (arith, read.3);
      low = ok.2;
      narrow = omega (arith, narrow.1, first);
      text = sym (take-take g.used n slots used) ∙ read.5;
      len = read.6;
    }

-- ---- what is found, by the group at the front

pub walk_on-holds : (P : Found → Type 0) (r : Result Group ℕ) (more : Group → Found) → ((place : ℕ) → r ≡ Err place → P (broken place)) → ((g : Group) → r ≡ Ok g → P (more g)) →
    P (walk_on r more)
walk_on-holds P (Err place) more breaks goes = breaks place refl
walk_on-holds P (Ok g) more breaks goes = goes g refl

walk_on-same : (r : Result Group ℕ) (more other : Group → Found) → ((g : Group) → r ≡ Ok g → more g ≡ other g) → walk_on r more ≡ walk_on r other
walk_on-same (Err place) more other same = refl
walk_on-same (Ok g) more other same = same g refl

-- each step takes a slot at least, so as many steps as slots are enough
pub walk_enough : (a b width : ℕ) (qs : List ℕ) (least : ℕ) (ends : List Bool) (slots : List ℕ) → length ends ≤ a → length ends ≤ b →
    walk a width qs least ends slots ≡ walk b width qs least ends slots
walk_enough zero zero width qs least ends slots ha hb = refl
walk_enough zero (suc b) width qs least [] slots ha hb = refl
walk_enough zero (suc b) width qs least (e ∷ es) slots ha hb = absurd (omega arith)
walk_enough (suc a) zero width qs least [] slots ha hb = refl
walk_enough (suc a) zero width qs least (e ∷ es) slots ha hb = absurd (omega arith)
walk_enough (suc a) (suc b) width qs least [] slots ha hb = refl
walk_enough (suc a) (suc b) width [] least (e ∷ es) slots ha hb = refl
walk_enough (suc a) (suc b) width (q ∷ qs) least (e ∷ es) slots ha hb =
    walk_on-same (group_at width least (e ∷ es) slots) _ _ (λ g is.
    let some = (group_at-ok width least (e ∷ es) slots g is).some in
    let rest = length-drop g.used (e ∷ es) in
    ap (after_group width q g)
    (ap₂ (λ x y. cond (get_or (e ∷ es) (g.used - 1) false) x y)
    (walk_enough a b width qs 0 (drop g.used (e ∷ es)) (drop g.used slots) (omega arith) (omega arith))
    (walk_enough a b width (q ∷ qs) (g.x + 1) (drop g.used (e ∷ es)) (drop g.used slots) (omega arith) (omega arith))))

-- ---- pieces ascend

-- the floor of quotients that rise from a number on
pub floor_low : (width low end least : ℕ) (qs : List ℕ) → low ≤ end → Rises low end qs → low * 2 ^ width ≤ floor_from width end qs least
floor_low width low end least [] h rise = mul-le-mul_right (2 ^ width) h
floor_low width low end least (q ∷ qs) h rise = let more = mul-le-mul_right (2 ^ width) rise.0 in omega arith

pub walk_ascends : (most width end limit low least : ℕ) (qs : List ℕ) (ends : List Bool) (slots : List ℕ) → Rises low end qs → end * 2 ^ width ≤ limit →
    AscendsFrom (floor_from width end qs least) limit (walk most width qs least ends slots).pieces
walk_ascends zero width end limit low least qs ends slots rise fits = tt
walk_ascends (suc most) width end limit low least qs [] slots rise fits = tt
walk_ascends (suc most) width end limit low least [] (e ∷ es) slots rise fits = tt
walk_ascends (suc most) width end limit low least (q ∷ qs) (e ∷ es) slots rise fits =
    walk_on-holds (λ found. AscendsFrom (q * 2 ^ width + least) limit found.pieces) (group_at width least (e ∷ es) slots) _ (λ place is. tt) (λ g is.
    let at = group_at-ok width least (e ∷ es) slots g is in
    let step : suc q * 2 ^ width ≤ end * 2 ^ width = mul-le-mul_right (2 ^ width) rise.1 in
    let tail = q * 2 ^ width + g.x in
    let next : tail + 1 ≤ suc q * 2 ^ width = omega (arith, at.narrow) in (
      omega (arith, at.low),
      omega arith,
      at.counts.0,
      cond_both {A = Found} (get_or (e ∷ es) (g.used - 1) false) _ _ (λ found. AscendsFrom (tail + 1) limit found.pieces)
          (λ _. ascends_from (tail + 1) (floor_from width end qs 0) limit _
          (let behind = floor_low width (q + 1) end 0 qs (omega (arith, rise.1)) rise.2 in omega arith)
          (walk_ascends most width end limit (q + 1) 0 qs (drop g.used (e ∷ es)) (drop g.used slots) rise.2 fits))
          (λ _. ascends_from (tail + 1) (q * 2 ^ width + (g.x + 1)) limit _ (omega arith)
          (walk_ascends most width end limit low (g.x + 1) (q ∷ qs) (drop g.used (e ∷ es)) (drop g.used slots) rise fits)),
    ))

-- and their counts are counts
abbrev HasCounts : Found → Type 0
HasCounts found = All (λ p. p.count ≤ 2 ^ 47) found.pieces

pub walk_counts : (most width least : ℕ) (qs : List ℕ) (ends : List Bool) (slots : List ℕ) → All (λ p. p.count ≤ 2 ^ 47) (walk most width qs least ends slots).pieces
walk_counts zero width least qs ends slots = All-nil (λ (p : Piece). p.count ≤ 2 ^ 47)
walk_counts (suc most) width least qs [] slots = All-nil (λ (p : Piece). p.count ≤ 2 ^ 47)
walk_counts (suc most) width least [] (e ∷ es) slots = All-nil (λ (p : Piece). p.count ≤ 2 ^ 47)
walk_counts (suc most) width least (q ∷ qs) (e ∷ es) slots =
    walk_on-holds HasCounts (group_at width least (e ∷ es) slots) _ (λ place is. All-nil (λ (p : Piece). p.count ≤ 2 ^ 47)) (λ g is.
    All-cons (λ (p : Piece). p.count ≤ 2 ^ 47) _ _ (group_at-ok width least (e ∷ es) slots g is).counts.1
    (cond_both {A = Found} (get_or (e ∷ es) (g.used - 1) false) _ _ HasCounts
    (λ _. walk_counts most width 0 qs (drop g.used (e ∷ es)) (drop g.used slots))
    (λ _. walk_counts most width (g.x + 1) (q ∷ qs) (drop g.used (e ∷ es)) (drop g.used slots))))

-- ---- so do those of blocks

ascends_behind : (least middle limit : ℕ) (left : Option ℕ) (first second : Found) → least ≤ middle → middle ≤ limit →
    AscendsFrom least middle first.pieces → AscendsFrom middle limit second.pieces → AscendsFrom least limit (behind_at left first second).pieces
ascends_behind least middle limit None first second low high up more = ascends_append least middle limit first.pieces second.pieces low high up more
ascends_behind least middle limit (Some place) first second low high up more = ascends_below least middle limit first.pieces high up

counts_behind : (left : Option ℕ) (first second : Found) → HasCounts first → HasCounts second → HasCounts (behind_at left first second)
counts_behind None first second counts more = All-append (λ (p : Piece). p.count ≤ 2 ^ 47) first.pieces second.pieces counts more
counts_behind (Some place) first second counts more = counts

pub block_ascends : (width block most at end : ℕ) (bytes : List ℕ) →
    AscendsFrom (64 * block * 2 ^ width) (64 * (block + 1) * 2 ^ width) (block_found width block most at end bytes).pieces
block_ascends width block most at end bytes =
    let low = 64 * block * 2 ^ width in
    let limit = 64 * (block + 1) * 2 ^ width in
    let last = 64 * block + 64 in
    let qs = places (64 * block) (word_bits (occupied_in bytes)) in
    let rise : Rises (64 * block) last qs = subst (λ n. Rises (64 * block) (64 * block + n) qs) (length_word_bits (occupied_in bytes)) (places_rise (64 * block) (word_bits (occupied_in bytes))) in
    ascends_behind low low limit (head_left most at end bytes) (record { pieces = []; left = head_left most at end bytes }) (slots_found width block at end bytes) (omega arith) (omega arith) tt
    (ascends_from low (floor_from width last qs 0) limit _ (floor_low width (64 * block) last 0 qs (omega arith) rise)
    (walk_ascends _ width last limit (64 * block) 0 qs _ _ rise (omega arith)))

pub blocks_ascend : (more width block most at end : ℕ) (bytes : List ℕ) →
    AscendsFrom (64 * block * 2 ^ width) (64 * (block + more) * 2 ^ width) (blocks_found more width block most at end bytes).pieces
blocks_ascend zero width block most at end bytes = tt
blocks_ascend (suc more) width block most at end bytes =
    let first = block_found width block most at end bytes in
    let low = 64 * block * 2 ^ width in
    let middle = 64 * (block + 1) * 2 ^ width in
    let limit = 64 * (block + suc more) * 2 ^ width in
    let rest = blocks_ascend more width (suc block) (most - count_in bytes) (at + block_len bytes) end (drop (block_len bytes) bytes) in
    ascends_behind low middle limit first.left first (blocks_found more width (suc block) (most - count_in bytes) (at + block_len bytes) end (drop (block_len bytes) bytes)) (omega arith) (omega arith)
    (block_ascends width block most at end bytes)
    (ascends_from middle (64 * suc block * 2 ^ width) limit _ (omega arith) (ascends_below (64 * suc block * 2 ^ width) (64 * (suc block + more) * 2 ^ width) limit _ (omega arith) rest))

block_counts : (width block most at end : ℕ) (bytes : List ℕ) → HasCounts (block_found width block most at end bytes)
block_counts width block most at end bytes =
    counts_behind (head_left most at end bytes) (record { pieces = []; left = head_left most at end bytes }) (slots_found width block at end bytes)
    (All-nil (λ (p : Piece). p.count ≤ 2 ^ 47)) (walk_counts _ width 0 _ _ _)

pub blocks_counts : (more width block most at end : ℕ) (bytes : List ℕ) → All (λ p. p.count ≤ 2 ^ 47) (blocks_found more width block most at end bytes).pieces
blocks_counts zero width block most at end bytes = All-nil (λ (p : Piece). p.count ≤ 2 ^ 47)
blocks_counts (suc more) width block most at end bytes =
    let first = block_found width block most at end bytes in
    counts_behind first.left first (blocks_found more width (suc block) (most - count_in bytes) (at + block_len bytes) end (drop (block_len bytes) bytes))
    (block_counts width block most at end bytes)
    (blocks_counts more width (suc block) (most - count_in bytes) (at + block_len bytes) end (drop (block_len bytes) bytes))

pub blocks_given : (more width block most at end : ℕ) (bytes : List ℕ) → let found = blocks_found more width block most at end bytes in
    AscendsFrom (64 * block * 2 ^ width) (64 * (block + more) * 2 ^ width) found.pieces × All (λ p. p.count ≤ 2 ^ 47) found.pieces
blocks_given more width block most at end bytes = (blocks_ascend more width block most at end bytes, blocks_counts more width block most at end bytes)
