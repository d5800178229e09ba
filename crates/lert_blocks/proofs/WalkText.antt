-- A walk over the slots and run ends of pieces finds these pieces.
use Rattle.std.proofs.Common.{◌≡◌, ℕ, suc, zero, ◌+◌, ◌-◌, ◌*◌, ◌/◌, ◌%◌, ◌^◌, ◌<◌, ◌≤◌, Bool, true, false, cond, ◌==◌, List, [], ◌∷◌, ◌++◌, All, length, take, drop}
use Rattle.std.proofs.Common.{get_or, replicate, Some, None, Ok, Err, refl, sym, ap, ap₂, ◌∙◌, subst, inl, inr, arith, append-nil}
use Rattle.std.proofs.Common.{length-append, length-take, eqb-true, le-ltb, lt-ltb, pow_pos}
use Rattle.std.specs.Option.{option_map}
use Rattle.std.proofs.Math.Seq.{take-append-add, take-append_seam, drop-append-add, drop-append_seam}
use Rattle.std.proofs.lemmas.Bool.{cases_lt, cases_Bool, true≢false, not-false}
use Rattle.std.proofs.lemmas.List.{take-append-le, length-replicate, get_or-take, get_or_at}
use Rattle.std.proofs.lemmas.List.Elements.{All-append, All-nil}
use Rattle.std.proofs.lemmas.Nat.{div-add-mod', mod_below}
use Rattle.lert_counter.specs.Group.{IsCount}
use Rattle.lert_counter.specs.Reading.{HasTwoZeros, Follows, read_as}
use Rattle.lert_counter.proofs.GroupLemmas.{length_group-positive, length_group-le, group-first, group-apart}
use Rattle.lert_counter.proofs.SlotLemmas.{slots_below}
use Rattle.lert_spec.specs.declared.piece.Piece.{Piece}
use Rattle.lert_spec.specs.Table.{AscendsFrom}
use Rattle.lert_blocks.specs.Grammar.{group_read}
use Rattle.lert_blocks.specs.Text.{quotient_of, group_of, slots_of, is_last, ends_of}
use Rattle.lert_blocks.specs.Walk.{reach, first_bad, if_above, group_at, after_group, walk_on, walk}
use Rattle.lert_blocks.proofs.GroupLaws.{read_text}
use Rattle.lert_blocks.proofs.RunLaws.{runs, run_goes_on}
use Rattle.lert_blocks.proofs.WalkLaws.{reach_within}

-- ---- where a group ends

-- up to the run end behind some slots, or on behind these
reach_last : (k m : ℕ) (ends : List Bool) → k ≤ m → reach (suc m) (replicate k false ++ true ∷ ends) ≡ suc k
reach_last zero m ends h = refl
reach_last (suc k) zero ends h = absurd (omega (arith, h))
reach_last (suc k) (suc m) ends h = ap suc (reach_last k m ends (omega (arith, h)))

reach_on : (k m : ℕ) (ends : List Bool) → k ≤ m → reach (suc m) (replicate k false ++ false ∷ ends) ≡ suc k + reach (m - k) ends
reach_on zero m ends h =
    let same : m ≡ m - zero = omega arith in
    let one : suc (reach m ends) ≡ suc zero + reach m ends = omega arith in
    one ∙ ap (λ n. suc zero + reach n ends) same
reach_on (suc k) zero ends h = absurd (omega (arith, h))
reach_on (suc k) (suc m) ends h =
    let same : m - k ≡ suc m - suc k = omega arith in
    let one : suc (suc k + reach (m - k) ends) ≡ suc (suc k) + reach (m - k) ends = omega arith in
    ap suc (reach_on k m ends (omega (arith, h))) ∙ (one ∙ ap (λ n. suc (suc k) + reach n ends) same)

-- at most so many
reach_most : (m : ℕ) (ends : List Bool) → reach m ends ≤ m
reach_most zero ends = omega arith
reach_most (suc m) [] = omega arith
reach_most (suc m) (true ∷ ends) = omega arith
reach_most (suc m) (false ∷ ends) = let h = reach_most m ends in omega (arith, h)

-- slots that are all there and narrow
first_bad_none : (width n : ℕ) (slots : List ℕ) → n ≤ length slots → All (λ slot. slot < 2 ^ width) slots → first_bad width n slots ≡ None
first_bad_none width zero slots h fit = refl
first_bad_none width (suc n) [] h fit = absurd (omega (arith, h))
first_bad_none width (suc n) (slot ∷ slots) h fit =
    ap₂ (λ b o. cond b (option_map suc o) (Some 0)) (lt-ltb slot (2 ^ width) (fit 0 0 (omega arith)))
    (first_bad_none width n slots (omega (arith, h)) (λ k d below. fit (suc k) d (omega (arith, below))))

-- ---- two zeros

no_zeros : HasTwoZeros [] → ⊥
no_zeros (k, within, first, second) = omega (arith, within)

zeros_in_front : (n : ℕ) (slots : List ℕ) → HasTwoZeros (take n slots) → HasTwoZeros slots
zeros_in_front n slots (k, within, first, second) =
    let less : k + 1 < n = omega (arith, within, length-take n slots) in
    (k, omega (arith, within, length-take n slots), sym (get_or-take n slots k 0 (omega (arith, less))) ∙ first, sym (get_or-take n slots (k + 1) 0 less) ∙ second)

-- ---- pieces in order

-- tails ascend from `low` on, and each count is one that a group can have
abbrev pub AreSorted : ℕ → List Piece → Type 0
AreSorted low [] = Unit {0}
AreSorted low (p ∷ ps) = (low ≤ p.tail) × IsCount p.count × AreSorted (p.tail + 1) ps

pub sorted_from : (low limit : ℕ) (ps : List Piece) → AscendsFrom low limit ps → All (λ p. p.count ≤ 2 ^ 47) ps → AreSorted low ps
sorted_from low limit [] up counts = tt
sorted_from low limit (p ∷ ps) up counts =
    (up.0, (up.2, counts 0 p (omega arith)), sorted_from (p.tail + 1) limit ps up.3 (λ k d below. counts (suc k) d (omega (arith, below))))

-- the first remainder is at least so great
abbrev pub BeginsFrom : ℕ → ℕ → List Piece → Type 0
BeginsFrom width least [] = Unit {0}
BeginsFrom width least (p ∷ ps) = least ≤ p.tail % 2 ^ width

pub begins_zero : (width : ℕ) (ps : List Piece) → BeginsFrom width 0 ps
begins_zero width [] = tt
begins_zero width (p ∷ ps) = omega arith

-- remainders of a run ascend
remainder_grows : (width a b : ℕ) → a < b → b / 2 ^ width ≡ a / 2 ^ width → a % 2 ^ width < b % 2 ^ width
remainder_grows width a b less same =
    let first = div-add-mod' a (2 ^ width) in
    let second = div-add-mod' b (2 ^ width) in
    let product : b / 2 ^ width * 2 ^ width ≡ a / 2 ^ width * 2 ^ width = ap (λ q. q * 2 ^ width) same in omega arith

begins_behind : (width : ℕ) (p : Piece) (ps : List Piece) → is_last width p ps ≡ false → AreSorted (p.tail + 1) ps → BeginsFrom width (p.tail % 2 ^ width + 1) ps
begins_behind width p [] on sorted = tt
begins_behind width p (next ∷ ps) on sorted =
    let same = eqb-true (quotient_of width next) (quotient_of width p) (not-false (quotient_of width next == quotient_of width p) on) in
    let more = remainder_grows width p.tail next.tail (omega (arith, sorted.0)) same in omega (arith, more)

-- ---- the slots that a group may reach

module _ (width : ℕ) (p : Piece) (ps : List Piece) (counts : IsCount p.count) where
  long : 0 < length (group_of width p)
  long = length_group-positive width (p.tail % 2 ^ width) p.count counts.0

  window_last : (m : ℕ) → length (group_of width p) ≤ m → is_last width p ps ≡ true
      → take (reach m (ends_of width (p ∷ ps))) (slots_of width (p ∷ ps)) ≡ group_of width p
  window_last m room last =
      let some = long in
      let all : reach m (ends_of width (p ∷ ps)) ≡ length (group_of width p) =
      ap₂ (λ n b. reach n (replicate (length (group_of width p) - 1) false ++ b ∷ ends_of width ps)) (let e : m ≡ suc (m - 1) = omega arith in e) last
      ∙ (reach_last (length (group_of width p) - 1) (m - 1) (ends_of width ps) (omega arith) ∙ omega arith) in
      ap (λ n. take n (slots_of width (p ∷ ps))) all ∙ take-append_seam (group_of width p) (slots_of width ps)

  window_on : (m : ℕ) → length (group_of width p) ≤ m → is_last width p ps ≡ false
      → take (reach m (ends_of width (p ∷ ps))) (slots_of width (p ∷ ps))
      ≡ group_of width p ++ take (reach (m - length (group_of width p)) (ends_of width ps)) (slots_of width ps)
  window_on m room on =
      let some = long in
      let all : reach m (ends_of width (p ∷ ps)) ≡ length (group_of width p) + reach (m - length (group_of width p)) (ends_of width ps) =
      ap₂ (λ n b. reach n (replicate (length (group_of width p) - 1) false ++ b ∷ ends_of width ps)) (let e : m ≡ suc (m - 1) = omega arith in e) on
      ∙ (reach_on (length (group_of width p) - 1) (m - 1) (ends_of width ps) (omega arith)
      ∙ ap₂ (λ a b. a + reach b (ends_of width ps)) (let e : suc (length (group_of width p) - 1) ≡ length (group_of width p) = omega arith in e)
      (let e : m - 1 - (length (group_of width p) - 1) ≡ m - length (group_of width p) = omega arith in e)) in
      ap (λ n. take n (slots_of width (p ∷ ps))) all ∙ take-append-add (group_of width p) (slots_of width ps) (reach (m - length (group_of width p)) (ends_of width ps))

  window_short : (m : ℕ) → m < length (group_of width p) → HasTwoZeros (take (reach m (ends_of width (p ∷ ps))) (slots_of width (p ∷ ps))) → HasTwoZeros (group_of width p)
  window_short m short zeros =
      let n = reach m (ends_of width (p ∷ ps)) in
      let few : n ≤ m = reach_most m (ends_of width (p ∷ ps)) in
      zeros_in_front n (group_of width p) (subst HasTwoZeros (take-append-le n (group_of width p) (slots_of width ps) (omega (arith, few, short))) zeros)

  -- a group of a remainder above 0 has none
  group_apart : 0 < p.tail % 2 ^ width → HasTwoZeros (group_of width p) → ⊥
  group_apart positive zeros =
      no_zeros (group-apart width (p.tail % 2 ^ width) p.count [] counts.0 positive (subst HasTwoZeros (sym (append-nil (group_of width p))) zeros))

-- behind a remainder above 0 no two zeros stand in its run
run_apart : (width m : ℕ) (p : Piece) (ps : List Piece) → IsCount p.count → AreSorted (p.tail + 1) ps → 0 < p.tail % 2 ^ width
    → HasTwoZeros (take (reach m (ends_of width (p ∷ ps))) (slots_of width (p ∷ ps))) → ⊥
run_apart width m p [] counts sorted positive zeros = elim (cases_lt m (length (group_of width p))) [
  | inl short ↦ group_apart width p [] counts positive (window_short width p [] counts m short zeros)
  | inr room ↦ group_apart width p [] counts positive (subst HasTwoZeros (window_last width p [] counts m room refl) zeros)
]
run_apart width m p (next ∷ ps) counts sorted positive zeros = elim (cases_lt m (length (group_of width p))) [
  | inl short ↦ group_apart width p (next ∷ ps) counts positive (window_short width p (next ∷ ps) counts m short zeros)
  | inr room ↦ elim (cases_Bool (is_last width p (next ∷ ps))) [
    | inl last ↦ group_apart width p (next ∷ ps) counts positive (subst HasTwoZeros (window_last width p (next ∷ ps) counts m room last) zeros)
    | inr on ↦ run_apart width (m - length (group_of width p)) next ps sorted.1 sorted.2 (omega (arith, positive, begins_behind width p (next ∷ ps) on sorted))
        (group-apart width (p.tail % 2 ^ width) p.count _ counts.0 positive (subst HasTwoZeros (window_on width p (next ∷ ps) counts m room on) zeros))
  ]
]

-- what stands behind a group in its run
follows_on : (width m : ℕ) (p : Piece) (ps : List Piece) → is_last width p ps ≡ false → AreSorted (p.tail + 1) ps
    → Follows (p.tail % 2 ^ width) (take (reach m (ends_of width ps)) (slots_of width ps))
follows_on width m p [] on sorted = absurd (true≢false on)
follows_on width m p (next ∷ ps) on sorted =
    let more = begins_behind width p (next ∷ ps) on sorted in
    let n = reach m (ends_of width (next ∷ ps)) in
    record {
      above = λ some.
          let first : get_or (take n (slots_of width (next ∷ ps))) 0 0 ≡ next.tail % 2 ^ width =
          get_or-take n (slots_of width (next ∷ ps)) 0 0 (omega (arith, some, length-take n (slots_of width (next ∷ ps))))
          ∙ group-first width (next.tail % 2 ^ width) next.count (slots_of width ps) sorted.1.0 in
          omega (arith, first, more);
      apart = λ none zeros. run_apart width m next ps sorted.1 sorted.2 (omega (arith, more)) zeros;
    }

-- ---- the walk

pub walk_step : (most width q : ℕ) (quotients : List ℕ) (least : ℕ) (ends : List Bool) (slots : List ℕ) → 0 < length ends →
    walk (suc most) width (q ∷ quotients) least ends slots ≡ walk_on (group_at width least ends slots) (λ g. after_group width q g
    (cond (get_or ends (g.used - 1) false)
    (walk most width quotients 0 (drop g.used ends) (drop g.used slots))
    (walk most width (q ∷ quotients) (g.x + 1) (drop g.used ends) (drop g.used slots))))
walk_step most width q quotients least [] slots some = absurd (omega (arith, some))
walk_step most width q quotients least (end ∷ ends) slots some = refl

length_sorted : (width low : ℕ) (ps : List Piece) → AreSorted low ps → length (ends_of width ps) ≡ length (slots_of width ps)
length_sorted width low [] sorted = refl
length_sorted width low (p ∷ ps) sorted =
    let some = long width p ps sorted.1 in
    let n = length (group_of width p) - 1 in
    length-append (replicate n false) (is_last width p ps ∷ ends_of width ps)
    ∙ ((let e = length_sorted width (p.tail + 1) ps sorted.2 in omega (arith, e, length-replicate n false)) ∙ sym (length-append (group_of width p) (slots_of width ps)))

pub slots_fit : (width low : ℕ) (ps : List Piece) → 8 ≤ width → AreSorted low ps → All (λ slot. slot < 2 ^ width) (slots_of width ps)
slots_fit width low [] narrow sorted = All-nil (λ slot. slot < 2 ^ width)
slots_fit width low (p ∷ ps) narrow sorted =
    All-append (λ slot. slot < 2 ^ width) (group_of width p) (slots_of width ps)
    (slots_below width (p.tail % 2 ^ width) p.count narrow sorted.1 (mod_below p.tail (2 ^ width) (pow_pos width)))
    (slots_fit width (p.tail + 1) ps narrow sorted.2)

nothing_follows : (x : ℕ) → Follows x []
nothing_follows x = record { above = λ some. absurd (omega (arith, some)); apart = λ none zeros. no_zeros zeros }

module _ (width : ℕ) (narrow : 8 ≤ width) where
  group_there : (p : Piece) (ps : List Piece) → IsCount p.count → AreSorted (p.tail + 1) ps
      → group_read width (take (reach 9 (ends_of width (p ∷ ps))) (slots_of width (p ∷ ps))) ≡ Some (read_as width (p.tail % 2 ^ width) p.count)
  group_there p ps counts sorted =
      let room = length_group-le width (p.tail % 2 ^ width) p.count counts.0 in
      elim (cases_Bool (is_last width p ps)) [
        | inl last ↦ ap (group_read width) (window_last width p ps counts 9 room last ∙ sym (append-nil (group_of width p)))
            ∙ read_text width (p.tail % 2 ^ width) p.count [] counts (nothing_follows (p.tail % 2 ^ width))
        | inr on ↦ ap (group_read width) (window_on width p ps counts 9 room on)
            ∙ read_text width (p.tail % 2 ^ width) p.count _ counts (follows_on width (9 - length (group_of width p)) p ps on sorted)
      ]

  group_found : (least low : ℕ) (p : Piece) (ps : List Piece) → AreSorted low (p ∷ ps) → least ≤ p.tail % 2 ^ width
      → group_at width least (ends_of width (p ∷ ps)) (slots_of width (p ∷ ps)) ≡ Ok (read_as width (p.tail % 2 ^ width) p.count)
  group_found least low p ps sorted above =
      let n = reach 9 (ends_of width (p ∷ ps)) in
      let few = reach_within 9 (ends_of width (p ∷ ps)) in
      let same = length_sorted width low (p ∷ ps) sorted in
      ap₂ (if_above least) (first_bad_none width n (slots_of width (p ∷ ps)) (omega (arith, few, same)) (slots_fit width low (p ∷ ps) narrow sorted)) (group_there p ps sorted.1 sorted.2)
      ∙ ap (λ b. cond b (Err 0) (Ok (read_as width (p.tail % 2 ^ width) p.count))) (le-ltb (p.tail % 2 ^ width) least above)

  piece_made : (p : Piece) (ps : List Piece)
      → after_group width (quotient_of width p) (read_as width (p.tail % 2 ^ width) p.count) (record { pieces = ps; left = None }) ≡ record { pieces = p ∷ ps; left = None }
  piece_made p ps = λ i. record { pieces = record { tail = div-add-mod' p.tail (2 ^ width) i; count = p.count } ∷ ps; left = None }

  -- behind the group of a piece
  module _ (p : Piece) (ps : List Piece) (counts : IsCount p.count) where
    bit_at_tip : get_or (ends_of width (p ∷ ps)) (length (group_of width p) - 1) false ≡ is_last width p ps
    bit_at_tip = get_or_at (replicate (length (group_of width p) - 1) false) (is_last width p ps) (ends_of width ps) false (length (group_of width p) - 1) (length-replicate _ false)

    ends_behind : drop (length (group_of width p)) (ends_of width (p ∷ ps)) ≡ ends_of width ps
    ends_behind =
        let some = long width p ps counts in
        let n = length (group_of width p) - 1 in
        let e : length (group_of width p) ≡ length (replicate n false) + 1 = omega (arith, length-replicate n false) in
        ap (λ k. drop k (replicate n false ++ is_last width p ps ∷ ends_of width ps)) e ∙ drop-append-add (replicate n false) (is_last width p ps ∷ ends_of width ps) 1

    slots_behind : drop (length (group_of width p)) (slots_of width (p ∷ ps)) ≡ slots_of width ps
    slots_behind = drop-append_seam (group_of width p) (slots_of width ps)

  -- the walk behind a group, whether its run ends or goes on
  behind_group : (fuel : ℕ) (p : Piece) (ps : List Piece)
      → walk fuel width (runs width ps) 0 (ends_of width ps) (slots_of width ps) ≡ record { pieces = ps; left = None }
      → (is_last width p ps ≡ false → walk fuel width (runs width ps) (p.tail % 2 ^ width + 1) (ends_of width ps) (slots_of width ps) ≡ record { pieces = ps; left = None })
      → cond (is_last width p ps) (walk fuel width (cond (is_last width p ps) (runs width ps) (drop 1 (runs width ps))) 0 (ends_of width ps) (slots_of width ps))
      (walk fuel width (quotient_of width p ∷ cond (is_last width p ps) (runs width ps) (drop 1 (runs width ps))) (p.tail % 2 ^ width + 1) (ends_of width ps) (slots_of width ps))
      ≡ record { pieces = ps; left = None }
  behind_group fuel p ps ended goes_on =
      let either = λ (b : Bool). cond b (walk fuel width (cond b (runs width ps) (drop 1 (runs width ps))) 0 (ends_of width ps) (slots_of width ps))
      (walk fuel width (quotient_of width p ∷ cond b (runs width ps) (drop 1 (runs width ps))) (p.tail % 2 ^ width + 1) (ends_of width ps) (slots_of width ps)) in
      elim (cases_Bool (is_last width p ps)) [
        | inl last ↦ ap either last ∙ ended
        | inr on ↦ ap either on ∙ (ap (λ qs. walk fuel width qs (p.tail % 2 ^ width + 1) (ends_of width ps) (slots_of width ps)) (run_goes_on width p ps on) ∙ goes_on on)
      ]

  pub walk_text : (fuel least low : ℕ) (ps : List Piece) → length (ends_of width ps) ≤ fuel → BeginsFrom width least ps → AreSorted low ps
      → walk fuel width (runs width ps) least (ends_of width ps) (slots_of width ps) ≡ record { pieces = ps; left = None }
  walk_text zero least low [] enough begins sorted = refl
  walk_text zero least low (p ∷ ps) enough begins sorted =
      absurd (omega (arith, enough, length-append (replicate (length (group_of width p) - 1) false) (is_last width p ps ∷ ends_of width ps)))
  walk_text (suc fuel) least low [] enough begins sorted = refl
  walk_text (suc fuel) least low (p ∷ ps) enough begins sorted =
      let n = length (group_of width p) - 1 in
      let all = length-append (replicate n false) (is_last width p ps ∷ ends_of width ps) in
      let q = quotient_of width p in
      let g = read_as width (p.tail % 2 ^ width) p.count in
      let later = cond (is_last width p ps) (runs width ps) (drop 1 (runs width ps)) in
      let ends = ends_of width (p ∷ ps) in
      let slots = slots_of width (p ∷ ps) in
      let bit = bit_at_tip p ps sorted.1 in
      let other_ends = ends_behind p ps sorted.1 in
      let other_slots = slots_behind p ps sorted.1 in
      walk_step fuel width q later least ends slots (omega (arith, all))
      ∙ (ap (λ r. walk_on r (λ g. after_group width q g (cond (get_or ends (g.used - 1) false)
      (walk fuel width later 0 (drop g.used ends) (drop g.used slots)) (walk fuel width (q ∷ later) (g.x + 1) (drop g.used ends) (drop g.used slots)))))
      (group_found least low p ps sorted begins)
      ∙ ((λ i. after_group width q g
      (cond (bit i) (walk fuel width later 0 (other_ends i) (other_slots i)) (walk fuel width (q ∷ later) (g.x + 1) (other_ends i) (other_slots i))))
      ∙ (ap (after_group width q g) (behind_group fuel p ps
      (walk_text fuel 0 (p.tail + 1) ps (omega (arith, all, enough)) (begins_zero width ps) sorted.2)
      (λ on. walk_text fuel (p.tail % 2 ^ width + 1) (p.tail + 1) ps (omega (arith, all, enough)) (begins_behind width p ps on sorted.2) sorted.2))
      ∙ piece_made p ps)))
