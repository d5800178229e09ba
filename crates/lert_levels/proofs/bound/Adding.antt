-- A weight more of a tail in the bytes of its place.
use Rattle.std.proofs.{Common.{◌≡◌, ℕ, ◌+◌, ◌%◌, ◌<◌, ◌≤◌, List, Bool, true, false, if◌then◌else◌, ◌==◌, length, min, inl, inr, refl, ap, ap₂, sym, ◌∙◌, subst, arith}, Math.ListN.get_or}
use Rattle.std.proofs.{lemmas.Bool.{cases_eq, eqb-true}, lemmas.List.{get_or_default, get_or-set_same, get_or-set_other, length-set}, lemmas.Nat.mod_below}
use Rattle.std.specs.Prelude.{slice_set}
use Rattle.lert_levels.specs.{declared.bound.pair.Pair.Pair, bound.Bytes.{nothing, pair_of, risen}, bound.Covers.CoversCounts}

-- what stands at a tail's place is its pair
pub pair_at : (pairs : List Pair) (tail len place : ℕ) (pair : Pair) → 1 ≤ length pairs → len ≡ length pairs → place ≡ tail % len → pair ≡ get_or pairs place pair →
    pair ≡ pair_of pairs tail
pair_at pairs tail len place pair some len_is place_is is =
    let there : place ≡ tail % length pairs = place_is ∙ ap (λ n. tail % n) len_is in
    let within : place < length pairs = subst (λ n. n < length pairs) (sym there) (mod_below tail (length pairs) some) in
    is ∙ (get_or_default pairs place pair nothing within ∙ ap (λ n. get_or pairs n nothing) there)

pub bytes_added : (pairs : List Pair) (tail weight len place byte : ℕ) (pair : Pair) → 1 ≤ length pairs → len ≡ length pairs → place ≡ tail % len → pair ≡ get_or pairs place pair →
    byte ≡ min (pair.present + weight) 255 →
    slice_set pairs place (record { before = pair.before; present = byte }) ≡ slice_set pairs (tail % length pairs) (risen weight (pair_of pairs tail))
bytes_added pairs tail weight len place byte pair some len_is place_is is byte_is =
    let same : pair ≡ pair_of pairs tail = pair_at pairs tail len place pair some len_is place_is is in
    let there : place ≡ tail % length pairs = place_is ∙ ap (λ n. tail % n) len_is in
    let present_is : byte ≡ min ((pair_of pairs tail).present + weight) 255 = byte_is ∙ ap (λ (p : Pair). min (p.present + weight) 255) same in
    ap₂ (λ (n : ℕ) (p : Pair). slice_set pairs n p) there (λ i. record { before = (same i).before; present = present_is i })

-- ---- what the bytes cover

once_or_not : (weight : ℕ) (b : Bool) → (if b then weight else 0) ≤ weight
once_or_not weight true = omega arith
once_or_not weight false = omega arith

not_once : (weight : ℕ) (b : Bool) → (b ≡ true → ⊥) → ◌≡◌ {A = ℕ} (if b then weight else 0) 0
not_once weight true no_way = absurd (no_way refl)
not_once weight false no_way = refl

-- `more` is what came of each tail just now: at most the weight, and of others nothing
module _ (pairs : List Pair) (tail weight : ℕ) (some : 1 ≤ length pairs) (more : ℕ → ℕ) (once : (other : ℕ) → more other ≤ weight)
    (others : (other : ℕ) → (other ≡ tail → ⊥) → more other ≡ 0) where
  abbrev pub now : List Pair
  now = slice_set pairs (tail % length pairs) (risen weight (pair_of pairs tail))

  at_other : (other : ℕ) → pair_of now other ≡ get_or now (other % length pairs) nothing
  at_other other = ap (λ n. get_or now (other % n) nothing) (length-set pairs (tail % length pairs) (risen weight (pair_of pairs tail)))

  same_place : (other : ℕ) → other % length pairs ≡ tail % length pairs → pair_of now other ≡ risen weight (pair_of pairs other)
  same_place other is =
      at_other other
      ∙ (ap (λ n. get_or now n nothing) is
      ∙ (get_or-set_same pairs (tail % length pairs) (risen weight (pair_of pairs tail)) nothing (mod_below tail (length pairs) some)
      ∙ ap (λ n. risen weight (get_or pairs n nothing)) (sym is)))

  other_place : (other : ℕ) → (other % length pairs ≡ tail % length pairs → ⊥) → pair_of now other ≡ pair_of pairs other
  other_place other apart = at_other other ∙ get_or-set_other pairs (tail % length pairs) (other % length pairs) (risen weight (pair_of pairs tail)) nothing apart

  pub added : (before present : ℕ → ℕ) → CoversCounts pairs before present → CoversCounts now before (λ other. present other + more other)
  added before present held = record {
    of_before = λ other. elim (cases_eq (other % length pairs) (tail % length pairs)) [
      | inl is ↦ omega (arith, held.of_before other, ap (λ (p : Pair). p.before) (same_place other is))
      | inr apart ↦ omega (arith, held.of_before other, ap (λ (p : Pair). p.before) (other_place other apart))
    ];
    of_present = λ other. elim (cases_eq (other % length pairs) (tail % length pairs)) [
      | inl is ↦ omega (arith, held.of_present other, ap (λ (p : Pair). p.present) (same_place other is), once other)
      | inr apart ↦ omega (
        arith,
        held.of_present other,
        ap (λ (p : Pair). p.present) (other_place other apart),
        others other (λ same. apart (ap (λ n. n % length pairs) same)),
      )
    ];
  }

-- of how often each tail came
pub counts_added : (pairs : List Pair) (tail weight : ℕ) → 1 ≤ length pairs → (before present : ℕ → ℕ) → CoversCounts pairs before present →
    CoversCounts (slice_set pairs (tail % length pairs) (risen weight (pair_of pairs tail))) before (λ other. present other + (if other == tail then weight else 0))
counts_added pairs tail weight some before present held =
    added pairs tail weight some (λ other. if other == tail then weight else 0) (λ other. once_or_not weight (other == tail))
    (λ other apart. not_once weight (other == tail) (λ is. apart (eqb-true other tail is))) before present held
