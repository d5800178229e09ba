-- A count table changes and is read at one place.
use Rattle.std.proofs.{Common.{ℕ, ◌≡◌, ◌+◌, ◌<◌, zero, suc, List, [], ◌∷◌, get_or, set, refl, ap, ◌∙◌, arith}, lemmas.Bool.Decides.nat_tests}
use Rattle.std.specs.Prelude.{insert}
use Rattle.lert_spec.specs.{Table.{count_of, plus, AscendsFrom}, declared.piece.Piece.Piece}
use Rattle.lert_spec.proofs.Tables.{plus_here, plus_before, plus_behind, count_of-below, tail_ascends}
use Rattle.lert_plain.specs.Place.{IsPresent, IsAbsent}

IsPresent-tail : (p : Piece) (ps : List Piece) (tail at : ℕ) → IsPresent (p ∷ ps) tail (suc at) → IsPresent ps tail at
IsPresent-tail p ps tail at s = record { within = omega (arith, s.within); same = s.same }

IsAbsent-tail : (p : Piece) (ps : List Piece) (tail at : ℕ) → IsAbsent (p ∷ ps) tail (suc at) → IsAbsent ps tail at
IsAbsent-tail p ps tail at s = record {
  within = omega (arith, s.within);
  below = λ k d h. s.below (suc k) d (omega arith);
  above = λ k d h i. s.above (suc k) d (omega arith) (omega arith);
}

-- the first piece is below a later one
first_below : (least limit : ℕ) (p : Piece) (ps : List Piece) (tail at : ℕ) → AscendsFrom least limit (p ∷ ps) → IsPresent (p ∷ ps) tail (suc at) → p.tail < tail
first_below least limit p ps tail at t s =
    let h = tail_ascends least limit (p ∷ ps) 0 (suc at) p t (omega arith) s.within in omega (arith, s.same p)

-- an absent tail is put in at its place
pub plus-absent : (ps : List Piece) (tail n at : ℕ) → IsAbsent ps tail at → plus ps tail n ≡ insert ps at (record { tail = tail; count = n })
plus-absent [] tail n zero s = refl
plus-absent [] tail n (suc at) s = absurd (omega (arith, s.within))
plus-absent (p ∷ ps) tail n zero s = plus_before p ps tail n (s.above 0 p (omega arith) (omega arith))
plus-absent (p ∷ ps) tail n (suc at) s =
    plus_behind p ps tail n (s.below 0 p (omega arith)) ∙ ap (λ xs. p ∷ xs) (plus-absent ps tail n at (IsAbsent-tail p ps tail at s))

-- the count of a present tail is raised at its place
pub plus-present : (least limit : ℕ) (ps : List Piece) (tail n at : ℕ) (d : Piece) → AscendsFrom least limit ps → IsPresent ps tail at →
    plus ps tail n ≡ set ps at (record { tail = tail; count = (get_or ps at d).count + n })
plus-present least limit [] tail n at d t s = absurd (omega (arith, s.within))
plus-present least limit (p ∷ ps) tail n zero d t s = plus_here p ps tail n (s.same p)
plus-present least limit (p ∷ ps) tail n (suc at) d t s =
    plus_behind p ps tail n (first_below least limit p ps tail at t s)
    ∙ ap (λ xs. p ∷ xs) (plus-present (p.tail + 1) limit ps tail n at d t.3 (IsPresent-tail p ps tail at s))

-- the count of a present tail stands at its place
pub count_of-present : (least limit : ℕ) (ps : List Piece) (tail at : ℕ) (d : Piece) → AscendsFrom least limit ps → IsPresent ps tail at → count_of ps tail ≡ (get_or ps at d).count
count_of-present least limit [] tail at d t s = absurd (omega (arith, s.within))
count_of-present least limit (p ∷ ps) tail zero d t s = let h = s.same p in grind (arith, nat_tests)
count_of-present least limit (p ∷ ps) tail (suc at) d t s =
    let h = count_of-present (p.tail + 1) limit ps tail at d t.3 (IsPresent-tail p ps tail at s) in
    let low = first_below least limit p ps tail at t s in grind (arith, nat_tests)

-- an absent tail has the count 0
pub count_of-absent : (least limit : ℕ) (ps : List Piece) (tail at : ℕ) → AscendsFrom least limit ps → IsAbsent ps tail at → count_of ps tail ≡ 0
count_of-absent least limit [] tail at t s = refl
count_of-absent least limit (p ∷ ps) tail zero t s =
    count_of-below p.tail limit (p ∷ ps) tail (s.above 0 p (omega arith) (omega arith)) (omega arith, t.1, t.2, t.3)
count_of-absent least limit (p ∷ ps) tail (suc at) t s =
    let h = count_of-absent (p.tail + 1) limit ps tail at t.3 (IsAbsent-tail p ps tail at s) in
    let low = s.below 0 p (omega arith) in grind (arith, nat_tests)
