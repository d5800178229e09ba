-- Laws of count tables.
use Rattle.std.proofs.{Common.{ℕ, ◌≡◌, ◌+◌, ◌<◌, ◌≤◌, suc, cond, eqb, List, [], ◌∷◌, length, get_or, refl, arith, inl, inr, subst, zero}, lemmas.Bool.{cases_order, cases_eq}}
use Rattle.std.proofs.lemmas.Bool.Decides.{nat_tests}
use Rattle.lert_spec.specs.{Table.{count_of, total, plus, AscendsFrom}, declared.piece.Piece.Piece}

-- where a new piece is put: at its tail, before a greater one, or behind
pub plus_here : (p : Piece) (ps : List Piece) (tail n : ℕ) → p.tail ≡ tail → plus (p ∷ ps) tail n ≡ record { tail = tail; count = p.count + n } ∷ ps
plus_here p ps tail n h = grind (arith, nat_tests)

pub plus_before : (p : Piece) (ps : List Piece) (tail n : ℕ) → tail < p.tail → plus (p ∷ ps) tail n ≡ record { tail = tail; count = n } ∷ p ∷ ps
plus_before p ps tail n h = grind (arith, nat_tests)

pub plus_behind : (p : Piece) (ps : List Piece) (tail n : ℕ) → p.tail < tail → plus (p ∷ ps) tail n ≡ p ∷ plus ps tail n
plus_behind p ps tail n h = grind (arith, nat_tests)

-- raising a count keeps a count table
pub AscendsFrom-plus : (least limit : ℕ) (ps : List Piece) (tail n : ℕ) → least ≤ tail → tail < limit → 1 ≤ n → AscendsFrom least limit ps →
    AscendsFrom least limit (plus ps tail n)
AscendsFrom-plus least limit [] tail n low high positive t = (low, high, positive, tt)
AscendsFrom-plus least limit (p ∷ ps) tail n low high positive t =
    elim (cases_order p.tail tail) [
      | inl same ↦ rw (plus_here p ps tail n same) (low, high, omega (arith, t.2), subst (λ x. AscendsFrom (x + 1) limit ps) same t.3)
      | inr (inl below) ↦ rw (plus_behind p ps tail n below) (t.0, t.1, t.2, AscendsFrom-plus (p.tail + 1) limit ps tail n (omega arith) high positive t.3)
      | inr (inr above) ↦ rw (plus_before p ps tail n above) (low, high, positive, (omega arith, t.1, t.2, t.3))
    ]

-- `n` more of a tail are `n` more in all
pub total-plus : (ps : List Piece) (tail n : ℕ) → total (plus ps tail n) ≡ total ps + n
total-plus [] tail n = grind arith
total-plus (p ∷ ps) tail n = let h = total-plus ps tail n in grind (arith, nat_tests)

-- a tail below all others is absent
pub count_of-below : (least limit : ℕ) (ps : List Piece) (tail : ℕ) → tail < least → AscendsFrom least limit ps → count_of ps tail ≡ 0
count_of-below least limit [] tail low t = refl
count_of-below least limit (p ∷ ps) tail low t =
    let h = count_of-below (p.tail + 1) limit ps tail (omega arith) t.3 in grind (arith, nat_tests)

-- `n` more of a tail are `n` more of it, and no more of another
pub count_of-plus : (least limit : ℕ) (ps : List Piece) (tail n other : ℕ) → AscendsFrom least limit ps → count_of (plus ps tail n) other ≡ count_of ps other + cond (eqb tail other) n 0
count_of-plus least limit [] tail n other t = grind (arith, nat_tests)
count_of-plus least limit (p ∷ ps) tail n other t =
    elim (cases_order p.tail tail) [
      | inl same ↦ rw (plus_here p ps tail n same) (grind (arith, nat_tests))
      | inr (inl below) ↦ rw (plus_behind p ps tail n below) (let h = count_of-plus (p.tail + 1) limit ps tail n other t.3 in grind (arith, nat_tests))
      | inr (inr above) ↦ rw (plus_before p ps tail n above) (elim (cases_eq tail other) [
        | inl here ↦ (let h = count_of-below p.tail limit (p ∷ ps) other (omega arith) (omega arith, t.1, t.2, t.3) in grind (arith, nat_tests))
        | inr elsewhere ↦ grind (arith, nat_tests)
      ])
    ]

-- no more pieces than events
pub length_le-total : (least limit : ℕ) (ps : List Piece) → AscendsFrom least limit ps → length ps ≤ total ps
length_le-total least limit [] t = omega arith
length_le-total least limit (p ∷ ps) t = let h = length_le-total (p.tail + 1) limit ps t.3 in omega arith

-- each piece has at least the least tail
pub tail_at_least : (least limit : ℕ) (ps : List Piece) (k : ℕ) (d : Piece) → AscendsFrom least limit ps → k < length ps → least ≤ (get_or ps k d).tail
tail_at_least least limit [] k d t within = absurd (omega arith)
tail_at_least least limit (p ∷ ps) zero d t within = t.0
tail_at_least least limit (p ∷ ps) (suc k) d t within =
    let h = tail_at_least (p.tail + 1) limit ps k d t.3 (omega arith) in omega (arith, t.0)

-- a later piece has a greater tail
pub tail_ascends : (least limit : ℕ) (ps : List Piece) (j k : ℕ) (d : Piece) → AscendsFrom least limit ps → j < k → k < length ps → (get_or ps j d).tail < (get_or ps k d).tail
tail_ascends least limit [] j k d t before within = absurd (omega arith)
tail_ascends least limit (p ∷ ps) zero zero d t before within = absurd (omega arith)
tail_ascends least limit (p ∷ ps) zero (suc k) d t before within =
    let h = tail_at_least (p.tail + 1) limit ps k d t.3 (omega arith) in omega arith
tail_ascends least limit (p ∷ ps) (suc j) zero d t before within = absurd (omega arith)
tail_ascends least limit (p ∷ ps) (suc j) (suc k) d t before within =
    tail_ascends (p.tail + 1) limit ps j k d t.3 (omega arith) (omega arith)

-- one count is no more than all together
pub count_le-total : (ps : List Piece) (k : ℕ) (d : Piece) → k < length ps → (get_or ps k d).count ≤ total ps
count_le-total [] k d within = absurd (omega arith)
count_le-total (p ∷ ps) zero d within = omega arith
count_le-total (p ∷ ps) (suc k) d within = let h = count_le-total ps k d (omega arith) in omega arith
