-- Pieces that a stream gave: one more, a wider limit, the first ones; and that this is a fact.
use Rattle.std.proofs.{Common.{ℕ, zero, suc, ◌≡◌, ◌+◌, ◌^◌, ◌≤◌, ◌++◌, [], ◌∷◌, List, length, take, get_or, arith, sym, ap, ◌∙◌, subst, inl, inr, length-append}, Math.ListN.get_or-append}
use Rattle.std.proofs.{Math.Seq.get_or-append_seam, Props.props, lemmas.Bool.cases_lt, lemmas.List.Elements.All-take}
use Rattle.lert_spec.specs.{declared.piece.Piece.Piece, Table.{AreGiven, AscendsFrom}}

ascends_more : (least limit : ℕ) (pieces : List Piece) (p : Piece) → AscendsFrom least limit pieces → least ≤ p.tail → limit ≤ p.tail → 1 ≤ p.count →
    AscendsFrom least (p.tail + 1) (pieces ++ p ∷ [])
ascends_more least limit [] p up low above some = (low, omega arith, some, tt)
ascends_more least limit (x ∷ pieces) p up low above some = (up.0, omega (arith, up.1), up.2, ascends_more (x.tail + 1) limit pieces p up.3 (omega (arith, up.1)) above some)

pub given_more : (limit : ℕ) (pieces : List Piece) (p : Piece) → AreGiven limit pieces → limit ≤ p.tail → 1 ≤ p.count → p.count ≤ 2 ^ 47 →
    AreGiven (p.tail + 1) (pieces ++ p ∷ [])
given_more limit pieces p are above some few = record {
  table = ascends_more 0 limit pieces p are.table (omega arith) above some;
  counts = λ k d under. let len : length (pieces ++ p ∷ []) ≡ length pieces + 1 = length-append pieces (p ∷ []) in elim (cases_lt k (length pieces)) [
    | inl low ↦ subst (λ (q : Piece). q.count ≤ 2 ^ 47) (sym (get_or-append pieces (p ∷ []) d k low)) (are.counts k d low)
    | inr high ↦ let last : k ≡ length pieces = omega arith in
        subst (λ (q : Piece). q.count ≤ 2 ^ 47) (sym (ap (λ n. get_or (pieces ++ p ∷ []) n d) last ∙ get_or-append_seam pieces p [] d)) few
  ];
}

ascends_wide : (least low high : ℕ) (pieces : List Piece) → low ≤ high → AscendsFrom least low pieces → AscendsFrom least high pieces
ascends_wide least low high [] wide up = tt
ascends_wide least low high (x ∷ pieces) wide up = (up.0, omega (arith, up.1), up.2, ascends_wide (x.tail + 1) low high pieces wide up.3)

pub given_wide : (low high : ℕ) (pieces : List Piece) → low ≤ high → AreGiven low pieces → AreGiven high pieces
given_wide low high pieces wide are = record { table = ascends_wide 0 low high pieces wide are.table; counts = are.counts }

ascends_take : (least limit n : ℕ) (pieces : List Piece) → AscendsFrom least limit pieces → AscendsFrom least limit (take n pieces)
ascends_take least limit zero pieces up = tt
ascends_take least limit (suc n) [] up = tt
ascends_take least limit (suc n) (x ∷ pieces) up = (up.0, up.1, up.2, ascends_take (x.tail + 1) limit n pieces up.3)

-- the first pieces of those given
pub given_take : (limit n : ℕ) (pieces : List Piece) → AreGiven limit pieces → AreGiven limit (take n pieces)
given_take limit n pieces are = record {
  table = ascends_take 0 limit n pieces are.table;
  counts = All-take (λ piece. piece.count ≤ 2 ^ 47) n pieces are.counts;
}

-- that pieces ascend is a fact
ascends_prop : (least limit : ℕ) (pieces : List Piece) → IsProp (AscendsFrom least limit pieces)
ascends_prop least limit [] = hlevel props
ascends_prop least limit (p ∷ pieces) = hlevel (props, ascends_prop (p.tail + 1) limit pieces)

pub given_prop : (limit : ℕ) (pieces : List Piece) → IsProp (AreGiven limit pieces)
given_prop limit pieces = hlevel (props, ascends_prop 0 limit pieces)
