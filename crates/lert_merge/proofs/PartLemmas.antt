-- A stream's list, which begins with what was taken of it.
use Rattle.std.proofs.Common.{◌≡◌, ◌≢◌, ℕ, suc, ◌<◌, ◌≤◌, Bool, if◌then◌else◌, List, [], ◌∷◌, ◌++◌, length, get_or, All, arith, sym, ap, ◌∙◌, refl, subst, inl, inr}
use Rattle.std.proofs.{lemmas.Bool.{cases_eq, eq-eqb, ne_eqb}, lemmas.List.Elements.All-cons}
use Rattle.lert_spec.specs.{declared.piece.Piece.Piece, Table.count_of}
use Rattle.lert_merge.specs.{order.Fronts.pieces_of, Merging.behind}
use Rattle.lert_merge.proofs.order.FrontLemmas.{pieces_some, pieces_none}

behind_here : (tail : ℕ) (p : Piece) (rest : List Piece) → p.tail ≡ tail → behind tail (p ∷ rest) ≡ rest
behind_here tail p rest same = ap (λ (b : Bool). let ps : List Piece = (if b then rest else p ∷ rest) in ps) (eq-eqb p.tail tail same)

behind_other : (tail : ℕ) (p : Piece) (rest : List Piece) → p.tail ≢ tail → behind tail (p ∷ rest) ≡ p ∷ rest
behind_other tail p rest ne = ap (λ (b : Bool). let ps : List Piece = (if b then rest else p ∷ rest) in ps) (ne_eqb p.tail tail ne)

count_here : (tail : ℕ) (p : Piece) (rest : List Piece) → p.tail ≡ tail → count_of (p ∷ rest) tail ≡ p.count
count_here tail p rest same = ap (λ (b : Bool). let n : ℕ = (if b then p.count else count_of rest tail) in n) (eq-eqb p.tail tail same)

count_later : (tail : ℕ) (p : Piece) (rest : List Piece) → p.tail ≢ tail → count_of (p ∷ rest) tail ≡ count_of rest tail
count_later tail p rest ne = ap (λ (b : Bool). let n : ℕ = (if b then p.count else count_of rest tail) in n) (ne_eqb p.tail tail ne)

-- where all tails are above one
count_above : (tail : ℕ) (rest : List Piece) → All (λ other. tail < other.tail) rest → count_of rest tail ≡ 0
count_above tail [] above = refl
count_above tail (p ∷ rest) above = let here : tail < p.tail = above 0 p (let w : 0 < length (p ∷ rest) = omega arith in w) in
    count_later tail p rest (λ same. omega arith) ∙ count_above tail rest (λ k d under. above (suc k) d (let w : suc k < length (p ∷ rest) = omega arith in w))

behind_above : (tail : ℕ) (rest : List Piece) → All (λ other. tail < other.tail) rest → behind tail rest ≡ rest
behind_above tail [] above = refl
behind_above tail (p ∷ rest) above = let here : tail < p.tail = above 0 p (let w : 0 < length (p ∷ rest) = omega arith in w) in
    behind_other tail p rest (λ same. omega arith)

-- a list of what was taken, and of what comes behind it in tails above
pub record IsShared (tail share : ℕ) (pieces rest : List Piece) : Type 0 where
  pub count : share ≡ count_of pieces tail
  pub left : behind tail pieces ≡ rest
  pub least : All (λ other. tail ≤ other.tail) pieces

shared_front : (tail share : ℕ) (rest : List Piece) → All (λ other. tail < other.tail) rest → IsShared tail share (pieces_of tail share ++ rest) rest
shared_front tail share rest above =
    let weak : All (λ (other : Piece). tail ≤ other.tail) rest = λ k d under. let at : tail < (get_or rest k d).tail = above k d under in omega arith in
    elim (cases_eq share 0) [
      | inl none ↦ subst (λ (xs : List Piece). IsShared tail share (xs ++ rest) rest) (sym (pieces_none tail share none)) (record {
        count = none ∙ sym (count_above tail rest above);
        left = behind_above tail rest above;
        least = weak;
      })
      | inr ne ↦ let p : Piece = record { tail = tail; count = share } in
          subst (λ (xs : List Piece). IsShared tail share (xs ++ rest) rest) (sym (pieces_some tail share (omega arith))) (record {
            count = sym (count_here tail p rest refl);
            left = behind_here tail p rest refl;
            least = All-cons (λ (other : Piece). tail ≤ other.tail) p rest (let low : tail ≤ tail = omega arith in low) weak;
          })
    ]

pub shared_is : (tail share : ℕ) (pieces rest : List Piece) → pieces ≡ pieces_of tail share ++ rest → All (λ other. tail < other.tail) rest → IsShared tail share pieces rest
shared_is tail share pieces rest is above = subst (λ (xs : List Piece). IsShared tail share xs rest) (sym is) (shared_front tail share rest above)
