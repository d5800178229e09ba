-- A part of a row that is rotated by one.
use Rattle.std.proofs.Common.{◌≡◌, ℕ, suc, ◌+◌, ◌-◌, ◌<◌, ◌≤◌, Bool, List, [], ◌∷◌, ◌++◌, length, take, drop, get_or, sym, ap, ◌∙◌, inl, inr, arith, length-append, append_assoc}
use Rattle.std.proofs.{lemmas.Bool.cases_order, lemmas.List.{take_at, drop_at, take_more, drop-drop, length-take-le, length-drop, get_or-drop}, Math.Seq.take-add}
use Rattle.std.specs.Prelude.{insert, remove}
use Rattle.lert_slotbits.specs.Bits.{IsFirst}
use Rattle.lert_cqf.specs.Rows.{filled_gap}

pub rotated : (xs ys : List ℕ) (from to : ℕ) → from ≤ to → to < length xs
    → ys ≡ drop (length (take (to + 1 - from) (drop from xs)) - 1) (take (to + 1 - from) (drop from xs))
    ++ take (length (take (to + 1 - from) (drop from xs)) - 1) (take (to + 1 - from) (drop from xs))
    → take from xs ++ (ys ++ drop (to + 1 - from) (drop from xs)) ≡ filled_gap xs from to (get_or xs to 0)
rotated xs ys from to order within is =
    let m = to - from in
    let v = get_or xs to 0 in
    let rest = drop from xs in
    let inner = take m rest in
    let rest_long = length-drop from xs in
    let inner_long : length inner ≡ m = length-take-le m rest (omega arith) in
    let read : get_or rest m 0 ≡ v = get_or-drop from xs m 0 ∙ ap (λ k. get_or xs k 0) (let e : from + m ≡ to = omega arith in e) in
    let middle : take (to + 1 - from) rest ≡ inner ++ v ∷ [] =
    ap (λ k. take k rest) (let e : to + 1 - from ≡ m + 1 = omega arith in e) ∙ take_more rest m 0 (omega arith) ∙ ap (λ k. inner ++ k ∷ []) read in
    let last : length (take (to + 1 - from) rest) - 1 ≡ m = (let whole = ap (λ (t : List ℕ). length t) middle in let parts = length-append inner (v ∷ []) in omega arith) in
    let turned : ys ≡ v ∷ inner =
    is ∙ ap (λ k. drop k (take (to + 1 - from) rest) ++ take k (take (to + 1 - from) rest)) last
    ∙ ap (λ (t : List ℕ). drop m t ++ take m t) middle
    ∙ ap (λ (t : List ℕ). t ++ take m (inner ++ v ∷ [])) (drop_at inner (v ∷ []) m inner_long)
    ∙ ap (λ (t : List ℕ). (v ∷ []) ++ t) (take_at inner (v ∷ []) m inner_long) in
    let behind : drop (to + 1 - from) rest ≡ drop (suc to) xs = drop-drop (to + 1 - from) from xs ∙ ap (λ k. drop k xs) (let e : from + (to + 1 - from) ≡ suc to = omega arith in e) in
    let front_long : length (take from xs) ≡ from = length-take-le from xs (omega arith) in
    let removed : remove xs to ≡ take from xs ++ (inner ++ drop (suc to) xs) =
    ap (λ (t : List ℕ). t ++ drop (suc to) xs) (ap (λ k. take k xs) (let e : to ≡ from + m = omega arith in e) ∙ take-add from m xs)
    ∙ append_assoc (take from xs) inner (drop (suc to) xs) in
    ap (λ (t : List ℕ). take from xs ++ (t ++ drop (to + 1 - from) rest)) turned
    ∙ ap (λ (t : List ℕ). take from xs ++ ((v ∷ inner) ++ t)) behind
    ∙ sym (ap (λ (t : List ℕ). insert t from v) removed
    ∙ ap (λ (t : List ℕ). t ++ v ∷ drop from (take from xs ++ (inner ++ drop (suc to) xs))) (take_at (take from xs) (inner ++ drop (suc to) xs) from front_long)
    ∙ ap (λ (t : List ℕ). take from xs ++ v ∷ t) (drop_at (take from xs) (inner ++ drop (suc to) xs) from front_long))

-- only one place is the first
pub first_unique : (b : Bool) (bits : List Bool) (from p q : ℕ) → IsFirst b bits from p → IsFirst b bits from q → p ≡ q
first_unique b bits from p q f g =
    elim (cases_order p q) [
      | inl same ↦ same
      | inr (inl less) ↦ absurd (g.others p f.behind less f.found)
      | inr (inr more) ↦ absurd (f.others q g.behind more g.found)
    ]
