-- Bytes laid over a file, place by place.
use Rattle.std.proofs.Common.{◌≡◌, ℕ, ◌+◌, ◌-◌, ◌<◌, ◌≤◌, List, ◌++◌, length, take, drop, replicate, get_or, max, refl, sym, ap, ◌∙◌, inl, inr, arith, length-append, length-take, length-drop}
use Rattle.std.proofs.lemmas.Bool.{cases_lt}
use Rattle.std.proofs.lemmas.List.{get_or_append_left, get_or-append_right, get_or-take, get_or-drop, get_or-replicate, get_or_past, take_all, take-append-le, ext_get_or, length-take-le}
use lib.ListN.{length-replicate}
use Rattle.lert_bay.specs.Files.{padded, Holds, IsOutside}

-- zero bytes behind a file read as what lies past its end
pub zeros_past : (old : List ℕ) (k place : ℕ) → get_or (old ++ replicate {A = ℕ} k 0) place 0 ≡ get_or old place 0
zeros_past old k place =
    elim (cases_lt place (length old)) [
      | inl within ↦ get_or_append_left old (replicate {A = ℕ} k 0) 0 place within
      | inr past ↦
          get_or-append_right old (replicate {A = ℕ} k 0) (length old) place 0 refl past
          ∙ (elim (cases_lt (place - length old) k) [
            | inl zero_byte ↦ get_or-replicate k (place - length old) 0 0 zero_byte
            | inr beyond ↦ get_or_past (replicate {A = ℕ} k 0) (place - length old) 0 (omega (arith, length-replicate {A = ℕ} k 0, beyond))
          ] ∙ sym (get_or_past old place 0 past))
    ]

-- as much of the gap as reaches a place is the gap before it
pub take_zeros : (at : ℕ) (old : List ℕ) (n : ℕ) → at ≤ n → length old ≤ n → take at (old ++ replicate {A = ℕ} (n - length old) 0) ≡ take at (padded old at)
take_zeros at old n reach longer =
    ext_get_or 0 _ _ (simp (length-take, length-append, length-replicate) (omega arith))
    (λ i below.
    let short : i < at = omega (arith, below, length-take at (old ++ replicate {A = ℕ} (n - length old) 0)) in
    get_or-take at _ i 0 short ∙ (zeros_past old (n - length old) i ∙ sym (get_or-take at _ i 0 short ∙ zeros_past old (at - length old) i)))

-- no zero byte stands behind the written range
pub drop_zeros : (end : ℕ) (old : List ℕ) (n : ℕ) → n ≡ max (length old) end → drop end (old ++ replicate {A = ℕ} (n - length old) 0) ≡ drop end old
drop_zeros end old n is =
    ext_get_or 0 _ _ (simp (length-drop, length-append, length-replicate) (omega (arith, is)))
    (λ i below. get_or-drop end _ i 0 ∙ (zeros_past old (n - length old) (end + i) ∙ sym (get_or-drop end old i 0)))

-- what `put` makes of the bytes
pub put_holds : (at : ℕ) (piece old grown laid : List ℕ) (count n len : ℕ) → count ≡ length old → n ≡ max count (at + length piece) → grown ≡ take n old ++ replicate {A = ℕ}
    (n - count) 0 → laid ≡ take at grown ++ piece ++ drop (at + length piece) grown → len ≡ n → Holds at piece old (take len (laid ++ drop (length laid) grown))
put_holds at piece old grown laid count n len counts is_max grew lays same =
    let is : n ≡ max (length old) (at + length piece) = is_max ∙ ap (λ k. max k (at + length piece)) counts in
    let grows : grown ≡ take n old ++ replicate {A = ℕ} (n - length old) 0 = grew ∙ ap (λ k. take n old ++ replicate {A = ℕ} (n - k) 0) counts in
    let all : take n old ≡ old = take_all n old (omega (arith, is)) in
    let longer : grown ≡ old ++ replicate {A = ℕ} (n - length old) 0 = grows ∙ ap (λ xs. xs ++ replicate {A = ℕ} (n - length old) 0) all in
    let front : take at grown ≡ take at (padded old at) = ap (take at) longer ∙ take_zeros at old n (omega (arith, is)) (omega (arith, is)) in
    let back : drop (at + length piece) grown ≡ drop (at + length piece) old = ap (drop (at + length piece)) longer ∙ drop_zeros (at + length piece) old n is in
    let length_grown : length grown ≡ n = ap length longer ∙ (length-append old (replicate {A = ℕ} (n - length old) 0) ∙ omega
    (arith, is, length-replicate {A = ℕ} (n - length old) 0)) in
    let length_laid : length laid ≡ n = ap length lays ∙ simp (length-append, length-take, length-drop) (omega (arith, is, length_grown)) in
    take-append-le len laid _ (omega (arith, same, length_laid))
    ∙ (take_all len laid (omega (arith, same, length_laid))
    ∙ (lays ∙ (ap (λ xs. xs ++ piece ++ drop (at + length piece) grown) front ∙ ap (λ ys. take at (padded old at) ++ piece ++ ys) back)))

-- how long a file is with bytes laid over it
pub length_held : (at : ℕ) (piece old new : List ℕ) → Holds at piece old new → length new ≡ max (length old) (at + length piece)
length_held at piece old new held =
    ap length held ∙ simp (length-append, length-take, length-drop, length-replicate) (omega arith)

-- outside of the bytes laid over it a file reads as before
pub elsewhere_held : (at : ℕ) (piece old new : List ℕ) → Holds at piece old new → (place : ℕ) → IsOutside at (length piece) place → get_or new place 0 ≡ get_or old place 0
elsewhere_held at piece old new held place (inl before) =
    let front : length (take at (padded old at)) ≡ at = length-take-le at (padded old at)
    (omega (arith, length-append old (replicate {A = ℕ} (at - length old) 0), length-replicate {A = ℕ} (at - length old) 0)) in
    ap (λ xs. get_or xs place 0) held
    ∙ (get_or_append_left (take at (padded old at) ++ piece) (drop (at + length piece) old) 0 place (omega (arith, length-append (take at (padded old at)) piece, front, before))
    ∙ (get_or_append_left (take at (padded old at)) piece 0 place (omega (arith, front, before))
    ∙ (get_or-take at (padded old at) place 0 before ∙ zeros_past old (at - length old) place)))
elsewhere_held at piece old new held place (inr behind) =
    let front : length (take at (padded old at)) ≡ at = length-take-le at (padded old at)
    (omega (arith, length-append old (replicate {A = ℕ} (at - length old) 0), length-replicate {A = ℕ} (at - length old) 0)) in
    let both : length (take at (padded old at) ++ piece) ≡ at + length piece = length-append (take at (padded old at)) piece ∙ ap (λ k. k + length piece) front in
    ap (λ xs. get_or xs place 0) held
    ∙ (get_or-append_right (take at (padded old at) ++ piece) (drop (at + length piece) old) (at + length piece) place 0 both behind
    ∙ (get_or-drop (at + length piece) old (place - (at + length piece)) 0
    ∙ ap (λ k. get_or old k 0) (omega (arith, behind))))
