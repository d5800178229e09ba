-- What stood in a file before writes, place by place.
use Rattle.std.proofs.Common.{◌≡◌, ℕ, ◌+◌, ◌-◌, ◌<◌, ◌≤◌, List, [], ◌∷◌, ◌++◌, length, take, drop, replicate, get_or, All, true, cond, nat_le, nat_lt, refl, sym, ap, ◌∙◌, subst, inl, inr, arith}
use Rattle.std.proofs.{lemmas.Bool.{and_parts, leb-true, ltb-true}, lemmas.List.{get_or-take, get_or-drop}, lemmas.List.Elements.{All-nil, All-cons}}
use Rattle.lert_bay.specs.{Files.IsOutside, Pending.{covers, before_all}, declared.overwrite.Overwrite.Overwrite}
use Rattle.lert_bay.proofs.{Laid.zeros_past, Tearing.{inside_not, inside_cases}}

-- one write more at the end
pub before_append : (writes : List Overwrite) (last : Overwrite) (place now : ℕ) → before_all (writes ++ last ∷ []) place now ≡ before_all writes place
    (before_all (last ∷ []) place now)
before_append [] last place now = refl
before_append (write ∷ rest) last place now = ap (λ (byte : ℕ). cond (covers write place) (get_or write.old.items (place - write.at) 0) byte) (before_append rest last place now)

-- where the first write doesn't cover the place
pub before_outside : (write : Overwrite) (rest : List Overwrite) (place now : ℕ) → IsOutside write.at (length write.old.items) place →
    before_all (write ∷ rest) place now ≡ before_all rest place now
before_outside write rest place now outside = ap (λ b. cond b (get_or write.old.items (place - write.at) 0) (before_all rest place now))
    (inside_not write.at (length write.old.items) place outside)

-- and where it does
pub before_covered : (write : Overwrite) (rest : List Overwrite) (place now : ℕ) → covers write place ≡ true → before_all (write ∷ rest) place now ≡ get_or write.old.items
    (place - write.at) 0
before_covered write rest place now is = ap (λ b. cond b (get_or write.old.items (place - write.at) 0) (before_all rest place now)) is

-- a byte that differs only where some write covers it
pub before_same : (writes : List Overwrite) (place x y : ℕ) → (All (λ w. IsOutside w.at (length w.old.items) place) writes → x ≡ y) →
    before_all writes place x ≡ before_all writes place y
before_same [] place x y same = same (All-nil (λ w. IsOutside w.at (length w.old.items) place))
before_same (write ∷ rest) place x y same = elim (inside_cases write.at (length write.old.items) place) [
  | inl is ↦ before_covered write rest place x is ∙ sym (before_covered write rest place y is)
  | inr outside ↦
      before_outside write rest place x outside
      ∙ (before_same rest place x y (λ others. same (All-cons (λ w. IsOutside w.at (length w.old.items) place) write rest outside others))
      ∙ sym (before_outside write rest place y outside))
]

-- a write that keeps what it covers takes a byte back to what it was
pub before_kept : (write : Overwrite) (now new : List ℕ) (count place : ℕ) → write.old.items ≡ take count (drop write.at now) ++ replicate {A = ℕ}
    (count - length (take count (drop write.at now))) 0 → length write.old.items ≡ count → place < length now →
    (IsOutside write.at count place → get_or new place 0 ≡ get_or now place 0) → before_all (write ∷ []) place (get_or new place 0) ≡ get_or now place 0
before_kept write now new count place kept long within same = elim (inside_cases write.at (length write.old.items) place) [
  | inl is ↦
      before_covered write [] place (get_or new place 0) is
      ∙ (ap (λ (bytes : List ℕ). get_or bytes (place - write.at) 0) kept
      ∙ (zeros_past (take count (drop write.at now)) (count - length (take count (drop write.at now))) (place - write.at)
      ∙ from_front is))
  | inr outside ↦ before_outside write [] place (get_or new place 0) outside ∙ same (subst (λ (n : ℕ). IsOutside write.at n place) long outside)
]
  where
    from_front : covers write place ≡ true → get_or (take count (drop write.at now)) (place - write.at) 0 ≡ get_or now place 0
    from_front is =
        let parts = and_parts (nat_le write.at place) (nat_lt place (write.at + length write.old.items)) is in
        let above : write.at ≤ place = leb-true write.at place parts.0 in
        let below : place < write.at + length write.old.items = ltb-true place (write.at + length write.old.items) parts.1 in
        get_or-take count (drop write.at now) (place - write.at) 0 (omega (arith, above, below, long))
        ∙ (get_or-drop write.at now (place - write.at) 0 ∙ ap (λ n. get_or now n 0) (omega (arith, above)))
