-- The way from a leaf to the last match.
use Rattle.std.proofs.{Common.{◌≡◌, ℕ, zero, suc, ◌+◌, ◌-◌, ◌*◌, ◌/◌, ◌<◌, ◌≤◌, ◌⊎◌, inl, inr, refl, sym, ap, ◌∙◌, arith, subst}, lemmas.Bool.cases_lt}

-- two places that meet at `winner`
abbrev pub AreRivals : ℕ → ℕ → ℕ → Type 0
AreRivals winner place rival = ((place ≡ 2 * winner) × (rival ≡ 2 * winner + 1)) ⊎ ((place ≡ 2 * winner + 1) × (rival ≡ 2 * winner))

-- the place that the winner of `place` has after so many matches
pub halved : ℕ → ℕ → ℕ
halved zero place = place
halved (suc matches) place = halved matches (place / 2)

pub halved_le : (matches place : ℕ) → halved matches place ≤ place
unfolding halved
halved_le zero place = omega arith
halved_le (suc matches) place = let less = halved_le matches (place / 2) in omega arith

pub halved_half : (matches place : ℕ) → halved matches (place / 2) ≡ halved matches place / 2
unfolding halved
halved_half zero place = refl
halved_half (suc matches) place = halved_half matches (place / 2)

halved_sum : (a b place : ℕ) → halved (a + b) place ≡ halved b (halved a place)
unfolding halved
halved_sum zero b place = ap (λ n. halved n place) (let e : zero + b ≡ b = omega arith in e)
halved_sum (suc a) b place = ap (λ n. halved n place) (let e : suc a + b ≡ suc (a + b) = omega arith in e) ∙ halved_sum a b (place / 2)

-- `above` is `place`, or a match that the winner of `place` plays
pub record IsUnder (above place : ℕ) : Type 0 where
  pub matches : ℕ
  pub comes : halved matches place ≡ above

pub under_itself : (place : ℕ) → IsUnder place place
unfolding halved
under_itself place = record { matches = 0; comes = refl }

pub under_half : (above place : ℕ) → IsUnder above (place / 2) → IsUnder above place
unfolding halved
under_half above place under = record { matches = suc under.matches; comes = under.comes }

under_matches : (above place matches : ℕ) → halved matches place ≡ above → (place ≡ above) ⊎ IsUnder above (place / 2)
unfolding halved
under_matches above place zero comes = inl comes
under_matches above place (suc matches) comes = inr (record { matches = matches; comes = comes })

-- the match that `above` plays is under way too
pub under_next : (above place : ℕ) → IsUnder above place → IsUnder (above / 2) (place / 2)
under_next above place under = record { matches = under.matches; comes = halved_half under.matches place ∙ ap (λ n. n / 2) under.comes }

-- and it is on the way of `place` itself
pub under_up : (above place : ℕ) → IsUnder above place → IsUnder (above / 2) place
under_up above place under = under_half (above / 2) place (under_next above place under)

-- a place below which `leaf` comes halves to the place above
pub under_above : (above below leaf : ℕ) → below / 2 ≡ above → IsUnder below leaf → IsUnder above leaf
under_above above below leaf half under = subst (λ n. IsUnder n leaf) half (under_up below leaf under)

-- either the same place, or under it by its first match
pub under_cases : (above place : ℕ) → IsUnder above place → (place ≡ above) ⊎ IsUnder above (place / 2)
under_cases above place under = under_matches above place under.matches under.comes

pub under_le : (above place : ℕ) → IsUnder above place → above ≤ place
under_le above place under = let less = halved_le under.matches place in let comes = under.comes in omega arith

-- of two rivals only one is on the way
pub rivals_apart : (place rival : ℕ) → 1 < place → AreRivals (place / 2) place rival → place ≡ rival → ⊥
rivals_apart place rival more are same = elim are [ inl left ↦ let a = left.0 in let b = left.1 in omega arith | inr right ↦ let a = right.0 in let b = right.1 in omega arith ]

-- neither of two rivals is on the way of the other
rival_not_under : (place rival : ℕ) → 1 < place → AreRivals (place / 2) place rival → IsUnder place rival → ⊥
rival_not_under place rival more are under = elim (under_cases place rival under) [
  | inl same ↦ rivals_apart place rival more are (sym same)
  | inr half ↦ let low = under_le place (rival / 2) half in
      elim are [ inl left ↦ let a = left.0 in let b = left.1 in omega arith | inr right ↦ let a = right.0 in let b = right.1 in omega arith ]
]

place_not_under : (place rival : ℕ) → 1 < place → AreRivals (place / 2) place rival → IsUnder rival place → ⊥
place_not_under place rival more are under = elim (under_cases rival place under) [
  | inl same ↦ rivals_apart place rival more are same
  | inr half ↦ let low = under_le rival (place / 2) half in
      elim are [ inl left ↦ let a = left.0 in let b = left.1 in omega arith | inr right ↦ let a = right.0 in let b = right.1 in omega arith ]
]

pub one_way : (leaf place rival : ℕ) → 1 < place → AreRivals (place / 2) place rival → IsUnder place leaf → IsUnder rival leaf → ⊥
one_way leaf place rival more are under other = elim (cases_lt under.matches other.matches) [
  | inl fewer ↦ place_not_under place rival more are (record {
    matches = other.matches - under.matches;
    comes = ap (halved (other.matches - under.matches)) (sym under.comes)
        ∙ (sym (halved_sum under.matches (other.matches - under.matches) leaf)
        ∙ (ap (λ n. halved n leaf) (let e : under.matches + (other.matches - under.matches) ≡ other.matches = omega arith in e) ∙ other.comes));
  })
  | inr more_matches ↦ rival_not_under place rival more are (record {
    matches = under.matches - other.matches;
    comes = ap (halved (under.matches - other.matches)) (sym other.comes)
        ∙ (sym (halved_sum other.matches (under.matches - other.matches) leaf)
        ∙ (ap (λ n. halved n leaf) (let e : other.matches + (under.matches - other.matches) ≡ under.matches = omega arith in e) ∙ under.comes));
  })
]
