-- Who has won all matches has the least key.
use Rattle.std.proofs.{Common.{◌≡◌, ℕ, zero, suc, ◌+◌, ◌-◌, ◌*◌, ◌/◌, ◌<◌, ◌≤◌, inl, inr, List, sym, ap, ◌∙◌, arith, subst}, lemmas.Bool.{cases_eq, cases_lt}}
use Rattle.lert_merge.specs.{tree.Race.number_at, tree.Matches.{IsMatch, IsPlayed}}
use Rattle.lert_merge.proofs.tree.PathLemmas.{IsUnder, under_itself, under_above}

-- what each winner of a match has over both, it has over all who come to that match
all_below : (R : ℕ → ℕ → Type 0) → ((a : ℕ) → R a a) → ((a b c : ℕ) → R a b → R b c → R a c) → (leaves : ℕ) (winner : ℕ → ℕ) →
    ((j : ℕ) → 1 ≤ j → j < leaves → R (winner j) (winner (2 * j)) × R (winner j) (winner (2 * j + 1))) →
    (most place : ℕ) → place ≤ most → 1 ≤ place → place < leaves + leaves → R (winner 1) (winner place)
all_below R itself on leaves winner won zero place low some within = absurd (omega arith)
all_below R itself on leaves winner won (suc most) place low some within = elim (cases_eq place 1) [
  | inl one ↦ subst (λ n. R (winner 1) (winner n)) (sym one) (itself (winner 1))
  | inr ne ↦ let both = won (place / 2) (omega arith) (omega arith) in
      let above = all_below R itself on leaves winner won most (place / 2) (omega arith) (omega arith) (omega arith) in
      elim (cases_eq place (2 * (place / 2))) [
        | inl even ↦ on (winner 1) (winner (place / 2)) (winner place) above (subst (λ n. R (winner (place / 2)) (winner n)) (sym even) both.0)
        | inr odd ↦ on (winner 1) (winner (place / 2)) (winner place) above
            (subst (λ n. R (winner (place / 2)) (winner n)) (let e : 2 * (place / 2) + 1 ≡ place = omega arith in e) both.1)
      ]
]

-- the winner of the last match has it over each leaf
pub over_leaves : (R : ℕ → ℕ → Type 0) → ((a : ℕ) → R a a) → ((a b c : ℕ) → R a b → R b c → R a c) → (leaves : ℕ) (winner : ℕ → ℕ) →
    ((j : ℕ) → 1 ≤ j → j < leaves → R (winner j) (winner (2 * j)) × R (winner j) (winner (2 * j + 1))) →
    ((k : ℕ) → k < leaves → winner (leaves + k) ≡ k) → (k : ℕ) → k < leaves → R (winner 1) k
over_leaves R itself on leaves winner won leaf k within = subst (R (winner 1)) (leaf k within)
    (all_below R itself on leaves winner won (leaves + k) (leaves + k) (omega arith) (omega arith) (omega arith))

pub match_order : (keys : List ℕ) (one other winner loser : ℕ) → IsMatch keys one other winner loser →
    (number_at keys winner ≤ number_at keys one) × (number_at keys winner ≤ number_at keys other)
match_order keys one other winner loser is = let order : number_at keys winner ≤ number_at keys loser = is.order in elim is.which [
  | inl pair ↦ let a : number_at keys winner ≡ number_at keys one = ap (number_at keys) pair.0 in
      let b : number_at keys loser ≡ number_at keys other = ap (number_at keys) pair.1 in (omega arith, omega arith)
  | inr pair ↦ let a : number_at keys winner ≡ number_at keys other = ap (number_at keys) pair.0 in
      let b : number_at keys loser ≡ number_at keys one = ap (number_at keys) pair.1 in (omega arith, omega arith)
]

pub first_least : (keys nodes : List ℕ) (leaves first : ℕ) → IsPlayed keys nodes leaves first → (k : ℕ) → k < leaves → number_at keys first ≤ number_at keys k
first_least keys nodes leaves first is k within =
    subst (λ n. number_at keys n ≤ number_at keys k) is.last
    (over_leaves (λ a b. number_at keys a ≤ number_at keys b) (λ a. omega arith) (λ a b c first then. omega arith) leaves is.winner
    (λ j some below. match_order keys (is.winner (2 * j)) (is.winner (2 * j + 1)) (is.winner j) (number_at nodes j) (is.played j some below)) is.leaf k within)

half_under : (leaves n m place below : ℕ) → n ≡ m → below / 2 ≡ place → IsUnder below (leaves + m) → IsUnder place (leaves + n)
half_under leaves n m place below same half under = subst (λ k. IsUnder place (leaves + k)) (sym same) (under_above place below (leaves + m) half under)

-- each place is won by a stream whose leaf comes to it
pub winner_under : (keys nodes : List ℕ) (leaves first : ℕ) (is : IsPlayed keys nodes leaves first) (steps place : ℕ) → leaves + leaves ≤ place + steps → 1 ≤ place →
    place < leaves + leaves → IsUnder place (leaves + is.winner place)
winner_under keys nodes leaves first is zero place far some within = absurd (omega arith)
winner_under keys nodes leaves first is (suc steps) place far some within = elim (cases_lt place leaves) [
  | inl low ↦ let won = is.played place some low in elim won.which [
    | inl pair ↦ half_under leaves (is.winner place) (is.winner (2 * place)) place (2 * place) pair.0 (omega arith)
        (winner_under keys nodes leaves first is steps (2 * place) (omega arith) (omega arith) (omega arith))
    | inr pair ↦ half_under leaves (is.winner place) (is.winner (2 * place + 1)) place (2 * place + 1) pair.0 (omega arith)
        (winner_under keys nodes leaves first is steps (2 * place + 1) (omega arith) (omega arith) (omega arith))
  ]
  | inr high ↦
      let own : leaves + is.winner place ≡ place =
      ap (λ n. leaves + is.winner n) (let e : place ≡ leaves + (place - leaves) = omega arith in e)
      ∙ (ap (λ n. leaves + n) (is.leaf (place - leaves) (omega arith)) ∙ (let e : leaves + (place - leaves) ≡ place = omega arith in e)) in
      subst (IsUnder place) (sym own) (under_itself place)
]

pub under_first : (keys nodes : List ℕ) (leaves first : ℕ) (is : IsPlayed keys nodes leaves first) (place : ℕ) → 1 ≤ place → place < leaves + leaves →
    is.winner place ≡ first → IsUnder place (leaves + first)
under_first keys nodes leaves first is place some within won =
    subst (λ n. IsUnder place (leaves + n)) won (winner_under keys nodes leaves first is (leaves + leaves) place (omega arith) some within)
