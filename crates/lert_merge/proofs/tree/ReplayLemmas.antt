-- What a replay from the leaf of the first stream keeps.
use Rattle.std.proofs.Common.{◌≡◌, ◌≢◌, ℕ, zero, suc, ◌+◌, ◌*◌, ◌/◌, ◌<◌, ◌≤◌, ◌⊎◌, ◌==◌, cond, nat_lt, if◌then◌else◌, inl, inr, List, length, set, refl, sym, ap, ◌∙◌, arith, subst}
use Rattle.std.proofs.Common.{get_or-set_other, get_or-set_same, length-set, eq-eqb, ne_eqb, lt-ltb, le-ltb}
use Rattle.std.proofs.lemmas.Bool.{cases_eq, cases_lt}
use Rattle.lert_merge.specs.tree.Race.{number_at, greatest}
use Rattle.lert_merge.specs.tree.Matches.{ArePair, AreBelow, IsMatch, IsPlayed}
use Rattle.lert_merge.proofs.tree.PathLemmas.{AreRivals, IsUnder, under_itself, under_half, under_up, under_cases, under_le, under_next, one_way, rivals_apart}
use Rattle.lert_merge.proofs.tree.OrderLemmas.{under_first}

-- who has won, where another has won one place
changed : (ℕ → ℕ) → ℕ → ℕ → ℕ → ℕ
changed won place stream n = cond (n == place) stream (won n)

changed_here : (won : ℕ → ℕ) (place stream : ℕ) → changed won place stream place ≡ stream
unfolding changed
changed_here won place stream = ap (λ b. cond b stream (won place)) (eq-eqb place place refl)

changed_else : (won : ℕ → ℕ) (place stream n : ℕ) → n ≢ place → changed won place stream n ≡ won n
unfolding changed
changed_else won place stream n ne = ap (λ b. cond b stream (won n)) (ne_eqb n place ne)

-- what stands while the matches above a leaf are played again, with the winner at `place`
pub record IsReplaying (keys nodes : List ℕ) (leaves place winner : ℕ) : Type 0 where
  pub nodes_len : length nodes ≡ leaves
  pub below : AreBelow nodes leaves
  pub some : 1 ≤ place
  pub within : place < leaves + leaves
  pub winner_within : winner < leaves
  won : ℕ → ℕ
  leaf : (k : ℕ) → k < leaves → won (leaves + k) ≡ k
  here : won place ≡ winner
  -- the matches that the winner has still before it are the only ones that may be wrong, and hold the winners of their other places
  played : (j : ℕ) → 1 ≤ j → j < leaves → (IsUnder j (place / 2) → ⊥) → IsMatch keys (won (2 * j)) (won (2 * j + 1)) (won j) (number_at nodes j)
  rivals : (p q : ℕ) → 1 < p → IsUnder p place → AreRivals (p / 2) p q → number_at nodes (p / 2) ≡ won q

-- a match in which a stream has no part is the same where its key changes
match_same : (keys : List ℕ) (stream key one other winner loser : ℕ) → winner ≢ stream → loser ≢ stream → IsMatch keys one other winner loser →
    IsMatch (set keys stream key) one other winner loser
match_same keys stream key one other winner loser no_winner no_loser is =
    let a : number_at (set keys stream key) winner ≡ number_at keys winner = get_or-set_other keys stream winner key 0 no_winner in
    let b : number_at (set keys stream key) loser ≡ number_at keys loser = get_or-set_other keys stream loser key 0 no_loser in
    let order : number_at keys winner ≤ number_at keys loser = is.order in record { which = is.which; order = omega arith }

-- who wins the match that a place of the first stream plays is on its way
off_way : (keys nodes : List ℕ) (leaves first : ℕ) (is : IsPlayed keys nodes leaves first) (j place : ℕ) → (IsUnder j ((leaves + first) / 2) → ⊥) → place / 2 ≡ j → 1 ≤ place →
    place < leaves + leaves → is.winner place ≢ first
off_way keys nodes leaves first is j place off half some within won =
    off (subst (λ n. IsUnder n ((leaves + first) / 2)) half (under_next place (leaves + first) (under_first keys nodes leaves first is place some within won)))

match_kept : (keys nodes : List ℕ) (leaves first key : ℕ) (is : IsPlayed keys nodes leaves first) (j : ℕ) → 1 ≤ j → j < leaves → (IsUnder j ((leaves + first) / 2) → ⊥) →
    IsMatch (set keys first key) (is.winner (2 * j)) (is.winner (2 * j + 1)) (is.winner j) (number_at nodes j)
match_kept keys nodes leaves first key is j some low off =
    let old = is.played j some low in
    let no_one = off_way keys nodes leaves first is j (2 * j) off (omega arith) (omega arith) (omega arith) in
    let no_other = off_way keys nodes leaves first is j (2 * j + 1) off (omega arith) (omega arith) (omega arith) in
    elim old.which [
      | inl pair ↦ match_same keys first key (is.winner (2 * j)) (is.winner (2 * j + 1)) (is.winner j) (number_at nodes j)
          (λ same. no_one (sym pair.0 ∙ same)) (λ same. no_other (sym pair.1 ∙ same)) old
      | inr pair ↦ match_same keys first key (is.winner (2 * j)) (is.winner (2 * j + 1)) (is.winner j) (number_at nodes j)
          (λ same. no_other (sym pair.0 ∙ same)) (λ same. no_one (sym pair.1 ∙ same)) old
    ]

-- on the way of the first stream each loser has won the other place
way_on : (keys nodes : List ℕ) (leaves first : ℕ) (is : IsPlayed keys nodes leaves first) (p q : ℕ) → first < leaves → 1 < p → IsUnder p (leaves + first) → AreRivals (p / 2) p q →
    is.winner (p / 2) ≡ first → (is.winner p ≡ first) × (number_at nodes (p / 2) ≡ is.winner q)
way_on keys nodes leaves first is p q within more under are won =
    let rivals : AreRivals (p / 2) p q = are in
    let low = under_le p (leaves + first) under in
    let old = is.played (p / 2) (omega arith) (omega arith) in
    elim are [
      | inl left ↦ let p_is = left.0 in let q_is = left.1 in elim old.which [
        | inl pair ↦ (ap is.winner p_is ∙ (sym pair.0 ∙ won), pair.1 ∙ ap is.winner (sym q_is))
        | inr pair ↦ absurd (one_way (leaves + first) p q more rivals under
            (under_first keys nodes leaves first is q (omega arith) (omega arith) (ap is.winner q_is ∙ (sym pair.0 ∙ won))))
      ]
      | inr right ↦ let p_is = right.0 in let q_is = right.1 in elim old.which [
        | inl pair ↦ absurd (one_way (leaves + first) p q more rivals under
            (under_first keys nodes leaves first is q (omega arith) (omega arith) (ap is.winner q_is ∙ (sym pair.0 ∙ won))))
        | inr pair ↦ (ap is.winner p_is ∙ (sym pair.0 ∙ won), pair.1 ∙ ap is.winner (sym q_is))
      ]
    ]

first_on_way : (keys nodes : List ℕ) (leaves first : ℕ) (is : IsPlayed keys nodes leaves first) (most p : ℕ) → first < leaves → p ≤ most → 1 ≤ p → IsUnder p (leaves + first) →
    is.winner p ≡ first
first_on_way keys nodes leaves first is zero p within low some under = absurd (omega arith)
first_on_way keys nodes leaves first is (suc most) p within low some under = elim (cases_eq p 1) [
  | inl one ↦ ap is.winner one ∙ is.last
  | inr ne ↦
      let above = first_on_way keys nodes leaves first is most (p / 2) within (omega arith) (omega arith) (under_up p (leaves + first) under) in
      elim (cases_eq p (2 * (p / 2))) [
        | inl even ↦ (way_on keys nodes leaves first is p (2 * (p / 2) + 1) within (omega arith) under (inl (even, refl)) above).0
        | inr odd ↦ (way_on keys nodes leaves first is p (2 * (p / 2)) within (omega arith) under (inr ((let e : p ≡ 2 * (p / 2) + 1 = omega arith in e), refl)) above).0
      ]
]

pub replay_begins : (keys nodes : List ℕ) (leaves first key : ℕ) → length nodes ≡ leaves → AreBelow nodes leaves → first < leaves → IsPlayed keys nodes leaves first →
    IsReplaying (set keys first key) nodes leaves (leaves + first) first
replay_begins keys nodes leaves first key len below within is = record {
  nodes_len = len;
  below = below;
  some = omega arith;
  within = omega arith;
  winner_within = within;
  won = is.winner;
  leaf = is.leaf;
  here = is.leaf first within;
  played = λ j some low off. match_kept keys nodes leaves first key is j some low off;
  rivals = λ p q more under are. (way_on keys nodes leaves first is p q within more under are
      (first_on_way keys nodes leaves first is (p / 2) (p / 2) within (omega arith) (omega arith) (under_up p (leaves + first) under))).1;
}

pair_below : (leaves one other winner loser : ℕ) → ArePair one other winner loser → one < leaves → other < leaves → (winner < leaves) × (loser < leaves)
pair_below leaves one other winner loser pair one_low other_low = elim pair [
  | inl is ↦ let a = is.0 in let b = is.1 in (omega arith, omega arith)
  | inr is ↦ let a = is.0 in let b = is.1 in (omega arith, omega arith)
]

pub below_set : (nodes : List ℕ) (leaves node loser : ℕ) → length nodes ≡ leaves → AreBelow nodes leaves → loser < leaves → AreBelow (set nodes node loser) leaves
below_set nodes leaves node loser len below low j within = elim (cases_eq j node) [
  | inl same ↦ let inside : node < length nodes = omega arith in
      let here : number_at (set nodes node loser) j ≡ loser = ap (number_at (set nodes node loser)) same ∙ get_or-set_same nodes node loser 0 inside in omega arith
  | inr ne ↦ let there : number_at (set nodes node loser) j ≡ number_at nodes j = get_or-set_other nodes node j loser 0 ne in
      let old : number_at nodes j < leaves = below j within in omega arith
]

-- the match at `node`, between the winner at `place` and the one at its rival
match_here : (keys : List ℕ) (won : ℕ → ℕ) (place winner loser rival : ℕ) → AreRivals (place / 2) place rival → 1 < place → ArePair (won place) (won rival) winner loser →
    number_at keys winner ≤ number_at keys loser →
    IsMatch keys (won (2 * (place / 2))) (won (2 * (place / 2) + 1)) winner loser
match_here keys won place winner loser rival are more pair order = elim are [
  | inl left ↦ record {
    which = elim pair [
      | inl is ↦ inl (is.0 ∙ ap won left.0, is.1 ∙ ap won left.1)
      | inr is ↦ inr (is.0 ∙ ap won left.1, is.1 ∙ ap won left.0)
    ];
    order = order;
  }
  | inr right ↦ record {
    which = elim pair [
      | inl is ↦ inr (is.0 ∙ ap won right.0, is.1 ∙ ap won right.1)
      | inr is ↦ inl (is.0 ∙ ap won right.1, is.1 ∙ ap won right.0)
    ];
    order = order;
  }
]

-- a match is the same where another place is won by another
match_else : (keys nodes : List ℕ) (won : ℕ → ℕ) (node stream loser j : ℕ) → j ≢ node → 2 * j ≢ node → 2 * j + 1 ≢ node →
    IsMatch keys (won (2 * j)) (won (2 * j + 1)) (won j) (number_at nodes j) →
    IsMatch keys (changed won node stream (2 * j)) (changed won node stream (2 * j + 1)) (changed won node stream j) (number_at (set nodes node loser) j)
match_else keys nodes won node stream loser j no_one no_left no_right is =
    subst (λ n. IsMatch keys n (changed won node stream (2 * j + 1)) (changed won node stream j) (number_at (set nodes node loser) j)) (sym (changed_else won node stream (2 * j) no_left))
    (subst (λ n. IsMatch keys (won (2 * j)) n (changed won node stream j) (number_at (set nodes node loser) j)) (sym (changed_else won node stream (2 * j + 1) no_right))
    (subst (λ n. IsMatch keys (won (2 * j)) (won (2 * j + 1)) n (number_at (set nodes node loser) j)) (sym (changed_else won node stream j no_one))
    (subst (λ n. IsMatch keys (won (2 * j)) (won (2 * j + 1)) (won j) n) (sym (get_or-set_other nodes node j loser 0 no_one)) is)))

match_new : (keys nodes : List ℕ) (won : ℕ → ℕ) (node stream loser j : ℕ) → j ≡ node → 1 ≤ j → node < length nodes →
    IsMatch keys (won (2 * node)) (won (2 * node + 1)) stream loser →
    IsMatch keys (changed won node stream (2 * j)) (changed won node stream (2 * j + 1)) (changed won node stream j) (number_at (set nodes node loser) j)
match_new keys nodes won node stream loser j same some inside is =
    subst (λ n. IsMatch keys (changed won node stream (2 * n)) (changed won node stream (2 * n + 1)) (changed won node stream n) (number_at (set nodes node loser) n)) (sym same)
    (subst (λ n. IsMatch keys n (changed won node stream (2 * node + 1)) (changed won node stream node) (number_at (set nodes node loser) node))
    (sym (changed_else won node stream (2 * node) (omega arith)))
    (subst (λ n. IsMatch keys (won (2 * node)) n (changed won node stream node) (number_at (set nodes node loser) node)) (sym (changed_else won node stream (2 * node + 1) (omega arith)))
    (subst (λ n. IsMatch keys (won (2 * node)) (won (2 * node + 1)) n (number_at (set nodes node loser) node)) (sym (changed_here won node stream))
    (subst (λ n. IsMatch keys (won (2 * node)) (won (2 * node + 1)) stream n) (sym (get_or-set_same nodes node loser 0 inside)) is))))

-- no rival on the way above `node` stands at it
rival_else : (node p q : ℕ) → 1 < p → IsUnder p node → AreRivals (p / 2) p q → q ≢ node
rival_else node p q more under are same = elim (under_cases p node under) [
  | inl here ↦ rivals_apart p q more are (sym here ∙ sym same)
  | inr half ↦ let low = under_le p (node / 2) half in
      elim are [ inl left ↦ let a = left.0 in let b = left.1 in omega arith | inr right ↦ let a = right.0 in let b = right.1 in omega arith ]
]

replayed_match : (keys nodes : List ℕ) (leaves place one winner loser : ℕ) (is : IsReplaying keys nodes leaves place one) → 1 < place →
    ArePair one (number_at nodes (place / 2)) winner loser → number_at keys winner ≤ number_at keys loser →
    (j : ℕ) → 1 ≤ j → j < leaves → (IsUnder j (place / 2 / 2) → ⊥) →
    IsMatch keys (changed is.won (place / 2) winner (2 * j)) (changed is.won (place / 2) winner (2 * j + 1)) (changed is.won (place / 2) winner j)
    (number_at (set nodes (place / 2) loser) j)
replayed_match keys nodes leaves place one winner loser is more pair order j some low off =
    let len : length nodes ≡ leaves = is.nodes_len in let within : place < leaves + leaves = is.within in
    elim (cases_eq j (place / 2)) [
      | inl same ↦ match_new keys nodes is.won (place / 2) winner loser j same some (omega arith) (elim (cases_eq place (2 * (place / 2))) [
        | inl even ↦ new (2 * (place / 2) + 1) (inl (even, refl))
        | inr odd ↦ new (2 * (place / 2)) (inr ((let e : place ≡ 2 * (place / 2) + 1 = omega arith in e), refl))
      ])
      | inr ne ↦ match_else keys nodes is.won (place / 2) winner loser j ne
          (λ left. off (subst (λ n. IsUnder n (place / 2 / 2)) (let e : place / 2 / 2 ≡ j = omega arith in e) (under_itself (place / 2 / 2))))
          (λ right. off (subst (λ n. IsUnder n (place / 2 / 2)) (let e : place / 2 / 2 ≡ j = omega arith in e) (under_itself (place / 2 / 2))))
          (is.played j some low (λ under. elim (under_cases j (place / 2) under) [ inl here ↦ ne (sym here) | inr half ↦ off half ]))
    ]
  where
    new : (rival : ℕ) → AreRivals (place / 2) place rival → IsMatch keys (is.won (2 * (place / 2))) (is.won (2 * (place / 2) + 1)) winner loser
    new rival are = match_here keys is.won place winner loser rival are more
        (subst (λ n. ArePair n (is.won rival) winner loser) (sym is.here)
        (subst (λ n. ArePair one n winner loser) (is.rivals place rival more (under_itself place) are) pair)) order

pub replay_goes_on : (keys nodes : List ℕ) (leaves place one winner loser : ℕ) → IsReplaying keys nodes leaves place one → 1 < place →
    ArePair one (number_at nodes (place / 2)) winner loser → number_at keys winner ≤ number_at keys loser →
    IsReplaying keys (set nodes (place / 2) loser) leaves (place / 2) winner
replay_goes_on keys nodes leaves place one winner loser is more pair order =
    let len : length nodes ≡ leaves = is.nodes_len in
    let within : place < leaves + leaves = is.within in
    let both = pair_below leaves one (number_at nodes (place / 2)) winner loser pair is.winner_within (is.below (place / 2) (omega arith)) in record {
      nodes_len = length-set nodes (place / 2) loser ∙ len;
      below = below_set nodes leaves (place / 2) loser len is.below both.1;
      some = omega arith;
      within = omega arith;
      winner_within = both.0;
      won = changed is.won (place / 2) winner;
      leaf = λ k low. changed_else is.won (place / 2) winner (leaves + k) (omega arith) ∙ is.leaf k low;
      here = changed_here is.won (place / 2) winner;
      played = replayed_match keys nodes leaves place one winner loser is more pair order;
      rivals = λ p q some under are. let low = under_le p (place / 2) under in
          get_or-set_other nodes (place / 2) (p / 2) loser 0 (omega arith)
          ∙ (is.rivals p q some (under_half p place under) are ∙ sym (changed_else is.won (place / 2) winner q (rival_else (place / 2) p q some under are)));
    }

pub replay_ends : (keys nodes : List ℕ) (leaves place winner : ℕ) → IsReplaying keys nodes leaves place winner → place ≤ 1 → IsPlayed keys nodes leaves winner
replay_ends keys nodes leaves place winner is ended = let some : 1 ≤ place = is.some in record {
  winner = is.won;
  leaf = is.leaf;
  played = λ j more low. is.played j more low (λ under. let lower = under_le j (place / 2) under in omega arith);
  last = ap is.won (let e : 1 ≡ place = omega arith in e) ∙ is.here;
}

-- ---- the loop

-- the same, with the winner's key at hand
pub record IsAt (old keys nodes : List ℕ) (first key place winner winner_key : ℕ) : Type 0 where
  pub keys_are : keys ≡ set old first key
  pub stands : IsReplaying keys nodes (length old) place winner
  pub key_is : number_at keys winner ≡ winner_key
  pub fits : winner_key ≤ greatest
  pub changed : (winner ≡ first) ⊎ (winner_key < greatest)

pub at_begins : (old nodes : List ℕ) (first key : ℕ) → length nodes ≡ length old → AreBelow nodes (length old) → first < length old → IsPlayed old nodes (length old) first →
    key ≤ greatest → IsAt old (set old first key) nodes first key (length old + first) first key
at_begins old nodes first key len below within is fits = record {
  keys_are = refl;
  stands = replay_begins old nodes (length old) first key len below within is;
  key_is = get_or-set_same old first key 0 within;
  fits = fits;
  changed = inl refl;
}

-- the match at the next node, with what the code makes of it
pub at_goes_on : (old keys nodes : List ℕ) (first key place winner winner_key rival rival_key loser next next_key : ℕ) → IsAt old keys nodes first key place winner winner_key → 1 < place →
    rival ≡ number_at nodes (place / 2) → rival_key ≡ number_at keys rival →
    loser ≡ (if nat_lt rival_key winner_key then winner else rival) → next ≡ (if nat_lt rival_key winner_key then rival else winner) →
    next_key ≡ (if nat_lt rival_key winner_key then rival_key else winner_key) →
    IsAt old keys (set nodes (place / 2) loser) first key (place / 2) next next_key
at_goes_on old keys nodes first key place winner winner_key rival rival_key loser next next_key is more rival_is rival_key_is loser_is next_is next_key_is =
    let fits : winner_key ≤ greatest = is.fits in
    let own : number_at keys winner ≡ winner_key = is.key_is in
    elim (cases_lt rival_key winner_key) [
      | inl less ↦
          let test = lt-ltb rival_key winner_key less in
          let lost : loser ≡ winner = loser_is ∙ ap (λ b. if b then winner else rival) test in
          let won : next ≡ rival = next_is ∙ ap (λ b. if b then rival else winner) test in
          let its_key : next_key ≡ rival_key = next_key_is ∙ ap (λ b. if b then rival_key else winner_key) test in
          let low : number_at keys next ≡ rival_key = ap (number_at keys) won ∙ sym rival_key_is in
          let high : number_at keys loser ≡ winner_key = ap (number_at keys) lost ∙ own in record {
            keys_are = is.keys_are;
            stands = replay_goes_on keys nodes (length old) place winner next loser is.stands more (inr (won ∙ rival_is, lost)) (omega arith);
            key_is = low ∙ sym its_key;
            fits = omega arith;
            changed = inr (omega arith);
          }
      | inr high ↦
          let test = le-ltb rival_key winner_key high in
          let lost : loser ≡ rival = loser_is ∙ ap (λ b. if b then winner else rival) test in
          let won : next ≡ winner = next_is ∙ ap (λ b. if b then rival else winner) test in
          let its_key : next_key ≡ winner_key = next_key_is ∙ ap (λ b. if b then rival_key else winner_key) test in
          let low : number_at keys next ≡ winner_key = ap (number_at keys) won ∙ own in
          let its_loser : number_at keys loser ≡ rival_key = ap (number_at keys) lost ∙ sym rival_key_is in record {
            keys_are = is.keys_are;
            stands = replay_goes_on keys nodes (length old) place winner next loser is.stands more (inl (won, lost ∙ rival_is)) (omega arith);
            key_is = low ∙ sym its_key;
            fits = omega arith;
            changed = elim is.changed [ inl same ↦ inl (won ∙ same) | inr less ↦ inr (omega arith) ];
          }
    ]
