-- How a tree begins: its winners from the last match to the first one, and then its losers.
use Rattle.std.proofs.Common.{◌≡◌, ◌≢◌, ℕ, ◌+◌, ◌-◌, ◌*◌, ◌<◌, ◌≤◌, ◌⊎◌, nat_lt, if◌then◌else◌, inl, inr, List, length, set, refl, sym, ap, ap₂, ◌∙◌, arith, subst}
use Rattle.std.proofs.Common.{get_or-set_other, get_or-set_same, length-set, lt-ltb, le-ltb}
use Rattle.std.proofs.lemmas.Bool.{cases_eq, cases_lt}
use Rattle.lert_merge.specs.tree.Race.{number_at}
use Rattle.lert_merge.specs.tree.Matches.{winner_of, ArePair, AreBelow, AreWon, IsWon, IsPlayed}
use Rattle.lert_merge.proofs.tree.OrderLemmas.{over_leaves}
use Rattle.lert_merge.proofs.tree.ReplayLemmas.{below_set}

-- ---- who stands at a place

pub winner_node : (nodes : List ℕ) (place : ℕ) → place < length nodes → winner_of nodes place ≡ number_at nodes place
winner_node nodes place low = ap (λ b. if b then number_at nodes place else place - length nodes) (lt-ltb place (length nodes) low)

pub winner_leaf : (nodes : List ℕ) (place : ℕ) → length nodes ≤ place → winner_of nodes place ≡ place - length nodes
winner_leaf nodes place high = ap (λ b. if b then number_at nodes place else place - length nodes) (le-ltb place (length nodes) high)

pub winner_below : (nodes : List ℕ) (leaves place : ℕ) → length nodes ≡ leaves → AreBelow nodes leaves → place < leaves + leaves → winner_of nodes place < leaves
winner_below nodes leaves place len below within = elim (cases_lt place (length nodes)) [
  | inl low ↦ let is = winner_node nodes place low in let less : number_at nodes place < leaves = below place (omega arith) in omega arith
  | inr high ↦ let is = winner_leaf nodes place high in omega arith
]

-- two lists that agree at a place
winner_agrees : (old nodes : List ℕ) (place : ℕ) → length nodes ≡ length old → number_at nodes place ≡ number_at old place → winner_of nodes place ≡ winner_of old place
winner_agrees old nodes place len at = ap₂ (λ n m. if nat_lt place n then m else place - n) len at

winner_else : (nodes : List ℕ) (node stream place : ℕ) → place ≢ node → winner_of (set nodes node stream) place ≡ winner_of nodes place
winner_else nodes node stream place ne = winner_agrees nodes (set nodes node stream) place (length-set nodes node stream) (get_or-set_other nodes node place stream 0 ne)

winner_here : (nodes : List ℕ) (node stream : ℕ) → node < length nodes → winner_of (set nodes node stream) node ≡ stream
winner_here nodes node stream inside =
    let len = length-set nodes node stream in winner_node (set nodes node stream) node (omega arith) ∙ get_or-set_same nodes node stream 0 inside

-- ---- the winners

-- what stands while the matches from `node` on have been played
pub record IsPlaying (keys nodes : List ℕ) (streams node : ℕ) : Type 0 where
  pub nodes_len : length nodes ≡ length keys
  pub below : AreBelow nodes (length keys)
  pub within : node ≤ length keys
  pub won : AreWon keys streams nodes node

won_else : (keys nodes : List ℕ) (streams node stream j : ℕ) → node < j → IsWon keys streams (winner_of nodes (2 * j)) (winner_of nodes (2 * j + 1)) (winner_of nodes j) →
    IsWon keys streams (winner_of (set nodes node stream) (2 * j)) (winner_of (set nodes node stream) (2 * j + 1)) (winner_of (set nodes node stream) j)
won_else keys nodes streams node stream j behind is =
    subst (λ n. IsWon keys streams n (winner_of (set nodes node stream) (2 * j + 1)) (winner_of (set nodes node stream) j)) (sym (winner_else nodes node stream (2 * j) (omega arith)))
    (subst (λ n. IsWon keys streams (winner_of nodes (2 * j)) n (winner_of (set nodes node stream) j)) (sym (winner_else nodes node stream (2 * j + 1) (omega arith)))
    (subst (λ n. IsWon keys streams (winner_of nodes (2 * j)) (winner_of nodes (2 * j + 1)) n) (sym (winner_else nodes node stream j (omega arith))) is))

won_here : (keys nodes : List ℕ) (streams node stream j : ℕ) → node ≡ j → 1 ≤ j → node < length nodes →
    IsWon keys streams (winner_of nodes (2 * node)) (winner_of nodes (2 * node + 1)) stream →
    IsWon keys streams (winner_of (set nodes node stream) (2 * j)) (winner_of (set nodes node stream) (2 * j + 1)) (winner_of (set nodes node stream) j)
won_here keys nodes streams node stream j same some inside is =
    subst (λ n. IsWon keys streams (winner_of (set nodes node stream) (2 * n)) (winner_of (set nodes node stream) (2 * n + 1)) (winner_of (set nodes node stream) n)) same
    (subst (λ n. IsWon keys streams n (winner_of (set nodes node stream) (2 * node + 1)) (winner_of (set nodes node stream) node))
    (sym (winner_else nodes node stream (2 * node) (omega arith)))
    (subst (λ n. IsWon keys streams (winner_of nodes (2 * node)) n (winner_of (set nodes node stream) node)) (sym (winner_else nodes node stream (2 * node + 1) (omega arith)))
    (subst (λ n. IsWon keys streams (winner_of nodes (2 * node)) (winner_of nodes (2 * node + 1)) n) (sym (winner_here nodes node stream inside)) is)))

won_below : (keys : List ℕ) (streams one other winner leaves : ℕ) → IsWon keys streams one other winner → one < leaves → other < leaves → winner < leaves
won_below keys streams one other winner leaves is one_low other_low = elim is.which [ inl same ↦ omega arith | inr same ↦ omega arith ]

pub play_goes_on : (keys nodes : List ℕ) (streams before node one other stream : ℕ) → IsPlaying keys nodes streams before → 1 < before → node ≡ before - 1 →
    one ≡ winner_of nodes (2 * node) → other ≡ winner_of nodes (2 * node + 1) → IsWon keys streams one other stream → IsPlaying keys (set nodes node stream) streams node
play_goes_on keys nodes streams before node one other stream is more next one_is other_is wins =
    let len : length nodes ≡ length keys = is.nodes_len in
    let within : before ≤ length keys = is.within in
    let won : IsWon keys streams (winner_of nodes (2 * node)) (winner_of nodes (2 * node + 1)) stream =
    subst (λ n. IsWon keys streams n (winner_of nodes (2 * node + 1)) stream) one_is (subst (λ n. IsWon keys streams one n stream) other_is wins) in
    let one_low = winner_below nodes (length keys) (2 * node) len is.below (omega arith) in
    let other_low = winner_below nodes (length keys) (2 * node + 1) len is.below (omega arith) in record {
      nodes_len = length-set nodes node stream ∙ len;
      below = below_set nodes (length keys) node stream len is.below
          (won_below keys streams (winner_of nodes (2 * node)) (winner_of nodes (2 * node + 1)) stream (length keys) won one_low other_low);
      within = omega arith;
      won = λ j some behind low. elim (cases_eq node j) [
        | inl same ↦ won_here keys nodes streams node stream j same some (omega arith) won
        | inr ne ↦ won_else keys nodes streams node stream j (omega arith) (is.won j some (omega arith) low)
      ];
    }

-- ---- the losers

-- what stands while the nodes before `node` hold losers, and the others winners still
pub record IsLosing (old nodes : List ℕ) (node : ℕ) : Type 0 where
  pub some : 1 ≤ node
  pub nodes_len : length nodes ≡ length old
  pub below : AreBelow nodes (length old)
  pub lost : (j : ℕ) → 1 ≤ j → j < node → j < length old → ArePair (winner_of old (2 * j)) (winner_of old (2 * j + 1)) (winner_of old j) (number_at nodes j)
  pub ahead : (j : ℕ) → node ≤ j → number_at nodes j ≡ number_at old j

-- the places from `node` on hold winners still
child : (old nodes : List ℕ) (node place : ℕ) → IsLosing old nodes node → node ≤ place → winner_of nodes place ≡ winner_of old place
child old nodes node place is behind = winner_agrees old nodes place is.nodes_len (is.ahead place behind)

stands_here : (old nodes : List ℕ) (node : ℕ) → IsLosing old nodes node → node < length old → number_at nodes node ≡ winner_of old node
stands_here old nodes node is low = is.ahead node (omega arith) ∙ sym (winner_node old node low)

pub one_has_won : (old nodes : List ℕ) (node one other winner : ℕ) → IsLosing old nodes node → node < length old →
    ((j : ℕ) → 1 ≤ j → j < length old → (winner_of old j ≡ winner_of old (2 * j)) ⊎ (winner_of old j ≡ winner_of old (2 * j + 1))) →
    one ≡ winner_of nodes (2 * node) → other ≡ winner_of nodes (2 * node + 1) → winner ≡ number_at nodes node → (winner ≡ one) ⊎ (winner ≡ other)
one_has_won old nodes node one other winner is low won one_is other_is winner_is = elim (won node is.some low) [
  | inl same ↦ inl (winner_is ∙ (stands_here old nodes node is low ∙ (same ∙ (sym (child old nodes node (2 * node) is (omega arith)) ∙ sym one_is))))
  | inr same ↦ inr (winner_is ∙ (stands_here old nodes node is low ∙ (same ∙ (sym (child old nodes node (2 * node + 1) is (omega arith)) ∙ sym other_is))))
]

pub losing_goes_on : (old nodes : List ℕ) (node one other winner loser : ℕ) → IsLosing old nodes node → node < length old →
    one ≡ winner_of nodes (2 * node) → other ≡ winner_of nodes (2 * node + 1) → winner ≡ number_at nodes node → ArePair one other winner loser →
    IsLosing old (set nodes node loser) (node + 1)
losing_goes_on old nodes node one other winner loser is low one_is other_is winner_is pair =
    let len : length nodes ≡ length old = is.nodes_len in let inside : node < length nodes = omega arith in let some : 1 ≤ node = is.some in
    let here : winner ≡ winner_of old node = winner_is ∙ stands_here old nodes node is low in
    let left : one ≡ winner_of old (2 * node) = one_is ∙ child old nodes node (2 * node) is (omega arith) in
    let right : other ≡ winner_of old (2 * node + 1) = other_is ∙ child old nodes node (2 * node + 1) is (omega arith) in
    let left_low = winner_below nodes (length old) (2 * node) len is.below (omega arith) in
    let right_low = winner_below nodes (length old) (2 * node + 1) len is.below (omega arith) in record {
      some = omega arith;
      nodes_len = length-set nodes node loser ∙ len;
      below = below_set nodes (length old) node loser len is.below (elim pair [
        | inl lost ↦ let same = lost.1 in omega arith
        | inr lost ↦ let same = lost.1 in omega arith
      ]);
      lost = λ j j_some before j_low. elim (cases_eq j node) [
        | inl same ↦ subst (λ n. ArePair (winner_of old (2 * n)) (winner_of old (2 * n + 1)) (winner_of old n) (number_at (set nodes node loser) n)) (sym same)
            (subst (λ n. ArePair (winner_of old (2 * node)) (winner_of old (2 * node + 1)) (winner_of old node) n) (sym (get_or-set_same nodes node loser 0 inside))
            (subst (λ n. ArePair n (winner_of old (2 * node + 1)) (winner_of old node) loser) left
            (subst (λ n. ArePair one n (winner_of old node) loser) right (subst (λ n. ArePair one other n loser) here pair))))
        | inr ne ↦ subst (λ n. ArePair (winner_of old (2 * j)) (winner_of old (2 * j + 1)) (winner_of old j) n) (sym (get_or-set_other nodes node j loser 0 ne))
            (is.lost j j_some (omega arith) j_low)
      ];
      ahead = λ j behind. get_or-set_other nodes node j loser 0 (omega arith) ∙ is.ahead j (omega arith);
    }

-- ---- both

pub one_won : (keys won : List ℕ) (streams : ℕ) → length won ≡ length keys → AreWon keys streams won 0 → (j : ℕ) → 1 ≤ j → j < length won →
    (winner_of won j ≡ winner_of won (2 * j)) ⊎ (winner_of won j ≡ winner_of won (2 * j + 1))
one_won keys won streams len are j some low = (are j some (omega arith) (omega arith)).which

pub begins_played : (keys won nodes : List ℕ) (streams leaves : ℕ) → leaves ≡ length keys → length won ≡ length keys → AreWon keys streams won 0 →
    ((j : ℕ) → 1 ≤ j → j < length won → ArePair (winner_of won (2 * j)) (winner_of won (2 * j + 1)) (winner_of won j) (number_at nodes j)) →
    IsPlayed keys nodes leaves (winner_of won 1)
begins_played keys won nodes streams leaves all len are lost = record {
  winner = winner_of won;
  leaf = λ k low. winner_leaf won (leaves + k) (omega arith) ∙ omega arith;
  played = λ j some low. let is = are j some (omega arith) (omega arith) in let pair = lost j some (omega arith) in record {
    which = pair;
    order = elim pair [
      | inl one ↦ subst (λ n. number_at keys (winner_of won j) ≤ number_at keys n) (sym one.1) is.second
      | inr other ↦ subst (λ n. number_at keys (winner_of won j) ≤ number_at keys n) (sym other.1) is.first
    ];
  };
  last = refl;
}

-- the winner has a stream, since the first leaf has one
pub begins_present : (keys won : List ℕ) (streams : ℕ) → 1 ≤ streams → streams ≤ length keys → length won ≡ length keys → AreWon keys streams won 0 → winner_of won 1 < streams
begins_present keys won streams some enough len are = elim (cases_lt (winner_of won 1) streams) [
  | inl low ↦ low
  | inr high ↦ absurd (let none : streams ≤ 0 = over_leaves (λ a b. streams ≤ a → streams ≤ b) (λ a is. is) (λ a b c first second is. second (first is)) (length keys) (winner_of won)
      (λ j j_some low. let is = are j j_some (omega arith) low in ((λ high. (is.absent high).0), (λ high. (is.absent high).1)))
      (λ k low. winner_leaf won (length keys + k) (omega arith) ∙ omega arith) 0 (omega arith) high in omega arith)
]
