-- What stands between the calls of a tree.
use Rattle.std.proofs.Common.{◌≡◌, ℕ, zero, suc, ◌+◌, ◌<◌, ◌≤◌, ◌⊎◌, inl, inr, List, [], ◌∷◌, ◌++◌, length, take, drop, set, refl, sym, ap, ◌∙◌, arith, subst, get_or-set_other, length-set}
use Rattle.std.proofs.{lemmas.Bool.cases_lt, lemmas.List.{get_or-take, length-take-le, take_at}}
use Rattle.lert_merge.specs.{tree.Race.{Race, IsLeast, number_at, greatest}, tree.Matches.{AreBelow, IsPlayed, IsTree}}
use Rattle.lert_merge.proofs.tree.OrderLemmas.{first_least}

-- what a slice of a vector's items is given goes back into the vector
pub take_back : (lent old : List ℕ) (n : ℕ) → length lent ≡ n → take n (lent ++ drop (length lent) old) ≡ lent
take_back lent old n long = take_at lent (drop (length lent) old) n long

take-set_lt : (n : ℕ) (xs : List ℕ) (i y : ℕ) → i < n → take n (set xs i y) ≡ set (take n xs) i y
take-set_lt zero xs i y low = absurd (omega arith)
take-set_lt (suc n) [] i y low = refl
take-set_lt (suc n) (x ∷ xs) zero y low = refl
take-set_lt (suc n) (x ∷ xs) (suc i) y low = ap (λ (ys : List ℕ). x ∷ ys) (take-set_lt n xs i y (omega arith))

pub new_kept : (keys nodes : List ℕ) (room keys_room nodes_room : ℕ) → keys ≡ [] → nodes ≡ [] → room + room ≤ keys_room → room + room ≤ nodes_room →
    IsTree keys nodes 0 0 room keys_room nodes_room
new_kept keys nodes room keys_room nodes_room no_keys no_nodes keys_reserved nodes_reserved =
    let none : length keys ≡ 0 = ap length no_keys in let no_node : length nodes ≡ 0 = ap length no_nodes in record {
      nodes_len = omega arith;
      few = omega arith;
      enough = omega arith;
      below = λ j low. absurd (omega arith);
      absent = λ k high low. absurd (omega arith);
      played = record { winner = λ place. 0; leaf = λ k low. absurd (omega arith); played = λ j some low. absurd (omega arith); last = refl };
      present = λ some. absurd (omega arith);
      in_room = omega arith;
      keys_reserved = keys_reserved;
      nodes_reserved = nodes_reserved;
    }

-- where a tree's view has keys, the tree has streams
some_streams : (race : Race) (keys : List ℕ) (streams first room : ℕ) → record { keys = take streams keys; room = room; first = first } ≡ race → streams ≤ length keys →
    1 ≤ length race.keys → 1 ≤ streams
some_streams race keys streams first room view enough some =
    let same : length (take streams keys) ≡ length race.keys = ap (λ (r : Race). length r.keys) view in
    let long : length (take streams keys) ≡ streams = length-take-le streams keys enough in omega arith

pub first_is_least : (race : Race) (keys nodes : List ℕ) (streams first room keys_room nodes_room : ℕ) → IsTree keys nodes streams first room keys_room nodes_room →
    record { keys = take streams keys; room = room; first = first } ≡ race → 1 ≤ length race.keys → IsLeast race.keys first
first_is_least race keys nodes streams first room keys_room nodes_room is view some =
    let enough : streams ≤ length keys = is.enough in
    let low : first < streams = is.present (some_streams race keys streams first room view enough some) in
    let long : length (take streams keys) ≡ streams = length-take-le streams keys enough in
    subst (λ (r : Race). IsLeast r.keys first) view (record {
      within = omega arith;
      least = λ k within.
          let own : number_at (take streams keys) first ≡ number_at keys first = get_or-take streams keys first 0 low in
          let its : number_at (take streams keys) k ≡ number_at keys k = get_or-take streams keys k 0 (omega arith) in
          let least = first_least keys nodes (length keys) first is.played k (omega arith) in omega arith;
    })

replaced : (keys nodes new_keys new_nodes : List ℕ) (streams first key now room keys_room nodes_room : ℕ) → IsTree keys nodes streams first room keys_room nodes_room → 1 ≤ streams →
    new_keys ≡ set keys first key → length new_nodes ≡ length keys → AreBelow new_nodes (length keys) → IsPlayed new_keys new_nodes (length keys) now → now < length keys →
    (now ≡ first) ⊎ (number_at new_keys now < greatest) → IsTree new_keys new_nodes streams now room keys_room nodes_room
replaced keys nodes new_keys new_nodes streams first key now room keys_room nodes_room is some new_is nodes_len below played within changed =
    let len : length keys ≡ length new_keys = sym (ap length new_is ∙ length-set keys first key) in
    let few : length keys ≤ 131072 = is.few in
    let enough : streams ≤ length keys = is.enough in
    let low : first < streams = is.present some in
    let absent = λ (k : ℕ) (high : streams ≤ k) (inside : k < length new_keys). let other : number_at new_keys k ≡ number_at keys k =
    ap (λ (ks : List ℕ). number_at ks k) new_is ∙ get_or-set_other keys first k key 0 (omega arith) in other ∙ is.absent k high (omega arith) in record {
      nodes_len = nodes_len ∙ len;
      few = omega arith;
      enough = omega arith;
      below = subst (AreBelow new_nodes) len below;
      absent = absent;
      played = subst (λ n. IsPlayed new_keys new_nodes n now) len played;
      present = λ again. elim changed [
        | inl same ↦ omega arith
        | inr less ↦ elim (cases_lt now streams) [ inl under ↦ under | inr high ↦ absurd (let greater = absent now high (omega arith) in omega arith) ]
      ];
      in_room = is.in_room;
      keys_reserved = is.keys_reserved;
      nodes_reserved = is.nodes_reserved;
    }

pub replaced_kept : (race : Race) (keys nodes lent back_keys back_nodes new_keys new_nodes : List ℕ) (streams first key now room keys_room nodes_room : ℕ) →
    IsTree keys nodes streams first room keys_room nodes_room → record { keys = take streams keys; room = room; first = first } ≡ race → 1 ≤ length race.keys →
    lent ≡ keys → back_keys ≡ new_keys → back_nodes ≡ new_nodes → new_keys ≡ set lent first key → length new_nodes ≡ length lent → AreBelow new_nodes (length lent) →
    IsPlayed new_keys new_nodes (length lent) now → now < length lent → (now ≡ first) ⊎ (number_at new_keys now < greatest) →
    IsTree back_keys back_nodes streams now room keys_room nodes_room
replaced_kept race keys nodes lent back_keys back_nodes new_keys new_nodes streams first key now room keys_room nodes_room is view some
    lent_is back_keys_is back_nodes_is new_is nodes_len below played within changed =
    subst (λ (ks : List ℕ). IsTree ks back_nodes streams now room keys_room nodes_room) (sym back_keys_is)
    (subst (λ (ns : List ℕ). IsTree new_keys ns streams now room keys_room nodes_room) (sym back_nodes_is)
    (replaced keys nodes new_keys new_nodes streams first key now room keys_room nodes_room is (some_streams race keys streams first room view is.enough some)
    (new_is ∙ ap (λ (ks : List ℕ). set ks first key) lent_is) (nodes_len ∙ ap length lent_is) (subst (λ (ks : List ℕ). AreBelow new_nodes (length ks)) lent_is below)
    (subst (λ (ks : List ℕ). IsPlayed new_keys new_nodes (length ks) now) lent_is played) (subst (λ (ks : List ℕ). now < length ks) lent_is within) changed))

pub replaced_keys : (race : Race) (keys nodes lent back new : List ℕ) (streams first key room keys_room nodes_room : ℕ) → IsTree keys nodes streams first room keys_room nodes_room →
    record { keys = take streams keys; room = room; first = first } ≡ race → 1 ≤ length race.keys → lent ≡ keys → back ≡ new → new ≡ set lent first key →
    take streams back ≡ set race.keys race.first key
replaced_keys race keys nodes lent back new streams first key room keys_room nodes_room is view some lent_is back_is new_is =
    ap (take streams) (back_is ∙ (new_is ∙ ap (λ (ks : List ℕ). set ks first key) lent_is))
    ∙ (take-set_lt streams keys first key (is.present (some_streams race keys streams first room view is.enough some)) ∙ ap (λ (r : Race). set r.keys r.first key) view)
