-- A walk over the groups of a run text.
use Rattle.std.proofs.Common.{◌≡◌, ℕ, ◌+◌, ◌-◌, ◌<◌, ◌≤◌, ◌≢◌, List, [], ◌∷◌, ◌++◌, length, take, drop, refl, sym, ap, ◌∙◌, arith, length-append, append_assoc}
use Rattle.std.proofs.lemmas.List.{append-nil, drop_at, take_rest}
use Rattle.lert_counter.specs.{Group.{group, IsCount}, Reading.Follows}
use Rattle.lert_counter.proofs.GroupLemmas.{length_group-positive}
use Rattle.lert_runs.specs.{RunText.{run_text, RemaindersAscend, IsTextOf, count_in, pairs_below}, Place.IsPlaceOf, declared.place.Place.Place}
use Rattle.lert_runs.proofs.RunLemmas.{run_text-append, run_follows, count_in-below, count_in-here, count_in-later, pairs_below-more, pairs_below-none, group_in-there, group_in-absent}

-- the walk stands behind the pairs `done` and before the pairs `rest`
pub record Stands (width at : ℕ) (run : List ℕ) (ps : List (ℕ × ℕ)) : Type 0 where
  pub done : List (ℕ × ℕ)
  pub rest : List (ℕ × ℕ)
  pub split : ps ≡ done ++ rest
  pub text : run ≡ run_text width done ++ run_text width rest
  pub place : at ≡ length (run_text width done)
  pub least : ℕ
  pub ascend : RemaindersAscend least rest

abbrev pub stands_first : (width : ℕ) (run : List ℕ) (ps : List (ℕ × ℕ)) → IsTextOf width run ps → Stands width 0 run ps
stands_first width run ps h = record { done = []; rest = ps; split = refl; text = h.text; place = refl; least = 0; ascend = h.ascend }

-- the group that a walk stands before
pub record Next (width at least : ℕ) (run : List ℕ) (rest : List (ℕ × ℕ)) : Type 0 where
  pub pair : ℕ × ℕ
  pub back : List (ℕ × ℕ)
  pub is : rest ≡ pair ∷ back
  pub from : least ≤ pair.0
  pub counts : IsCount pair.1
  pub slots : take (length run - at) (drop at run) ≡ group width pair.0 pair.1 ++ run_text width back
  pub follows : Follows pair.0 (run_text width back)
  pub ascend : RemaindersAscend (pair.0 + 1) back
  pub some : 0 < length (group width pair.0 pair.1)
  pub within : at + length (group width pair.0 pair.1) ≤ length run

next_of : (width at least : ℕ) (run : List ℕ) (done rest : List (ℕ × ℕ)) → run ≡ run_text width done ++ run_text width rest → at ≡ length (run_text width done)
    → RemaindersAscend least rest → at < length run → Next width at least run rest
next_of width at least run done [] text place ascend more =
    absurd (omega (arith, ap (λ (t : List ℕ). length t) text, length-append (run_text width done) []))
next_of width at least run done (p ∷ ps) text place ascend more = record {
  pair = p;
  back = ps;
  is = refl;
  from = ascend.0;
  counts = ascend.1;
  slots = take_rest run at ∙ ap (λ (t : List ℕ). drop at t) text ∙ drop_at (run_text width done) (run_text width (p ∷ ps)) at (sym place);
  follows = run_follows width p.0 ps ascend.2;
  ascend = ascend.2;
  some = length_group-positive width p.0 p.1 (ascend.1).0;
  within = omega (
    arith,
    ap (λ (t : List ℕ). length t) text,
    length-append (run_text width done) (group width p.0 p.1 ++ run_text width ps),
    length-append (group width p.0 p.1) (run_text width ps),
  );
}

pub next : (width at : ℕ) (run : List ℕ) (ps : List (ℕ × ℕ)) (s : Stands width at run ps) → at < length run → Next width at s.least run s.rest
next width at run ps s more = next_of width at s.least run s.done s.rest s.text s.place s.ascend more

-- past the group
abbrev pub stands_next : (width at : ℕ) (run : List ℕ) (ps : List (ℕ × ℕ)) (s : Stands width at run ps) (n : Next width at s.least run s.rest)
    → Stands width (at + length (group width (n.pair).0 (n.pair).1)) run ps
stands_next width at run ps s n = record {
  done = s.done ++ n.pair ∷ [];
  rest = n.back;
  split = s.split ∙ ap (λ (r : List (ℕ × ℕ)). s.done ++ r) n.is ∙ sym (append_assoc s.done (n.pair ∷ []) n.back);
  text = s.text ∙ ap (λ (r : List (ℕ × ℕ)). run_text width s.done ++ run_text width r) n.is
      ∙ sym (append_assoc (run_text width s.done) (group width (n.pair).0 (n.pair).1) (run_text width n.back))
      ∙ ap (λ (t : List ℕ). t ++ run_text width n.back) (sym (done_more width s.done n.pair));
  place = omega (arith, s.place, ap (λ (t : List ℕ). length t) (done_more width s.done n.pair), length-append (run_text width s.done) (group width (n.pair).0 (n.pair).1));
  least = (n.pair).0 + 1;
  ascend = n.ascend;
}
  where
    done_more : (width : ℕ) (done : List (ℕ × ℕ)) (p : ℕ × ℕ) → run_text width (done ++ p ∷ []) ≡ run_text width done ++ group width p.0 p.1
    done_more width done p = run_text-append width done (p ∷ []) ∙ ap (λ (t : List ℕ). run_text width done ++ t) (append-nil (group width p.0 p.1))

-- at the end nothing is left
pub stands_end : (width at : ℕ) (run : List ℕ) (ps : List (ℕ × ℕ)) (s : Stands width at run ps) → length run ≤ at → s.rest ≡ []
stands_end width at run ps s h = none_left width at s.least run s.done s.rest s.text s.place s.ascend h
  where
    none_left : (width at least : ℕ) (run : List ℕ) (done rest : List (ℕ × ℕ)) → run ≡ run_text width done ++ run_text width rest → at ≡ length (run_text width done)
        → RemaindersAscend least rest → length run ≤ at → rest ≡ []
    none_left width at least run done [] text place ascend h = refl
    none_left width at least run done (p ∷ ps) text place ascend h =
        absurd (let some = length_group-positive width p.0 p.1 (ascend.1).0 in
        omega (
          arith,
          ap (λ (t : List ℕ). length t) text,
          length-append (run_text width done) (group width p.0 p.1 ++ run_text width ps),
          length-append (group width p.0 p.1) (run_text width ps),
        ))

-- the walk has met only remainders below x
pub record Looks (width x at : ℕ) (run : List ℕ) (ps : List (ℕ × ℕ)) : Type 0 where
  pub stands : Stands width at run ps
  pub below : pairs_below ps x ≡ (stands.done) ++ pairs_below (stands.rest) x
  pub count : count_in ps x ≡ count_in (stands.rest) x

pub looks_next : (width x at : ℕ) (run : List ℕ) (ps : List (ℕ × ℕ)) (l : Looks width x at run ps) (n : Next width at (l.stands).least run (l.stands).rest) → (n.pair).0 < x
    → Looks width x (at + length (group width (n.pair).0 (n.pair).1)) run ps
looks_next width x at run ps l n less = record {
  stands = stands_next width at run ps l.stands n;
  below = l.below ∙ ap (λ (r : List (ℕ × ℕ)). (l.stands).done ++ r) (ap (λ (r : List (ℕ × ℕ)). pairs_below r x) n.is ∙ pairs_below-more n.pair n.back x less)
      ∙ sym (append_assoc (l.stands).done (n.pair ∷ []) (pairs_below n.back x));
  count = l.count ∙ ap (λ (r : List (ℕ × ℕ)). count_in r x) n.is ∙ count_in-later n.pair n.back x (omega arith);
}

-- what is found: the place, and the count there
pub found_place : (width x at : ℕ) (run : List ℕ) (ps : List (ℕ × ℕ)) (l : Looks width x at run ps) → pairs_below (l.stands).rest x ≡ [] →
    at ≡ length (run_text width (pairs_below ps x))
found_place width x at run ps l none =
    (l.stands).place ∙ ap (λ (r : List (ℕ × ℕ)). length (run_text width r)) (sym (l.below ∙ ap (λ (r : List (ℕ × ℕ)). (l.stands).done ++ r) none ∙ append-nil (l.stands).done))

-- at x itself
pub place_here : (width x at : ℕ) (run : List ℕ) (ps : List (ℕ × ℕ)) (l : Looks width x at run ps) (n : Next width at (l.stands).least run (l.stands).rest) (place : Place) →
    (n.pair).0 ≡ x
    → place.start ≡ at → place.used ≡ length (group width (n.pair).0 (n.pair).1) → place.count ≡ (n.pair).1 → IsPlaceOf width x ps place
place_here width x at run ps l n place h start used counts =
    let count : count_in ps x ≡ (n.pair).1 = l.count ∙ ap (λ (r : List (ℕ × ℕ)). count_in r x) n.is ∙ count_in-here n.pair n.back x h in
    record {
      start = start ∙ found_place width x at run ps l (ap (λ (r : List (ℕ × ℕ)). pairs_below r x) n.is ∙ pairs_below-none n.pair n.back x (omega arith));
      count = counts ∙ sym count;
      used = used ∙ rw (h, ← count) (ap (λ (t : List ℕ). length t) (sym (group_in-there width ps x (omega (arith, (n.counts).0)))));
    }

place_absent : (width x at : ℕ) (run : List ℕ) (ps : List (ℕ × ℕ)) (l : Looks width x at run ps) (place : Place) → pairs_below (l.stands).rest x ≡ [] →
    count_in (l.stands).rest x ≡ 0
    → place ≡ record { start = at; used = 0; count = 0 } → IsPlaceOf width x ps place
place_absent width x at run ps l place none absent is =
    let count : count_in ps x ≡ 0 = l.count ∙ absent in
    record {
      start = ap (λ (q : Place). q.start) is ∙ found_place width x at run ps l none;
      count = ap (λ (q : Place). q.count) is ∙ sym count;
      used = ap (λ (q : Place). q.used) is ∙ ap (λ (t : List ℕ). length t) (sym (group_in-absent width ps x count));
    }

-- before a greater remainder
pub place_before : (width x at : ℕ) (run : List ℕ) (ps : List (ℕ × ℕ)) (l : Looks width x at run ps) (n : Next width at (l.stands).least run (l.stands).rest) (place : Place) →
    x < (n.pair).0
    → place ≡ record { start = at; used = 0; count = 0 } → IsPlaceOf width x ps place
place_before width x at run ps l n place h =
    place_absent width x at run ps l place
    (ap (λ (r : List (ℕ × ℕ)). pairs_below r x) n.is ∙ pairs_below-none n.pair n.back x (omega arith))
    (ap (λ (r : List (ℕ × ℕ)). count_in r x) n.is ∙ count_in-later n.pair n.back x (omega arith) ∙ count_in-below ((n.pair).0 + 1) x n.back n.ascend (omega arith))

-- at the end
pub place_end : (width x at : ℕ) (run : List ℕ) (ps : List (ℕ × ℕ)) (l : Looks width x at run ps) (place : Place) → length run ≤ at
    → place ≡ record { start = at; used = 0; count = 0 } → IsPlaceOf width x ps place
place_end width x at run ps l place h =
    let none = stands_end width at run ps l.stands h in
    place_absent width x at run ps l place (ap (λ (r : List (ℕ × ℕ)). pairs_below r x) none) (ap (λ (r : List (ℕ × ℕ)). count_in r x) none)

-- a walk that stands at a given place
pub ascend_behind : (least : ℕ) (done rest : List (ℕ × ℕ)) → RemaindersAscend least (done ++ rest) → (m : ℕ) × RemaindersAscend m rest
ascend_behind least [] rest h = (least, h)
ascend_behind least (p ∷ done) rest h = ascend_behind (p.0 + 1) done rest h.2

abbrev pub stands_at : (width at : ℕ) (run : List ℕ) (done rest : List (ℕ × ℕ)) → IsTextOf width run (done ++ rest) → at ≡ length (run_text width done) →
    Stands width at run (done ++ rest)
stands_at width at run done rest h place = record {
  done = done;
  rest = rest;
  split = refl;
  text = h.text ∙ run_text-append width done rest;
  place = place;
  least = (ascend_behind 0 done rest h.ascend).0;
  ascend = (ascend_behind 0 done rest h.ascend).1;
}

-- a group stands before the end
pub no_room : (width at : ℕ) (run : List ℕ) (done : List (ℕ × ℕ)) (p : ℕ × ℕ) (rest : List (ℕ × ℕ)) → IsTextOf width run (done ++ p ∷ rest) →
    at ≡ length (run_text width done) → at ≢ length run
no_room width at run done p rest text place end =
    let some = length_group-positive width p.0 p.1 (count_positive 0 done p rest text.ascend) in
    omega (
      arith,
      ap (λ (t : List ℕ). length t) (text.text ∙ run_text-append width done (p ∷ rest)),
      length-append (run_text width done) (group width p.0 p.1 ++ run_text width rest),
      length-append (group width p.0 p.1) (run_text width rest),
    )
  where
    count_positive : (least : ℕ) (done : List (ℕ × ℕ)) (p : ℕ × ℕ) (rest : List (ℕ × ℕ)) → RemaindersAscend least (done ++ p ∷ rest) → 0 < p.1
    count_positive least [] p rest h = (h.1).0
    count_positive least (d ∷ done) p rest h = count_positive (d.0 + 1) done p rest h.2
