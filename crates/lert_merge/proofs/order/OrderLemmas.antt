-- What stands between the calls of an order, after one stream was asked.
use Rattle.std.proofs.Common.{◌≡◌, ◌≢◌, ℕ, ◌+◌, ◌<◌, ◌≤◌, ◌^◌, Option, Some, None, All, true, List, [], ◌∷◌, ◌++◌, length, arith, sym, ap, ◌∙◌, refl}
use Rattle.std.proofs.Common.{subst, inl, inr, length-append, option_to_list, append-nil}
use Rattle.std.proofs.Math.Seq.{get_or-append_seam}
use Rattle.std.proofs.lemmas.Bool.{cases_eq}
use Rattle.lert_spec.specs.declared.piece.Piece.{Piece}
use Rattle.lert_spec.specs.Table.{AreGiven, AscendsFrom}
use Rattle.lert_merge.specs.tree.Race.{number_at, greatest}
use Rattle.lert_merge.specs.order.Fronts.{Fronts, tail_in, count_in, IsPut}
use Rattle.lert_merge.specs.order.Ordering.{Ordering, HasTaken, IsOrdering, IsSeated, IsAhead, IsNotBelow}
use Rattle.lert_merge.specs.order.Untouched.{IsUntouched}
use Rattle.lert_merge.specs.declared.order.streams.Streams.{Ghosts as StreamsOf}
use Rattle.lert_merge.proofs.order.FrontLemmas.{pieces_some, pieces_none}
use Rattle.lert_merge.proofs.order.AskLemmas.{each_number, IsAsked, IsRefused, IsCalled}

-- a list that ends a table
pub ends_table : (least limit : ℕ) (front : List Piece) (p : Piece) (rest : List Piece) → AscendsFrom least limit ((front ++ p ∷ []) ++ rest) →
    (p.tail < limit) × (1 ≤ p.count) × AscendsFrom (p.tail + 1) limit rest
ends_table least limit [] p rest up = (up.1, up.2, up.3)
ends_table least limit (x ∷ front) p rest up = ends_table (x.tail + 1) limit front p rest up.3

pub ends_one : (limit : ℕ) (front : List Piece) (p : Piece) → AscendsFrom 0 limit (front ++ p ∷ []) → (p.tail < limit) × (1 ≤ p.count)
ends_one limit front p up = let e = ends_table 0 limit front p [] (subst (AscendsFrom 0 limit) (sym (append-nil (front ++ p ∷ []))) up) in (e.0, e.1)

pub small_last : (front : List Piece) (p : Piece) → All (λ piece. piece.count ≤ 2 ^ 47) (front ++ p ∷ []) → p.count ≤ 2 ^ 47
small_last front p all = let at = all (length front) p (let e : length (front ++ p ∷ []) ≡ length front + 1 = length-append front (p ∷ []) in omega arith) in
    subst (λ (q : Piece). q.count ≤ 2 ^ 47) (get_or-append_seam front p [] p) at

-- what a stream answered is a piece of its table
pub counted_in : (limit : ℕ) (before pieces : List Piece) (next : Option Piece) → pieces ≡ before ++ option_to_list next → AreGiven limit pieces →
    (p : Piece) → next ≡ Some p → 1 ≤ p.count
counted_in limit before pieces None is are p at = absurd (cc)
counted_in limit before pieces (Some q) is are p at =
    let here : 1 ≤ q.count = (ends_one limit before q (subst (AscendsFrom 0 limit) is are.table)).1 in subst (λ (x : Piece). 1 ≤ x.count) (let e : q ≡ p = cc in e) here

-- a piece behind another has a greater tail
pub ascends_last : (least limit : ℕ) (front : List Piece) (p q : Piece) → AscendsFrom least limit ((front ++ p ∷ []) ++ q ∷ []) → p.tail < q.tail
ascends_last least limit [] p q up = let next : p.tail + 1 ≤ q.tail = up.3.0 in omega arith
ascends_last least limit (x ∷ front) p q up = ascends_last (x.tail + 1) limit front p q up.3

-- the answer behind a piece that was read ahead
pub next_above : (limit : ℕ) (before pieces : List Piece) (last : Option ℕ) (piece : Piece) (next : Option Piece) → IsAhead limit before last piece →
    pieces ≡ before ++ option_to_list next → AreGiven limit pieces → (p : Piece) → next ≡ Some p → piece.tail < p.tail
next_above limit before pieces last piece None ahead is are p at = absurd (cc)
next_above limit before pieces last piece (Some q) ahead is are p at =
    let shape : pieces ≡ (ahead.front ++ piece ∷ []) ++ q ∷ [] = is ∙ ap (λ xs. xs ++ q ∷ []) ahead.is in
    let up : piece.tail < q.tail = ascends_last 0 limit ahead.front piece q (subst (AscendsFrom 0 limit) shape are.table) in
    subst (λ (x : Piece). piece.tail < x.tail) (let e : q ≡ p = cc in e) up

-- what stands of a stream that wasn't asked
seated_other : {S C : Type 0} (members : StreamsOf S C) (old new : S) (last : Option ℕ) (k tail count : ℕ) →
    IsUntouched members.to_come members.given members.limit members.breaks old new k → IsSeated (members.limit old k) (members.given old k) last tail count →
    IsSeated (members.limit new k) (members.given new k) last tail count
seated_other members old new last k tail count same is = subst (λ n. IsSeated n (members.given new k) last tail count) (sym same.limits)
    (subst (λ xs. IsSeated (members.limit old k) xs last tail count) (sym same.pieces) is)

-- a stream that refused keeps what stands
pub refused_stands : {S C : Type 0} (members : StreamsOf S C) (a b : C) (before after : Ordering S) (i : ℕ) → IsOrdering members before → i < members.count before.streams →
    IsCalled members i a before.streams b after.streams → IsRefused members i a before.streams b after.streams → after.ahead ≡ before.ahead → after.last ≡ before.last →
    IsOrdering members after
refused_stands {S} members a b before after i is within called refused ahead last =
    let long : members.count after.streams ≡ members.count before.streams = called.counts in
    let few : members.count before.streams ≤ 65535 = is.few in let room : members.count before.streams ≤ before.ahead.room = is.room in
    let read : length before.ahead.counts ≤ members.count before.streams = is.within in
    let moved : IsOrdering members (record { streams = after.streams; ahead = before.ahead; last = before.last }) = record {
      few = omega arith;
      room = omega arith;
      len = is.len;
      within = omega arith;
      begun = λ begun. is.begun begun ∙ sym long;
      unread = λ less. is.unread (omega arith);
      ended = is.ended;
      seated = λ k under. each_number (λ k. k < members.count before.streams → IsSeated (members.limit after.streams k) (members.given after.streams k)
          before.last (number_at before.ahead.tails k) (number_at before.ahead.counts k)) i
          (λ below. subst (λ n. IsSeated n (members.given after.streams i) before.last (number_at before.ahead.tails i) (number_at before.ahead.counts i)) (sym refused.limits)
          (subst (λ xs. IsSeated (members.limit before.streams i) xs before.last (number_at before.ahead.tails i) (number_at before.ahead.counts i)) (sym refused.gave) (is.seated i below)))
          (λ k ne below. seated_other members before.streams after.streams before.last k (number_at before.ahead.tails k) (number_at before.ahead.counts k) (called.others k ne) (is.seated k below))
          k (omega arith);
    } in subst (IsOrdering members) (λ j. record { streams = after.streams; ahead = sym ahead j; last = sym last j }) moved

-- a stream's answer is seated
seated_next : (limit : ℕ) (before pieces : List Piece) (later : Option ℕ) (next : Option Piece) → pieces ≡ before ++ option_to_list next → AreGiven limit pieces →
    ((p : Piece) → next ≡ Some p → IsNotBelow later p.tail) → IsSeated limit pieces later (tail_in next) (count_in next)
seated_next limit before pieces later None is are above some = absurd (omega arith)
seated_next limit before pieces later (Some p) is are above some = record { given = are; front = before; is = is; above = above p refl }

last_next : (next : Option Piece) → ((p : Piece) → next ≡ Some p → 1 ≤ p.count) → count_in next ≡ 0 → tail_in next ≡ greatest
last_next None some none = refl
last_next (Some p) some none = let one : 1 ≤ p.count = some p refl in absurd (omega arith)

-- a stream's answer is put down, and what was given last is no greater than what was read ahead
pub asked_stands : {S C : Type 0} (members : StreamsOf S C) (a b : C) (before after : Ordering S) (i : ℕ) (next : Option Piece) →
    IsOrdering members before → i < members.count before.streams → IsPut before.ahead after.ahead i next →
    IsCalled members i a before.streams b after.streams → IsAsked members i a before.streams b after.streams next →
    length after.ahead.counts ≤ members.count before.streams → (after.ahead.is_begun ≡ true → length after.ahead.counts ≡ members.count before.streams) →
    (length after.ahead.counts < members.count before.streams → after.last ≡ None) →
    ((k : ℕ) → k < members.count before.streams → k ≢ i → 1 ≤ number_at before.ahead.counts k → IsNotBelow after.last (number_at before.ahead.tails k)) →
    ((p : Piece) → next ≡ Some p → IsNotBelow after.last p.tail) → IsOrdering members after
asked_stands members a b before after i next is within put called asked read begun unread others above =
    let long : members.count after.streams ≡ members.count before.streams = called.counts in
    let few : members.count before.streams ≤ 65535 = is.few in let room : members.count before.streams ≤ before.ahead.room = is.room in
    let same_room : after.ahead.room ≡ before.ahead.room = put.room in
    let counted : (p : Piece) → next ≡ Some p → 1 ≤ p.count =
    counted_in (members.limit after.streams i) (members.given before.streams i) (members.given after.streams i) next asked.gave asked.are in record {
      few = omega arith;
      room = omega arith;
      len = put.len;
      within = omega arith;
      begun = λ is. begun is ∙ sym long;
      unread = λ less. unread (omega arith);
      ended = each_number (λ k. k < length after.ahead.counts → number_at after.ahead.counts k ≡ 0 → number_at after.ahead.tails k ≡ greatest) i
          (λ under none. put.tail ∙ last_next next counted (sym put.count ∙ none))
          (λ k ne under none. put.tails k ne ∙ is.ended k ((put.read k ne).0 under) (sym (put.counts k ne) ∙ none));
      seated = λ k under. each_number (λ k. k < members.count before.streams → IsSeated (members.limit after.streams k) (members.given after.streams k) after.last
          (number_at after.ahead.tails k) (number_at after.ahead.counts k)) i
          (λ below. subst (λ n. IsSeated (members.limit after.streams i) (members.given after.streams i) after.last n (number_at after.ahead.counts i)) (sym put.tail)
          (subst (λ n. IsSeated (members.limit after.streams i) (members.given after.streams i) after.last (tail_in next) n) (sym put.count)
          (seated_next (members.limit after.streams i) (members.given before.streams i) (members.given after.streams i) after.last next asked.gave asked.are above)))
          (λ k ne below. seated_other members before.streams after.streams after.last k (number_at after.ahead.tails k) (number_at after.ahead.counts k) (called.others k ne)
          (subst (λ n. IsSeated (members.limit before.streams k) (members.given before.streams k) after.last n (number_at after.ahead.counts k)) (sym (put.tails k ne))
          (subst (λ n. IsSeated (members.limit before.streams k) (members.given before.streams k) after.last (number_at before.ahead.tails k) n) (sym (put.counts k ne))
          (λ some. let ahead = is.seated k below some in record { given = ahead.given; front = ahead.front; is = ahead.is; above = others k below ne some }))))
          k (omega arith);
    }

-- the tree knows all tails: nothing else has changed
pub started_stands : {S C : Type 0} (members : StreamsOf S C) (streams : S) (ahead : Fronts) (last : Option ℕ) (after : Fronts) →
    IsOrdering members (record { streams = streams; ahead = ahead; last = last }) → length ahead.counts ≡ members.count streams → after.tails ≡ ahead.tails →
    after.counts ≡ ahead.counts → after.room ≡ ahead.room → IsOrdering members (record { streams = streams; ahead = after; last = last })
started_stands members streams ahead last after is read tails counts room =
    let long : length after.counts ≡ length ahead.counts = ap length counts in let as_many : length after.tails ≡ length ahead.tails = ap length tails in
    let both : length ahead.tails ≡ length ahead.counts = is.len in let enough : members.count streams ≤ ahead.room = is.room in
    let same : after.room ≡ ahead.room = room in record {
      few = is.few;
      room = omega arith;
      len = omega arith;
      within = omega arith;
      begun = λ begun. long ∙ read;
      unread = λ less. absurd (omega arith);
      ended = λ k under none. ap (λ xs. number_at xs k) tails ∙ is.ended k (omega arith) (sym (ap (λ xs. number_at xs k) counts) ∙ none);
      seated = λ k under. subst (λ ts. IsSeated (members.limit streams k) (members.given streams k) last (number_at ts k) (number_at after.counts k)) (sym tails)
          (subst (λ cs. IsSeated (members.limit streams k) (members.given streams k) last (number_at ahead.tails k) (number_at cs k)) (sym counts) (is.seated k under));
    }

-- of each stream some pieces were given, if none then the empty list
pub held_each : {S C : Type 0} (members : StreamsOf S C) (before seen : Ordering S) → before ≡ seen → IsOrdering members before → (k : ℕ) → k < members.count seen.streams →
    (pieces : List Piece) × HasTaken members seen k pieces
held_each {S} members before seen same is = subst (λ (m : Ordering S). (k : ℕ) → k < members.count m.streams → (pieces : List Piece) × HasTaken members m k pieces) same
    (λ k under. elim (cases_eq (number_at before.ahead.counts k) 0) [
      | inl none ↦ (
        members.given before.streams k,
        sym (ap (λ xs. members.given before.streams k ++ xs) (pieces_none (number_at before.ahead.tails k) (number_at before.ahead.counts k) none)
            ∙ append-nil (members.given before.streams k)),
      )
      | inr ne ↦ let some : 1 ≤ number_at before.ahead.counts k = omega arith in let ahead = is.seated k under some in (
        ahead.front,
        ahead.is ∙ ap (λ xs. ahead.front ++ xs) (sym (pieces_some (number_at before.ahead.tails k) (number_at before.ahead.counts k) some)),
      )
    ])
