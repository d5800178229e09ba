-- What is to come of the streams, after one of them was asked.
use Rattle.std.proofs.Common.{◌≡◌, ◌≢◌, ℕ, ◌+◌, ◌<◌, ◌≤◌, Option, Some, None, List, [], ◌∷◌, ◌++◌, length, set, get_or, All, arith, sym, ap, ◌∙◌, refl}
use Rattle.std.proofs.Common.{subst, inl, inr, MatchOption, length-set, get_or-set_same, get_or-set_other}
use Rattle.std.proofs.lemmas.Bool.{cases_eq}
use Rattle.std.proofs.lemmas.List.Elements.{All-cons}
use Rattle.lert_spec.specs.declared.piece.Piece.{Piece}
use Rattle.lert_spec.specs.Table.{AreGiven, AscendsFrom}
use Rattle.lert_spec.proofs.Tables.{tail_at_least}
use Rattle.lert_merge.specs.tree.Race.{number_at}
use Rattle.lert_merge.specs.order.Fronts.{Fronts, front_at, count_in, IsPut, IsFront, AreAllLast}
use Rattle.lert_merge.specs.order.Ordering.{Ordering, AreRead, AreKnown, AreWhole, IsOrdering, IsSeated, IsAhead, IsToCome, Tells, AllTold, AreOver, IsNext}
use Rattle.lert_merge.specs.order.Untouched.{IsUntouched}
use Rattle.lert_merge.specs.declared.order.streams.Streams.{Ghosts as StreamsOf}
use Rattle.lert_merge.proofs.order.FrontLemmas.{pieces_some, pieces_none, put_here, put_else}
use Rattle.lert_merge.proofs.order.AskLemmas.{each_number, none_or, AreLawful, IsAsked, IsCalled, other_told, other_known}
use Rattle.lert_merge.proofs.order.OrderLemmas.{ends_table}

-- where a stream's pieces are told, its answer is the first of those behind what was read ahead
told_next : {S C : Type 0} (members : StreamsOf S C) (b : C) (new : S) (ahead after : Fronts) (i : ℕ) (next : Option Piece) (rest : List Piece) →
    IsPut ahead after i next → ((p : Piece) → next ≡ Some p → 1 ≤ p.count) →
    MatchOption next ((rest ≡ []) × (members.to_come new i b ≡ Some [])) (λ p. (more : List Piece) × (rest ≡ p ∷ more) × (members.to_come new i b ≡ Some more)) →
    IsToCome members b new after i rest
told_next members b new ahead after i None rest put some answer = record {
  rest = [];
  told = answer.1;
  is = answer.0 ∙ sym (ap (λ xs. xs ++ []) (put_here ahead after i None put some));
  ended = λ under none. refl;
}
told_next members b new ahead after i (Some p) rest put some answer = record {
  rest = answer.0;
  told = answer.2;
  is = answer.1 ∙ sym (ap (λ xs. xs ++ answer.0) (put_here ahead after i (Some p) put some));
  ended = λ under none. let one : 1 ≤ p.count = some p refl in let here : number_at after.counts i ≡ p.count = put.count in absurd (omega arith);
}

-- the pieces of a stream that wasn't asked
told_else : {S C : Type 0} (members : StreamsOf S C) (laws : AreLawful members) (a b : C) (old new : S) (ahead after : Fronts) (i k : ℕ) (next : Option Piece)
    (pieces : List Piece) → IsPut ahead after i next → k ≢ i → IsUntouched members.to_come members.given members.limit members.breaks old new k → members.keeps a b →
    IsToCome members a old ahead k pieces → IsToCome members b new after k pieces
told_else members laws a b old new ahead after i k next pieces put ne same kept come = record {
  rest = come.rest;
  told = other_told members laws a b old new k come.rest same kept come.told;
  is = come.is ∙ sym (ap (λ xs. xs ++ come.rest) (put_else ahead after i k next put ne));
  ended = λ under none. come.ended ((put.read k ne).0 under) (sym (put.counts k ne) ∙ none);
}

-- where a stream was told, its answer tells it
known_next : {S C : Type 0} (members : StreamsOf S C) (i : ℕ) (a b : C) (old new : S) (next : Option Piece) → IsAsked members i a old b new next →
    members.to_come new i b ≡ None → members.to_come old i a ≡ None
known_next members i a b old new None asked none = elim (none_or (members.to_come old i a)) [
  | inl is ↦ is
  | inr some ↦ let told = (asked.told some.0 some.1).1 in absurd (cc (told, none))
]
known_next members i a b old new (Some p) asked none = elim (none_or (members.to_come old i a)) [
  | inl is ↦ is
  | inr some ↦ let told = (asked.told some.0 some.1).2 in absurd (cc (told, none))
]

-- a stream that ended was told to its end
whole_next : {S C : Type 0} (members : StreamsOf S C) (i : ℕ) (a b : C) (old new : S) (next : Option Piece) → IsAsked members i a old b new next →
    ((p : Piece) → next ≡ Some p → 1 ≤ p.count) → members.tells a → count_in next ≡ 0 → members.to_come new i b ≢ None
whole_next members i a b old new None asked some tells ended none =
    let told = asked.ended tells refl in let untold = known_next members i a b old new None asked none in absurd (cc (told, untold))
whole_next members i a b old new (Some p) asked some tells ended none = let one : 1 ≤ p.count = some p refl in let zero : p.count ≡ 0 = ended in absurd (omega arith)

pub all_whole : {S C : Type 0} (members : StreamsOf S C) (laws : AreLawful members) (a b : C) (before after : Ordering S) (i : ℕ) (next : Option Piece) →
    IsPut before.ahead after.ahead i next → ((p : Piece) → next ≡ Some p → 1 ≤ p.count) → IsCalled members i a before.streams b after.streams →
    IsAsked members i a before.streams b after.streams next → AreWhole members a before → AreWhole members b after
all_whole members laws a b before after i next put some called asked was tells_b =
    let tells : members.tells a = laws.keeps_tells a b called.kept tells_b in
    each_number (λ k. k < members.count after.streams → k < length after.ahead.counts → number_at after.ahead.counts k ≡ 0 → members.to_come after.streams k b ≢ None) i
    (λ within under ended. whole_next members i a b before.streams after.streams next asked some tells (sym put.count ∙ ended))
    (λ k ne within under ended none. was tells k (subst (λ n. k < n) called.counts within) ((put.read k ne).0 under) (sym (put.counts k ne) ∙ ended)
    (other_known members laws a b before.streams after.streams k (called.others k ne) called.kept none))

all_known : {S C : Type 0} (members : StreamsOf S C) (laws : AreLawful members) (a b : C) (before after : Ordering S) (i : ℕ) (next : Option Piece) →
    IsCalled members i a before.streams b after.streams → IsAsked members i a before.streams b after.streams next → AreKnown members a before b after
all_known members laws a b before after i next called asked k under =
    each_number (λ k. members.to_come after.streams k b ≡ None → members.to_come before.streams k a ≡ None) i
    (known_next members i a b before.streams after.streams next asked)
    (λ k ne. other_known members laws a b before.streams after.streams k (called.others k ne) called.kept) k

-- the same, of an order that is seen as another
pub known_seen : {S C : Type 0} (members : StreamsOf S C) (laws : AreLawful members) (a b : C) (before seen after : Ordering S) (i : ℕ) (next : Option Piece) →
    before ≡ seen → IsCalled members i a before.streams b after.streams → IsAsked members i a before.streams b after.streams next → AreKnown members a seen b after
known_seen {S} members laws a b before seen after i next is called asked =
    subst (λ (m : Ordering S). AreKnown members a m b after) is (all_known members laws a b before after i next called asked)

-- a stream of which nothing was read ahead is asked
pub all_told : {S C : Type 0} (members : StreamsOf S C) (laws : AreLawful members) (a b : C) (before after : Ordering S) (i : ℕ) (next : Option Piece) →
    front_at before.ahead i ≡ [] → IsPut before.ahead after.ahead i next → ((p : Piece) → next ≡ Some p → 1 ≤ p.count) →
    IsCalled members i a before.streams b after.streams → IsAsked members i a before.streams b after.streams next → AllTold members a before b after
all_told members laws a b before after i next none put some called asked = record {
  same = λ k pieces under. each_number (λ k. IsToCome members a before.streams before.ahead k pieces → IsToCome members b after.streams after.ahead k pieces) i
      (λ come. subst (IsToCome members b after.streams after.ahead i) (sym (come.is ∙ ap (λ xs. xs ++ come.rest) none))
      (told_next members b after.streams before.ahead after.ahead i next come.rest put some (asked.told come.rest come.told)))
      (λ k ne. told_else members laws a b before.streams after.streams before.ahead after.ahead i k next pieces put ne (called.others k ne) called.kept) k;
  known = all_known members laws a b before after i next called asked;
}

above_all : (least limit tail : ℕ) (p : Piece) (rest : List Piece) → tail ≤ p.tail → p.tail + 1 ≤ least → AscendsFrom least limit rest →
    All (λ other. tail ≤ other.tail) (p ∷ rest)
above_all least limit tail p rest low next up = All-cons (λ other. tail ≤ other.tail) p rest low
    (λ k d under. let at : least ≤ (get_or rest k d).tail = tail_at_least least limit rest k d up under in omega arith)

-- no tail of a stream is less than one that is no greater than its front
least_told : {S C : Type 0} (members : StreamsOf S C) (ctx : C) (streams : S) (fronts : Fronts) (k : ℕ) (last : Option ℕ) (tail : ℕ) (pieces : List Piece) →
    ((ps : List Piece) → members.to_come streams k ctx ≡ Some ps → AreGiven (members.limit streams k) (members.given streams k ++ ps)) → k < length fronts.counts →
    tail ≤ number_at fronts.tails k → IsSeated (members.limit streams k) (members.given streams k) last (number_at fronts.tails k) (number_at fronts.counts k) →
    IsToCome members ctx streams fronts k pieces → All (λ other. tail ≤ other.tail) pieces
least_told members ctx streams fronts k last tail pieces order under low is come = elim (cases_eq (number_at fronts.counts k) 0) [
  | inl none ↦ let empty : pieces ≡ [] = come.is ∙ ap (λ xs. xs ++ come.rest) (pieces_none (number_at fronts.tails k) (number_at fronts.counts k) none) ∙ come.ended under none in
      subst (All (λ (other : Piece). tail ≤ other.tail)) (sym empty) (λ j d below. absurd (omega arith))
  | inr ne ↦ let some : 1 ≤ number_at fronts.counts k = omega arith in
      let p : Piece = record { tail = number_at fronts.tails k; count = number_at fronts.counts k } in
      let ahead : IsAhead (members.limit streams k) (members.given streams k) last p = is some in
      let shape : pieces ≡ p ∷ come.rest = come.is ∙ ap (λ xs. xs ++ come.rest) (pieces_some (number_at fronts.tails k) (number_at fronts.counts k) some) in
      let up : AscendsFrom (p.tail + 1) (members.limit streams k) come.rest =
      (ends_table 0 (members.limit streams k) ahead.front p come.rest
      (subst (λ xs. AscendsFrom 0 (members.limit streams k) (xs ++ come.rest)) ahead.is (order come.rest come.told).table)).2 in
      subst (All (λ (other : Piece). tail ≤ other.tail)) (sym shape) (above_all (p.tail + 1) (members.limit streams k) tail p come.rest low (omega arith) up)
]

-- a piece in front is the next one
pub is_next : {S C : Type 0} (members : StreamsOf S C) (laws : AreLawful members) (ctx : C) (order : Ordering S) (lists : List (List Piece)) (i : ℕ) (piece : Piece)
    (come : IsToCome members ctx order.streams order.ahead i (get_or lists i [])) → IsOrdering members order → AreRead members order → IsFront order.ahead i piece →
    Tells members ctx order lists → IsNext lists i piece come.rest
is_next members laws ctx order lists i piece come is read front tells =
    let long : length lists ≡ members.count order.streams = tells.len in let within : i < length order.ahead.counts = front.within in
    let all : length order.ahead.counts ≡ members.count order.streams = read in let tail : piece.tail ≡ number_at order.ahead.tails i = front.tail in
    let count : piece.count ≡ number_at order.ahead.counts i = front.count in let some : 1 ≤ piece.count = front.some in record {
      within = omega arith;
      front = come.is ∙ ap (λ xs. xs ++ come.rest) (pieces_some (number_at order.ahead.tails i) (number_at order.ahead.counts i) (omega arith) ∙
          (λ j. record { tail = sym tail j; count = sym count j } ∷ []));
      least = λ k under. let inside : k < members.count order.streams = omega arith in
          least_told members ctx order.streams order.ahead k order.last piece.tail (get_or lists k [])
          (λ ps. laws.in_order order.streams k ctx ps inside) (omega arith) (front.least k (omega arith)) (is.seated k inside) (tells.each k inside);
    }

-- where all streams ended, nothing is left
pub are_over : {S C : Type 0} (members : StreamsOf S C) (ctx : C) (order : Ordering S) (lists : List (List Piece)) →
    AreRead members order → AreAllLast order.ahead → Tells members ctx order lists → AreOver lists
are_over members ctx order lists read ended tells k under =
    let long : length lists ≡ members.count order.streams = tells.len in let all : length order.ahead.counts ≡ members.count order.streams = read in
    let inside : k < members.count order.streams = omega arith in let come = tells.each k inside in
    let none : number_at order.ahead.counts k ≡ 0 = ended k (omega arith) in
    come.is ∙ ap (λ xs. xs ++ come.rest) (pieces_none (number_at order.ahead.tails k) (number_at order.ahead.counts k) none) ∙ come.ended (omega arith) none

-- a stream gave its piece, and is asked: what is to come is what was behind it
pub tells_behind : {S C : Type 0} (members : StreamsOf S C) (laws : AreLawful members) (a b : C) (before after : Ordering S) (lists : List (List Piece)) (i : ℕ)
    (next : Option Piece) → i < members.count before.streams → IsPut before.ahead after.ahead i next → ((p : Piece) → next ≡ Some p → 1 ≤ p.count) →
    IsCalled members i a before.streams b after.streams → IsAsked members i a before.streams b after.streams next →
    (come : IsToCome members a before.streams before.ahead i (get_or lists i [])) → Tells members a before lists → Tells members b after (set lists i come.rest)
tells_behind members laws a b before after lists i next within put some called asked come tells =
    let long : length lists ≡ members.count before.streams = tells.len in let still : members.count after.streams ≡ members.count before.streams = called.counts in record {
      len = length-set lists i come.rest ∙ tells.len ∙ sym called.counts;
      each = λ k under. each_number (λ k. k < members.count before.streams → IsToCome members b after.streams after.ahead k (get_or (set lists i come.rest) k [])) i
          (λ below. subst (IsToCome members b after.streams after.ahead i) (sym (get_or-set_same lists i come.rest [] (omega arith)))
          (told_next members b after.streams before.ahead after.ahead i next come.rest put some (asked.told come.rest come.told)))
          (λ k ne below. subst (IsToCome members b after.streams after.ahead k) (sym (get_or-set_other lists i k come.rest [] ne))
          (told_else members laws a b before.streams after.streams before.ahead after.ahead i k next (get_or lists k []) put ne (called.others k ne) called.kept (tells.each k below)))
          k (omega arith);
    }
