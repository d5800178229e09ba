-- The piece in front is given, and its stream's next one is read.
use Rattle.std.proofs.Common.{◌≡◌, ◌≢◌, ℕ, ◌<◌, ◌≤◌, ◌^◌, Bool, if◌then◌else◌, Option, Some, None, IfSome, List, [], ◌∷◌, ◌++◌, length, set, get_or, arith, sym, ap, ◌∙◌, refl, subst}
use Rattle.std.proofs.lemmas.Bool.{eq-eqb, ne_eqb}
use Rattle.lert_spec.specs.{declared.piece.Piece.Piece, Table.{AreGiven, AscendsFrom}}
use Rattle.lert_merge.specs.{tree.Race.number_at, order.Fronts.{Fronts, front_at, IsPut, IsFront}}
use Rattle.lert_merge.specs.{order.Ordering.{Ordering, AreRead, IsOrdering, IsAhead, IsGiven, IsNext, IsToCome, Tells, AllGive, AreWhole, part_in}, declared.order.streams.Streams.Ghosts as StreamsOf}
use Rattle.lert_merge.proofs.{order.FrontLemmas.{pieces_some, put_here, put_else}, order.AskLemmas.{AreLawful, IsAsked, IsCalled, gives_next, all_give}}
use Rattle.lert_merge.proofs.{order.OrderLemmas.{asked_stands, counted_in, next_above, ends_one, small_last}, order.ToldLemmas.{is_next, tells_behind, all_whole}}

-- a piece in front is what its stream gave last
front_ahead : {S C : Type 0} (members : StreamsOf S C) (order : Ordering S) (i : ℕ) (piece : Piece) → IsOrdering members order → AreRead members order →
    IsFront order.ahead i piece → IsAhead (members.limit order.streams i) (members.given order.streams i) order.last piece
front_ahead members order i piece is read front =
    let all : length order.ahead.counts ≡ members.count order.streams = read in let within : i < length order.ahead.counts = front.within in
    let some : 1 ≤ piece.count = front.some in let count : piece.count ≡ number_at order.ahead.counts i = front.count in
    subst (IsAhead (members.limit order.streams i) (members.given order.streams i) order.last) (λ j. record { tail = sym front.tail j; count = sym front.count j })
    (is.seated i (omega arith) (omega arith))

if_some : {X : Type 0} (A : X → Type 0) (o : Option X) → ((x : X) → o ≡ Some x → A x) → IfSome o A
if_some A None all = tt
if_some A (Some x) all = all x refl

-- the answer is above the piece in front
next_front : {S C : Type 0} (members : StreamsOf S C) (a b : C) (order : Ordering S) (new : S) (i : ℕ) (piece : Piece) (next : Option Piece) → IsOrdering members order →
    AreRead members order → IsFront order.ahead i piece → IsAsked members i a order.streams b new next → (p : Piece) → next ≡ Some p → piece.tail < p.tail
next_front members a b order new i piece next is read front asked = next_above (members.limit new i) (members.given order.streams i) (members.given new i) order.last piece next
    (subst (λ n. IsAhead n (members.given order.streams i) order.last piece) (sym asked.limits) (front_ahead members order i piece is read front)) asked.gave asked.are

pub front_above : {S C : Type 0} (members : StreamsOf S C) (a b : C) (order : Ordering S) (new : S) (i : ℕ) (piece : Piece) (next : Option Piece) → IsOrdering members order →
    AreRead members order → IsFront order.ahead i piece → IsAsked members i a order.streams b new next → IfSome next (λ p. number_at order.ahead.tails i < p.tail)
front_above members a b order new i piece next is read front asked =
    if_some (λ p. number_at order.ahead.tails i < p.tail) next (λ p here. let tail : piece.tail ≡ number_at order.ahead.tails i = front.tail in
    let above : piece.tail < p.tail = next_front members a b order new i piece next is read front asked p here in omega arith)

pub given_stands : {S C : Type 0} (members : StreamsOf S C) (a b : C) (before after : Ordering S) (i : ℕ) (piece : Piece) (next : Option Piece) →
    IsOrdering members before → AreRead members before → IsFront before.ahead i piece → IsPut before.ahead after.ahead i next →
    length after.ahead.counts ≡ length before.ahead.counts → after.last ≡ Some piece.tail → IsCalled members i a before.streams b after.streams →
    IsAsked members i a before.streams b after.streams next → IsOrdering members after
given_stands members a b before after i piece next is read front put long now called asked =
    let all : length before.ahead.counts ≡ members.count before.streams = read in let within : i < length before.ahead.counts = front.within in
    asked_stands members a b before after i next is (omega arith) put called asked (omega arith) (λ begun. long ∙ all) (λ less. absurd (omega arith))
    (λ k under ne some tail was. let same : piece.tail ≡ tail = cc (now, was) in
    let least : piece.tail ≤ number_at before.ahead.tails k = front.least k (omega arith) in omega arith)
    (λ p here tail was. let same : piece.tail ≡ tail = cc (now, was) in
    let above : piece.tail < p.tail = next_front members a b before after.streams i piece next is read front asked p here in omega arith)

pub part_here : (i : ℕ) (piece : Piece) → part_in (Some (i, piece)) i ≡ piece ∷ []
part_here i piece = ap (λ (b : Bool). let ps : List Piece = (if b then piece ∷ [] else []) in ps) (eq-eqb i i refl)

pub part_else : (i k : ℕ) (piece : Piece) → k ≢ i → part_in (Some (i, piece)) k ≡ []
part_else i k piece ne = ap (λ (b : Bool). let ps : List Piece = (if b then piece ∷ [] else []) in ps) (ne_eqb i k (λ same. ne (sym same)))

front_is : (fronts : Fronts) (i : ℕ) (piece : Piece) → IsFront fronts i piece → front_at fronts i ≡ piece ∷ []
front_is fronts i piece front = let some : 1 ≤ piece.count = front.some in let count : piece.count ≡ number_at fronts.counts i = front.count in
    pieces_some (number_at fronts.tails i) (number_at fronts.counts i) (omega arith) ∙ (λ j. record { tail = sym front.tail j; count = sym front.count j } ∷ [])

pub given_gives : {S C : Type 0} (members : StreamsOf S C) (laws : AreLawful members) (a b : C) (before seen after : Ordering S) (i : ℕ) (piece : Piece) (next : Option Piece) →
    before ≡ seen → IsFront before.ahead i piece → IsPut before.ahead after.ahead i next → IsCalled members i a before.streams b after.streams →
    IsAsked members i a before.streams b after.streams next → AllGive members (part_in (Some (i, piece))) a seen b after
given_gives {S} members laws a b before seen after i piece next is front put called asked =
    subst (λ (m : Ordering S). AllGive members (part_in (Some (i, piece))) a m b after) is
    (all_give members laws (part_in (Some (i, piece))) a b before after i called put.room (λ k ne. put_else before.ahead after.ahead i k next put ne)
    (λ k ne. part_else i k piece ne)
    (gives_next members laws (part_in (Some (i, piece)) i) a b before after i next (front_is before.ahead i piece front ∙ sym (part_here i piece))
    (put_here before.ahead after.ahead i next put
    (counted_in (members.limit after.streams i) (members.given before.streams i) (members.given after.streams i) next asked.gave asked.are)) asked))

is_given : {S C : Type 0} (members : StreamsOf S C) (a b : C) (before after : Ordering S) (i : ℕ) (piece : Piece) (next : Option Piece) →
    IsOrdering members before → AreRead members before → IsFront before.ahead i piece → after.last ≡ Some piece.tail → IsCalled members i a before.streams b after.streams →
    IsAsked members i a before.streams b after.streams next → IsGiven members before after i piece
is_given members a b before after i piece next is read front now called asked =
    let all : length before.ahead.counts ≡ members.count before.streams = read in let within : i < length before.ahead.counts = front.within in
    let ahead = front_ahead members before i piece is read front in
    let ends = ends_one (members.limit before.streams i) ahead.front piece (subst (AscendsFrom 0 (members.limit before.streams i)) ahead.is ahead.given.table) in
    let long : members.count after.streams ≡ members.count before.streams = called.counts in record {
      above = ahead.above;
      below = record {
        within = omega arith;
        below = let same : members.limit after.streams i ≡ members.limit before.streams i = asked.limits in
            let low : piece.tail < members.limit before.streams i = ends.0 in omega arith;
      };
      last = now;
      counted = front.some;
      small = small_last ahead.front piece (subst (λ xs. (k : ℕ) (d : Piece) → k < length xs → (get_or xs k d).count ≤ 2 ^ 47) ahead.is ahead.given.counts);
      ascending = λ pieces taken. subst (λ n. AreGiven n (pieces ++ piece ∷ [])) (sym asked.limits)
          (subst (AreGiven (members.limit before.streams i)) (taken ∙ ap (λ xs. pieces ++ xs) (front_is before.ahead i piece front)) ahead.given);
    }

-- the same, of an order that is seen as another
pub given_seen : {S C : Type 0} (members : StreamsOf S C) (a b : C) (before seen after : Ordering S) (i : ℕ) (piece : Piece) (next : Option Piece) → before ≡ seen →
    IsOrdering members before → AreRead members before → IsFront before.ahead i piece → after.last ≡ Some piece.tail → IsCalled members i a before.streams b after.streams →
    IsAsked members i a before.streams b after.streams next → IsGiven members seen after i piece
given_seen {S} members a b before seen after i piece next same is read front now called asked =
    subst (λ (m : Ordering S). IsGiven members m after i piece) same (is_given members a b before after i piece next is read front now called asked)

pub given_told : {S C : Type 0} (members : StreamsOf S C) (laws : AreLawful members) (a b : C) (before after : Ordering S) (lists : List (List Piece)) (i : ℕ)
    (piece : Piece) (next : Option Piece) → IsOrdering members before → AreRead members before → IsFront before.ahead i piece → IsPut before.ahead after.ahead i next →
    IsCalled members i a before.streams b after.streams → IsAsked members i a before.streams b after.streams next → Tells members a before lists →
    (rest : List Piece) × (IsNext lists i piece rest × Tells members b after (set lists i rest))
given_told members laws a b before after lists i piece next is read front put called asked tells =
    let all : length before.ahead.counts ≡ members.count before.streams = read in let within : i < length before.ahead.counts = front.within in
    let inside : i < members.count before.streams = omega arith in
    let come : IsToCome members a before.streams before.ahead i (get_or lists i []) = tells.each i inside in (
      come.rest,
      (
        is_next members laws a before lists i piece come is read front tells,
        tells_behind members laws a b before after lists i next inside put
            (counted_in (members.limit after.streams i) (members.given before.streams i) (members.given after.streams i) next asked.gave asked.are) called asked come tells,
      ),
    )

pub given_whole : {S C : Type 0} (members : StreamsOf S C) (laws : AreLawful members) (a b : C) (before seen after : Ordering S) (i : ℕ) (next : Option Piece) →
    before ≡ seen → IsPut before.ahead after.ahead i next → IsCalled members i a before.streams b after.streams →
    IsAsked members i a before.streams b after.streams next → AreWhole members a seen → AreWhole members b after
given_whole {S} members laws a b before seen after i next is put called asked =
    subst (λ (m : Ordering S). AreWhole members a m → AreWhole members b after) is
    (all_whole members laws a b before after i next put
    (counted_in (members.limit after.streams i) (members.given before.streams i) (members.given after.streams i) next asked.gave asked.are) called asked)
