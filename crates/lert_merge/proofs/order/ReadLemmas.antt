-- A stream is read that was not read yet.
use Rattle.std.proofs.Common.{◌≡◌, ℕ, ◌+◌, ◌<◌, Option, None, [], length, arith, sym, ◌∙◌, refl, subst}
use Rattle.lert_spec.specs.declared.piece.Piece.{Piece}
use Rattle.lert_merge.specs.{order.Fronts.{Fronts, IsPut}, order.Ordering.{Ordering, IsOrdering, AllGive, AllTold, AreWhole, none_of}, declared.order.streams.Streams.Ghosts as StreamsOf}
use Rattle.lert_merge.proofs.{order.FrontLemmas.{front_past, put_here, put_else}, order.AskLemmas.{AreLawful, IsAsked, IsCalled, gives_next, all_give}, order.OrderLemmas.{asked_stands, counted_in}}
use Rattle.lert_merge.proofs.order.ToldLemmas.{all_told, all_whole}

put_at : (ahead after : Fronts) (i : ℕ) (next : Option Piece) → i ≡ length ahead.counts → IsPut ahead after (length ahead.counts) next → IsPut ahead after i next
put_at ahead after i next at put = subst (λ n. IsPut ahead after n next) (sym at) put

pub read_stands : {S C : Type 0} (members : StreamsOf S C) (a b : C) (before after : Ordering S) (i : ℕ) (next : Option Piece) → IsOrdering members before →
    i ≡ length before.ahead.counts → length before.ahead.counts < members.count before.streams → IsPut before.ahead after.ahead (length before.ahead.counts) next →
    length after.ahead.counts ≡ length before.ahead.counts + 1 → after.last ≡ before.last → IsCalled members i a before.streams b after.streams →
    IsAsked members i a before.streams b after.streams next → IsOrdering members after
read_stands members a b before after i next is at within put more last called asked =
    let none : before.last ≡ None = is.unread (omega arith) in
    asked_stands members a b before after i next is (omega arith) (put_at before.ahead after.ahead i next at put) called asked (omega arith)
    (λ begun. let all : length before.ahead.counts ≡ members.count before.streams = is.begun (sym put.begun ∙ begun) in absurd (omega arith))
    (λ less. last ∙ none)
    (λ k under ne some tail was. absurd (cc (none, last, was)))
    (λ p here tail was. absurd (cc (none, last, was)))

pub read_gives : {S C : Type 0} (members : StreamsOf S C) (laws : AreLawful members) (a b : C) (before seen after : Ordering S) (i : ℕ) (next : Option Piece) →
    before ≡ seen → i ≡ length before.ahead.counts → IsPut before.ahead after.ahead (length before.ahead.counts) next →
    IsCalled members i a before.streams b after.streams → IsAsked members i a before.streams b after.streams next → AllGive members none_of a seen b after
read_gives {S} members laws a b before seen after i next is at put called asked =
    let put_i : IsPut before.ahead after.ahead i next = put_at before.ahead after.ahead i next at put in
    subst (λ (m : Ordering S). AllGive members none_of a m b after) is
    (all_give members laws none_of a b before after i called put.room (λ k ne. put_else before.ahead after.ahead i k next put_i ne) (λ k ne. refl)
    (gives_next members laws [] a b before after i next (front_past before.ahead i (omega arith))
    (put_here before.ahead after.ahead i next put_i
    (counted_in (members.limit after.streams i) (members.given before.streams i) (members.given after.streams i) next asked.gave asked.are)) asked))

pub read_told : {S C : Type 0} (members : StreamsOf S C) (laws : AreLawful members) (a b : C) (before seen after : Ordering S) (i : ℕ) (next : Option Piece) →
    before ≡ seen → i ≡ length before.ahead.counts → IsPut before.ahead after.ahead (length before.ahead.counts) next →
    IsCalled members i a before.streams b after.streams → IsAsked members i a before.streams b after.streams next → AllTold members a seen b after
read_told {S} members laws a b before seen after i next is at put called asked =
    subst (λ (m : Ordering S). AllTold members a m b after) is
    (all_told members laws a b before after i next (front_past before.ahead i (omega arith)) (put_at before.ahead after.ahead i next at put)
    (counted_in (members.limit after.streams i) (members.given before.streams i) (members.given after.streams i) next asked.gave asked.are) called asked)

pub read_whole : {S C : Type 0} (members : StreamsOf S C) (laws : AreLawful members) (a b : C) (before seen after : Ordering S) (i : ℕ) (next : Option Piece) →
    before ≡ seen → i ≡ length before.ahead.counts → IsPut before.ahead after.ahead (length before.ahead.counts) next →
    IsCalled members i a before.streams b after.streams → IsAsked members i a before.streams b after.streams next → AreWhole members a seen → AreWhole members b after
read_whole {S} members laws a b before seen after i next is at put called asked =
    subst (λ (m : Ordering S). AreWhole members a m → AreWhole members b after) is
    (all_whole members laws a b before after i next (put_at before.ahead after.ahead i next at put)
    (counted_in (members.limit after.streams i) (members.given before.streams i) (members.given after.streams i) next asked.gave asked.are) called asked)
