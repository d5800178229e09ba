use Rattle.std.proofs.{Common.{◌≡◌, ◌<◌, None, Ok, length, sym, subst, refl, ap, arith}, lemmas.Result.err_from_is_err_and}
use Rattle.lert_merge.specs.{order.Ordering.{Ordering, AreRead, Tells}, order.Fronts.AreAllLast}
use Rattle.lert_merge.proofs.{order.AskLemmas.{AreLawful, IsAsked, IsCalled, all_refused, breaks_at}, order.OrderLemmas.refused_stands}
use Rattle.lert_merge.proofs.{order.GiveLemmas.{front_above, given_stands, given_gives, given_seen, given_told, given_whole}, order.StepLemmas.{reading_none, ok_apart, some_apart, rose_none}}
use Rattle.lert_merge.proofs.order.ToldLemmas.{are_over, known_seen}
use Rattle.lert_merge.proofs.order.order.Order.give.Given as given
use Rattle.lert_merge.proofs.order.order.Order.give.Goals as goal

laws : (g : given.Over) → AreLawful g.S.Streams
laws g = record {
  in_order = g.met.S.Streams.in_order;
  keeps_same = g.met.S.Streams.keeps_same;
  keeps_on = g.met.S.Streams.keeps_on;
  keeps_told = g.met.S.Streams.keeps_told;
  keeps_untold = g.met.S.Streams.keeps_untold;
  keeps_breaks = g.met.S.Streams.keeps_breaks;
  keeps_tells = g.met.S.Streams.keeps_tells;
  same_self = g.met.S.Streams.same_self;
  same_on = g.met.S.Streams.same_on;
}

pub returns-in_default-clause-told : goal.returns-in_default-clause-told
returns-in_default-clause-told g c lists tells = (
  are_over g.S.Streams c.args.ctx.now _ lists (subst (λ (m : Ordering _). AreRead g.S.Streams m) (sym c.self.view_is) c.requires.read) c.in_default.ensures
      (subst (λ (m : Ordering _). Tells g.S.Streams c.args.ctx.now m lists) (sym c.self.view_is) tells),
  tells,
)

pub invariant_of-self : goal.invariant_of-self
invariant_of-self g c =
    let read = subst (λ (m : Ordering _). AreRead g.S.Streams m) (sym c.self.view_is) c.requires.read in
    refused_stands g.S.Streams c.args.ctx.now c.next.new.ctx _ _ c.in-Some.stream c.self.invariant (subst (λ n. c.in-Some.stream < n) read c.in-Some.ensures.within)
    (record { others = c.next.ensures.others; counts = c.next.ensures.count; set = c.next.ensures.same; kept = c.next.ensures.keeps })
    (record { gave = c.in_err-next.ensures.refused; untold = c.next.ensures.untold; limits = c.next.ensures.limit; same_breaks = c.next.ensures.breaks }) refl refl

pub returns-in_err-next-clause-gives : goal.returns-in_err-next-clause-gives
returns-in_err-next-clause-gives g c =
    let p = err_from_is_err_and c.from_residual.result c.from_residual.ensures.1 in
    rw p.1 (all_refused g.S.Streams (laws g) _ _ _ _ _ c.in-Some.stream c.self.view_is
    (record { others = c.next.ensures.others; counts = c.next.ensures.count; set = c.next.ensures.same; kept = c.next.ensures.keeps }) refl
    (record { gave = c.in_err-next.ensures.refused; untold = c.next.ensures.untold; limits = c.next.ensures.limit; same_breaks = c.next.ensures.breaks }))

pub returns-in_err-next-clause-malformed : goal.returns-in_err-next-clause-malformed
returns-in_err-next-clause-malformed g c at is =
    let p = err_from_is_err_and c.from_residual.result c.from_residual.ensures.1 in
    let read = subst (λ (m : Ordering _). AreRead g.S.Streams m) (sym c.self.view_is) c.requires.read in
    breaks_at g.S.Streams c.args.ctx.now _ _ c.in-Some.stream at c.self.view_is (subst (λ n. c.in-Some.stream < n) read c.in-Some.ensures.within)
    (c.in_err-next.ensures.malformed at (cc (p.1, p.2)))

pub replace-requires-clause-above : goal.replace-requires-clause-above
replace-requires-clause-above g c =
    let read = subst (λ (m : Ordering _). AreRead g.S.Streams m) (sym c.self.view_is) c.requires.read in
    let asked : IsAsked g.S.Streams c.in-Some.stream c.args.ctx.now c.self.inside.streams c.next.new.ctx c.next.new.self c.in_ok-next.next = record {
      told = c.in_ok-next.ensures.told;
      untold = c.next.ensures.untold;
      ended = λ tells none. c.in_ok-next.ensures.ended tells (ap Ok none);
      gave = c.in_ok-next.ensures.given;
      are = c.next.ensures.ascending;
      limits = c.next.ensures.limit;
      same_breaks = c.next.ensures.breaks;
    } in
    front_above g.S.Streams _ _ _ _ c.in-Some.stream c.in-Some.piece c.in_ok-next.next c.self.invariant read c.in-Some.ensures asked

read : (g : given.Over) (c : goal.After-drop-self-inside g) → length c.self.inside.ahead.counts ≡ g.S.Streams.count c.self.inside.streams
read g c = subst (λ (m : Ordering _). AreRead g.S.Streams m) (sym c.self.view_is) c.requires.read

-- what the stream's answer says, and what the call leaves of the set
asked : (g : given.Over) (c : goal.After-drop-self-inside g) →
    IsAsked g.S.Streams c.in-Some.stream c.args.ctx.now c.self.inside.streams c.next.new.ctx c.next.new.self c.in_ok-next.next
asked g c = record {
  told = c.in_ok-next.ensures.told;
  untold = c.next.ensures.untold;
  ended = λ tells none. c.in_ok-next.ensures.ended tells (ap Ok none);
  gave = c.in_ok-next.ensures.given;
  are = c.next.ensures.ascending;
  limits = c.next.ensures.limit;
  same_breaks = c.next.ensures.breaks;
}

called : (g : given.Over) (c : goal.After-drop-self-inside g) →
    IsCalled g.S.Streams c.in-Some.stream c.args.ctx.now c.self.inside.streams c.next.new.ctx c.next.new.self
called g c = record { others = c.next.ensures.others; counts = c.next.ensures.count; set = c.next.ensures.same; kept = c.next.ensures.keeps }

pub invariant_of-self-2 : goal.invariant_of-self-2
invariant_of-self-2 g c = given_stands g.S.Streams c.args.ctx.now c.next.new.ctx _ _ c.in-Some.stream c.in-Some.piece c.in_ok-next.next c.self.invariant (read g c)
    c.in-Some.ensures c.replace.ensures.put c.replace.ensures.len c.of.ensures (called g c) (asked g c)

pub returns-clause-gives : goal.returns-clause-gives
returns-clause-gives g c = given_gives g.S.Streams (laws g) _ _ _ _ _ c.in-Some.stream c.in-Some.piece c.in_ok-next.next c.self.view_is c.in-Some.ensures
    c.replace.ensures.put (called g c) (asked g c)

pub returns-clause-given : goal.returns-clause-given
returns-clause-given g c = given_seen g.S.Streams _ _ _ _ _ c.in-Some.stream c.in-Some.piece c.in_ok-next.next c.self.view_is c.self.invariant (read g c)
    c.in-Some.ensures c.of.ensures (called g c) (asked g c)

pub returns-clause-told : goal.returns-clause-told
returns-clause-told g c lists tells =
    given_told g.S.Streams (laws g) c.args.ctx.now _ _ _ lists c.in-Some.stream c.in-Some.piece c.in_ok-next.next c.self.invariant (read g c) c.in-Some.ensures
    c.replace.ensures.put (called g c) (asked g c) (subst (λ (m : Ordering _). Tells g.S.Streams c.args.ctx.now m lists) (sym c.self.view_is) tells)

pub returns-clause-known : goal.returns-clause-known
returns-clause-known g c = known_seen g.S.Streams (laws g) c.args.ctx.now c.next.new.ctx (record { streams = c.self.inside.streams; ahead = c.self.inside.ahead; last = c.self.inside.last.value })
    _ (record { streams = c.next.new.self; ahead = c.replace.new.self; last = c.of.result.value }) c.in-Some.stream c.in_ok-next.next c.self.view_is (called g c) (asked g c)

pub returns-clause-whole : goal.returns-clause-whole
returns-clause-whole g c = given_whole g.S.Streams (laws g) c.args.ctx.now c.next.new.ctx
    (record { streams = c.self.inside.streams; ahead = c.self.inside.ahead; last = c.self.inside.last.value }) c.args.self.now
    (record { streams = c.next.new.self; ahead = c.replace.new.self; last = c.of.result.value }) c.in-Some.stream c.in_ok-next.next c.self.view_is c.replace.ensures.put (called g c) (asked g c)

-- ---- no piece is left

pub returns-in_default-clause-gives : goal.returns-in_default-clause-gives
returns-in_default-clause-gives g c =
    let none = reading_none g.S.Streams (laws g) g.C.Faulty.faults g.C.Faulty.mark c.args.ctx.now c.args.self.now in
    none.gives

pub returns-in_default-clause-over : goal.returns-in_default-clause-over
returns-in_default-clause-over g c is =
    let all_last = subst (λ (m : Ordering _). AreAllLast m.ahead) c.self.view_is c.in_default.ensures in
    record { all = c.requires.read; ended = λ k under. all_last k (omega (arith, under, c.requires.read)) }

pub returns-in_default-clause-given : goal.returns-in_default-clause-given
returns-in_default-clause-given g c = tt

pub returns-in_default-clause-nothing_given : goal.returns-in_default-clause-nothing_given
returns-in_default-clause-nothing_given g c none = refl

pub returns-in_default-clause-known : goal.returns-in_default-clause-known
returns-in_default-clause-known g c k under none = none

pub returns-in_default-clause-whole : goal.returns-in_default-clause-whole
returns-in_default-clause-whole g c whole = whole

pub returns-in_default-clause-failed : goal.returns-in_default-clause-failed
returns-in_default-clause-failed g c is = absurd (ok_apart _ _ _ refl is)

pub returns-in_default-clause-malformed : goal.returns-in_default-clause-malformed
returns-in_default-clause-malformed g c at is = absurd (ok_apart _ _ _ refl is)

pub returns-in_default-clause-faults : goal.returns-in_default-clause-faults
returns-in_default-clause-faults g c = rose_none (g.C.Faulty.faults c.args.ctx.now)

pub returns-in_default-clause-mark : goal.returns-in_default-clause-mark
returns-in_default-clause-mark g c = refl

pub returns-in_default-clause-keeps : goal.returns-in_default-clause-keeps
returns-in_default-clause-keeps g c = g.met.S.Streams.keeps_same c.args.ctx.now

-- ---- the stream refused

pub returns-in_err-next-clause-given : goal.returns-in_err-next-clause-given
returns-in_err-next-clause-given g c = rw (err_from_is_err_and c.from_residual.result c.from_residual.ensures.1).1 tt

pub returns-in_err-next-clause-known : goal.returns-in_err-next-clause-known
returns-in_err-next-clause-known g c = rw (err_from_is_err_and c.from_residual.result c.from_residual.ensures.1).1 tt

pub returns-in_err-next-clause-whole : goal.returns-in_err-next-clause-whole
returns-in_err-next-clause-whole g c = rw (err_from_is_err_and c.from_residual.result c.from_residual.ensures.1).1 tt

pub returns-in_err-next-clause-told : goal.returns-in_err-next-clause-told
returns-in_err-next-clause-told g c lists tells = rw (err_from_is_err_and c.from_residual.result c.from_residual.ensures.1).1 tt

pub returns-in_err-next-clause-over : goal.returns-in_err-next-clause-over
returns-in_err-next-clause-over g c is = absurd (ok_apart c.from_residual.result None _ is (err_from_is_err_and c.from_residual.result c.from_residual.ensures.1).1)

pub returns-in_err-next-clause-nothing_given : goal.returns-in_err-next-clause-nothing_given
returns-in_err-next-clause-nothing_given g c none = ap (λ (m : Ordering _). m.last) c.self.view_is

pub returns-in_err-next-clause-failed : goal.returns-in_err-next-clause-failed
returns-in_err-next-clause-failed g c is =
    let p = err_from_is_err_and c.from_residual.result c.from_residual.ensures.1 in
    c.in_err-next.ensures.failed (cc (p.1, p.2, is))

pub returns-in_err-next-clause-faults : goal.returns-in_err-next-clause-faults
returns-in_err-next-clause-faults g c = c.next.ensures.faults

pub returns-in_err-next-clause-mark : goal.returns-in_err-next-clause-mark
returns-in_err-next-clause-mark g c = c.next.ensures.mark

pub returns-in_err-next-clause-keeps : goal.returns-in_err-next-clause-keeps
returns-in_err-next-clause-keeps g c = c.next.ensures.keeps

-- ---- a piece is given

pub returns-clause-over : goal.returns-clause-over
returns-clause-over g c is = absurd (some_apart _ _ refl is)

pub returns-clause-nothing_given : goal.returns-clause-nothing_given
returns-clause-nothing_given g c none = absurd none

pub returns-clause-failed : goal.returns-clause-failed
returns-clause-failed g c is = absurd (ok_apart _ _ _ refl is)

pub returns-clause-malformed : goal.returns-clause-malformed
returns-clause-malformed g c at is = absurd (ok_apart _ _ _ refl is)

pub returns-clause-faults : goal.returns-clause-faults
returns-clause-faults g c = c.next.ensures.faults

pub returns-clause-mark : goal.returns-clause-mark
returns-clause-mark g c = c.next.ensures.mark

pub returns-clause-keeps : goal.returns-clause-keeps
returns-clause-keeps g c = c.next.ensures.keeps
