use Rattle.lert_merge.proofs.order.StepLemmas.{breaks_behind, breaks_same, gave_none, same_by, gives_behind, gives_seen, taken_by, refused_by}
use Rattle.lert_merge.proofs.order.StepLemmas.{on_ok, each_given, reading_none, reading_as, tells_on, given_on, known_on, ok_apart, IsReading}
use Rattle.std.proofs.lemmas.Result.{err_from_is_err_and}
use Rattle.std.proofs.Common.{◌≡◌, ◌≤◌, ◌^◌, ◌++◌, [], ◌∷◌, List, Some, None, IfOk, IfSome, ◌∙◌, arith}
use Rattle.lert_io.proofs.Rising.{risen_since}
use Rattle.lert_spec.specs.Table.{AreGiven}
use Rattle.lert_spec.specs.declared.piece.Piece.{Piece}
use Rattle.lert_merge.specs.order.Ordering.{none_of, part_of, AllGive, HasTaken, IsBelow, IsGiven, IsNotBelow}
use Rattle.lert_merge.proofs.order.AskLemmas.{AreLawful}
use Rattle.lert_merge.proofs.order.order.Order.step.Given as given
use Rattle.lert_merge.proofs.order.order.Order.step.Goals as goal
use Rattle.lert_merge.proofs.order.order.Order.step.Goals.{then-not-is_begun+in_ok-read_first, else-not-is_begun}

laws : (g : given.Over) → AreLawful g.S.Streams
laws g = record {
  in_order = g.met.S.Streams.in_order;
  keeps_same = g.met.S.Streams.keeps_same;
  keeps_on = g.met.S.Streams.keeps_on;
  keeps_told = g.met.S.Streams.keeps_told;
  keeps_untold = g.met.S.Streams.keeps_untold;
  keeps_breaks = g.met.S.Streams.keeps_breaks;
  keeps_tells = g.met.S.Streams.keeps_tells;
  same_self = g.met.S.Streams.same_self;
  same_on = g.met.S.Streams.same_on;
}

pub returns-clause-malformed : goal.returns-clause-malformed
returns-clause-malformed g c at is = elim c.if-not-is_begun.branch [
  | then-not-is_begun+in_ok-read_first w ↦ breaks_behind g.S.Streams c.args.ctx.now w.read_first.new.ctx
      c.if-not-is_begun.ctx c.args.self.now w.read_first.new.self c.if-not-is_begun.self at w.self-is w.ctx-is w.read_first.ensures.gives w.in_ok-read_first.ensures.told
      (c.give.ensures.malformed at is)
  | else-not-is_begun w ↦ breaks_same g.S.Streams c.args.ctx.now c.if-not-is_begun.ctx c.args.self.now c.if-not-is_begun.self at w.self-is w.ctx-is
      (c.give.ensures.malformed at is)
]

pub returns-in_err-read_first-clause-refused : goal.returns-in_err-read_first-clause-refused
returns-in_err-read_first-clause-refused g c =
    let p = err_from_is_err_and c.from_residual.result c.from_residual.ensures.1 in
    rw p.1 (gave_none g.S.Streams c.args.ctx.now c.read_first.new.ctx c.args.self.now c.read_first.new.self c.read_first.ensures.gives)

pub returns-in_err-read_first-clause-same : goal.returns-in_err-read_first-clause-same
returns-in_err-read_first-clause-same g c = same_by g.S.Streams none_of c.args.ctx.now c.read_first.new.ctx c.args.self.now c.read_first.new.self c.read_first.ensures.gives

-- what both calls give
gives : (g : given.Over) (c : goal.After-give g) → AllGive g.S.Streams (part_of c.give.result) c.args.ctx.now c.args.self.now c.give.new.ctx c.give.new.self
gives g c = elim c.if-not-is_begun.branch [
  | then-not-is_begun+in_ok-read_first w ↦ gives_behind g.S.Streams (laws g) (part_of c.give.result) c.args.ctx.now w.read_first.new.ctx c.if-not-is_begun.ctx c.give.new.ctx
      c.args.self.now w.read_first.new.self c.if-not-is_begun.self c.give.new.self w.self-is w.ctx-is w.read_first.ensures.gives c.give.ensures.gives
  | else-not-is_begun w ↦ gives_seen g.S.Streams (part_of c.give.result) c.args.ctx.now c.if-not-is_begun.ctx c.give.new.ctx c.args.self.now c.if-not-is_begun.self
      c.give.new.self w.self-is w.ctx-is c.give.ensures.gives
]

pub returns-clause-taken : goal.returns-clause-taken
returns-clause-taken g c = taken_by g.S.Streams c.args.ctx.now c.give.new.ctx c.args.self.now c.give.new.self c.give.result (gives g c)

pub returns-clause-refused : goal.returns-clause-refused
returns-clause-refused g c = refused_by g.S.Streams c.args.ctx.now c.give.new.ctx c.args.self.now c.give.new.self c.give.result (gives g c)

pub returns-clause-same : goal.returns-clause-same
returns-clause-same g c = same_by g.S.Streams (part_of c.give.result) c.args.ctx.now c.give.new.ctx c.args.self.now c.give.new.self (gives g c)

-- ---- the first pieces couldn't be read

pub returns-in_err-read_first-clause-above : goal.returns-in_err-read_first-clause-above
returns-in_err-read_first-clause-above g c = rw (err_from_is_err_and c.from_residual.result c.from_residual.ensures.1).1 tt

pub returns-in_err-read_first-clause-below : goal.returns-in_err-read_first-clause-below
returns-in_err-read_first-clause-below g c = rw (err_from_is_err_and c.from_residual.result c.from_residual.ensures.1).1 tt

pub returns-in_err-read_first-clause-last : goal.returns-in_err-read_first-clause-last
returns-in_err-read_first-clause-last g c = rw (err_from_is_err_and c.from_residual.result c.from_residual.ensures.1).1 tt

pub returns-in_err-read_first-clause-small : goal.returns-in_err-read_first-clause-small
returns-in_err-read_first-clause-small g c = rw (err_from_is_err_and c.from_residual.result c.from_residual.ensures.1).1 tt

pub returns-in_err-read_first-clause-ascending : goal.returns-in_err-read_first-clause-ascending
returns-in_err-read_first-clause-ascending g c = rw (err_from_is_err_and c.from_residual.result c.from_residual.ensures.1).1 tt

pub returns-in_err-read_first-clause-taken : goal.returns-in_err-read_first-clause-taken
returns-in_err-read_first-clause-taken g c = rw (err_from_is_err_and c.from_residual.result c.from_residual.ensures.1).1 tt

pub returns-in_err-read_first-clause-known : goal.returns-in_err-read_first-clause-known
returns-in_err-read_first-clause-known g c = rw (err_from_is_err_and c.from_residual.result c.from_residual.ensures.1).1 tt

pub returns-in_err-read_first-clause-whole : goal.returns-in_err-read_first-clause-whole
returns-in_err-read_first-clause-whole g c = rw (err_from_is_err_and c.from_residual.result c.from_residual.ensures.1).1 tt

pub returns-in_err-read_first-clause-told : goal.returns-in_err-read_first-clause-told
returns-in_err-read_first-clause-told g c lists tells = rw (err_from_is_err_and c.from_residual.result c.from_residual.ensures.1).1 tt

pub returns-in_err-read_first-clause-untold : goal.returns-in_err-read_first-clause-untold
returns-in_err-read_first-clause-untold g c k under = (c.read_first.ensures.gives.each k under).untold

pub returns-in_err-read_first-clause-held : goal.returns-in_err-read_first-clause-held
returns-in_err-read_first-clause-held g c = c.is_begun.ensures.held

pub returns-in_err-read_first-clause-kept : goal.returns-in_err-read_first-clause-kept
returns-in_err-read_first-clause-kept g c = c.read_first.ensures.gives.kept

pub returns-in_err-read_first-clause-faults : goal.returns-in_err-read_first-clause-faults
returns-in_err-read_first-clause-faults g c = c.read_first.ensures.faults

pub returns-in_err-read_first-clause-mark : goal.returns-in_err-read_first-clause-mark
returns-in_err-read_first-clause-mark g c = c.read_first.ensures.mark

pub returns-in_err-read_first-clause-keeps : goal.returns-in_err-read_first-clause-keeps
returns-in_err-read_first-clause-keeps g c = c.read_first.ensures.keeps

pub returns-in_err-read_first-clause-nothing_given : goal.returns-in_err-read_first-clause-nothing_given
returns-in_err-read_first-clause-nothing_given g c = λ none. c.read_first.ensures.last

pub returns-in_err-read_first-clause-over : goal.returns-in_err-read_first-clause-over
returns-in_err-read_first-clause-over g c is =
    let p = err_from_is_err_and c.from_residual.result c.from_residual.ensures.1 in
    absurd (ok_apart c.from_residual.result None _ is p.1)

pub returns-in_err-read_first-clause-failed : goal.returns-in_err-read_first-clause-failed
returns-in_err-read_first-clause-failed g c is =
    let p = err_from_is_err_and c.from_residual.result c.from_residual.ensures.1 in
    c.in_err-read_first.ensures.failed (cc (p.1, p.2, is))

pub returns-in_err-read_first-clause-malformed : goal.returns-in_err-read_first-clause-malformed
returns-in_err-read_first-clause-malformed g c at is =
    let p = err_from_is_err_and c.from_residual.result c.from_residual.ensures.1 in
    c.in_err-read_first.ensures.malformed at (cc (p.1, p.2, is))

-- ---- a piece is given, or none

-- what was read before
before : (g : given.Over) (c : goal.After-give g) →
    IsReading g.S.Streams g.C.Faulty.faults g.C.Faulty.mark c.args.ctx.now c.args.self.now c.if-not-is_begun.ctx c.if-not-is_begun.self
before g c = elim c.if-not-is_begun.branch [
  | then-not-is_begun+in_ok-read_first w ↦ reading_as g.S.Streams g.C.Faulty.faults g.C.Faulty.mark c.args.ctx.now w.read_first.new.ctx c.if-not-is_begun.ctx
      c.args.self.now w.read_first.new.self c.if-not-is_begun.self w.self-is w.ctx-is
      (record {
        gives = w.read_first.ensures.gives;
        last = w.read_first.ensures.last;
        told = w.in_ok-read_first.ensures.told;
        whole = w.in_ok-read_first.ensures.whole;
        faults_rise = w.read_first.ensures.faults;
        same_mark = w.read_first.ensures.mark;
        kept = w.read_first.ensures.keeps;
      })
  | else-not-is_begun w ↦ reading_as g.S.Streams g.C.Faulty.faults g.C.Faulty.mark c.args.ctx.now c.args.ctx.now c.if-not-is_begun.ctx
      c.args.self.now c.args.self.now c.if-not-is_begun.self w.self-is w.ctx-is (reading_none g.S.Streams (laws g) g.C.Faulty.faults g.C.Faulty.mark c.args.ctx.now c.args.self.now)
]

is_given : (g : given.Over) (c : goal.After-give g) → IfOk c.give.result (λ given. IfSome given (λ x. IsGiven g.S.Streams c.args.self.now c.give.new.self x.0 x.1))
is_given g c = given_on g.S.Streams g.C.Faulty.faults g.C.Faulty.mark c.args.ctx.now c.if-not-is_begun.ctx c.args.self.now c.if-not-is_begun.self
    (before g c) c.give.new.self c.give.result (let all = gives g c in all.streams) c.give.ensures.given

pub returns-clause-above : goal.returns-clause-above
returns-clause-above g c =
    each_given (λ x. IsGiven g.S.Streams c.args.self.now c.give.new.self x.0 x.1)
    (λ x. IsNotBelow c.args.self.now.last x.1.tail)
    c.give.result (is_given g c) (λ x one. one.above)

pub returns-clause-below : goal.returns-clause-below
returns-clause-below g c =
    each_given (λ x. IsGiven g.S.Streams c.args.self.now c.give.new.self x.0 x.1)
    (λ x. IsBelow g.S.Streams c.give.new.self.streams x.0 x.1.tail)
    c.give.result (is_given g c) (λ x one. one.below)

pub returns-clause-last : goal.returns-clause-last
returns-clause-last g c =
    each_given (λ x. IsGiven g.S.Streams c.args.self.now c.give.new.self x.0 x.1)
    (λ x. c.give.new.self.last ≡ Some x.1.tail)
    c.give.result (is_given g c) (λ x one. one.last)

pub returns-clause-small : goal.returns-clause-small
returns-clause-small g c =
    each_given (λ x. IsGiven g.S.Streams c.args.self.now c.give.new.self x.0 x.1)
    (λ x. (1 ≤ x.1.count) × (x.1.count ≤ 2 ^ 47))
    c.give.result (is_given g c) (λ x one. (one.counted, one.small))

pub returns-clause-ascending : goal.returns-clause-ascending
returns-clause-ascending g c =
    each_given (λ x. IsGiven g.S.Streams c.args.self.now c.give.new.self x.0 x.1)
    (λ x. (pieces : List Piece) → HasTaken g.S.Streams c.args.self.now x.0 pieces → AreGiven (g.S.Streams.limit c.give.new.self.streams x.0) (pieces ++ x.1 ∷ []))
    c.give.result (is_given g c) (λ x one. one.ascending)

pub returns-clause-told : goal.returns-clause-told
returns-clause-told g c lists tells = c.give.ensures.told lists
    (tells_on g.S.Streams g.C.Faulty.faults g.C.Faulty.mark c.args.ctx.now c.if-not-is_begun.ctx c.args.self.now c.if-not-is_begun.self (before g c) lists tells)

pub returns-clause-known : goal.returns-clause-known
returns-clause-known g c =
    let was = before g c in
    on_ok _ _ c.give.result c.give.ensures.known (λ then.
    known_on g.S.Streams c.args.ctx.now c.if-not-is_begun.ctx c.give.new.ctx c.args.self.now c.if-not-is_begun.self c.give.new.self was.gives.streams was.told.known then)

pub returns-clause-whole : goal.returns-clause-whole
returns-clause-whole g c = let reading = before g c in on_ok _ _ c.give.result c.give.ensures.whole (λ then was. then (reading.whole was))

pub returns-clause-untold : goal.returns-clause-untold
returns-clause-untold g c k under = let all = gives g c in (all.each k under).untold

pub returns-clause-kept : goal.returns-clause-kept
returns-clause-kept g c = let all = gives g c in all.kept

pub returns-clause-held : goal.returns-clause-held
returns-clause-held g c = c.is_begun.ensures.held

pub returns-clause-over : goal.returns-clause-over
returns-clause-over g c = c.give.ensures.over

pub returns-clause-nothing_given : goal.returns-clause-nothing_given
returns-clause-nothing_given g c none = let was = before g c in c.give.ensures.nothing_given none ∙ was.last

pub returns-clause-failed : goal.returns-clause-failed
returns-clause-failed g c is =
    let was = before g c in
    risen_since (g.C.Faulty.faults c.args.ctx.now) (g.C.Faulty.faults c.if-not-is_begun.ctx) (g.C.Faulty.faults c.give.new.ctx) was.faults_rise c.give.ensures.faults
    (c.give.ensures.failed is)

pub returns-clause-faults : goal.returns-clause-faults
returns-clause-faults g c = let was = before g c in omega (arith, was.faults_rise, c.give.ensures.faults)

pub returns-clause-mark : goal.returns-clause-mark
returns-clause-mark g c = let was = before g c in c.give.ensures.mark ∙ was.same_mark

pub returns-clause-keeps : goal.returns-clause-keeps
returns-clause-keeps g c =
    let was = before g c in
    g.met.S.Streams.keeps_on c.args.ctx.now c.if-not-is_begun.ctx c.give.new.ctx was.kept c.give.ensures.keeps
