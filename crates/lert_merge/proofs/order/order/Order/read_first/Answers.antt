use Rattle.std.proofs.{Common.{refl, ◌∙◌, arith}, lemmas.Result.err_from_is_err_and}
use Rattle.lert_io.proofs.Rising.{risen_since}
use Rattle.lert_merge.specs.order.Ordering.{none_of}
use Rattle.lert_merge.proofs.{order.AskLemmas.AreLawful, order.StepLemmas.{reading_none, reading_more, breaks_on, gives_on, gives_started, told_started, whole_started, ok_apart}}
use Rattle.lert_merge.proofs.order.order.Order.read_first.Given as given
use Rattle.lert_merge.proofs.order.order.Order.read_first.Goals as goal

laws : (g : given.Over) → AreLawful g.S.Streams
laws g = record {
  in_order = g.met.S.Streams.in_order;
  keeps_same = g.met.S.Streams.keeps_same;
  keeps_on = g.met.S.Streams.keeps_on;
  keeps_told = g.met.S.Streams.keeps_told;
  keeps_untold = g.met.S.Streams.keeps_untold;
  keeps_breaks = g.met.S.Streams.keeps_breaks;
  keeps_tells = g.met.S.Streams.keeps_tells;
  same_self = g.met.S.Streams.same_self;
  same_on = g.met.S.Streams.same_on;
}

pub loop-self-init : goal.loop-self-init
loop-self-init g c = reading_none g.S.Streams (laws g) g.C.Faulty.faults g.C.Faulty.mark c.args.ctx.now c.args.self.now

pub loop-self-preserved : goal.loop-self-preserved
loop-self-preserved g c = reading_more g.S.Streams (laws g) g.C.Faulty.faults g.C.Faulty.mark
    c.args.ctx.now c.loop-self.ctx c.read_one.new.ctx c.args.self.now c.loop-self.self c.read_one.new.self c.loop-self.invariant
    c.read_one.ensures.gives c.read_one.ensures.last c.in_ok-read_one.ensures.told c.in_ok-read_one.ensures.whole
    c.read_one.ensures.faults c.read_one.ensures.mark c.read_one.ensures.keeps

pub returns-in_err-read_one-clause-malformed : goal.returns-in_err-read_one-clause-malformed
returns-in_err-read_one-clause-malformed g c at is =
    let p = err_from_is_err_and c.from_residual.result c.from_residual.ensures.1 in
    breaks_on g.S.Streams c.args.ctx.now c.loop-self.ctx c.args.self.now c.loop-self.self at
    c.loop-self.invariant.gives c.loop-self.invariant.told (c.in_err-read_one.ensures.malformed at (cc (p.1, p.2)))

pub returns-in_err-read_one-clause-gives : goal.returns-in_err-read_one-clause-gives
returns-in_err-read_one-clause-gives g c = gives_on g.S.Streams (laws g) none_of c.args.ctx.now c.loop-self.ctx c.read_one.new.ctx c.args.self.now c.loop-self.self
    c.read_one.new.self c.loop-self.invariant.gives c.read_one.ensures.gives

pub returns-clause-gives : goal.returns-clause-gives
returns-clause-gives g c = gives_started g.S.Streams c.args.ctx.now c.loop-self.ctx c.args.self.now c.loop-self.self c.start.new.self c.loop-self.invariant.gives c.start.ensures.started

-- ---- a stream refused

pub returns-in_err-read_one-clause-last : goal.returns-in_err-read_one-clause-last
returns-in_err-read_one-clause-last g c = c.read_one.ensures.last ∙ c.loop-self.invariant.last

pub returns-in_err-read_one-clause-told : goal.returns-in_err-read_one-clause-told
returns-in_err-read_one-clause-told g c = rw (err_from_is_err_and c.from_residual.result c.from_residual.ensures.1).1 tt

pub returns-in_err-read_one-clause-whole : goal.returns-in_err-read_one-clause-whole
returns-in_err-read_one-clause-whole g c = rw (err_from_is_err_and c.from_residual.result c.from_residual.ensures.1).1 tt

pub returns-in_err-read_one-clause-ready : goal.returns-in_err-read_one-clause-ready
returns-in_err-read_one-clause-ready g c = rw (err_from_is_err_and c.from_residual.result c.from_residual.ensures.1).1 tt

pub returns-in_err-read_one-clause-failed : goal.returns-in_err-read_one-clause-failed
returns-in_err-read_one-clause-failed g c is =
    let p = err_from_is_err_and c.from_residual.result c.from_residual.ensures.1 in
    risen_since (g.C.Faulty.faults c.args.ctx.now) (g.C.Faulty.faults c.loop-self.ctx) (g.C.Faulty.faults c.read_one.new.ctx)
    c.loop-self.invariant.faults_rise c.read_one.ensures.faults (c.in_err-read_one.ensures.failed (cc (p.1, p.2, is)))

pub returns-in_err-read_one-clause-faults : goal.returns-in_err-read_one-clause-faults
returns-in_err-read_one-clause-faults g c = omega (arith, c.loop-self.invariant.faults_rise, c.read_one.ensures.faults)

pub returns-in_err-read_one-clause-mark : goal.returns-in_err-read_one-clause-mark
returns-in_err-read_one-clause-mark g c = c.read_one.ensures.mark ∙ c.loop-self.invariant.same_mark

pub returns-in_err-read_one-clause-keeps : goal.returns-in_err-read_one-clause-keeps
returns-in_err-read_one-clause-keeps g c = g.met.S.Streams.keeps_on c.args.ctx.now c.loop-self.ctx c.read_one.new.ctx c.loop-self.invariant.kept c.read_one.ensures.keeps

-- ---- all were read

pub returns-clause-last : goal.returns-clause-last
returns-clause-last g c = c.start.ensures.started.last ∙ c.loop-self.invariant.last

pub returns-clause-told : goal.returns-clause-told
returns-clause-told g c = told_started g.S.Streams c.args.ctx.now c.loop-self.ctx c.args.self.now c.loop-self.self c.start.new.self c.loop-self.invariant.told c.start.ensures.started

pub returns-clause-whole : goal.returns-clause-whole
returns-clause-whole g c was = whole_started g.S.Streams c.loop-self.ctx c.loop-self.self c.start.new.self (c.loop-self.invariant.whole was) c.start.ensures.started

pub returns-clause-ready : goal.returns-clause-ready
returns-clause-ready g c = c.start.ensures.ready

pub returns-clause-failed : goal.returns-clause-failed
returns-clause-failed g c is = absurd (ok_apart _ _ _ refl is)

pub returns-clause-malformed : goal.returns-clause-malformed
returns-clause-malformed g c at is = absurd (ok_apart _ _ _ refl is)

pub returns-clause-faults : goal.returns-clause-faults
returns-clause-faults g c = c.loop-self.invariant.faults_rise

pub returns-clause-mark : goal.returns-clause-mark
returns-clause-mark g c = c.loop-self.invariant.same_mark

pub returns-clause-keeps : goal.returns-clause-keeps
returns-clause-keeps g c = c.loop-self.invariant.kept
