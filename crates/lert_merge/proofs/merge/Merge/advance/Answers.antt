use Rattle.std.proofs.{Common.{Ok, Err, arith, ap, subst}, lemmas.Result.err_from_is_err_and}
use Rattle.lert_merge.proofs.{order.AskLemmas.AreLawful, NextLemmas.{turned_none, turned_on}}
use Rattle.lert_merge.specs.{declared.merge.Turn.Turn, declared.merge.Turn.TheVariants.{Taken, Given}, Merging.HasTurned}
use Rattle.lert_merge.proofs.merge.Merge.advance.Given as given
use Rattle.lert_merge.proofs.merge.Merge.advance.Goals as goal

laws : (g : given.Over) → AreLawful g.S.Streams
laws g = record {
  in_order = g.met.S.Streams.in_order;
  keeps_same = g.met.S.Streams.keeps_same;
  keeps_on = g.met.S.Streams.keeps_on;
  keeps_told = g.met.S.Streams.keeps_told;
  keeps_untold = g.met.S.Streams.keeps_untold;
  keeps_breaks = g.met.S.Streams.keeps_breaks;
  keeps_tells = g.met.S.Streams.keeps_tells;
  same_self = g.met.S.Streams.same_self;
  same_on = g.met.S.Streams.same_on;
}

pub returns-in_err-piece : goal.returns-in_err-piece
returns-in_err-piece g c = let p = err_from_is_err_and c.from_residual.result c.from_residual.ensures.1 in
    rw (p.1, p.2) (turned_on g.S.Streams (laws g) g.C.Faulty.faults g.C.Faulty.mark c.args.ctx.now c.loop-piece.ctx c.turn.new.ctx c.args.self.now c.loop-piece.self
    c.turn.new.self (Err _) c.loop-piece.invariant.turned c.in_err-piece.ensures.turned)

pub returns-in-Given : goal.returns-in-Given
returns-in-Given g c = turned_on g.S.Streams (laws g) g.C.Faulty.faults g.C.Faulty.mark c.args.ctx.now c.loop-piece.ctx c.turn.new.ctx c.args.self.now c.loop-piece.self
    c.turn.new.self (Ok (Given c.in-Given.piece)) c.loop-piece.invariant.turned
    (subst (λ (t : Turn). HasTurned g.S.Streams g.C.Faulty.faults g.C.Faulty.mark c.loop-piece.ctx c.loop-piece.self c.turn.new.ctx c.turn.new.self (Ok t))
    c.in-Given.is c.in_ok-piece.ensures.turned)

pub loop-piece-init : goal.loop-piece-init
loop-piece-init g c = record {
  turned = turned_none g.S.Streams (laws g) g.C.Faulty.faults g.C.Faulty.mark c.args.ctx.now c.args.self.now;
  going = c.requires;
}

pub loop-piece-preserved : goal.loop-piece-preserved
loop-piece-preserved g c = record {
  turned = turned_on g.S.Streams (laws g) g.C.Faulty.faults g.C.Faulty.mark c.args.ctx.now c.loop-piece.ctx c.turn.new.ctx c.args.self.now c.loop-piece.self
      c.turn.new.self (Ok Taken) c.loop-piece.invariant.turned
      (subst (λ (t : Turn). HasTurned g.S.Streams g.C.Faulty.faults g.C.Faulty.mark c.loop-piece.ctx c.loop-piece.self c.turn.new.ctx c.turn.new.self (Ok t))
      c.in_default.is c.in_ok-piece.ensures.turned);
  going = (c.in_ok-piece.ensures.goes_on (ap Ok c.in_default.is)).0;
}

-- a turn that gives nothing takes one more piece, of another stream
pub loop-piece-smaller : goal.loop-piece-smaller
loop-piece-smaller g c =
    let more = c.in_ok-piece.ensures.goes_on (ap Ok c.in_default.is) in
    omega (arith, more.1, more.2, c.in_ok-piece.ensures.turned.same.streams)
