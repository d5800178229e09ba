use Rattle.lert_merge.proofs.{order.AskLemmas.AreLawful, NextLemmas.turned_ended}
use Rattle.lert_merge.proofs.NextClauses.{told_of, above_of, below_of, last_of, sum_of, small_of, taken_of_it, refused_of, over_of, nothing_of, failed_of, malformed_of}
use Rattle.lert_merge.proofs.merge.Merge.next.Given as given
use Rattle.lert_merge.proofs.merge.Merge.next.Goals as goal

laws : (g : given.Over) → AreLawful g.S.Streams
laws g = record {
  in_order = g.met.S.Streams.in_order;
  keeps_same = g.met.S.Streams.keeps_same;
  keeps_on = g.met.S.Streams.keeps_on;
  keeps_told = g.met.S.Streams.keeps_told;
  keeps_untold = g.met.S.Streams.keeps_untold;
  keeps_breaks = g.met.S.Streams.keeps_breaks;
  keeps_tells = g.met.S.Streams.keeps_tells;
  same_self = g.met.S.Streams.same_self;
  same_on = g.met.S.Streams.same_on;
}

pub returns-then-is_over-clause-told : goal.returns-then-is_over-clause-told
returns-then-is_over-clause-told g c = (turned_ended g.S.Streams (laws g) g.C.Faulty.faults g.C.Faulty.mark c.args.ctx.now c.args.self.now
    (c.is_over.ensures.ended c.if-is_over.true)).told

pub returns-then-is_over-clause-over : goal.returns-then-is_over-clause-over
returns-then-is_over-clause-over g c is = c.is_over.ensures.ended c.if-is_over.true

pub returns-clause-told : goal.returns-clause-told
returns-clause-told g c = told_of g.S.Streams g.C.Faulty.faults g.C.Faulty.mark c.args.ctx.now c.advance.new.ctx c.args.self.now c.advance.new.self c.advance.result c.advance.ensures

pub returns-clause-above : goal.returns-clause-above
returns-clause-above g c = above_of g.S.Streams g.C.Faulty.faults g.C.Faulty.mark c.args.ctx.now c.advance.new.ctx c.args.self.now c.advance.new.self c.advance.result c.advance.ensures

pub returns-clause-below : goal.returns-clause-below
returns-clause-below g c = below_of g.S.Streams g.C.Faulty.faults g.C.Faulty.mark c.args.ctx.now c.advance.new.ctx c.args.self.now c.advance.new.self c.advance.result c.advance.ensures

pub returns-clause-last : goal.returns-clause-last
returns-clause-last g c = last_of g.S.Streams g.C.Faulty.faults g.C.Faulty.mark c.args.ctx.now c.advance.new.ctx c.args.self.now c.advance.new.self c.advance.result c.advance.ensures

pub returns-clause-sum : goal.returns-clause-sum
returns-clause-sum g c = sum_of g.S.Streams g.C.Faulty.faults g.C.Faulty.mark c.args.ctx.now c.advance.new.ctx c.args.self.now c.advance.new.self c.advance.result c.advance.ensures

pub returns-clause-small : goal.returns-clause-small
returns-clause-small g c = small_of g.S.Streams g.C.Faulty.faults g.C.Faulty.mark c.args.ctx.now c.advance.new.ctx c.args.self.now c.advance.new.self c.advance.result c.advance.ensures

pub returns-clause-taken : goal.returns-clause-taken
returns-clause-taken g c = taken_of_it g.S.Streams g.C.Faulty.faults g.C.Faulty.mark c.args.ctx.now c.advance.new.ctx c.args.self.now c.advance.new.self c.advance.result c.advance.ensures

pub returns-clause-refused : goal.returns-clause-refused
returns-clause-refused g c = refused_of g.S.Streams g.C.Faulty.faults g.C.Faulty.mark c.args.ctx.now c.advance.new.ctx c.args.self.now c.advance.new.self c.advance.result c.advance.ensures

pub returns-clause-over : goal.returns-clause-over
returns-clause-over g c = over_of g.S.Streams g.C.Faulty.faults g.C.Faulty.mark c.args.ctx.now c.advance.new.ctx c.args.self.now c.advance.new.self c.advance.result c.advance.ensures

pub returns-clause-nothing_given : goal.returns-clause-nothing_given
returns-clause-nothing_given g c = nothing_of g.S.Streams g.C.Faulty.faults g.C.Faulty.mark c.args.ctx.now c.advance.new.ctx c.args.self.now c.advance.new.self c.advance.result c.advance.ensures

pub returns-clause-failed : goal.returns-clause-failed
returns-clause-failed g c = failed_of g.S.Streams g.C.Faulty.faults g.C.Faulty.mark c.args.ctx.now c.advance.new.ctx c.args.self.now c.advance.new.self c.advance.result c.advance.ensures

pub returns-clause-malformed : goal.returns-clause-malformed
returns-clause-malformed g c = malformed_of g.S.Streams g.C.Faulty.faults g.C.Faulty.mark c.args.ctx.now c.advance.new.ctx c.args.self.now c.advance.new.self c.advance.result c.advance.ensures
