use Rattle.std.proofs.{Common.{◌<◌, Ok, length, sym, ap, subst, refl}, lemmas.Result.err_from_is_err_and}
use Rattle.lert_merge.specs.order.Ordering.{Ordering}
use Rattle.lert_merge.proofs.{order.AskLemmas.{AreLawful, IsAsked, IsCalled, all_refused, breaks_at}, order.OrderLemmas.refused_stands}
use Rattle.lert_merge.proofs.order.ReadLemmas.{read_stands, read_gives, read_told, read_whole}
use Rattle.lert_merge.proofs.order.order.Order.read_one.Given as given
use Rattle.lert_merge.proofs.order.order.Order.read_one.Goals as goal

laws : (g : given.Over) → AreLawful g.S.Streams
laws g = record {
  in_order = g.met.S.Streams.in_order;
  keeps_same = g.met.S.Streams.keeps_same;
  keeps_on = g.met.S.Streams.keeps_on;
  keeps_told = g.met.S.Streams.keeps_told;
  keeps_untold = g.met.S.Streams.keeps_untold;
  keeps_breaks = g.met.S.Streams.keeps_breaks;
  keeps_tells = g.met.S.Streams.keeps_tells;
  same_self = g.met.S.Streams.same_self;
  same_on = g.met.S.Streams.same_on;
}

pub invariant_of-self : goal.invariant_of-self
invariant_of-self g c =
    let less = subst (λ (m : Ordering _). length m.ahead.counts < g.S.Streams.count m.streams) (sym c.self.view_is) c.requires in
    refused_stands g.S.Streams c.args.ctx.now c.next.new.ctx _ _ c.len-stream.result c.self.invariant
    (subst (λ n. n < g.S.Streams.count c.self.inside.streams) (sym c.len-stream.ensures) less)
    (record { others = c.next.ensures.others; counts = c.next.ensures.count; set = c.next.ensures.same; kept = c.next.ensures.keeps })
    (record { gave = c.in_err-first.ensures.refused; untold = c.next.ensures.untold; limits = c.next.ensures.limit; same_breaks = c.next.ensures.breaks }) refl refl

pub returns-in_err-first-clause-gives : goal.returns-in_err-first-clause-gives
returns-in_err-first-clause-gives g c = all_refused g.S.Streams (laws g) _ _ _ _ _ c.len-stream.result c.self.view_is
    (record { others = c.next.ensures.others; counts = c.next.ensures.count; set = c.next.ensures.same; kept = c.next.ensures.keeps }) refl
    (record { gave = c.in_err-first.ensures.refused; untold = c.next.ensures.untold; limits = c.next.ensures.limit; same_breaks = c.next.ensures.breaks })

pub returns-in_err-first-clause-malformed : goal.returns-in_err-first-clause-malformed
returns-in_err-first-clause-malformed g c at is =
    let p = err_from_is_err_and c.from_residual.result c.from_residual.ensures.1 in
    let less = subst (λ (m : Ordering _). length m.ahead.counts < g.S.Streams.count m.streams) (sym c.self.view_is) c.requires in
    breaks_at g.S.Streams c.args.ctx.now _ _ c.len-stream.result at c.self.view_is
    (subst (λ n. n < g.S.Streams.count c.self.inside.streams) (sym c.len-stream.ensures) less) (c.in_err-first.ensures.malformed at (cc (p.1, p.2)))

-- what the stream's answer says, and what the call leaves of the set
asked : (g : given.Over) (c : goal.After-push g) → IsAsked g.S.Streams c.len-stream.result c.args.ctx.now c.self.inside.streams c.next.new.ctx c.next.new.self c.in_ok-first.first
asked g c = record {
  told = c.in_ok-first.ensures.told;
  untold = c.next.ensures.untold;
  ended = λ tells none. c.in_ok-first.ensures.ended tells (ap Ok none);
  gave = c.in_ok-first.ensures.given;
  are = c.next.ensures.ascending;
  limits = c.next.ensures.limit;
  same_breaks = c.next.ensures.breaks;
}

called : (g : given.Over) (c : goal.After-push g) → IsCalled g.S.Streams c.len-stream.result c.args.ctx.now c.self.inside.streams c.next.new.ctx c.next.new.self
called g c = record { others = c.next.ensures.others; counts = c.next.ensures.count; set = c.next.ensures.same; kept = c.next.ensures.keeps }

pub invariant_of-self-2 : goal.invariant_of-self-2
invariant_of-self-2 g c =
    let less = subst (λ (m : Ordering _). length m.ahead.counts < g.S.Streams.count m.streams) (sym c.self.view_is) c.requires in
    read_stands g.S.Streams c.args.ctx.now c.next.new.ctx _ _ c.len-stream.result c.in_ok-first.first c.self.invariant c.len-stream.ensures less
    c.push.ensures.put c.push.ensures.len refl (called g c) (asked g c)

pub returns-clause-gives : goal.returns-clause-gives
returns-clause-gives g c = read_gives g.S.Streams (laws g) _ _ _ _ _ c.len-stream.result c.in_ok-first.first c.self.view_is c.len-stream.ensures c.push.ensures.put
    (called g c) (asked g c)

pub returns-clause-told : goal.returns-clause-told
returns-clause-told g c = read_told g.S.Streams (laws g) _ _ _ _ _ c.len-stream.result c.in_ok-first.first c.self.view_is c.len-stream.ensures c.push.ensures.put
    (called g c) (asked g c)

pub returns-clause-whole : goal.returns-clause-whole
returns-clause-whole g c = read_whole g.S.Streams (laws g) c.args.ctx.now c.next.new.ctx
    (record { streams = c.self.inside.streams; ahead = c.self.inside.ahead; last = c.self.inside.last.value }) c.args.self.now
    (record { streams = c.next.new.self; ahead = c.push.new.self; last = c.self.inside.last.value }) c.len-stream.result c.in_ok-first.first c.self.view_is c.len-stream.ensures c.push.ensures.put
    (called g c) (asked g c)
