use Rattle.std.proofs.Common.{None, [], sym, ◌∙◌}
use Rattle.lert_merge.proofs.order.EachLemmas.{at_old, at_new, same_breaks, breaks_here, others_stay, told_turned}
use Rattle.lert_merge.proofs.order.each.EachStreams.next.Goals as goal

pub returns-clause-told : goal.returns-clause-told
returns-clause-told g c ps told =
    let old = at_old (λ stream. g.P.Pieces.to_come stream c.args.ctx.now) None _ _ c.args.stream _ c.self.view_is c.requires c.index_mut.ensures.value in
    told_turned c.next.result ps _ _
    (at_new (λ stream. g.P.Pieces.to_come stream c.next.new.ctx) None _ _ c.args.stream c.next.new.self c.self.view_is c.requires)
    (c.next.ensures.told ps (sym old ∙ told))

pub returns-clause-untold : goal.returns-clause-untold
returns-clause-untold g c none =
    let old = at_old (λ stream. g.P.Pieces.to_come stream c.args.ctx.now) None _ _ c.args.stream _ c.self.view_is c.requires c.index_mut.ensures.value in
    let new = at_new (λ stream. g.P.Pieces.to_come stream c.next.new.ctx) None _ _ c.args.stream c.next.new.self c.self.view_is c.requires in
    rw new (c.next.ensures.untold (sym old ∙ none))

pub returns-clause-given : goal.returns-clause-given
returns-clause-given g c =
    let old = at_old g.P.Pieces.given [] _ _ c.args.stream _ c.self.view_is c.requires c.index_mut.ensures.value in
    let new = at_new g.P.Pieces.given [] _ _ c.args.stream c.next.new.self c.self.view_is c.requires in
    rw (old, new) c.next.ensures.given

pub returns-clause-refused : goal.returns-clause-refused
returns-clause-refused g c =
    let old = at_old g.P.Pieces.given [] _ _ c.args.stream _ c.self.view_is c.requires c.index_mut.ensures.value in
    let new = at_new g.P.Pieces.given [] _ _ c.args.stream c.next.new.self c.self.view_is c.requires in
    rw (old, new) c.next.ensures.refused

pub returns-clause-ascending : goal.returns-clause-ascending
returns-clause-ascending g c =
    let limit = at_new g.P.Pieces.limit 0 _ _ c.args.stream c.next.new.self c.self.view_is c.requires in
    let given = at_new g.P.Pieces.given [] _ _ c.args.stream c.next.new.self c.self.view_is c.requires in
    rw (limit, given) c.next.ensures.ascending

pub returns-clause-limit : goal.returns-clause-limit
returns-clause-limit g c =
    let old = at_old g.P.Pieces.limit 0 _ _ c.args.stream _ c.self.view_is c.requires c.index_mut.ensures.value in
    at_new g.P.Pieces.limit 0 _ _ c.args.stream c.next.new.self c.self.view_is c.requires ∙ c.next.ensures.limit ∙ sym old

pub returns-clause-malformed : goal.returns-clause-malformed
returns-clause-malformed g c at is =
    let both = c.next.ensures.malformed at is in (
      at_old (λ stream. g.P.Pieces.to_come stream c.args.ctx.now) None _ _ c.args.stream _ c.self.view_is c.requires c.index_mut.ensures.value ∙ both.0,
      breaks_here g.P.Pieces.breaks _ _ c.args.stream _ c.args.ctx.now at c.self.view_is c.requires c.index_mut.ensures.value both.1,
    )

pub returns-clause-breaks : goal.returns-clause-breaks
returns-clause-breaks g c at = same_breaks g.P.Pieces.breaks _ _ c.args.stream _ _ _ _ at c.self.view_is c.requires c.index_mut.ensures.value (c.next.ensures.breaks at)

pub returns-clause-others : goal.returns-clause-others
returns-clause-others g c k ne = others_stay g.P.Pieces.to_come g.P.Pieces.given g.P.Pieces.limit g.P.Pieces.breaks _ _ c.args.stream k _ c.self.view_is ne

pub returns-clause-ended : goal.returns-clause-ended
returns-clause-ended g c tells is = absurd tells
