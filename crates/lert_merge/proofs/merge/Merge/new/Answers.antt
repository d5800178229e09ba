use Rattle.std.proofs.Common.{sym, ◌∙◌, ap, subst, ◌≤◌}
use Rattle.lert_merge.specs.Givers.{Room}
use Rattle.lert_merge.proofs.TurnLemmas.{begun_stands}
use Rattle.lert_merge.proofs.merge.Merge.new.Goals as goal

pub invariant_of-result : goal.invariant_of-result
invariant_of-result g c = begun_stands g.S.Streams c.new.result c.clear.new.self
    (subst (λ streams. g.S.Streams.count streams ≤ 65535) (sym c.new.ensures.streams) c.requires.few)
    (subst (λ streams. g.S.Streams.count streams ≤ c.clear.new.self.room) (sym c.new.ensures.streams)
    (subst (λ n. g.S.Streams.count c.args.streams ≤ n) (sym (c.clear.ensures.room ∙ ap (λ (r : Room). r.room) c.heads.view_is)) c.requires.room))
    (c.new.ensures.room ∙ c.heads.invariant ∙ sym c.clear.ensures.room) c.clear.ensures.taken c.clear.ensures.last
