use Rattle.std.proofs.Common.{◌≤◌, ◌∙◌, subst}
use Rattle.lert_bay.proofs.Restoring.{restores_some, restores_none, piece_within}
use Rattle.lert_bay.proofs.writes.restore.Goals as goal

pub lay-requires : goal.lay-requires
lay-requires c = piece_within c.args.write.now c.lost_part-from.result.0 c.lost_part-from.result.1 c.min-end.result c.deref.result.now c.args.bytes.now
    c.deref.ensures.value (subst (λ n. c.lost_part-from.result.1 ≤ n) c.len.ensures c.lost_part-from.ensures.within) c.min-end.ensures c.if-start-end.true

pub returns-then-start-end : goal.returns-then-start-end
returns-then-start-end c =
    let back = restores_some c.args.write.now c.lost_part-from.result.0 c.lost_part-from.result.1 c.min-end.result c.deref.result.now c.args.bytes.now c.lay.new.bytes
    c.deref.ensures.value (subst (λ n. c.lost_part-from.result.1 ≤ n) c.len.ensures c.lost_part-from.ensures.within) c.min-end.ensures c.if-start-end.true c.lay.ensures in
    record {
      length = back.long;
      elsewhere = back.elsewhere;
      lost = λ lost. let ends = c.lost_part-from.ensures.lost lost in back.lost ends.0 (ends.1 ∙ c.len.ensures);
      whole = λ whole. back.whole (c.lost_part-from.ensures.whole whole);
    }

pub returns-else-start-end : goal.returns-else-start-end
returns-else-start-end c =
    let back = restores_none c.args.write.now c.lost_part-from.result.0 c.lost_part-from.result.1 c.min-end.result c.args.bytes.now c.min-end.ensures c.if-start-end.false in
    record {
      length = back.long;
      elsewhere = back.elsewhere;
      lost = λ lost. let ends = c.lost_part-from.ensures.lost lost in back.lost ends.0 (ends.1 ∙ c.len.ensures);
      whole = λ whole. back.whole (c.lost_part-from.ensures.whole whole);
    }
