use Rattle.std.proofs.Common.{ℕ, ◌-◌, ◌<◌, length, drop, slice_index, ap, sym, ◌∙◌, subst}
use Rattle.lert_bay.specs.{Files.IsOutside, Pending.before_all, declared.overwrite.Overwrite.Overwrite}
use Rattle.lert_bay.proofs.Restoring.{back_more, last_within, none_left}
use Rattle.lert_bay.proofs.writes.take_back.Goals as goal

pub loop-index-preserved : goal.loop-index-preserved
loop-index-preserved c =
    let was = c.loop-index.invariant in
    let write = c.index-writes-index in (
      c.restore.ensures.length ∙ was.0,
      λ place outside.
          c.restore.ensures.elsewhere place (subst (λ (w : Overwrite). IsOutside w.at (length w.old.items) place) (sym write.is)
          (outside (c.loop-index.index - 1) write.result (last_within _ _ c.loop-index-test.true c.loop-index.auto.index)))
          ∙ was.1 place outside,
      λ lost place within. back_more c.args.writes.now c.loop-index.index place _ _ _ write.result c.loop-index-test.true c.loop-index.auto.index write.is
          (c.restore.ensures.lost (c.fate_of.ensures.lost lost) place (subst (λ (n : ℕ). place < n) (sym was.0) within)) (was.2 lost place within),
      λ whole. c.restore.ensures.whole (c.fate_of.ensures.whole whole) ∙ was.3 whole,
    )

pub returns : goal.returns
returns c =
    let was = c.loop-index.invariant in
    record {
      length = was.0;
      elsewhere = was.1;
      lost = λ lost place within.
          was.2 lost place within ∙ ap (λ n. before_all (drop n c.args.writes.now) place (slice_index c.args.bytes.now place)) (none_left _ c.loop-index-test.false);
      whole = was.3;
    }
