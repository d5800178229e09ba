use Rattle.std.proofs.Common.{ℕ, ◌+◌, ◌<◌, List, length, ap, sym, ◌∙◌, subst}
use Rattle.lert_bay.proofs.Restoring.{copied_more}
use Rattle.lert_bay.proofs.writes.copies.Goals as goal

pub invariant_of-push : goal.invariant_of-push
invariant_of-push c = record {
  in_reach = subst (λ (xs : List ℕ). c.write-item.result.at + length xs < 9223372036854775808) (sym (c.in_ok-old.ensures.items ∙ c.deref.ensures.value)) c.write-item.result.in_reach;
}

pub loop-write-preserved : goal.loop-write-preserved
loop-write-preserved c =
    copied_more c.args.writes.now c.loop-write.copies.items c.push.new.self.items c.loop-write.write-index c.write-item.result _ c.loop-write.invariant c.loop-write-test.true
    c.write-item.is (ap (λ (xs : List ℕ). (c.write-item.result.at, xs)) (c.in_ok-old.ensures.items ∙ c.deref.ensures.value)) c.in_ok-push.ensures.items
