use Rattle.std.proofs.{Common.{◌∙◌, ◌++◌, ◌∷◌, []}, lemmas.List.replicate-append-replicate}
use Rattle.lert_levels.proofs.rows.rows.empty_rows.Goals as goal

pub loop-preserved : goal.loop-preserved
loop-preserved c = c.in_ok-push.ensures.items ∙ (λ i. c.loop.invariant i ++ c.in_ok-new.ensures i ∷ []) ∙ replicate-append-replicate c.loop.counter 1 []
