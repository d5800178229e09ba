use Rattle.std.proofs.{Common.{◌-◌, ◌*◌, ◌/◌, ap, ◌∙◌}, Math.Nat.mul_comm}
use Rattle.lert_base.proofs.settings.Settings.edge.Goals as goal

pub returns : goal.returns
returns c =
    mul_comm _ c.span-span.result
    ∙ (λ i. c.span-span.ensures.value i * ((c.saturating_sub.ensures ∙ ap (λ o. c.args.n - o) c.offset.ensures) i / c.span-span.ensures.value i))
