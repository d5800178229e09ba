use Rattle.std.proofs.Common.{◌+◌, ◌-◌, ap, ◌∙◌, take, drop}
use Rattle.lert_trace.proofs.Pending.{take-slid}
use Rattle.lert_trace.proofs.window.slide.Goals as goal

pub returns : goal.returns
returns c =
    ap (λ xs. take (c.args.end - c.args.start) xs) c.copy_within.ensures.after
    ∙ take-slid c.args.block.now (drop (0 + (c.args.end - c.args.start)) c.args.block.now) c.args.start c.args.end c.requires.ordered c.requires.within
