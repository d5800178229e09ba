use Rattle.std.proofs.Common.{subst, arith}
use Rattle.lert_spec.specs.Limits.{IsValid}
use Rattle.lert_reports.proofs.{BinCount.{bin_count_is, edge_fits}, directory.bins.Goals.After-edge-high}
use Rattle.lert_reports.proofs.directory.bins.Goals as goal

valid : (c : After-edge-high) → IsValid c.args.settings.now
valid c = subst IsValid c.numbers.ensures.value c.numbers.ensures.valid

pub overflow_add-result : goal.overflow_add-result
overflow_add-result c =
    let fits = edge_fits c.args.settings.now c.args.level c.args.n c.requires.last c.requires.events (valid c) in
    omega (arith, fits, c.edge-high.ensures, c.span-span.ensures.value)

pub overflow_sub-result-2 : goal.overflow_sub-result-2
overflow_sub-result-2 c =
    rw (c.edge-low.ensures, c.edge-high.ensures, c.span-span.ensures.value)
    (bin_count_is c.args.settings.now c.args.level c.args.n c.requires.first (valid c)).0

pub returns : goal.returns
returns c =
    rw (c.edge-low.ensures, c.edge-high.ensures, c.span-span.ensures.value)
    (bin_count_is c.args.settings.now c.args.level c.args.n c.requires.first (valid c)).1
