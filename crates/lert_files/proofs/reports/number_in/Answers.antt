use Rattle.std.proofs.Common.{◌-◌, ◌∙◌, length, drop, arith}
use Rattle.byteorder.specs.Numbers.{little_from-take}
use Rattle.lert_files.proofs.reports.number_in.Goals as goal

pub returns : goal.returns
returns c =
    let bytes = c.args.payload.now in
    c.read_u64.ensures ∙ little_from-take 0 8 (length bytes - c.args.place) (drop c.args.place bytes) (omega (arith, c.requires))
