use Rattle.std.proofs.Common.{◌≡◌, ◌+◌, ◌++◌, take, ap, ◌∙◌, append_assoc, arith}
use Rattle.byteorder.specs.Endian.{little_bytes}
use Rattle.lert_reports.proofs.log.put_report.Goals as goal

pub returns : goal.returns
returns c =
    let end : c.args.place + 16 ≡ c.args.place + 8 + 8 = omega arith in
    ap (λ n. take n c.put_u64-2.new.into) end
    ∙ (c.put_u64-2.ensures.text
    ∙ (ap (λ bytes. bytes ++ little_bytes 8 c.args.report.now.at) c.put_u64.ensures.text
    ∙ append_assoc (take c.args.place c.args.into.now) (little_bytes 8 c.args.report.now.key) (little_bytes 8 c.args.report.now.at)))
