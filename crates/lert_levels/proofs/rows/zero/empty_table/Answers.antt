use Rattle.std.proofs.{Common.{◌*◌, ap, arith}, Math.Nat.pow-zero}
use Rattle.lert_spec.specs.declared.numbers.Numbers.{Numbers}
use Rattle.lert_levels.proofs.rows.zero.empty_table.Goals as goal

pub new-requires : goal.new-requires
new-requires g c =
    let s = c.args.settings.now in
    let base = ap (λ (t : Numbers). t.base) c.numbers-valid.ensures.value in
    record {
      least_quotient = c.quotient_bits.ensures.least;
      most_quotient = omega (arith, c.quotient_bits.ensures.most);
      least_width = omega (arith, c.width.ensures.least);
      most_width = c.width.ensures.most;
      events = omega (arith, c.span.ensures.value, ap (λ n. s.base * n) (pow-zero s.ratio), base, c.numbers-valid.ensures.valid.limits.base_to);
    }
