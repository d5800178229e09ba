use Rattle.std.proofs.Common.{arith, ap, ◌<◌}
use Rattle.lert_spec.specs.declared.numbers.Numbers.{Numbers}
use Rattle.lert_cone.proofs.DueLaws.{passes_few}
use Rattle.lert_cone.proofs.due.Due.threshold.Goals as goal

pub returns-clause-passes : goal.returns-clause-passes
returns-clause-passes g c = rw (← c.self.view_is) (λ piece few.
    let least : piece.count < c.self.inside.settings.threshold = omega (arith, few, ap (λ (s : Numbers). s.threshold) c.numbers.ensures.value) in
    passes_few (record {
      settings = c.self.inside.settings;
      cone = c.self.inside.cone;
      reports = c.self.inside.store.reports;
      before = c.self.inside.before.value.reports;
      at = c.self.inside.at;
      is_full = c.self.inside.is_full;
    }) piece (omega (arith, c.self.invariant.valid.limits.cone_bits_to)) c.self.invariant.named least)
