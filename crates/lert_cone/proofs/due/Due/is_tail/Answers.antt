use Rattle.std.proofs.Common.{arith, ap, ◌∙◌, ◌≡◌, ◌+◌, ◌^◌, ◌/◌, leb-true, le-leb}
use Rattle.lert_frames.proofs.PlaceLaws.{limit_is}
use Rattle.lert_spec.specs.Edges.{tail_bits}
use Rattle.lert_spec.specs.declared.numbers.Numbers.{Numbers}
use Rattle.lert_cone.specs.Due.{Dues}
use Rattle.lert_cone.proofs.due.Due.is_tail.Goals as goal

pub returns-clause-tail : goal.returns-clause-tail
returns-clause-tail g c =
    let most = 18446744073709551615 / 2 ^ c.numbers.result.cone_bits in
    let is : most + 1 ≡ 2 ^ tail_bits c.args.self.now.settings =
    limit_is c.numbers.result.cone_bits c.numbers.ensures.valid.limits.cone_bits_to
    ∙ ap (λ (s : Numbers). 2 ^ tail_bits s) (c.numbers.ensures.value ∙ ap (λ (d : Dues). d.settings) c.self.view_is) in (
      (λ yes. let within = leb-true c.args.tail most yes in omega arith),
      (λ below. le-leb c.args.tail most (omega arith)),
    )
