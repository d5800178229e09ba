use Rattle.lert_spec.specs.Edges.{key_bits}
use Rattle.std.proofs.Common.{subst, sym, arith, rules, ◌≤◌, ◌++◌, ◌∷◌, []}
use Rattle.lert_cone.specs.Due.{Dues, TookFrom}
use Rattle.lert_cone.proofs.DueLaws.{from_total, took_none}
use Rattle.lert_cone.proofs.due.Due.total.Goals as goal

pub returns-then-is_tail : goal.returns-then-is_tail
returns-then-is_tail g c = λ start pieces from less.
    let bits : c.args.self.now.settings.cone_bits ≤ key_bits c.args.self.now.settings = omega (arith, c.is_tail.ensures.valid.limits.cone_bits_to) in
    subst (λ (v : Dues). TookFrom start v (pieces ++ record { tail = c.args.tail; count = c.args.count } ∷ [])) (sym c.take_total.ensures)
    (from_total c.args.self.now (record { tail = c.args.tail; count = c.args.count }) start pieces bits c.is_tail.ensures.named from less)

pub returns-else-is_tail : goal.returns-else-is_tail
returns-else-is_tail g c = λ start pieces from less. record {
  settings_are = from.settings_are;
  cone_is = from.cone_is;
  before_is = from.before_is;
  at_is = from.at_is;
  grows = from.grows;
  took = took_none c.args.self.now pieces (record { tail = c.args.tail; count = c.args.count }) (λ below. absurd (let is = c.is_tail.ensures.tail.1 below in search rules));
}
