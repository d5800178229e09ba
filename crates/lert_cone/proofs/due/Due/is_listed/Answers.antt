use Rattle.std.proofs.{Common.{arith, ap, sym, ◌∙◌, ◌≡◌, ◌<◌, ◌≤◌, ◌^◌, true}, lemmas.Bool.false≢true}
use Rattle.lert_spec.specs.Edges.{key_bits, tail_bits}
use Rattle.lert_spec.specs.Look.{is_listed}
use Rattle.lert_spec.proofs.TailLaws.{key_with}
use Rattle.lert_cone.proofs.{DueLaws.passes_listed, KeyLemmas.key_with_is}
use Rattle.lert_cone.proofs.due.Due.is_listed.Goals as goal

pub returns-clause-value : goal.returns-clause-value
returns-clause-value g c = rw (← c.self.view_is) (λ below.
    let key_is = key_with_is c.self.inside.settings c.self.inside.cone (omega (arith, c.self.invariant.valid.limits.cone_bits_to)) c.self.invariant.named c.args.tail below
    c.key_of-key.result c.key_of-key.ensures.only in
    c.has.ensures ∙ ap (λ key. is_listed key c.self.inside.store.reports) key_is)

pub returns-clause-passes : goal.returns-clause-passes
returns-clause-passes g c = rw (← c.self.view_is) (λ listed count.
    let bits : c.self.inside.settings.cone_bits ≤ key_bits c.self.inside.settings = omega (arith, c.self.invariant.valid.limits.cone_bits_to) in
    let below : c.args.tail < 2 ^ tail_bits c.self.inside.settings = rw (← c.self.view_is) at c.is_tail.ensures.tail.0 c.if-not-is_tail.false in
    let key_is = key_with_is c.self.inside.settings c.self.inside.cone bits c.self.invariant.named c.args.tail below c.key_of-key.result c.key_of-key.ensures.only in
    let there : is_listed (key_with c.self.inside.settings c.self.inside.cone c.args.tail) c.self.inside.store.reports ≡ true =
    ap (λ key. is_listed key c.self.inside.store.reports) (sym key_is) ∙ sym c.has.ensures ∙ listed in
    passes_listed (record {
      settings = c.self.inside.settings;
      cone = c.self.inside.cone;
      reports = c.self.inside.store.reports;
      before = c.self.inside.before.value.reports;
      at = c.self.inside.at;
      is_full = c.self.inside.is_full;
    }) (record { tail = c.args.tail; count = count }) bits c.self.invariant.named there)

-- a number that is no tail
pub returns-then-not-is_tail-clause-value : goal.returns-then-not-is_tail-clause-value
returns-then-not-is_tail-clause-value g c = λ below. absurd (false≢true (sym c.if-not-is_tail.true ∙ c.is_tail.ensures.tail.1 below))

pub returns-then-not-is_tail-clause-passes : goal.returns-then-not-is_tail-clause-passes
returns-then-not-is_tail-clause-passes g c = λ never count. absurd (false≢true never)
