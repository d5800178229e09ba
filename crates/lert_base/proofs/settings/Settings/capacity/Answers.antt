use Rattle.std.proofs.Common.{ℕ, ◌+◌, ◌-◌, ◌≡◌, arith, ap, ap₂, ◌∙◌, refl, min}
use Rattle.lert_spec.specs.{declared.numbers.Numbers.Numbers, Edges.{capacity, offset, span}}
use Rattle.lert_spec.proofs.LimitLaws.{capacity_from, capacity_to}
use Rattle.lert_base.proofs.{Levels.{read_span, read_offset, span_positive, valid_as_seen}, settings.Settings.capacity.Goals.After-min}
use Rattle.lert_base.proofs.settings.Settings.capacity.Goals as goal

pub overflow_add-positions : goal.overflow_add-positions
overflow_add-positions c =
    let s = c.self.inside.numbers in
    let wide = read_span s s c.self.inside.spans c.self.inside.offsets s.levels c.self.invariant refl (omega arith) in
    let far = read_offset s s c.self.inside.spans c.self.inside.offsets s.levels c.self.invariant refl (omega arith) in
    omega (arith, c.self.invariant.valid.positions_fit)

pub overflow_sub-positions : goal.overflow_sub-positions
overflow_sub-positions c =
    let s = c.self.inside.numbers in
    omega (arith, span_positive s s c.self.inside.spans c.self.inside.offsets s.levels c.self.invariant refl (omega arith))

value : (c : After-min) → c.min.result ≡ capacity c.args.self.now
value c =
    let s = c.self.inside.numbers in
    let wide = read_span s s c.self.inside.spans c.self.inside.offsets s.levels c.self.invariant refl (omega arith) in
    let far = read_offset s s c.self.inside.spans c.self.inside.offsets s.levels c.self.invariant refl (omega arith) in
    let positions = ap₂ (λ (o w : ℕ). o + w - 1) far wide ∙ ap (λ (n : Numbers). offset n n.levels + span n n.levels - 1) c.self.view_is in
    c.min.ensures ∙ ap₂ min positions c.weight_room.ensures.value

pub returns-clause-value : goal.returns-clause-value
returns-clause-value c = value c

pub returns-clause-least : goal.returns-clause-least
returns-clause-least c = omega (arith, value c, capacity_from c.args.self.now (valid_as_seen _ _ c.self.invariant.valid c.self.view_is))

pub returns-clause-most : goal.returns-clause-most
returns-clause-most c = omega (arith, value c, capacity_to c.args.self.now (valid_as_seen _ _ c.self.invariant.valid c.self.view_is))
