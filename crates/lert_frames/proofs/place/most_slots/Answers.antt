use Rattle.std.proofs.Common.{◌≡◌, ◌*◌, ◌^◌, ◌<◌, arith, ap₂, subst}
use Rattle.lert_spec.specs.Limits.{IsValid}
use Rattle.lert_frames.{specs.Place.most_slots, proofs.PlaceLaws.slots_fit}
use Rattle.lert_frames.proofs.place.most_slots.Goals as goal

module _ (c : goal.After-span) where
  is : c.slots_each.result * c.span.result ≡ most_slots c.args.settings.now c.args.version c.args.level
  is = ap₂ (λ each span. each * span) c.slots_each.ensures.value c.span.ensures.value

  few : most_slots c.args.settings.now c.args.version c.args.level < 2 ^ 32
  few = slots_fit c.args.settings.now (subst IsValid c.numbers-valid.ensures.value c.numbers-valid.ensures.valid) c.args.version c.args.level c.requires

pub overflow_mul-result : goal.overflow_mul-result
overflow_mul-result c = omega (arith, is c, few c)

pub returns : goal.returns
returns c = record { value = is c; few = omega (arith, is c, few c) }
