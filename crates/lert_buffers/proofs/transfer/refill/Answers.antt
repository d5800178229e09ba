use Rattle.std.proofs.Common.{◌<◌, ap, ◌∙◌, length, get_or, arith}
use Rattle.std.proofs.lemmas.List.{length-map}
use Rattle.lert_buffers.proofs.RingLemmas.{item_more, refilled, weighed}
use Rattle.lert_spec.specs.declared.item.Item.{Item}
use Rattle.lert_buffers.proofs.transfer.refill.Goals as goal

pub returns-clause-some : goal.returns-clause-some
returns-clause-some c = weighed c.args.keys.now.items c.weights-weights.result.now c.weights-weights.ensures.value c.weights-weights.ensures.some

pub loop-place-preserved : goal.loop-place-preserved
loop-place-preserved c =
    let items = c.args.keys.now.items in
    let keys = c.as_slice-names.result.now in
    let weights = c.weights-weights.result.now in
    let place = c.loop-place.place in
    let within : place < length items = omega (arith, c.loop-place-test.true, ap length c.as_slice-names.ensures, length-map items (λ (i : Item). i.key)) in
    record {
      moved = c.push_back.ensures.items
          ∙ refilled c.args.ring.now c.loop-place.ring items place (record { key = get_or keys place 0; weight = get_or weights place 0 }) c.loop-place.invariant.moved c.requires within
          (item_more items keys weights place within c.as_slice-names.ensures c.weights-weights.ensures.value);
    }
