use Rattle.std.proofs.Common.{◌≡◌, ◌<◌, ◌≤◌, ℕ, [], ◌∷◌, length, subst, sym}
use Rattle.lert_spec.specs.{Items.unit, declared.item.Item.Item}
use Rattle.lert_cone.specs.Takes.{CanTake}
use Rattle.lert_bay.specs.Kept.{seen_by}
use Rattle.lert_cone.proofs.{KeysTaken.{takes_none, next_can, next_takes, next_refused, all_taken}}
use Rattle.lert_bay.proofs.KeptLaws.{IsLawful}
use Rattle.lert_cone.proofs.keys.take_items.Given as given
use Rattle.lert_cone.proofs.keys.take_items.Goals as goal

lawful : (g : given.Over) → IsLawful (seen_by g.B.Faulty g.B.Bay)
lawful g = record { as_read = g.met.B.Bay.as_read; since_now = g.met.B.Bay.since_now; only_now = g.met.B.Bay.only_now; since_earlier = g.met.B.Bay.since_earlier }

pub loop-number-init : goal.loop-number-init
loop-number-init g c = takes_none (lawful g) c.args.place c.requires

-- a number that the loop has is that of an item, and behind the last one it has none
below : {number end count : ℕ} → number < end → end ≡ count → number < count
below {number = number} less is = subst (λ n. number < n) is less

past : {number end count : ℕ} → end ≤ number → end ≡ count → count ≤ number
past {number = number} over is = subst (λ n. n ≤ number) is over

pub take_item-requires : goal.take_item-requires
take_item-requires g c = record {
  below = c.at.ensures.fits;
  can = subst (λ (item : Item). CanTake (seen_by g.B.Faulty g.B.Bay) (item ∷ [])
      (record { bay = c.loop-number.bay; counts = c.loop-number.tally; log = c.loop-number.log; room = length c.loop-number.buffer })) (sym (c.at.ensures.value (unit 0)))
      (next_can (lawful g) c.args.place c.args.items.now c.loop-number.number c.loop-number.invariant c.requires (below c.loop-number-test.true c.len-number-end.ensures.value));
}

pub loop-number-preserved : goal.loop-number-preserved
loop-number-preserved g c =
    next_takes (lawful g) c.args.place c.args.items.now c.loop-number.number c.loop-number.invariant (below c.loop-number-test.true c.len-number-end.ensures.value)
    (rw (← c.at.ensures.value (unit 0)) c.in_ok-take_item.ensures)

pub returns-in_err-take_item : goal.returns-in_err-take_item
returns-in_err-take_item g c =
    next_refused (lawful g) c.args.place c.args.items.now c.loop-number.number c.loop-number.invariant (below c.loop-number-test.true c.len-number-end.ensures.value)
    c.in_err-take_item.was (rw (← c.at.ensures.value (unit 0)) c.take_item.ensures) c.from_residual.ensures.1

pub returns : goal.returns
returns g c = all_taken (lawful g) c.args.place c.args.items.now c.loop-number.number c.loop-number.invariant (past c.loop-number-test.false c.len-number-end.ensures.value)
