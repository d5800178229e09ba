use Rattle.std.proofs.Common.{◌≡◌, ◌∙◌, ◌<◌, ◌≤◌, ◌++◌, ◌∷◌, [], ℕ, ap, sym, subst, refl}
use Rattle.lert_spec.specs.{Items.{unit, most_weight}, Mix.cone_of, declared.item.Item.Item}
use Rattle.lert_spec.specs.Edges.{edge, capacity}
use Rattle.lert_cone.specs.{Listing.Listing, Tally.Tallied}
use Rattle.lert_cone.proofs.KeysRecounted.{with_keys, none_again, zero_least, own_again, within_again, one_again, all_again}
use Rattle.lert_cone.proofs.tally.Tally.recount.Goals as goal

-- a number that the loop has is that of an item, and behind the last one it has none
below : {number end count : ℕ} → number < end → end ≡ count → number < count
below {number = number} less is = subst (λ n. number < n) is less

past : {number end count : ℕ} → end ≤ number → end ≡ count → count ≤ number
past {number = number} over is = subst (λ n. n ≤ number) is over

pub edge-from-requires-clause-level : goal.edge-from-requires-clause-level
edge-from-requires-clause-level g c = zero_least c.self.inside.settings.levels

pub edge-from-requires-clause-events : goal.edge-from-requires-clause-events
edge-from-requires-clause-events g c = subst (λ (t : Tallied). c.args.n0 ≤ capacity t.listing.settings) (sym c.self.view_is) c.requires.recounted.n0_fits

pub loop-number-init : goal.loop-number-init
loop-number-init g c = record { listing = none_again c.args.self.now.listing; rows = refl; due = refl; recounted = c.requires.recounted }

pub recount_item-requires-clause-own : goal.recount_item-requires-clause-own
recount_item-requires-clause-own g c = subst (λ (item : Item). cone_of c.loop-number.self.listing.settings item.key ≡ c.loop-number.self.listing.cone) (sym (c.at.ensures.value (unit 0)))
    (own_again c.args.self.now.listing c.loop-number.self.listing c.args.items.now c.loop-number.number c.loop-number.invariant.listing
    c.requires.own (below c.loop-number-test.true c.len-number-end.ensures.value))

pub recount_item-requires-clause-below : goal.recount_item-requires-clause-below
recount_item-requires-clause-below g c = c.at.ensures.fits

pub recount_item-requires-clause-some : goal.recount_item-requires-clause-some
recount_item-requires-clause-some g c = subst (λ (item : Item). 1 ≤ item.weight) (sym (c.at.ensures.value (unit 0)))
    (c.requires.light c.loop-number.number (unit 0) (below c.loop-number-test.true c.len-number-end.ensures.value)).0

pub recount_item-requires-clause-light : goal.recount_item-requires-clause-light
recount_item-requires-clause-light g c = subst (λ (l : Listing). c.at.result.weight ≤ most_weight l.version) (sym c.loop-number.invariant.listing)
    (subst (λ (item : Item). item.weight ≤ most_weight c.args.self.now.listing.version) (sym (c.at.ensures.value (unit 0)))
    (c.requires.light c.loop-number.number (unit 0) (below c.loop-number-test.true c.len-number-end.ensures.value)).1)

pub recount_item-requires-clause-from : goal.recount_item-requires-clause-from
recount_item-requires-clause-from g c =
    c.edge-from.ensures
    ∙ (ap (λ (t : Tallied). edge t.listing.settings 0 c.args.n0) c.self.view_is ∙ ap (λ (l : Listing). edge l.settings 0 c.args.n0) (sym c.loop-number.invariant.listing))

pub recount_item-requires-clause-within : goal.recount_item-requires-clause-within
recount_item-requires-clause-within g c = within_again c.args.self.now.listing c.loop-number.self.listing c.args.items.now c.loop-number.number c.loop-number.invariant.listing
    c.args.n0 c.requires.within (below c.loop-number-test.true c.len-number-end.ensures.value)

pub recount_item-requires-clause-recounted : goal.recount_item-requires-clause-recounted
recount_item-requires-clause-recounted g c = c.loop-number.invariant.recounted

pub loop-number-preserved : goal.loop-number-preserved
loop-number-preserved g c = record {
  listing = one_again c.args.self.now.listing c.loop-number.self.listing c.args.items.now c.loop-number.number c.loop-number.invariant.listing
      c.recount_item.new.self.listing (c.recount_item.ensures.listing ∙ ap (λ (item : Item). with_keys c.loop-number.self.listing (c.loop-number.self.listing.events ++ item ∷ []))
      (c.at.ensures.value (unit 0)))
      (below c.loop-number-test.true c.len-number-end.ensures.value);
  rows = c.recount_item.ensures.rows ∙ c.loop-number.invariant.rows;
  due = c.recount_item.ensures.due ∙ c.loop-number.invariant.due;
  recounted = c.recount_item.ensures.recounted;
}

pub returns : goal.returns
returns g c = record {
  listing = all_again c.args.self.now.listing c.loop-number.self.listing c.args.items.now c.loop-number.number c.loop-number.invariant.listing (past c.loop-number-test.false
      c.len-number-end.ensures.value);
  rows = c.loop-number.invariant.rows;
  due = c.loop-number.invariant.due;
  recounted = c.loop-number.invariant.recounted;
}
