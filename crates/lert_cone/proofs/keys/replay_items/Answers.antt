use Rattle.lert_spec.specs.Items.{most_weight, AreOfVersion}
use Rattle.lert_spec.specs.declared.item.Item.{Item}
use Rattle.lert_bay.specs.Kept.{seen_by}
use Rattle.std.proofs.{Common.{◌≡◌, ◌∙◌, ◌-◌, ◌≤◌, List, All, length, min, ap, sym, subst, arith, length-append, length-take}, lemmas.Bool.{eqb-false, eqb-true}}
use Rattle.std.proofs.lemmas.List.Elements.{All-take}
use Rattle.lert_spec.specs.{Mix.cone_of, declared.numbers.Numbers.Numbers, Edges.capacity}
use Rattle.lert_cone.proofs.{KeysReplayed.{all_again, can_take_ahead, others_ahead}}
use Rattle.lert_cone.specs.{Listing.Listing}
use Rattle.lert_bay.proofs.KeptLaws.{IsLawful}
use Rattle.lert_cone.proofs.keys.replay_items.Given as given
use Rattle.lert_cone.proofs.keys.replay_items.Goals as goal

lawful : (g : given.Over) → IsLawful (seen_by g.B.Faulty g.B.Bay)
lawful g = record { as_read = g.met.B.Bay.as_read; since_now = g.met.B.Bay.since_now; only_now = g.met.B.Bay.only_now; since_earlier = g.met.B.Bay.since_earlier }

pub count_again-requires-clause-own : goal.count_again-requires-clause-own
count_again-requires-clause-own g c = subst (λ (keys : List Item). All (λ item. cone_of c.args.tally.now.listing.settings item.key ≡ c.args.tally.now.listing.cone) keys)
    (sym c.split_at-again.ensures.front)
    (All-take (λ item. cone_of c.args.tally.now.listing.settings item.key ≡ c.args.tally.now.listing.cone) c.min-count.result c.args.items.now c.requires.own)

pub count_again-requires-clause-light : goal.count_again-requires-clause-light
count_again-requires-clause-light g c = subst (AreOfVersion c.args.tally.now.listing.version) (sym c.split_at-again.ensures.front)
    (All-take (λ (item : Item). (1 ≤ item.weight) × (item.weight ≤ most_weight c.args.tally.now.listing.version)) c.min-count.result c.args.items.now c.requires.light)

pub count_again-requires-clause-within : goal.count_again-requires-clause-within
count_again-requires-clause-within g c = λ some.
    let count_is : c.min-count.result ≡ min (c.args.n0 - length c.args.tally.now.listing.events) (length c.args.items.now) =
    omega (arith, c.min-count.ensures, c.saturating_sub.ensures, c.len.ensures, c.len-2.ensures.value) in
    omega (arith, some, count_is, ap (length {A = Item}) c.split_at-again.ensures.front, length-take c.min-count.result c.args.items.now)

pub count_again-requires-clause-recounted : goal.count_again-requires-clause-recounted
count_again-requires-clause-recounted g c = c.requires.recounted

pub pass-requires-clause-forward : goal.pass-requires-clause-forward
pass-requires-clause-forward g c =
    omega (
      arith,
      c.requires.can_log.logging.passed,
      c.len-3.ensures,
      ap (λ (l : Listing). length l.events) c.count_again.ensures.listing,
      length-append c.args.tally.now.listing.events c.split_at-again.result.0,
    )

pub pass-requires-clause-within : goal.pass-requires-clause-within
pass-requires-clause-within g c =
    let settings_are = c.requires.can_log.logging.same ∙ sym (ap (λ (l : Listing). l.settings) c.count_again.ensures.listing) in
    subst (λ (s : Numbers). c.len-3.result ≤ capacity s) (sym settings_are) (omega (arith, c.len-3.ensures, c.count_again.ensures.recounted.fits))

pub returns-then-is_empty : goal.returns-then-is_empty
returns-then-is_empty g c = all_again (lawful g) c.args.place c.requires c.split_at-again.ensures.front c.split_at-again.ensures.back
    (omega (arith, c.min-count.ensures, c.saturating_sub.ensures, c.len.ensures, c.len-2.ensures.value)) c.count_again.ensures.listing c.count_again.ensures.rows c.count_again.ensures.due
    c.count_again.ensures.recounted
    c.len-3.ensures c.pass.ensures.passed c.pass.ensures.rest (eqb-true (length c.split_at-again.result.1) 0 (sym c.is_empty.ensures ∙ c.if-is_empty.true))

pub take_items-requires : goal.take_items-requires
take_items-requires g c = can_take_ahead (lawful g) c.args.place c.requires c.split_at-again.ensures.front c.split_at-again.ensures.back
    (omega (arith, c.min-count.ensures, c.saturating_sub.ensures, c.len.ensures, c.len-2.ensures.value)) c.count_again.ensures.listing c.count_again.ensures.rows c.count_again.ensures.due
    c.count_again.ensures.recounted
    c.len-3.ensures c.pass.ensures.passed c.pass.ensures.rest (omega (arith, eqb-false (length c.split_at-again.result.1) 0 (sym c.is_empty.ensures ∙ c.if-is_empty.false)))

pub returns : goal.returns
returns g c = others_ahead (lawful g) c.args.place c.requires c.split_at-again.ensures.front c.split_at-again.ensures.back
    (omega (arith, c.min-count.ensures, c.saturating_sub.ensures, c.len.ensures, c.len-2.ensures.value)) c.count_again.ensures.listing c.count_again.ensures.rows c.count_again.ensures.due
    c.count_again.ensures.recounted
    c.len-3.ensures c.pass.ensures.passed c.pass.ensures.rest (omega (arith, eqb-false (length c.split_at-again.result.1) 0 (sym c.is_empty.ensures ∙ c.if-is_empty.false))) c.take_items.ensures
