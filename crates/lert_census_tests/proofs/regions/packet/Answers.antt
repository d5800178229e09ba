use Rattle.std.proofs.Common.{◌≡◌, ℕ, ◌+◌, ◌≤◌, ◌++◌, ◌∷◌, [], List, take, get_or, All, sym, ap, subst, ◌∙◌, arith}
use Rattle.std.proofs.lemmas.List.{take_more, take_all, map-append}
use Rattle.std.proofs.lemmas.List.Elements.{All-nil, All-cons, All-append}
use Rattle.lert_base.specs.{declared.entry.Entry.Entry, Entries.packet_of}
use Rattle.lert_journal.specs.Payload.{IsJournaled}
use Rattle.lert_spec.specs.{declared.item.Item.Item, Items.{AreOfVersion, keys_in, most_weight}, Mix.cone_of}
use Rattle.lert_census_tests.proofs.regions.packet.Goals as goal

abbrev none : Item
none = record { key = 0; weight = 0 }

abbrev IsLight : Item → Type 0
IsLight i = (1 ≤ i.weight) × (i.weight ≤ most_weight 2)

pub loop-item-preserved : goal.loop-item-preserved
loop-item-preserved g c =
    let items = c.args.items.now in
    let k = c.loop-item.item-index in
    let more : take (k + 1) items ≡ take k items ++ get_or items k none ∷ [] = take_more items k none c.loop-item-test.true in
    let own : ℕ → Type 0 = λ key. cone_of c.args.settings.now key ≡ c.args.region in
    record {
      taken = ap (λ list. list.items) c.push.ensures ∙ (ap (λ before. before ++ get_or items k none ∷ []) c.loop-item.invariant.taken ∙ sym more);
      room = ap (λ list. list.room) c.push.ensures ∙ c.loop-item.invariant.room;
      own = subst (λ (is : List Item). All own (keys_in is)) (sym more)
          (subst (All own) (sym (map-append (λ (i : Item). i.key) (take k items) (get_or items k none ∷ [])))
          (All-append own (keys_in (take k items)) ((get_or items k none).key ∷ []) c.loop-item.invariant.own
          (All-cons own (get_or items k none).key [] c.assert_fits.ensures.own (All-nil own))));
      light = subst (AreOfVersion 2) (sym more)
          (All-append IsLight (take k items) (get_or items k none ∷ []) c.loop-item.invariant.light
          (All-cons IsLight (get_or items k none) [] (c.assert_fits.ensures.some, c.assert_fits.ensures.most) (All-nil IsLight)));
    }

pub returns : goal.returns
returns g c =
    let items = c.args.items.now in
    let all : take c.loop-item.item-index items ≡ items = take_all c.loop-item.item-index items c.loop-item-test.false in
    let is : c.loop-item.list.items ≡ items = c.loop-item.invariant.taken ∙ all in
    subst (λ (entry : Entry). IsJournaled 2 c.args.settings.now c.args.region (packet_of entry)) (sym c.new.ensures)
    (subst (λ (is : List Item). IsJournaled 2 c.args.settings.now c.args.region (record { by = 0; trace = 0; items = is })) (sym is) (record {
      some = c.requires.some;
      few = c.requires.few;
      by_most = omega arith;
      trace_most = omega arith;
      of_cone = subst (λ (is : List Item). All (λ key. cone_of c.args.settings.now key ≡ c.args.region) (keys_in is)) all c.loop-item.invariant.own;
      weighed = subst (AreOfVersion 2) all c.loop-item.invariant.light;
    }))
