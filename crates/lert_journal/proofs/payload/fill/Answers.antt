use Rattle.std.proofs.{Common.{◌≡◌, ℕ, ◌-◌, ◌/◌, ◌<◌, ◌≤◌, ◌++◌, ◌∷◌, [], length, sym, ap, ap₂, ◌∙◌, subst, arith}, lemmas.List.FromFn.{map-range_with_len_more, length-map-range_with_len}}
use Rattle.lert_spec.specs.declared.item.Item.{Item}
use Rattle.lert_journal.specs.Payload.{item_in, item_len}
use Rattle.lert_journal.proofs.PayloadWhole.{payload_back, weighs}
use Rattle.lert_journal.proofs.payload.fill.Goals as goal

pub push-requires : goal.push-requires
push-requires c =
    let n = c.loop-n.n in
    let version = c.args.version in
    let payload = c.args.payload.now in
    let count = (length payload - 8) / item_len version in
    let below : n < count = subst (λ (e : ℕ). n < (length payload - 8) / e) c.item_len.ensures.value c.loop-n-test.true in
    let held : length c.loop-n.entry.keys.items ≡ n = ap length c.loop-n.invariant.items ∙ length-map-range_with_len (item_in version payload) 0 n in
    record {
      room = omega (arith, held, below, c.requires.room, c.loop-n.invariant.room, ap (λ list. list.room) c.clear.ensures);
      some = subst (λ (item : Item). 1 ≤ item.weight) (sym c.item_in-item.ensures) (weighs version payload count n c.requires.weighed below);
    }

pub loop-n-preserved : goal.loop-n-preserved
loop-n-preserved c = record {
  items =
      ap (λ list. list.items) c.push.ensures
      ∙ (ap₂ (λ items (item : Item). items ++ item ∷ []) c.loop-n.invariant.items c.item_in-item.ensures
      ∙ sym (map-range_with_len_more (item_in c.args.version c.args.payload.now) 0 c.loop-n.n c.loop-n.n (omega arith)));
  room = ap (λ list. list.room) c.push.ensures ∙ c.loop-n.invariant.room;
  by = c.loop-n.invariant.by;
  trace = c.loop-n.invariant.trace;
}

pub returns-clause-text : goal.returns-clause-text
returns-clause-text c whole = payload_back c.args.version c.args.payload.now (λ k. (c.type_inv.payload k).fits) whole c.requires.some
