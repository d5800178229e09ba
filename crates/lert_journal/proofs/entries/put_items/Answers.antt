use Rattle.std.proofs.Common.{◌≡◌, ℕ, ◌+◌, ◌*◌, ◌++◌, length, take, sym, ap, subst, ◌∙◌}
use Rattle.std.specs.Prelude.{flat_map}
use Rattle.lert_base.specs.Keys.{items_of}
use Rattle.lert_journal.specs.Payload.{item_len, item_bytes}
use Rattle.lert_journal.proofs.TextLaws.{keys_alone}
use Rattle.lert_journal.proofs.entries.put_items.Goals as goal

pub returns-then-version-eq1 : goal.returns-then-version-eq1
returns-then-version-eq1 c =
    let keys = c.args.keys.now in
    let weights = c.args.weights.now in
    subst (λ (v : ℕ). take (12 + item_len v * length keys) c.put_keys.new.into ≡ take 12 c.args.into.now ++ flat_map (item_bytes v) (items_of keys weights)) (sym c.if-version-eq1.true)
    (c.put_keys.ensures ∙ ap (λ bytes. take 12 c.args.into.now ++ bytes) (keys_alone keys weights c.requires.same))
