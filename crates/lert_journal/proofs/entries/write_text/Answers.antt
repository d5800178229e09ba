use Rattle.std.proofs.Common.{◌≡◌, ℕ, ◌+◌, ◌*◌, ◌++◌, ◌∷◌, [], length, take, ap, ap₂, subst, ◌∙◌}
use Rattle.std.specs.Prelude.{flat_map}
use Rattle.byteorder.specs.Endian.{little_bytes}
use Rattle.lert_base.specs.Keys.{items_of}
use Rattle.lert_base.proofs.ItemsOf.{items_of-parts}
use Rattle.lert_spec.proofs.ItemLaws.{length-keys_in}
use Rattle.lert_journal.specs.Payload.{item_bytes}
use Rattle.lert_journal.proofs.TextLaws.{text_laid}
use Rattle.lert_journal.proofs.entries.write_text.Goals as goal

pub returns-clause-text : goal.returns-clause-text
returns-clause-text c =
    let each = c.item_len.ensures.value in
    let version = c.args.version in
    let items = c.args.entry.now.keys.items in
    let n = length c.as_slice-keys.result.now in
    let count : n ≡ length items = ap length c.as_slice-keys.ensures ∙ length-keys_in items in
    let parts = ap₂ items_of c.as_slice-keys.ensures c.weights-weights.ensures.value ∙ items_of-parts items in
    ap (λ (e : ℕ). take (8 + e * n + 5) c.put.new.into) each
    ∙ text_laid version c.args.entry.now.by c.args.entry.now.trace items n c.args.into.now c.put_u32.new.into c.put_u32-2.new.into c.put_u32-3.new.into c.put_items.new.into
    c.put.new.into count (c.put_u32.ensures.text ∙ ap (λ (e : ℕ). take 0 c.args.into.now ++ little_bytes 4 (8 + e * n)) each) c.put_u32-2.ensures.text c.put_u32-3.ensures.text
    (c.put_items.ensures ∙ ap (λ is. take 12 c.put_u32-3.new.into ++ flat_map (item_bytes version) is) parts)
    (subst (λ (e : ℕ). take (4 + (8 + e * n) + 1) c.put.new.into ≡ take (4 + (8 + e * n)) c.put_items.new.into ++ 0 ∷ []) each c.put.ensures.text)
