-- The text that a log appends for an entry, field by field.
use Rattle.std.proofs.Common.{◌≡◌, ℕ, zero, suc, append_assoc, ◌+◌, ◌*◌, ◌<◌, List, [], ◌∷◌, ◌++◌, length, take, get_or, refl, sym, ap, ◌∙◌, arith}
use Rattle.std.specs.Prelude.{flat_map}
use Rattle.byteorder.specs.Endian.{little_bytes}
use Rattle.lert_base.specs.Packet.{Packet}
use Rattle.lert_gatelog.specs.Gated.{appendix}
use Rattle.lert_base.specs.Keys.{items_of}
use Rattle.lert_spec.specs.declared.item.Item.{Item}
use Rattle.lert_journal.specs.Payload.{payload_of, item_len, item_bytes}
use Rattle.lert_journal.proofs.PayloadLaws.{length_payload}

-- five steps lay the length, who brings it, the trace, the items and the closed gate one behind the other
pub text_laid : (version by trace : ℕ) (items : List Item) (n : ℕ) (old x0 x1 x2 x3 x4 : List ℕ) → n ≡ length items → take 4 x0 ≡ take 0 old ++ little_bytes 4 (8 + item_len version * n) →
    take 8 x1 ≡ take 4 x0 ++ little_bytes 4 by → take 12 x2 ≡ take 8 x1 ++ little_bytes 4 trace →
    take (12 + item_len version * n) x3 ≡ take 12 x2 ++ flat_map (item_bytes version) items →
    take (4 + (8 + item_len version * n) + 1) x4 ≡ take (4 + (8 + item_len version * n)) x3 ++ 0 ∷ [] →
    take (8 + item_len version * n + 5) x4 ≡ appendix (payload_of version (record { by = by; trace = trace; items = items }))
text_laid version by trace items n old x0 x1 x2 x3 x4 count p0 p1 p2 p3 p4 =
    let packet : Packet = record { by = by; trace = trace; items = items } in
    let len : 8 + item_len version * n ≡ length (payload_of version packet) = ap (λ m. 8 + item_len version * m) count ∙ sym (length_payload version packet) in
    ap (λ n. take n x4) (omega arith)
    ∙ (p4 ∙ (ap (λ t. t ++ 0 ∷ [])
    (ap (λ n. take n x3) (omega arith) ∙ (p3 ∙ ap (λ t. t ++ flat_map (item_bytes version) items)
    (p2 ∙ ap (λ t. t ++ little_bytes 4 trace) (p1 ∙ ap (λ t. t ++ little_bytes 4 by) p0))))
    ∙ ap (λ n. (little_bytes 4 n ++ payload_of version packet) ++ 0 ∷ []) len))

-- with the first version keys alone are laid
pub keys_alone : (keys weights : List ℕ) → length weights ≡ length keys → flat_map (little_bytes 8) keys ≡ flat_map (item_bytes 1) (items_of keys weights)
keys_alone [] weights same = refl
keys_alone (key ∷ keys) [] same = absurd (omega (arith, same))
keys_alone (key ∷ keys) (weight ∷ weights) same = ap (λ rest. little_bytes 8 key ++ rest) (keys_alone keys weights (omega (arith, same)))

-- and behind it each key with its weight
pub weighed_more : (keys weights : List ℕ) (n : ℕ) → n < length keys → length weights ≡ length keys →
    flat_map (item_bytes 2) (items_of (take n keys) (take n weights)) ++ (little_bytes 8 (get_or keys n 0) ++ get_or weights n 0 ∷ [])
    ≡ flat_map (item_bytes 2) (items_of (take (suc n) keys) (take (suc n) weights))
weighed_more [] weights n below same = absurd (omega (arith, below))
weighed_more (key ∷ keys) [] n below same = absurd (omega (arith, same))
weighed_more (key ∷ keys) (weight ∷ weights) zero below same = refl
weighed_more (key ∷ keys) (weight ∷ weights) (suc n) below same =
    append_assoc (item_bytes 2 (record { key = key; weight = weight })) (flat_map (item_bytes 2) (items_of (take n keys) (take n weights)))
    (little_bytes 8 (get_or keys n 0) ++ get_or weights n 0 ∷ [])
    ∙ ap (λ rest. item_bytes 2 (record { key = key; weight = weight }) ++ rest) (weighed_more keys weights n (omega (arith, below)) (omega (arith, same)))
