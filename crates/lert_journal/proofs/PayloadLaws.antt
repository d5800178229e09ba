-- The length of a payload, the payloads of packets and of one more, and the items behind the first ones.
use Rattle.std.proofs.Common.{◌≡◌, ℕ, zero, suc, ◌+◌, ◌-◌, ◌*◌, ◌==◌, List, [], ◌∷◌, ◌++◌, ◌⊎◌, inl, inr, length, map, drop, min, sym, ap, ap₂, subst, arith, ◌∙◌}
use Rattle.std.proofs.lemmas.{List.map-append, Bool.cases_lt}
use Rattle.std.specs.List.{range_with_len}
use Rattle.lert_base.specs.Packet.{Packet}
use Rattle.lert_gatelog.specs.{Gated.{appendix, next_gate, IsGated}, Kept.IsWithOrWithout}
use Rattle.lert_gatelog.proofs.GatedLaws.{length_appendix}
use Rattle.lert_journal.specs.{Journal.HasPacketsOrOneMore, Payload.{payload_of, item_len}}
use Rattle.lert_journal.proofs.ItemBytes.{length_items}

pub length_payload : (version : ℕ) (packet : Packet) → length (payload_of version packet) ≡ 8 + item_len version * length packet.items
length_payload version packet = omega (arith, length_items (version == 1) packet.items)

-- the payloads of packets, and of one more
pub payloads-push : (version : ℕ) (packets : List Packet) (packet : Packet) → map (payload_of version) packets ++ payload_of version packet ∷ [] ≡ map (payload_of version) (packets ++ packet ∷ [])
payloads-push version packets packet = sym (map-append (payload_of version) packets (packet ∷ []))

pub one_more : (version most first gate : ℕ) (packets : List Packet) (packet : Packet) (bytes : List ℕ) → IsWithOrWithout most first (map (payload_of version) packets) gate
    (payload_of version packet) bytes → HasPacketsOrOneMore version most first packets gate packet bytes
one_more version most first gate packets packet bytes either =
    subst (λ payloads. IsGated most bytes first (map (payload_of version) packets) gate ⊎ IsGated most bytes first payloads (next_gate gate (payload_of version packet)))
    (payloads-push version packets packet) either

-- the length of what is appended
pub length_text : (version : ℕ) (text : List ℕ) (packet : Packet) → text ≡ appendix (payload_of version packet) → length text ≡ 5 + length (payload_of version packet)
length_text version text packet is = omega (arith, ap length is, length_appendix (payload_of version packet))

-- ---- behind the first ones of values by their numbers

drop-range : {A : Type 0} (value : ℕ → A) (from n k from' n' : ℕ) → from + k ≡ from' → n - k ≡ n' →
    drop k (map value (range_with_len from n)) ≡ map value (range_with_len from' n')
drop-range value from n zero from' n' begins left = ap₂ (λ (a m : ℕ). map value (range_with_len a m)) (omega (arith, begins)) (omega (arith, left))
drop-range value from zero (suc k) from' n' begins left = let none : 0 ≡ n' = omega (arith, left) in ap (λ (m : ℕ). map value (range_with_len from' m)) none
drop-range value from (suc n) (suc k) from' n' begins left = drop-range value (from + 1) n k from' n' (omega (arith, begins)) (omega (arith, left))

pub behind_first : {A : Type 0} (value : ℕ → A) (n k first : ℕ) → first ≡ min n k → map value (range_with_len first (n - first)) ≡ drop k (map value (range_with_len 0 n))
behind_first value n k first is =
    elim (cases_lt n k) [
      | inl more ↦ (
          let none : n - first ≡ 0 = omega (arith, is, more) in
          ap (λ (m : ℕ). map value (range_with_len first m)) none ∙ sym (drop-range value 0 n k k 0 (omega arith) (omega (arith, more))))
      | inr enough ↦ sym (drop-range value 0 n k first (n - first) (omega (arith, is, enough)) (omega (arith, is, enough)))
    ]
