-- The items that a reopening doesn't read: as many items of the cone as are asked for, and of a journal its first ones.
use Rattle.std.proofs.Common.{min, max}
use Rattle.std.proofs.Common.{◌≡◌, ℕ, zero, suc, ◌+◌, ◌<◌, ◌≤◌, ◌^◌, List, [], ◌∷◌, ◌++◌, length, map, take, replicate, All, Option, Some, refl, sym, ap, ap₂, ◌∙◌, subst, arith, append_assoc}
use Rattle.std.proofs.{Common.length-append}
use Rattle.std.proofs.{lemmas.List.{length-map, length-replicate, length-take-le, map-append, take-append-le, take_all}, lemmas.List.Elements.{All-nil, All-cons, All-head, All-tail}}
use Rattle.lert_base.specs.Packet.{keys_of, Packet, events_of}
use Rattle.lert_bay.specs.{Files.Files, Settled.part}
use Rattle.lert_gatelog.specs.Gated.{Records, IsOpen, counted_at}
use Rattle.lert_journal.specs.Payload.{IsJournaled, packet_in, payload_of}
use Rattle.lert_journal.proofs.PayloadBack.{packet_back}
use Rattle.lert_spec.specs.{Counts.weighed, declared.item.Item.Item, declared.numbers.Numbers.Numbers, Edges.{key_bits, key_limit}, Items.{keys_in, most_weight, unit, AreOfVersion}}
use Rattle.lert_spec.specs.{Limits.IsValid, Mix.{cone_of, tail_of}}
use Rattle.lert_spec.proofs.{LookLaws.HaveKeys, MixLaws.tail_below, TailLaws.IsPartOf}
use Rattle.lert_cone.specs.{History.{end_of}, Sound.{IsJournal, KeysFit}, Unread.{journal_of, items_from, own_item, unread}}
use Rattle.lert_cone.proofs.KeyLemmas.{cone-key_with, key_with-tail, key_with_below}
use Rattle.lert_journal.specs.Payload.{most_payload}
use Rattle.lert_cone.proofs.ItemLaws.{most_weight_some}

-- ---- whatever the journal holds

pub length_unread : (version : ℕ) (s : Numbers) (cone n : ℕ) (told : Option Files) → length (unread version s cone n told) ≡ n
unfolding unread
length_unread version s cone n told =
    let all = items_from version n (journal_of told) 32 ++ replicate n (unit 0) in
    let enough : n ≤ length all = omega (arith, length-append (items_from version n (journal_of told) 32) (replicate n (unit 0)), length-replicate {A = Item} n (unit 0)) in
    length-map (take n all) (own_item version s cone) ∙ length-take-le n all enough

pub unread_none : (version : ℕ) (s : Numbers) (cone : ℕ) (told : Option Files) → unread version s cone 0 told ≡ []
unfolding unread
unread_none version s cone told = refl

module _ (version : ℕ) (s : Numbers) (cone : ℕ) (valid : IsValid s) (named : cone < 2 ^ s.cone_bits) where
  bits : s.cone_bits ≤ key_bits s
  bits = omega (arith, valid.limits.cone_bits_to)

  own_keys : (items : List Item) → HaveKeys s weighed (map (own_item version s cone) items)
  own_keys [] = tt
  own_keys (item ∷ items) = (key_with_below s cone bits named (tail_of s item.key) (tail_below s item.key), own_keys items)

  own_cone : (items : List Item) → IsPartOf weighed s cone (map (own_item version s cone) items)
  own_cone [] = tt
  own_cone (item ∷ items) = (cone-key_with s cone bits named (tail_of s item.key) (tail_below s item.key), own_cone items)

  own_weights : (items : List Item) → AreOfVersion version (map (own_item version s cone) items)
  own_weights [] = All-nil (λ (i : Item). (1 ≤ i.weight) × (i.weight ≤ most_weight version))
  own_weights (item ∷ items) =
      All-cons (λ (i : Item). (1 ≤ i.weight) × (i.weight ≤ most_weight version)) (own_item version s cone item) (map (own_item version s cone) items) (
        omega (arith, most_weight_some version),
        omega arith,
      ) (own_weights items)

  pub unread_keys : (n : ℕ) (told : Option Files) → HaveKeys s weighed (unread version s cone n told)
  unfolding unread
  unread_keys n told = own_keys (take n (items_from version n (journal_of told) 32 ++ replicate n (unit 0)))

  pub unread_own : (n : ℕ) (told : Option Files) → IsPartOf weighed s cone (unread version s cone n told)
  unfolding unread
  unread_own n told = own_cone (take n (items_from version n (journal_of told) 32 ++ replicate n (unit 0)))

  pub unread_light : (n : ℕ) (told : Option Files) → AreOfVersion version (unread version s cone n told)
  unfolding unread
  unread_light n told = own_weights (take n (items_from version n (journal_of told) 32 ++ replicate n (unit 0)))

  -- ---- of the journal of packets

  -- items of the cone stay as they are
  kept : (items : List Item) → All (λ key. key < key_limit s) (keys_in items) → All (λ key. cone_of s key ≡ cone) (keys_in items) → AreOfVersion version items →
      map (own_item version s cone) items ≡ items
  kept [] fit own light = refl
  kept (item ∷ items) fit own light =
      let keys = keys_in items in
      let IsLight = λ (i : Item). (1 ≤ i.weight) × (i.weight ≤ most_weight version) in
      let weight : min (most_weight version) (max 1 item.weight) ≡ item.weight = omega (arith, All-head IsLight item items light) in
      ap₂ (λ (x : Item) xs. x ∷ xs)
      (ap₂ (λ key w. record { key = key; weight = w })
      (key_with-tail s cone bits named item.key (All-head (λ k. k < key_limit s) item.key keys fit) (All-head (λ k. cone_of s k ≡ cone) item.key keys own)) weight)
      (kept items (All-tail (λ k. k < key_limit s) item.key keys fit) (All-tail (λ k. cone_of s k ≡ cone) item.key keys own) (All-tail IsLight item items light))

  module _ (rest : List Packet) where
    all_kept : (done : List Packet) → KeysFit s (done ++ rest) → All (IsJournaled version s cone) (done ++ rest) → map (own_item version s cone) (events_of done) ≡ events_of done
    all_kept [] fit journaled = refl
    all_kept (packet ∷ done) fit journaled =
        map-append (own_item version s cone) packet.items (events_of done)
        ∙ ap₂ (λ xs ys. xs ++ ys)
        (kept packet.items (All-head (λ (p : Packet). All (λ key. key < key_limit s) (keys_of p)) packet (done ++ rest) fit)
        (All-head (IsJournaled version s cone) packet (done ++ rest) journaled).of_cone (All-head (IsJournaled version s cone) packet (done ++ rest) journaled).weighed)
        (all_kept done (All-tail (λ (p : Packet). All (λ key. key < key_limit s) (keys_of p)) packet (done ++ rest) fit) (All-tail (IsJournaled version s cone) packet (done ++ rest) journaled))

    few : (done : List Packet) → All (IsJournaled version s cone) (done ++ rest) → length done ≤ length (events_of done)
    few [] journaled = omega arith
    few (packet ∷ done) journaled = omega (
      arith,
      length-append packet.items (events_of done),
      (All-head (IsJournaled version s cone) packet (done ++ rest) journaled).some,
      few done (All-tail (IsJournaled version s cone) packet (done ++ rest) journaled),
    )

    module _ (most : ℕ) (bytes : List ℕ) (end : ℕ) where
      -- a record's payload is read back as its packet
      packet_there : (packet : Packet) (gate : ℕ) → IsOpen most bytes gate (payload_of version packet) → IsJournaled version s cone packet → All (λ key. key < key_limit s) (keys_of packet) →
          packet_in version (part bytes (gate + 5) (gate + 5 + counted_at bytes gate)) ≡ packet
      packet_there packet gate stands journaled fit =
          ap (λ n. packet_in version (part bytes (gate + 5) (gate + 5 + n))) stands.counted
          ∙ (ap (packet_in version) stands.there
          ∙ packet_back version packet (omega (arith, journaled.by_most)) (omega (arith, journaled.trace_most)) fit journaled.weighed)

      -- as many records as there are packets, or more, begin with their keys
      begun : (done : List Packet) (n gate : ℕ) → length done ≤ n → Records most bytes gate (map (payload_of version) (done ++ rest)) end → KeysFit s (done ++ rest) →
          All (IsJournaled version s cone) (done ++ rest) → (more : List Item) × (items_from version n bytes gate ≡ events_of done ++ more)
      begun [] n gate enough records fit journaled = (items_from version n bytes gate, refl)
      begun (packet ∷ done) zero gate enough records fit journaled = absurd (omega (arith, enough))
      begun (packet ∷ done) (suc n) gate enough records fit journaled =
          let is_keys : All (λ key. key < key_limit s) (keys_of packet) = All-head (λ (p : Packet). All (λ key. key < key_limit s) (keys_of p)) packet (done ++ rest) fit in
          let first = packet_there packet gate records.0 (All-head (IsJournaled version s cone) packet (done ++ rest) journaled) is_keys in
          let next : gate + 5 + counted_at bytes gate ≡ gate + 5 + length (payload_of version packet) = ap (λ n. gate + 5 + n) records.0.counted in
          let behind = begun done n (gate + 5 + length (payload_of version packet)) (omega (arith, enough)) records.1
          (All-tail (λ (p : Packet). All (λ key. key < key_limit s) (keys_of p)) packet (done ++ rest) fit) (All-tail (IsJournaled version s cone) packet (done ++ rest) journaled) in (
            behind.0,
            ap₂ (λ (p : Packet) items. p.items ++ items) first (ap (items_from version n bytes) next ∙ behind.1) ∙ sym (append_assoc packet.items (events_of done) behind.0),
          )

    taken : (done : List Packet) (items more : List Item) → items ≡ events_of done ++ more →
        take (length (events_of done)) (items ++ replicate (length (events_of done)) (unit 0)) ≡ events_of done
    taken done items more is =
        let events : List Item = events_of done in
        let zeros : List Item = replicate (length events) (unit 0) in
        ap (λ list. take (length events) list) (ap (λ list. list ++ zeros) is ∙ append_assoc events more zeros)
        ∙ (take-append-le (length events) events (more ++ zeros) (omega arith)
        ∙ take_all (length events) events (omega arith))

  pub unread_is : (history done rest : List Packet) (seen : Files) (told : Option Files) → IsJournal version s cone history (seen 0) → history ≡ done ++ rest → told ≡ Some seen →
      unread version s cone (length (events_of done)) told ≡ events_of done
  unfolding unread
  unread_is history done rest seen told journal is told_is =
      let n = length (events_of done) in
      let fit : KeysFit s (done ++ rest) = subst (KeysFit s) is journal.fit in
      let journaled : All (IsJournaled version s cone) (done ++ rest) = subst (All (IsJournaled version s cone)) is journal.journaled in
      let records : Records (most_payload version s) (seen 0) 32 (map (payload_of version) (done ++ rest)) (end_of version history) =
      subst (λ (h : List Packet). Records (most_payload version s) (seen 0) 32 (map (payload_of version) h) (end_of version history)) is journal.records.records in
      let there = begun rest (most_payload version s) (seen 0) (end_of version history) done n 32 (few rest done journaled) records fit journaled in
      ap (λ (t : Option Files). map (own_item version s cone) (take n (items_from version n (journal_of t) 32 ++ replicate n (unit 0)))) told_is
      ∙ (ap (map (own_item version s cone)) (taken rest done (items_from version n (seen 0) 32) there.0 there.1)
      ∙ all_kept rest done fit journaled)
