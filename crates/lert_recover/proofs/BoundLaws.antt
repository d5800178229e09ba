-- How much of a journal a reopening reads at most that is sound for a list, also where a read of a record fails.
use Rattle.std.proofs.Common.{ℕ, zero, suc, ◌≡◌, ◌+◌, ◌-◌, ◌*◌, ◌<◌, ◌≤◌, List, [], ◌∷◌, ◌++◌, All, length, refl, ap, sym, ◌∙◌, subst, arith, inl, inr, length-append, append-nil, append_assoc}
use Rattle.std.proofs.{Math.Nat.pow-zero, lemmas.Bool.{cases_eq, cases_lt}, lemmas.List.take_at, lemmas.List.Elements.{All-cons, All-head, All-nil, All-tail}}
use Rattle.lert_cone.proofs.SoundLaws.{some_keys_of}
use Rattle.lert_base.specs.Packet.{Packet, events_of}
use Rattle.lert_bay.specs.Files.{Files}
use Rattle.lert_cone.specs.{declared.journal_places.JournalPlace.JournalPlace, Framed.last_flush, History.{end_of}, Sound.{IsSound, but_last}}
use Rattle.lert_cone.proofs.{FlushLaws.{flush_stays, flush_there}, ItemLaws.{items_add, items_most, most_payload_to}, TallyLaws.next_free, TotalLaws.edge_within}
use Rattle.lert_recover.proofs.RestBytes.{bytes_few, bytes_of, ends_ahead, events_split}
use Rattle.lert_journal.specs.Payload.{IsJournaled, item_len, most_payload}
use Rattle.lert_reports.specs.Log.{last_n0, last_offset}
use Rattle.lert_reports.proofs.LogLaws.{ends}
use Rattle.lert_spec.specs.{declared.numbers.Numbers.Numbers, Edges.{edge, span}, Limits.IsValid}
use Rattle.lert_spec.proofs.EdgeLaws.{edge_never_falls}

-- ---- lists of packets

-- what holds of each packet of two lists holds of each of either
apart : (P : Packet → Type 0) (front rest : List Packet) → All P (front ++ rest) → All P front × All P rest
apart P [] rest all = (All-nil P, all)
apart P (packet ∷ front) rest all =
    let behind = apart P front rest (All-tail P packet (front ++ rest) all) in
    (All-cons P packet front (All-head P packet (front ++ rest) all) behind.0, behind.1)

but_last_more : (history : List Packet) (packet : Packet) → but_last (history ++ packet ∷ []) ≡ history
but_last_more history packet = take_at history (packet ∷ []) (length (history ++ packet ∷ []) - 1) (omega (arith, length-append history (packet ∷ [])))

-- the record of one packet more
bytes_more : (version : ℕ) (packets : List Packet) (packet : Packet) → bytes_of version (packets ++ packet ∷ []) ≡ bytes_of version packets + 13 + item_len version * length packet.items
bytes_more version packets packet =
    let many = events_split packets (packet ∷ []) ∙ ap (λ n. length (events_of packets) + n) (ap length (append-nil packet.items)) in
    let items = ap (λ n. item_len version * n) many ∙ items_add version (length (events_of packets)) (length packet.items) in
    omega (arith, length-append packets (packet ∷ []), items)

module _ (s : Numbers) (valid : IsValid s) where
  -- ---- how many keys there are

  base : 1 ≤ s.base
  base = omega (arith, valid.limits.base_from)

  ratio : 1 ≤ s.ratio
  ratio = omega (arith, valid.limits.ratio_from)

  width : span s 0 ≡ s.base
  width = ap (λ p. s.base * p) (pow-zero s.ratio) ∙ (let same : s.base * 1 ≡ s.base = omega arith in same)

  -- the edge of level 0 is where the last flush left it
  held_edge : (n : ℕ) → edge s 0 n ≡ edge s 0 (last_flush s n)
  held_edge zero = refl
  held_edge (suc n) = elim (cases_eq (edge s 0 (suc n)) (edge s 0 n)) [
    | inl stays ↦ stays ∙ (held_edge n ∙ ap (edge s 0) (sym (flush_stays s n stays)))
    | inr moves ↦ ap (edge s 0) (sym (flush_there s n moves))
  ]

  -- where no flush position lies between n0 and n, the bins behind the edge at n0 have room for all keys
  few_behind : (n0 n : ℕ) → last_flush s n ≤ n0 → n < edge s 0 n0 + s.bins * s.base
  few_behind n0 n least =
      omega (arith, next_free s valid n, held_edge n, edge_never_falls s base ratio 0 (last_flush s n) n0 least, ap (λ w. s.bins * w) width)

  module _ (version cone : ℕ) where
    abbrev Journaled : Packet → Type 0
    Journaled packet = IsJournaled version s cone packet

    -- ---- the records behind packets that have all keys up to the edge of level 0

    module _ (history : List Packet) (each : All Journaled history) (n0 : ℕ) (least : last_flush s (length (events_of (but_last history))) ≤ n0) where
      near_last : (front middle : List Packet) (last : Packet) → history ≡ front ++ (middle ++ last ∷ []) → edge s 0 n0 ≤ length (events_of front) →
          bytes_of version (middle ++ last ∷ []) ≤ 22 * (s.bins * s.base) + 13 + 36 * s.packet
      near_last front middle last is from =
          let behind = (apart Journaled front (middle ++ last ∷ []) (subst (All Journaled) is each)).1 in
          let parts = apart Journaled middle (last ∷ []) behind in
          let few = (All-head Journaled last [] parts.1).few in
          let bytes = bytes_few version middle (λ k d below. some_keys_of s cone _ (parts.0 k d below)) in
          let before : but_last history ≡ front ++ middle = ap but_last (is ∙ sym (append_assoc front middle (last ∷ []))) ∙ but_last_more (front ++ middle) last in
          let within = few_behind n0 (length (events_of (front ++ middle))) (subst (λ h. last_flush s (length (events_of h)) ≤ n0) before least) in
          omega (arith, few, bytes, within, from, events_split front middle, bytes_more version middle last, items_most version (length last.items))

      near : (front rest : List Packet) → history ≡ front ++ rest → edge s 0 n0 ≤ length (events_of front) → bytes_of version rest ≤ 22 * (s.bins * s.base) + 13 + 36 * s.packet
      near front rest is from = elim (ends rest) [
        | inl empty ↦ omega (arith, ap (bytes_of version) empty)
        | inr more ↦ subst (λ xs. bytes_of version xs ≤ 22 * (s.bins * s.base) + 13 + 36 * s.packet) (sym more.is)
            (near_last front more.front more.last (is ∙ ap (λ xs. front ++ xs) more.is) from)
      ]

  -- from the record on that the log names, with one read of the greatest length that fails
  pub read_bound : (cone : ℕ) (history : List Packet) (seen : Files) (sound : IsSound s cone history seen) →
      end_of sound.version history + 5 + most_payload sound.version s ≤ last_offset sound.logged + 22 * (s.bins * s.base + 8 * s.packet) + 32
  read_bound cone history seen sound =
      let version = sound.version in
      let n0 = last_n0 sound.logged in
      let each = sound.journal.journaled in
      let Journaled = IsJournaled version s cone in
      let most = most_payload_to version s in
      elim (cases_lt 0 n0) [
        | inl there ↦ (
            let held = sound.begins.some there in
            let front = held.done ++ held.packet ∷ [] in
            let is : history ≡ front ++ held.rest = held.is ∙ sym (append_assoc held.done (held.packet ∷ []) held.rest) in
            let few = (All-head Journaled held.packet held.rest (apart Journaled held.done (held.packet ∷ held.rest) (subst (All Journaled) held.is each)).1).few in
            let count = events_split held.done (held.packet ∷ []) in
            let one = ap length (append-nil held.packet.items) in
            let behind = near version cone history each n0 sound.n0_least front held.rest is (omega (arith, held.to, held.first_is, count, one)) in
            omega (
              arith,
              behind,
              few,
              held.gate_is,
              ap (end_of version) is,
              ends_ahead version front held.rest,
              ends_ahead version held.done (held.packet ∷ []),
              items_most version (length (events_of (held.packet ∷ []))),
              one,
              most,
              valid.limits.packet_from,
            ))
        | inr absent ↦ (
            let offset_is = ap (λ (m : JournalPlace). m.gate) (sound.begins.none (omega (arith, absent))) in
            let behind = near version cone history each n0 sound.n0_least [] history refl (omega (arith, absent, edge_within s 0 n0)) in
            omega (arith, behind, offset_is, most))
      ]
