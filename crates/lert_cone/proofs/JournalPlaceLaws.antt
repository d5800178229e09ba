-- The places of the newest bins, as items are passed and bins begin, and what the oldest of level 0 names.
use Rattle.lert_spec.specs.declared.item.Item.{Item}
use Rattle.std.proofs.Common.{◌≡◌, ℕ, zero, suc, ◌+◌, ◌-◌, ◌*◌, ◌/◌, ◌<◌, ◌≤◌, cond, List, [], ◌∷◌, ◌++◌, All, length, get_or, take, drop, refl, ap, sym, ◌∙◌, subst, inl, inr, arith, length-append}
use Rattle.std.proofs.{Common.{length-drop, length-take, append_assoc, get_or-set_other, get_or-set_same}, Math.ListN.set, Math.Nat.{add-mul, mul-le-mul_right}, lemmas.Bool.{cases_lt, eq-eqb, ne_eqb}}
use Rattle.std.proofs.{lemmas.Grind.flat_map-append, lemmas.List.{get_or-append-add, get_or-take}}
use Rattle.lert_cone.proofs.SoundLaws.{some_keys_of}
use Rattle.lert_base.specs.Packet.{Packet, events_of}
use Rattle.lert_journal.specs.Payload.{IsJournaled}
use Rattle.lert_reports.specs.{Log.last_n0, LogText.LogRecord}
use Rattle.lert_reports.proofs.LogLaws.{last_first-push, last_n0-push, last_offset-push}
use Rattle.lert_spec.specs.{declared.numbers.Numbers.Numbers, Edges.{span, edge, capacity}, Limits.IsValid}
use Rattle.lert_spec.proofs.{EdgeLaws.{edge_never_falls, steps}, LimitLaws.capacity_to}
use Rattle.lert_cone.specs.{declared.journal_places.JournalPlace.JournalPlace, History.end_of}
use Rattle.lert_cone.specs.JournalPlaces.{ArePlacesIn, AreOfRecord, HasPassed, HoldsPosition, MayName, Places, NamesRecord, bins_begun, bins_behind, first_place, last_place, oldest_place}
use Rattle.lert_cone.specs.{Replay.{IsPast, IsNext}, Short.few}
use Rattle.lert_cone.proofs.BinLaws.{begun_from, begun_none, begun_to, bin_more, bins_below, bins_between, bins_few, bins_some, bins_within, edge_bins, edge_steps, wide}
use Rattle.lert_cone.proofs.ItemLaws.{items_most}

-- the packets before it have no more items than all
events_within : {version : ℕ} (history : List Packet) (place : JournalPlace) (p : ℕ) (holds : HoldsPosition version history place p) → length (events_of holds.done) ≤ length (events_of history)
events_within history place p holds =
    let split = ap events_of holds.is ∙ flat_map-append (λ (q : Packet). q.items) holds.done (holds.packet ∷ holds.rest) in
    omega (arith, ap (length {A = Item}) split, length-append (events_of holds.done) (events_of (holds.packet ∷ holds.rest)))

-- ---- a history that grows

module _ {version : ℕ} (history more : List Packet) where
  pub holds_more : (place : JournalPlace) (p : ℕ) → HoldsPosition version history place p → HoldsPosition version (history ++ more) place p
  holds_more place p holds = record {
    done = holds.done;
    packet = holds.packet;
    rest = holds.rest ++ more;
    is = ap (λ packets. packets ++ more) holds.is ∙ append_assoc holds.done (holds.packet ∷ holds.rest) more;
    gate_is = holds.gate_is;
    first_is = holds.first_is;
    from = holds.from;
    to = holds.to;
  }

  pub names_more : (s : Numbers) (n0 : ℕ) (place : JournalPlace) → NamesRecord version s history n0 place → NamesRecord version s (history ++ more) n0 place
  names_more s n0 place names = record { none = names.none; some = λ some. holds_more place (edge s 0 n0 + 1) (names.some some) }

  pub places_more : (places : Places) → ArePlacesIn version history places → ArePlacesIn version (history ++ more) places
  places_more places are = record {
    each = λ k j known few low high. holds_more (get_or places.places j first_place) (k * span places.settings 0 + 1) (are.each k j known few low high);
  }

-- one record more, by what it names itself
pub names_pushed : {version : ℕ} (s : Numbers) (history : List Packet) (logged : List LogRecord) (one : LogRecord) → NamesRecord version s history one.n0 (record {
  gate = one.offset;
  first =
      one.first;
}) →
    NamesRecord version s history (last_n0 (logged ++ one ∷ [])) (last_place (logged ++ one ∷ []))
names_pushed {version} s history logged one names =
    let mark_is : last_place (logged ++ one ∷ []) ≡ record { gate = one.offset; first = one.first } =
    λ i. record { gate = last_offset-push logged one i; first = last_first-push logged one i } in
    subst (λ n. NamesRecord version s history n (last_place (logged ++ one ∷ []))) (sym (last_n0-push logged one))
    (subst (λ (m : JournalPlace). NamesRecord version s history one.n0 m) (sym mark_is) names)

-- ---- before the first item that is seen

pub names_none : {version : ℕ} (s : Numbers) (history : List Packet) → NamesRecord version s history 0 first_place
names_none s history = record { none = λ _. refl; some = λ some. absurd (omega (arith, some)) }

-- no bin that is known has begun
pub places_none : {version : ℕ} (history : List Packet) (places : Places) → places.from ≡ places.passed + 1 → ArePlacesIn version history places
places_none history places from_is = record {
  each = λ k j known few low high. absurd (omega (arith, from_is, known, low, add-mul k j (span places.settings 0)));
}

-- ---- the items of a record

-- a packet that stands behind others, at its gate and with its first position
module _ {version : ℕ} (history done : List Packet) (packet : Packet) (rest : List Packet) (is : history ≡ done ++ packet ∷ rest) (place : JournalPlace) (n : ℕ) (gate_is : place.gate ≡ end_of
    version done)
    (n_is : n ≡ length (events_of done)) (first_is : place.first ≡ n + 1) where
  pub packet_holds : AreOfRecord version history place n (n + length packet.items)
  packet_holds = record {
    each = λ p low high. record {
      done = done;
      packet = packet;
      rest = rest;
      is = is;
      gate_is = gate_is;
      first_is = omega (arith, first_is, n_is);
      from = omega (arith, first_is, low);
      to = omega (arith, first_is, high);
    };
  }

-- the packet behind a list
pub last_holds : {version : ℕ} (history : List Packet) (packet : Packet) (place : JournalPlace) (n : ℕ) → place.gate ≡ end_of version history → n ≡ length (events_of history) → place.first ≡ n + 1 →
    AreOfRecord version (history ++ packet ∷ []) place n (n + length packet.items)
last_holds history packet place n gate_is n_is first_is = packet_holds (history ++ packet ∷ []) history packet [] refl place n gate_is n_is first_is

-- the packet that is read next
pub next_holds : {version : ℕ} (history done : List Packet) (events : List Item) (gate : ℕ) (packet : Packet) (keys : List Item) (place : JournalPlace) → IsPast version history done events gate →
    IsNext history done
    packet →
    keys ≡ packet.items → place.gate ≡ gate → place.first ≡ length events + 1 → AreOfRecord version history place (length events) (length events + length keys)
next_holds {version} history done events gate packet keys place past next keys_are gate_is first_is =
    subst (λ (ks : List Item). AreOfRecord version history place (length events) (length events + length ks)) (sym keys_are)
    (packet_holds history done packet next.rest next.is place (length events) (gate_is ∙ past.gate_is) (ap length past.keys) first_is)

-- a part of the positions
pub record_part : {version : ℕ} (history : List Packet) (place : JournalPlace) (n last from to : ℕ) → n ≤ from → to ≤ last → AreOfRecord version history place n last →
    AreOfRecord version history place from to
record_part history place n last from to low high are = record { each = λ p above within. are.each p (omega (arith, low, above)) (omega (arith, high, within)) }

-- ---- places that are turned by one, with a new one in front

module _ (xs : List JournalPlace) (place : JournalPlace) (long : length xs ≡ 17) where
  abbrev pub turned : List JournalPlace
  turned = drop (length xs - 1) xs ++ take (length xs - 1) xs

  turned_long : length turned ≡ 17
  turned_long =
      omega (
        arith,
        long,
        length-append (drop (length xs - 1) xs) (take (length xs - 1) xs),
        length-drop (length xs - 1) xs,
        length-take (length xs - 1) xs,
      )

  pub newest_turned : get_or (set turned 0 place) 0 first_place ≡ place
  newest_turned = get_or-set_same turned 0 place first_place (omega (arith, turned_long))

  pub others_turned : (j : ℕ) → j < 16 → get_or (set turned 0 place) (j + 1) first_place ≡ get_or xs j first_place
  others_turned j few =
      let front = drop (length xs - 1) xs in
      let back = take (length xs - 1) xs in
      let behind : length front + j ≡ j + 1 = omega (arith, long, length-drop (length xs - 1) xs) in
      get_or-set_other turned 0 (j + 1) place first_place (λ same. omega (arith, same))
      ∙ (ap (λ n. get_or turned n first_place) (sym behind)
      ∙ (get_or-append-add front back j first_place
      ∙ get_or-take (length xs - 1) xs j first_place (omega (arith, few, long))))

-- ---- places of these settings

module _ (s : Numbers) (valid : IsValid s) where
  -- what places of these settings stand for
  was : {version : ℕ} (history : List Packet) (places : Places) → places.settings ≡ s → ArePlacesIn version history places → (k j : ℕ) → places.from ≤ k * span s 0 + 1 → j ≤ s.bins →
      (k + j) * span s 0 < places.passed →
      places.passed ≤ (k + j + 1) * span s 0 →
      HoldsPosition version history (get_or places.places j first_place) (k * span s 0 + 1)
  was {version} history places settings_are are = subst (λ (t : Numbers). (k j : ℕ) → places.from ≤ k * span t 0 + 1 → j ≤ t.bins → (k + j) * span t 0 < places.passed →
      places.passed ≤ (k + j + 1) * span t 0 →
      HoldsPosition version history (get_or places.places j first_place) (k * span t 0 + 1)) settings_are are.each

  -- level 0's edge never falls
  pub edge_grows : (m n : ℕ) → m ≤ n → edge s 0 m ≤ edge s 0 n
  edge_grows m n later = edge_never_falls s (omega (arith, valid.limits.base_from)) (omega (arith, valid.limits.ratio_from)) 0 m n later

  -- ---- a step

  module _ {version : ℕ} (history : List Packet) (old new : Places) (settings_are : old.settings ≡ s) (are : ArePlacesIn version history old) where
    -- a bin begins, whose first item the record at a place holds
    module _ (place : JournalPlace) (new_settings : new.settings ≡ old.settings) (passed : new.passed ≡ bins_begun s old.passed * span s 0 + 1) (from_is : new.from ≡ old.from)
        (newest : get_or new.places 0 first_place ≡ place)
        (others : (j : ℕ) → j < 16 → get_or new.places (j + 1) first_place ≡ get_or old.places j first_place)
        (holds : HoldsPosition version history place (bins_begun s old.passed * span s 0 + 1)) where
      each_begun : (k j : ℕ) → new.from ≤ k * span s 0 + 1 → j ≤ s.bins → (k + j) * span s 0 < new.passed → new.passed ≤ (k + j + 1) * span s 0 →
          HoldsPosition version history (get_or new.places j first_place) (k * span s 0 + 1)
      each_begun k zero known few low high =
          let c = bins_begun s old.passed in
          let same : k ≡ c = omega (
            arith,
            bins_within (k + 0) c (span s 0) (omega (arith, low, passed)) (wide s valid),
            bins_below c (k + 0 + 1) (span s 0) (omega (arith, high, passed)),
          ) in
          subst (λ m. HoldsPosition version history m (k * span s 0 + 1)) (sym newest)
          (subst (λ n. HoldsPosition version history place (n * span s 0 + 1)) (sym same) holds)
      each_begun k (suc j) known few low high =
          let c = bins_begun s old.passed in
          let place : k + suc j ≡ k + j + 1 = omega arith in
          let same : k + j + 1 ≡ c = omega (
            arith,
            bins_within (k + suc j) c (span s 0) (omega (arith, low, passed)) (wide s valid),
            bins_below c (k + suc j + 1) (span s 0) (omega (arith, high, passed)),
          ) in
          let whole : (k + j + 1) * span s 0 ≡ c * span s 0 = ap (λ n. n * span s 0) same in
          let next : j + 1 ≡ suc j = omega arith in
          subst (λ m. HoldsPosition version history m (k * span s 0 + 1)) (sym (ap (λ n. get_or new.places n first_place) (sym next) ∙ others j (omega (arith, few, valid.limits.bins_to))))
          (was history old settings_are are k j (omega (arith, known, from_is)) (omega (arith, few)) (omega (arith, whole, bin_more (k + j) (span s 0), begun_from s valid old.passed)) (omega
          (arith, whole, begun_to s valid old.passed)))

      pub places_begun : ArePlacesIn version history new
      places_begun = record {
        each = subst (λ (t : Numbers). (k j : ℕ) → new.from ≤ k * span t 0 + 1 → j ≤ t.bins → (k + j) * span t 0 < new.passed → new.passed ≤ (k + j + 1) * span t 0 →
            HoldsPosition version history (get_or new.places j first_place) (k * span t 0 + 1)) (sym (new_settings ∙ settings_are)) each_begun;
      }

  -- keys of bins that have begun
  pub places_on : {version : ℕ} (history : List Packet) (old : Places) (last : ℕ) → old.settings ≡ s → old.passed ≤ last → last ≤ bins_begun s old.passed * span s 0 → ArePlacesIn version history old →
      ArePlacesIn version history (record old { passed = last })
  places_on {version} history old last settings_are forward within are = record {
    each = subst (λ (t : Numbers). (k j : ℕ) → old.from ≤ k * span t 0 + 1 → j ≤ t.bins → (k + j) * span t 0 < last → last ≤ (k + j + 1) * span t 0 →
        HoldsPosition version history (get_or old.places j first_place) (k * span t 0 + 1)) (sym settings_are) (λ k j known few low high.
        let less = bins_below (k + j) (bins_begun s old.passed) (span s 0) (omega (arith, low, within)) in
        let upto = mul-le-mul_right {m = k + j + 1} {n = bins_begun s old.passed} (span s 0) (omega (arith, less)) in
        was history old settings_are are k j known few (omega (arith, upto, bin_more (k + j) (span s 0), begun_from s valid old.passed)) (omega (arith, forward, high)));
  }

  -- the place of its first bin
  pub behind_is : (n : ℕ) → bins_behind s n ≡ bins_begun s n - steps s 0 n - 1
  behind_is n = ap (λ x. bins_begun s n - x - 1) (edge_steps s valid n)

  oldest_is : (places : Places) → places.settings ≡ s → 1 ≤ places.passed → oldest_place places ≡ get_or places.places (bins_begun s places.passed - steps s 0 places.passed - 1) first_place
  unfolding oldest_place
  oldest_is places settings_are some =
      ap (λ t. cond t first_place (get_or places.places (bins_behind places.settings places.passed) first_place)) (ne_eqb places.passed 0 (λ none. absurd (omega (arith, some, none))))
      ∙ (ap (λ (t : Numbers). get_or places.places (bins_behind t places.passed) first_place) settings_are
      ∙ ap (λ j. get_or places.places j first_place) (behind_is places.passed))

  oldest_none : (places : Places) → places.passed ≡ 0 → oldest_place places ≡ first_place
  unfolding oldest_place
  oldest_none places none =
      ap (λ t. cond t first_place (get_or places.places (bins_behind places.settings places.passed) first_place)) (eq-eqb places.passed 0 none)

  -- it names the record that holds the bin's first item, where that bin is known
  pub oldest_names : {version : ℕ} (history : List Packet) (places : Places) (n : ℕ) → places.settings ≡ s → places.passed ≡ n → places.from ≤ edge s 0 n + 1 → ArePlacesIn version history places →
      NamesRecord version s history n (oldest_place places)
  oldest_names {version} history places n settings_are passed_is reach are = record {
    none = λ none. oldest_none places (passed_is ∙ none);
    some = λ some.
        let k = steps s 0 n in
        let j = bins_begun s n - steps s 0 n - 1 in
        let place : k + j + 1 ≡ bins_begun s n = omega (arith, bins_some s valid n some) in
        let whole : (k + j + 1) * span s 0 ≡ bins_begun s n * span s 0 = ap (λ x. x * span s 0) place in
        subst (λ m. HoldsPosition version history m (edge s 0 n + 1)) (sym (oldest_is places settings_are (omega (arith, some, passed_is)) ∙ ap (λ x. get_or places.places
        (bins_begun s x - steps s 0 x - 1) first_place) passed_is))
        (subst (λ p. HoldsPosition version history (get_or places.places j first_place) (p + 1)) (sym (edge_bins s valid n))
        (was history places settings_are are k j (omega (arith, reach, edge_bins s valid n)) (omega (arith, bins_few s valid n))
        (omega (arith, passed_is, whole, bin_more (k + j) (span s 0), begun_from s valid n)) (omega (arith, passed_is, whole, begun_to s valid n))));
  }

  -- as it is read, by the place of the next bin
  pub oldest_read : (places : Places) (next edge_is bins : ℕ) → places.settings ≡ s → next ≡ bins_begun s places.passed * span s 0 + 1 → edge_is ≡ edge s 0 places.passed →
      bins ≡ (next - 1 - edge_is) / span s 0 → bins ≡ bins_begun s places.passed - steps s 0 places.passed
  oldest_read places next edge_is bins settings_are next_is edge_at bins_are =
      let whole : next - 1 - edge_is ≡ bins_begun s places.passed * span s 0 - edge s 0 places.passed = omega (arith, next_is, edge_at) in
      bins_are ∙ ap (λ x. x / span s 0) whole ∙ bins_between s valid places.passed

  -- no bin stands behind level 0's edge only without a key
  pub oldest_at_none : (places : Places) → places.settings ≡ s → bins_begun s places.passed - steps s 0 places.passed ≡ 0 → first_place ≡ oldest_place places
  oldest_at_none places settings_are none = elim (cases_lt 0 places.passed) [
    | inl some ↦ absurd (omega (arith, none, bins_some s valid places.passed some))
    | inr empty ↦ sym (oldest_none places (omega (arith, empty)))
  ]

  pub oldest_at_some : (places : Places) (bins : ℕ) → places.settings ≡ s → bins ≡ bins_begun s places.passed - steps s 0 places.passed → 1 ≤ bins →
      get_or places.places (bins - 1) first_place ≡ oldest_place places
  oldest_at_some places bins settings_are bins_are some = elim (cases_lt 0 places.passed) [
    | inl keys ↦ sym (oldest_is places settings_are keys ∙ ap (λ n. get_or places.places (n - 1) first_place) (sym bins_are))
    | inr empty ↦ (
        let none : places.passed ≡ 0 = omega (arith, empty) in
        let no_bins : bins_begun s places.passed ≡ 0 = ap (bins_begun s) none ∙ begun_none s valid in
        absurd (omega (arith, some, bins_are, no_bins)))
  ]

  -- what a record names keeps the rules of a log
  pub may_name : {version : ℕ} (cone n0 : ℕ) (history : List Packet) (place : JournalPlace) → All (IsJournaled version s cone) history → length (events_of history) ≤ capacity s →
      NamesRecord version s history n0 place →
      MayName s n0 place
  may_name {version} cone n0 history place journaled within names =
      elim (cases_lt 0 n0) [
        | inl some ↦ (let holds = names.some some in
            let front : length history ≡ length holds.done + length (holds.packet ∷ holds.rest) = ap (length {A = Packet}) holds.is ∙ length-append holds.done (holds.packet ∷ holds.rest) in
            record {
              offset_from = omega (arith, holds.gate_is);
              offset_to = omega (
                arith,
                holds.gate_is,
                items_most version (length (events_of holds.done)),
                front,
                few history (λ k d below. some_keys_of s cone _ (journaled k d below)),
                within,
                capacity_to s valid,
                events_within history place (edge s 0 n0 + 1) holds,
              );
              first_from = omega (arith, holds.first_is);
              first_to = holds.from;
            })
        | inr none ↦ (let is = names.none (omega (arith, none)) in
            record {
              offset_from = omega (arith, ap (λ (m : JournalPlace). m.gate) is);
              offset_to = omega (arith, ap (λ (m : JournalPlace). m.gate) is);
              first_from = omega (arith, ap (λ (m : JournalPlace). m.first) is);
              first_to = omega (arith, ap (λ (m : JournalPlace). m.first) is);
            })
      ]

-- ---- passing keys

-- so far
pub record IsPassing (last : ℕ) (place : JournalPlace) (old now : Places) : Type 0 where
  pub settings : now.settings ≡ old.settings
  pub from : old.passed ≤ now.passed
  pub to : now.passed ≤ last
  pub known : now.from ≡ old.from
  pub places : (version : ℕ) (history : List Packet) → AreOfRecord version history place old.passed last → ArePlacesIn version history old → ArePlacesIn version history now

pub passing_none : (last : ℕ) (place : JournalPlace) (old : Places) → old.passed ≤ last → IsPassing last place old old
passing_none last place old forward = record { settings = refl; from = omega arith; to = forward; known = refl; places = λ version history holds are. are }

module _ (last : ℕ) (place : JournalPlace) (old now : Places) (valid : IsValid now.settings) (passing : IsPassing last place old now) where
  -- a bin more
  pub passing_more : (new : Places) → bins_begun now.settings now.passed * span now.settings 0 + 1 ≤ last → new.settings ≡ now.settings →
      new.passed ≡ bins_begun now.settings now.passed * span now.settings 0 + 1 → new.from ≡ now.from → get_or new.places 0 first_place ≡ place →
      ((j : ℕ) → j < 16 → get_or new.places (j + 1) first_place ≡ get_or now.places j first_place) → IsPassing last place old new
  passing_more new within settings_are passed from_is newest others = record {
    settings = settings_are ∙ passing.settings;
    from = omega (arith, passing.from, passed, begun_to now.settings valid now.passed);
    to = omega (arith, passed, within);
    known = from_is ∙ passing.known;
    places = λ version history holds are.
        places_begun now.settings valid history now new refl (passing.places version history holds are) place settings_are passed from_is newest others
        (holds.each (bins_begun now.settings now.passed * span now.settings 0 + 1) (omega (arith, passing.from, begun_to now.settings valid now.passed)) within);
  }

  -- the others
  pub passing_all : (new : Places) → last < bins_begun now.settings now.passed * span now.settings 0 + 1 → new ≡ record now { passed = last } → HasPassed last place old new
  passing_all new within is = record {
    settings = ap (λ (m : Places). m.settings) is ∙ passing.settings;
    passed = ap (λ (m : Places). m.passed) is;
    from = ap (λ (m : Places). m.from) is ∙ passing.known;
    places = λ version history holds are. subst (ArePlacesIn version history) (sym is)
        (places_on now.settings valid history now last refl passing.to (omega (arith, within)) (passing.places version history holds are));
  }
