-- Where the records of a journal begin, and which of them the log's records name.
use Rattle.std.specs.Prelude.{◌≡◌, ℕ, ◌+◌, ◌-◌, ◌*◌, ◌/◌, ◌^◌, ◌<◌, ◌≤◌, ◌==◌, List, ◌∷◌, ◌++◌, length, replicate, slice_index_or, if◌then◌else◌}
use Rattle.lert_base.specs.Packet.{Packet, events_of}
use Rattle.lert_spec.specs.{declared.numbers.Numbers.Numbers, Edges.{span, edge, capacity}, Limits.IsValid}
use Rattle.lert_reports.specs.{Log.{last_first, last_offset}, LogText.LogRecord}
use Rattle.lert_cone.specs.{declared.journal_places.JournalPlace.JournalPlace, History.end_of}

-- ---- what a place in a journal stands for

-- where a journal's first record begins
abbrev pub first_place : JournalPlace
first_place = record { gate = 32; first = 1 }

-- in the journal of these packets the record that begins at a place is that of one of them, and holds the item at position p
pub record HoldsPosition (version : ℕ) (history : List Packet) (place : JournalPlace) (p : ℕ) : Type 0 where
  pub done : List Packet
  pub packet : Packet
  pub rest : List Packet
  pub is : history ≡ done ++ packet ∷ rest
  pub gate_is : place.gate ≡ end_of version done
  pub first_is : place.first ≡ length (events_of done) + 1
  pub from : place.first ≤ p
  pub to : p < place.first + length packet.items

-- and so for each position behind n up to the last one
pub record AreOfRecord (version : ℕ) (history : List Packet) (place : JournalPlace) (n last : ℕ) : Type 0 where
  pub each : (p : ℕ) → n < p → p ≤ last → HoldsPosition version history place p

-- a log's record that was written after n0 events names the journal's record that holds the first position of level 0, or
-- the first record, where there is no event
pub record NamesRecord (version : ℕ) (s : Numbers) (history : List Packet) (n0 : ℕ) (place : JournalPlace) : Type 0 where
  pub none : n0 ≡ 0 → place ≡ first_place
  pub some : 0 < n0 → HoldsPosition version history place (edge s 0 n0 + 1)

-- a place names a packet of a list, or the end of the list: in its journal that packet's record begins at the place's gate, with the
-- place's position
pub record IsPlaceIn (version : ℕ) (history : List Packet) (place : JournalPlace) : Type 0 where
  pub done : List Packet
  pub rest : List Packet
  pub is : history ≡ done ++ rest
  pub gate_is : place.gate ≡ end_of version done
  pub first_is : place.first ≡ length (events_of done) + 1

-- what the rules of a log let such a record name
pub record MayName (s : Numbers) (n0 : ℕ) (place : JournalPlace) : Type 0 where
  pub offset_from : 32 ≤ place.gate
  pub offset_to : place.gate ≤ 2 ^ 46
  pub first_from : 1 ≤ place.first
  pub first_to : place.first ≤ edge s 0 n0 + 1

-- the place that the last of some records names, that of the first record where there is none
abbrev pub last_place : List LogRecord → JournalPlace
last_place records = record { gate = last_offset records; first = last_first records }

-- ---- the places of the newest bins

-- how many bins of level 0's span have begun once n items are there
abbrev pub bins_begun : Numbers → ℕ → ℕ
bins_begun s n = (n + span s 0 - 1) / span s 0

-- places after so many items, the newest bin's first, and the least position from which on they know the bins: of one that begins
-- before it they say nothing
pub record Places : Type 0 where
  pub settings : Numbers
  pub places : List JournalPlace
  pub passed : ℕ
  pub from : ℕ

-- so many items are passed unseen, so no bin that has begun is known
abbrev pub places_from : Numbers → ℕ → Places
places_from s n = record { settings = s; places = replicate 17 first_place; passed = n; from = n + 1 }

-- no item yet
abbrev pub places_at_start : Numbers → Places
places_at_start s = places_from s 0

-- Bin k is the one that begins behind k spans. Where it is known and has begun, and j others behind it, which are no more than a
-- level has, the record at the j-th place holds its first position. Bins that begin before `from` aren't known
pub record ArePlacesIn (version : ℕ) (history : List Packet) (places : Places) : Type 0 where
  pub each : (k j : ℕ) → places.from ≤ k * span places.settings 0 + 1 → j ≤ places.settings.bins → (k + j) * span places.settings 0 < places.passed →
      places.passed ≤ (k + j + 1) * span places.settings 0 →
      HoldsPosition version history (slice_index_or places.places j first_place) (k * span places.settings 0 + 1)

-- how many bins have begun behind the first one of level 0
abbrev pub bins_behind : Numbers → ℕ → ℕ
bins_behind s n = bins_begun s n - edge s 0 n / span s 0 - 1

-- the place of level 0's first bin, or without an item that of the journal's first record
unfoldable pub oldest_place : Places → JournalPlace
oldest_place places = if places.passed == 0 then first_place else slice_index_or places.places (bins_behind places.settings places.passed) first_place

-- the items up to position `last` are passed, which are those of the record at a place: in a journal whose record there holds their
-- positions the places are those of the newest bins again, and know them from the same position on
pub record HasPassed (last : ℕ) (place : JournalPlace) (old new : Places) : Type 0 where
  pub settings : new.settings ≡ old.settings
  pub passed : new.passed ≡ last
  pub from : new.from ≡ old.from
  pub places : (version : ℕ) (history : List Packet) → AreOfRecord version history place old.passed last → ArePlacesIn version history old → ArePlacesIn version history new

-- what stands between two calls: the next bin begins behind those that have begun, and as many places are kept as any level may ask for
pub record IsRing (s : Numbers) (places : List JournalPlace) (passed next : ℕ) : Type 0 where
  pub valid : IsValid s
  pub within : passed ≤ capacity s
  pub next_is : next ≡ bins_begun s passed * span s 0 + 1
  pub counted : length places ≡ 17
