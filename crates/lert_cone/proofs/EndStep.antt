-- The end of a cone through the scan and the closing record.
use Rattle.lert_spec.specs.Counts.{weighed}
use Rattle.lert_spec.specs.declared.item.Item.{Item}
use Rattle.std.proofs.Common.{◌≡◌, ℕ, ◌+◌, ◌-◌, ◌≤◌, Bool, true, false, List, [], ◌∷◌, ◌++◌, length, map, sym, ap, ◌∙◌, subst, inl, inr, arith, append-nil, take, drop, length-append}
use Rattle.std.proofs.{lemmas.Bool.false≢true, lemmas.Grind.flat_map-append, lemmas.List.take-append-drop}
use Rattle.lert_base.specs.Packet.{Packet, events_of}
use Rattle.lert_bay.specs.Files.{Files}
use Rattle.lert_gatelog.specs.{Gated.{IsGated, next_gate}, Kept.{InEach, KeepsOthers, KeepsBefore, IsWhollySettled, IsWithOrWithout}}
use Rattle.lert_levels.specs.{declared.rows.bin_at.BinAt.BinAt, rows.Rows.{HoldsBins, directory_text}}
use Rattle.lert_reports.specs.{declared.log.LogKind.LogKind, Log.{HasLog, last_n0, listed_in, most_record}, LogText.{LogRecord, log_payload_of}}
use Rattle.lert_spec.specs.{declared.numbers.Numbers.Numbers, Edges.edge, Look.closing_of}
use Rattle.lert_cone.specs.{InStep.{IsInStep, IsPartway}, Listing.{Listing, reports_of}, Logged.{IsLogOf, next_record}}
use Rattle.lert_cone.specs.{JournalPlaces.{ArePlacesIn, Places, MayName, NamesRecord, last_place, oldest_place}, Record.{LogPlace, payload_at}, Sound.{IsJournal, IsSound, but_last}}
use Rattle.lert_cone.specs.Tally.{Tallied, IsCounted}
use Rattle.lert_cone.proofs.{KeyStep.{next_payload, journal_beside, frames_beside, log_beside, log_behind}, LogLaws.{LogsNext, log_at_close}, FlushLaws.last_flush_grows}
use Rattle.lert_cone.proofs.{JournalPlaceLaws.{may_name, names_pushed, oldest_names}, StepLaws.sound_of}

-- all items are taken
pub partway_all : (s : Numbers) (history : List Packet) (events : List Item) → events ≡ events_of history → length (events_of (but_last history)) ≤ length events →
    IsPartway s history events []
partway_all s history events all late = record { rest = []; is = sym all ∙ sym (append-nil events); late = last_flush_grows s (length (events_of (but_last history))) (length events) late }

-- what is known once the levels are scanned, of the bay then, where memory and the files went together before (`t`) and no
-- record is written yet
pub record IsEnding (leaves : Files → Type 0) (seen : Files) (history : List Packet) (t a : Tallied) (log : LogPlace) (logged : List LogRecord) : Type 0 where
  pub log_of : IsLogOf t.listing.settings t.listing.cone t.listing.events t.rows false logged
  pub named_is : log.named ≡ length (listed_in logged)
  pub listing_is : a.listing ≡ record t.listing { closed = true }
  pub rows_are : a.rows ≡ t.rows
  pub read : leaves seen
  pub journal : InEach leaves 0 (IsJournal t.listing.version t.listing.settings t.listing.cone history)
  pub journal_settled : IsWhollySettled leaves seen 0
  pub log_there : InEach leaves 1 (λ bytes. HasLog t.listing.settings t.listing.cone bytes logged log.gate)
  pub frames : InEach leaves 2 (HoldsBins t.listing.settings t.listing.version t.listing.events t.rows)
  pub reports_are : a.due.reports ≡ reports_of a.listing
  pub all : t.listing.events ≡ events_of history
  pub late : length (events_of (but_last history)) ≤ length t.listing.events
  pub begins : NamesRecord t.listing.version t.listing.settings history (last_n0 logged) (last_place logged)
  pub placed : ArePlacesIn t.listing.version history log.places
  pub same : log.places.settings ≡ t.listing.settings
  pub passed : log.places.passed ≡ length t.listing.events
  pub reach : log.places.from ≤ edge t.listing.settings 0 (length t.listing.events) + 1

module _ (leaves : Files → Type 0) (seen : Files) (history : List Packet) (t a : Tallied) (log : LogPlace) (logged : List LogRecord)
    (before : IsCounted t) (ending : IsEnding leaves seen history t a log logged) (few : length a.due.reports ≤ t.listing.settings.room) where
  closed_reports : a.due.reports ≡ closing_of weighed t.listing.settings t.listing.events
  closed_reports = ending.reports_are ∙ ap reports_of ending.listing_is

  abbrev last : LogRecord
  last = next_record LogKind.Closing (length t.listing.events) (oldest_place log.places) t.rows logged a.due.reports

  -- it names the journal's record that holds the first item of level 0
  names : NamesRecord t.listing.version t.listing.settings history (length t.listing.events) (oldest_place log.places)
  names = oldest_names t.listing.settings before.valid history log.places (length t.listing.events) ending.same ending.passed ending.reach ending.placed

  may : MayName t.listing.settings (length t.listing.events) (oldest_place log.places)
  may =
      let journal = ending.journal seen ending.read in
      may_name t.listing.settings before.valid t.listing.cone (length t.listing.events) history (oldest_place log.places) journal.journaled journal.within names

  named_then : NamesRecord t.listing.version t.listing.settings history (last_n0 (logged ++ last ∷ [])) (last_place (logged ++ last ∷ []))
  named_then = names_pushed t.listing.settings history logged last names

  next : LogsNext t.listing.settings t.listing.cone t.listing.events t.rows true logged
      (next_record LogKind.Closing (length t.listing.events) (oldest_place log.places) t.rows logged a.due.reports)
  next =
      log_at_close t.listing.settings before.valid t.listing.cone t.listing.events
      (oldest_place log.places) t.rows logged a.due.reports may before.fits before.keys before.own before.rows before.are closed_reports few
      ending.log_of

  partway : IsPartway t.listing.settings history t.listing.events []
  partway = partway_all t.listing.settings history t.listing.events ending.all ending.late

  module _ (since : Files → Type 0) (payload : List ℕ) (payload_is : payload ≡ payload_at log LogKind.Closing (length a.listing.events) (directory_text a.rows) a.due.reports)
      (others : KeepsOthers leaves since seen 1) (earlier : KeepsBefore leaves since seen 1 log.gate) where
    payload_here : payload ≡ log_payload_of (next_record LogKind.Closing (length t.listing.events) (oldest_place log.places) t.rows logged a.due.reports)
    payload_here =
        payload_is
        ∙ ap (λ n. payload_at log LogKind.Closing n (directory_text a.rows) a.due.reports) (ap (λ (l : Listing). length l.events) ending.listing_is)
        ∙ ap (λ (rows : List (List BinAt)). payload_at log LogKind.Closing (length t.listing.events) (directory_text rows) a.due.reports) ending.rows_are
        ∙ next_payload log LogKind.Closing (length t.listing.events) t.rows logged a.due.reports ending.named_is

    journal_then : InEach since 0 (IsJournal t.listing.version t.listing.settings t.listing.cone history)
    journal_then = journal_beside leaves since seen t.listing.settings t.listing.cone history logged last log.gate payload ending.read ending.journal ending.journal_settled ending.log_there
        next.is.rules payload_here others earlier

    frames_then : InEach since 2 (HoldsBins t.listing.settings t.listing.version t.listing.events t.rows)
    frames_then =
        frames_beside leaves since seen t.listing.settings t.listing.cone history logged last log.gate payload ending.read ending.journal ending.journal_settled ending.log_there next.is.rules
        payload_here others earlier
        t.listing.events t.rows before.valid before.are before.light ending.frames

    -- in each image of each moment of the append
    pub sound_close : InEach since 1 (IsWithOrWithout (most_record t.listing.settings) 8 (map log_payload_of logged) log.gate payload) → (image : Files) → since image →
        IsSound t.listing.settings t.listing.cone history image
    sound_close each image may =
        elim (log_beside leaves since seen t.listing.settings t.listing.cone history logged last log.gate payload ending.read ending.journal ending.journal_settled ending.log_there next.is.rules
        payload_here others earlier each image may) [
          | inl without ↦ sound_of t.listing.settings t.listing.cone history t.listing.events t.rows false logged log.gate before.known before.valid before.rows partway
              (λ never. absurd (false≢true never)) ending.log_of ending.begins image (journal_then image may) without (frames_then image may)
          | inr with_it ↦ sound_of t.listing.settings t.listing.cone history t.listing.events t.rows true (logged ++ last ∷ []) (next_gate log.gate payload) before.known before.valid before.rows
              partway
              (λ _. ending.all) next.is named_then image (journal_then image may) with_it (frames_then image may)
        ]

    -- and after it
    of_listing : (P : Numbers → ℕ → ℕ → List Item → List (List BinAt) → Bool → Type 0) → P t.listing.settings t.listing.version t.listing.cone t.listing.events t.rows true →
        P a.listing.settings a.listing.version a.listing.cone a.listing.events a.rows a.listing.closed
    of_listing P holds = subst (λ (l : Listing). P l.settings l.version l.cone l.events a.rows l.closed) (sym ending.listing_is)
        (subst (λ (rows : List (List BinAt)). P t.listing.settings t.listing.version t.listing.cone t.listing.events rows true) (sym ending.rows_are) holds)

    pub up_closed : (after : Files → Type 0) (seen_after : Files) (log_after : LogPlace) → ((image : Files) → after image → since image) → log_after.named ≡ length a.due.reports →
        log_after.places ≡ log.places →
        InEach after 1 (λ bytes. IsGated (most_record t.listing.settings) bytes 8 (map log_payload_of logged ++ payload ∷ []) log_after.gate) → IsWhollySettled after seen_after 0 →
        IsWhollySettled after seen_after 1 →
        IsInStep after seen_after history a.listing a.rows a.due.reports log_after
    up_closed after seen_after log_after now named_is places_are stands journal_settled log_settled = record {
      logged = logged ++ last ∷ [];
      log_of = of_listing (λ s version cone events rows closed. IsLogOf s cone events rows closed (logged ++ last ∷ [])) next.is;
      named_is = named_is ∙ ap length (closed_reports ∙ sym next.is.reports_are);
      journal = λ image may. of_listing (λ s version cone events rows closed. IsJournal version s cone history (image 0)) (journal_then image (now image may));
      log_there = λ image may. of_listing (λ s version cone events rows closed. HasLog s cone (image 1) (logged ++ last ∷ []) log_after.gate)
          (log_behind leaves since seen t.listing.settings t.listing.cone history logged last log.gate payload ending.read ending.journal ending.journal_settled ending.log_there next.is.rules
          payload_here others earlier
          after log_after.gate now stands image may);
      frames = λ image may. of_listing (λ s version cone events rows closed. HoldsBins s version events rows (image 2)) (frames_then image (now image may));
      journal_settled = journal_settled;
      log_settled = log_settled;
      reports_are = ending.reports_are;
      begins = of_listing (λ s version cone events rows closed. NamesRecord version s history (last_n0 (logged ++ last ∷ [])) (last_place (logged ++ last ∷ []))) named_then;
      placed = of_listing (λ s version cone events rows closed. ArePlacesIn version history log_after.places)
          (subst (ArePlacesIn t.listing.version history) (sym places_are) ending.placed);
      reach = of_listing (λ s version cone events rows closed. log_after.places.from ≤ edge s 0 (length events) + 1)
          (subst (λ (m : Places). m.from ≤ edge t.listing.settings 0 (length t.listing.events) + 1) (sym places_are) ending.reach);
    }

-- ---- where a bay tells its files

-- all packets but the last have no more items than all
pub late_all : (history : List Packet) (events : List Item) → events ≡ events_of history → length (events_of (but_last history)) ≤ length events
late_all history events all =
    let front = take (length history - 1) history in
    let back = drop (length history - 1) history in
    let split : events_of history ≡ events_of front ++ events_of back = ap events_of (sym (take-append-drop (length history - 1) history))
    ∙ flat_map-append (λ (p : Packet). p.items) front back in
    omega (arith, ap length all, ap length split, length-append (events_of front) (events_of back))

-- after calls that read alone
pub ending_of : (leaves leaves_after : Files → Type 0) (seen : Files) (history : List Packet) (t a : Tallied) (log : LogPlace) → t.listing.closed ≡ false →
    (up : IsInStep leaves seen history t.listing t.rows t.due.reports log) →
    a.listing ≡ record t.listing { closed = true } → a.rows ≡ t.rows → ((image : Files) → leaves_after image → leaves image) → leaves_after seen →
    a.due.reports ≡ reports_of a.listing →
    t.listing.events ≡ events_of history →
    log.places.settings ≡ t.listing.settings → log.places.passed ≡ length t.listing.events →
    IsEnding leaves_after seen history t a log up.logged
ending_of leaves leaves_after seen history t a log still up listing_is rows_are back read reports_are all same passed = record {
  log_of = subst (λ closed. IsLogOf t.listing.settings t.listing.cone t.listing.events t.rows closed up.logged) still up.log_of;
  named_is = up.named_is;
  listing_is = listing_is;
  rows_are = rows_are;
  read = read;
  journal = λ image may. up.journal image (back image may);
  journal_settled = record { within = omega arith; same = λ image may. up.journal_settled.same image (back image may) };
  log_there = λ image may. up.log_there image (back image may);
  frames = λ image may. up.frames image (back image may);
  reports_are = reports_are;
  all = all;
  late = late_all history t.listing.events all;
  begins = up.begins;
  placed = up.placed;
  same = same;
  passed = passed;
  reach = up.reach;
}
