-- An item and the end through the calls that they make: the files stay sound, and go together with memory again.
use Rattle.lert_spec.specs.Items.{AreOfVersion}
use Rattle.lert_spec.specs.Counts.{weighed}
use Rattle.lert_spec.specs.declared.item.Item.{Item}
use Rattle.std.proofs.Common.{◌≡◌, ◌≢◌, ℕ, suc, ◌+◌, ◌-◌, ◌≤◌, Bool, false, cond, List, [], ◌∷◌, ◌++◌, length, drop, map, Some, sym, ap, ◌∙◌, subst, inl, inr, ◌⊎◌, arith, length-append, append_assoc}
use Rattle.std.proofs.{lemmas.Bool.{false≢true, ne_eqb}, lemmas.List.take_all}
use Rattle.lert_base.specs.Packet.{Packet}
use Rattle.lert_bay.specs.{Files.Files, Images.Lasts, Kept.Bays, Settled.{Keeps, IsSettled}}
use Rattle.lert_bay.proofs.KeptLaws.{IsLawful}
use Rattle.lert_gatelog.specs.{Gated.{IsGated, next_gate}, Kept.{InEach, KeepsOthers, KeepsBefore, IsWhollySettled, IsWithOrWithout}}
use Rattle.lert_levels.specs.{declared.rows.bin_at.BinAt.BinAt, Flushed.InNamed, rows.Landing.KeepsRest, rows.Rows.{IsAt, AreRows, HoldsBins, directory_text}}
use Rattle.lert_reports.specs.{declared.log.LogKind.LogKind, Log.{HasLog, AreRecords, last_n0, listed_in, most_record}, LogText.{LogRecord, log_payload, log_payload_of}}
use Rattle.lert_spec.specs.{declared.numbers.Numbers.Numbers, declared.report.Report.Report, Edges.{edge, capacity}, Limits.IsValid, Look.{look_of, closing_of}}
use Rattle.lert_spec.proofs.{LookLaws.HaveKeys, TailLaws.IsPartOf}
use Rattle.lert_cone.specs.{Framed.last_flush, InStep.{IsInStep, IsPartway}, Listing.{Listing, reports_of}, Logged.{IsLogOf, next_record}}
use Rattle.lert_cone.specs.{JournalPlaces.{ArePlacesIn, Places, MayName, NamesRecord, last_place, oldest_place}, Record.{LogPlace, payload_at}, Sound.{IsJournal, IsSound}}
use Rattle.lert_cone.specs.Tally.{Tallied, IsCounted, IsHeld}
use Rattle.lert_cone.proofs.{LogLaws.{LogsNext, log_between, log_at_flush, payload_is}, FlushLaws.last_flush_grows, JournalPlaceLaws.{edge_grows, may_name, names_pushed, oldest_names}}
use Rattle.lert_cone.proofs.{RecordLaws.payload_is_at, Calls.{alone_rest, now_since, settled_alone}}
use Rattle.lert_cone.proofs.StepLaws.{journal_since, log_since, frames_since, sound_of, with_or_without, with_record, header_since}

-- a part of the items is taken
pub partway_less : (s : Numbers) (history : List Packet) (events more : List Item) → IsPartway s history events more → IsPartway s history events []
partway_less s history events more partway = record { rest = more ++ partway.rest; is = partway.is; late = partway.late }

pub partway_more : (s : Numbers) (history : List Packet) (events : List Item) (item : Item) → IsPartway s history events (item ∷ []) → IsPartway s history (events ++ item ∷ []) []
partway_more s history events item partway = record {
  rest = partway.rest;
  is = partway.is ∙ sym (append_assoc events (item ∷ []) partway.rest);
  late = omega (arith, partway.late, last_flush_grows s (length events) (length (events ++ item ∷ [])) (omega (arith, length-append events (item ∷ []))));
}

-- the payload that is appended is that of the next record
pub next_payload : (log : LogPlace) (kind : LogKind) (n0 : ℕ) (rows : List (List BinAt)) (logged : List LogRecord) (reports : List Report) → log.named ≡ length (listed_in logged) →
    payload_at log kind n0 (directory_text rows) reports ≡ log_payload_of (next_record kind n0 (oldest_place log.places) rows logged reports)
next_payload log kind n0 rows logged reports named_is =
    sym (payload_is_at log kind n0 (directory_text rows) reports)
    ∙ (ap (λ n. log_payload kind n0 (oldest_place log.places).gate (oldest_place log.places).first (directory_text rows) (drop n reports)) named_is
    ∙ payload_is kind n0 (oldest_place log.places) rows logged reports)

-- ---- while calls leave the files alone that memory goes together with

module _ (leaves since : Files → Type 0) (seen : Files) (history : List Packet) (t : Tallied) (log : LogPlace)
    (counted : IsCounted t) (up : IsInStep leaves seen history t.listing t.rows t.due.reports log) (read : leaves seen)
    (journal_keeps : Keeps since seen 0 0 (length (seen 0))) (log_keeps : Keeps since seen 1 0 (length (seen 1)))
    (frames_keep : (from to : ℕ) → InNamed t.listing.settings t.listing.version t.rows from to → IsSettled leaves seen 2 from to → Keeps since seen 2 from to) where
  pub journal_here : InEach since 0 (IsJournal t.listing.version t.listing.settings t.listing.cone history)
  journal_here = journal_since since seen t.listing.settings t.listing.cone history (up.journal seen read) journal_keeps

  pub log_here : InEach since 1 (λ bytes. HasLog t.listing.settings t.listing.cone bytes up.logged log.gate)
  log_here = log_since since seen t.listing.settings t.listing.cone up.logged log.gate (up.log_there seen read) log_keeps

  pub frames_here : InEach since 2 (HoldsBins t.listing.settings t.listing.version t.listing.events t.rows)
  frames_here = frames_since leaves since seen t.listing.settings t.listing.events t.rows counted.valid counted.are counted.light read up.frames frames_keep

  -- they stay sound
  pub sound_here : t.listing.closed ≡ false → IsPartway t.listing.settings history t.listing.events [] → (image : Files) → since image →
      IsSound t.listing.settings t.listing.cone history image
  sound_here still partway image may =
      sound_of t.listing.settings t.listing.cone history t.listing.events t.rows t.listing.closed up.logged log.gate counted.known counted.valid counted.rows partway
      (λ ended. absurd (false≢true (sym still ∙ ended))) up.log_of up.begins image (journal_here image may) (log_here image may) (frames_here image may)

-- ---- a record more

-- what stands before an append: the packets and the records in every image
module _ {version : ℕ} (leaves since : Files → Type 0) (seen : Files) (s : Numbers) (cone : ℕ) (history : List Packet) (logged : List LogRecord) (one : LogRecord) (gate : ℕ) (payload : List ℕ)
    (read : leaves seen) (journal : InEach leaves 0 (IsJournal version s cone history)) (journal_settled : IsWhollySettled leaves seen 0) (log_there : InEach leaves 1
    (λ bytes. HasLog s cone bytes logged gate))
    (rules : AreRecords s cone (logged ++ one ∷ [])) (payload_is : payload ≡ log_payload_of one)
    (others : KeepsOthers leaves since seen 1) (before : KeepsBefore leaves since seen 1 gate) where
  pub journal_beside : InEach since 0 (IsJournal version s cone history)
  journal_beside = journal_since since seen s cone history (journal seen read) (others 0 0 (length (seen 0)) (λ same. absurd (omega (arith, same))) journal_settled)

  pub frames_beside : (events : List Item) (rows : List (List BinAt)) → IsValid s → AreRows s rows → AreOfVersion version events → InEach leaves 2 (HoldsBins s version events rows) → InEach
      since 2 (HoldsBins s version events rows)
  frames_beside events rows valid are light holds = frames_since leaves since seen s events rows valid are light read holds (λ from to named. others 2 from to (λ same. absurd (omega (arith, same))))

  pub log_beside : InEach since 1 (IsWithOrWithout (most_record s) 8 (map log_payload_of logged) gate payload) → (image : Files) → since image →
      HasLog s cone (image 1) logged gate ⊎ HasLog s cone (image 1) (logged ++ one ∷ []) (next_gate gate payload)
  log_beside each image may =
      with_or_without s cone logged one gate payload (image 1) payload_is (log_there seen read).rules rules (header_since leaves since seen s cone logged gate read log_there before image may)
      (each image may)

  pub log_behind : (after : Files → Type 0) (gate_after : ℕ) → ((image : Files) → after image → since image) → InEach after 1 (λ bytes. IsGated (most_record s) bytes 8
      (map log_payload_of logged ++ payload ∷ []) gate_after) →
      InEach after 1 (λ bytes. HasLog s cone bytes (logged ++ one ∷ []) gate_after)
  log_behind after gate_after now stands image may =
      with_record s cone logged one gate_after payload (image 1) payload_is rules (header_since leaves since seen s cone logged gate read log_there before image (now image may)) (stands image may)

-- ---- a key

-- what is known once an item is taken, of the bay then (`leaves`, `seen`), where memory and the files went together before (`t`)
-- and no record is written yet
pub record IsTaken (leaves : Files → Type 0) (seen : Files) (history : List Packet) (t a : Tallied) (log : LogPlace) (logged : List LogRecord) (item : Item) : Type 0 where
  pub log_of : IsLogOf t.listing.settings t.listing.cone t.listing.events t.rows false logged
  pub named_is : log.named ≡ length (listed_in logged)
  pub listing_is : a.listing ≡ record t.listing { events = t.listing.events ++ item ∷ [] }
  pub read : leaves seen
  pub journal : InEach leaves 0 (IsJournal t.listing.version t.listing.settings t.listing.cone history)
  pub journal_settled : IsWhollySettled leaves seen 0
  pub log_there : InEach leaves 1 (λ bytes. HasLog t.listing.settings t.listing.cone bytes logged log.gate)
  pub log_settled : IsWhollySettled leaves seen 1
  pub frames_before : InEach leaves 2 (HoldsBins t.listing.settings t.listing.version t.listing.events t.rows)
  pub frames : InEach leaves 2 (HoldsBins a.listing.settings a.listing.version a.listing.events a.rows)
  pub reports_are : a.due.reports ≡ reports_of a.listing
  pub begins : NamesRecord t.listing.version t.listing.settings history (last_n0 logged) (last_place logged)
  pub placed : ArePlacesIn t.listing.version history log.places
  pub same : log.places.settings ≡ t.listing.settings
  pub passed : log.places.passed ≡ suc (length t.listing.events)
  pub reach : log.places.from ≤ edge t.listing.settings 0 (suc (length t.listing.events)) + 1

module _ (leaves : Files → Type 0) (seen : Files) (history : List Packet) (t a : Tallied) (log : LogPlace) (logged : List LogRecord) (item : Item)
    (still : t.listing.closed ≡ false) (before : IsCounted t) (counted : IsCounted a) (taken : IsTaken leaves seen history t a log logged item) where
  all : List Item
  all = t.listing.events ++ item ∷ []

  long : length (t.listing.events ++ item ∷ []) ≡ suc (length t.listing.events)
  long = length-append t.listing.events (item ∷ []) ∙ omega arith

  -- what holds of the items and the rows holds of what memory has of them
  module _ (P : Numbers → ℕ → ℕ → List Item → Bool → Type 0) where
    of_listing : P t.listing.settings t.listing.version t.listing.cone (t.listing.events ++ item ∷ []) t.listing.closed → P a.listing.settings a.listing.version a.listing.cone a.listing.events
        a.listing.closed
    of_listing holds = subst (λ (l : Listing). P l.settings l.version l.cone l.events l.closed) (sym taken.listing_is) holds

    to_listing : P a.listing.settings a.listing.version a.listing.cone a.listing.events a.listing.closed → P t.listing.settings t.listing.version t.listing.cone (t.listing.events ++ item ∷ [])
        t.listing.closed
    to_listing holds = subst (λ (l : Listing). P l.settings l.version l.cone l.events l.closed) taken.listing_is holds

  all_light : AreOfVersion t.listing.version (t.listing.events ++ item ∷ [])
  all_light = to_listing (λ s version cone events closed. AreOfVersion version events) counted.light

  log_as : (rows : List (List BinAt)) (records : List LogRecord) → IsLogOf t.listing.settings t.listing.cone (t.listing.events ++ item ∷ []) rows false records →
      IsLogOf a.listing.settings a.listing.cone a.listing.events rows a.listing.closed records
  log_as rows records is =
      of_listing (λ s version cone events closed. IsLogOf s cone events rows closed records)
      (subst (λ closed. IsLogOf t.listing.settings t.listing.cone (t.listing.events ++ item ∷ []) rows closed records) (sym still) is)

  journal_now : InEach leaves 0 (IsJournal a.listing.version a.listing.settings a.listing.cone history)
  journal_now image may = of_listing (λ s version cone events closed. IsJournal version s cone history (image 0)) (taken.journal image may)

  reach_here : log.places.from ≤ edge a.listing.settings 0 (length a.listing.events) + 1
  reach_here =
      of_listing (λ s version cone events closed. log.places.from ≤ edge s 0 (length events) + 1)
      (subst (λ n. log.places.from ≤ edge t.listing.settings 0 n + 1) (sym long) taken.reach)

  -- between two flushes
  pub up_between : edge t.listing.settings 0 (length a.listing.events) ≡ edge t.listing.settings 0 (length a.listing.events - 1) → a.rows ≡ t.rows →
      IsInStep leaves seen history a.listing a.rows a.due.reports log
  up_between stays rows_are =
      let n_is : length a.listing.events ≡ suc (length t.listing.events) = ap (λ (l : Listing). length l.events) taken.listing_is ∙ long in
      let before_is : length a.listing.events - 1 ≡ length t.listing.events = omega (arith, n_is) in
      record {
        logged = logged;
        log_of = subst (λ (rows : List (List BinAt)). IsLogOf a.listing.settings a.listing.cone a.listing.events rows a.listing.closed logged) (sym rows_are)
            (log_as t.rows logged (log_between t.listing.settings t.listing.cone t.listing.events item t.rows logged (ap (edge t.listing.settings 0) (sym n_is) ∙ stays ∙ ap
            (edge t.listing.settings 0) before_is) taken.log_of));
        named_is = taken.named_is;
        journal = journal_now;
        log_there = λ image may. of_listing (λ s version cone events closed. HasLog s cone (image 1) logged log.gate) (taken.log_there image may);
        frames = taken.frames;
        journal_settled = taken.journal_settled;
        log_settled = taken.log_settled;
        reports_are = taken.reports_are;
        begins = of_listing (λ s version cone events closed. NamesRecord version s history (last_n0 logged) (last_place logged)) taken.begins;
        placed = of_listing (λ s version cone events closed. ArePlacesIn version history log.places) taken.placed;
        reach = reach_here;
      }

  -- a flush, and its record
  module _ (moves : edge t.listing.settings 0 (length a.listing.events) ≢ edge t.listing.settings 0 (length a.listing.events - 1)) (few : length a.due.reports ≤ t.listing.settings.room) where
    n_is : length a.listing.events ≡ suc (length t.listing.events)
    n_is = ap (λ (l : Listing). length l.events) taken.listing_is ∙ long

    moves_here : edge t.listing.settings 0 (suc (length t.listing.events)) ≢ edge t.listing.settings 0 (length t.listing.events)
    moves_here same =
        let before_is : length a.listing.events - 1 ≡ length t.listing.events = omega (arith, n_is) in
        moves (ap (edge t.listing.settings 0) n_is ∙ same ∙ ap (edge t.listing.settings 0) (sym before_is))

    looked : a.due.reports ≡ look_of weighed t.listing.settings (t.listing.events ++ item ∷ [])
    looked = taken.reports_are ∙ ap reports_of taken.listing_is ∙ ap (λ b. cond b (closing_of weighed t.listing.settings (t.listing.events ++ item ∷ [])) (look_of weighed t.listing.settings
        (t.listing.events ++ item ∷ []))) still

    abbrev pub one : LogRecord
    one = next_record LogKind.Flush (suc (length t.listing.events)) (oldest_place log.places) a.rows logged a.due.reports

    -- it names the journal's record that holds the first item of level 0
    names : NamesRecord t.listing.version t.listing.settings history (suc (length t.listing.events)) (oldest_place log.places)
    names = oldest_names t.listing.settings before.valid history log.places (suc (length t.listing.events)) taken.same taken.passed taken.reach
        taken.placed

    may : MayName t.listing.settings (suc (length t.listing.events)) (oldest_place log.places)
    may =
        let journal = taken.journal seen taken.read in
        may_name t.listing.settings before.valid t.listing.cone (suc (length t.listing.events)) history (oldest_place log.places) journal.journaled journal.within names

    named_then : NamesRecord t.listing.version t.listing.settings history (last_n0 (logged ++ one ∷ [])) (last_place (logged ++ one ∷ []))
    named_then = names_pushed t.listing.settings history logged one names

    rows_are : AreRows t.listing.settings a.rows
    rows_are = to_listing (λ s version cone events closed. AreRows s a.rows) counted.are

    rows_at : IsAt t.listing.settings (suc (length t.listing.events)) a.rows
    rows_at = subst (λ n. IsAt t.listing.settings n a.rows) long (to_listing (λ s version cone events closed. IsAt s (length events) a.rows) counted.rows)

    pub next : LogsNext t.listing.settings t.listing.cone (t.listing.events ++ item ∷ []) a.rows false logged
        (next_record LogKind.Flush (suc (length t.listing.events)) (oldest_place log.places) a.rows logged a.due.reports)
    next =
        log_at_flush t.listing.settings before.valid t.listing.cone t.listing.events item (oldest_place log.places) t.rows a.rows logged a.due.reports may
        (omega (arith, long, to_listing (λ s version cone events closed. length events ≤ capacity s) counted.fits)) moves_here
        (to_listing (λ s version cone events closed. HaveKeys s weighed events) counted.keys)
        (to_listing (λ s version cone events closed. IsPartOf weighed s cone events) counted.own)
        rows_at rows_are looked few taken.log_of

    module _ (since : Files → Type 0) (payload : List ℕ) (payload_is : payload ≡ payload_at log LogKind.Flush (length a.listing.events) (directory_text a.rows) a.due.reports)
        (others : KeepsOthers leaves since seen 1) (earlier : KeepsBefore leaves since seen 1 log.gate) where
      payload_here : payload ≡ log_payload_of (next_record LogKind.Flush (suc (length t.listing.events)) (oldest_place log.places) a.rows logged a.due.reports)
      payload_here = payload_is ∙ ap (λ n. payload_at log LogKind.Flush n (directory_text a.rows) a.due.reports) n_is ∙ next_payload log LogKind.Flush (suc
          (length t.listing.events)) a.rows logged a.due.reports taken.named_is

      frames_new : InEach leaves 2 (HoldsBins t.listing.settings t.listing.version (t.listing.events ++ item ∷ []) a.rows)
      frames_new image may = to_listing (λ s version cone events closed. HoldsBins s version events a.rows (image 2)) (taken.frames image may)

      -- in each image of each moment of the append
      pub sound_append : InEach since 1 (IsWithOrWithout (most_record t.listing.settings) 8 (map log_payload_of logged) log.gate payload) → IsPartway t.listing.settings history t.listing.events
          (item ∷ []) →
          (image : Files) → since image → IsSound t.listing.settings t.listing.cone history image
      sound_append each partway image may =
          let s = t.listing.settings in
          let cone = t.listing.cone in
          let journal = journal_beside leaves since seen s cone history logged one log.gate payload taken.read taken.journal taken.journal_settled taken.log_there next.is.rules payload_here
          others earlier image may in
          let beside = frames_beside leaves since seen s cone history logged one log.gate payload taken.read taken.journal taken.journal_settled taken.log_there next.is.rules payload_here others
          earlier in
          elim (log_beside leaves since seen s cone history logged one log.gate payload taken.read taken.journal taken.journal_settled taken.log_there next.is.rules payload_here others earlier
          each image may) [
            | inl without ↦ sound_of s cone history t.listing.events t.rows false logged log.gate before.known before.valid before.rows
                (partway_less t.listing.settings history t.listing.events (item ∷ []) partway)
                (λ never. absurd (false≢true never)) taken.log_of taken.begins image journal without (beside t.listing.events t.rows before.valid before.are before.light taken.frames_before image may)
            | inr with_it ↦ sound_of s cone history (t.listing.events ++ item ∷ []) a.rows false (logged ++ one ∷ []) (next_gate log.gate payload) before.known before.valid
                (subst (λ n. IsAt t.listing.settings n a.rows) (sym long) rows_at) (partway_more t.listing.settings history t.listing.events item partway)
                (λ never. absurd (false≢true never)) next.is named_then image journal with_it (beside (t.listing.events ++ item ∷ []) a.rows before.valid rows_are all_light frames_new image may)
          ]

      -- and after it
      pub up_flushed : (after : Files → Type 0) (seen_after : Files) (log_after : LogPlace) → ((image : Files) → after image → since image) → log_after.named ≡ length a.due.reports →
          log_after.places ≡ log.places →
          InEach after 1 (λ bytes. IsGated (most_record t.listing.settings) bytes 8 (map log_payload_of logged ++ payload ∷ []) log_after.gate) → IsWhollySettled after seen_after 0 →
          IsWhollySettled after seen_after 1 →
          IsInStep after seen_after history a.listing a.rows a.due.reports log_after
      up_flushed after seen_after log_after now named_is places_are stands journal_settled log_settled =
          let s = t.listing.settings in
          let cone = t.listing.cone in
          let last : last_flush s (length (t.listing.events ++ item ∷ [])) ≡ length (t.listing.events ++ item ∷ []) =
          ap (last_flush s) long ∙ ap (λ b. cond b (last_flush s (length t.listing.events)) (suc (length t.listing.events))) (ne_eqb (edge s 0 (suc (length t.listing.events))) (edge s 0
          (length t.listing.events)) moves_here) ∙ sym long in
          let listed : listed_in (logged ++ one ∷ []) ≡ a.due.reports =
          next.is.reports_are ∙ ap (look_of weighed s) (take_all (last_flush s (length (t.listing.events ++ item ∷ []))) (t.listing.events ++ item ∷ []) (omega (arith, last))) ∙ sym looked in
          record {
            logged = logged ++ one ∷ [];
            log_of = log_as a.rows (logged ++ one ∷ []) next.is;
            named_is = named_is ∙ ap length (sym listed);
            journal = λ image may. of_listing (λ s version cone events closed. IsJournal version s cone history (image 0))
                (journal_beside leaves since seen s cone history logged one log.gate payload taken.read taken.journal taken.journal_settled taken.log_there next.is.rules payload_here others
                earlier image (now image may));
            log_there = λ image may. of_listing (λ s version cone events closed. HasLog s cone (image 1) (logged ++ one ∷ []) log_after.gate)
                (log_behind leaves since seen s cone history logged one log.gate payload taken.read taken.journal taken.journal_settled taken.log_there next.is.rules payload_here others earlier
                after log_after.gate now stands image may);
            frames = λ image may. of_listing (λ s version cone events closed. HoldsBins s version events a.rows (image 2))
                (frames_beside leaves since seen s cone history logged one log.gate payload taken.read taken.journal taken.journal_settled taken.log_there next.is.rules payload_here others earlier
                (t.listing.events ++ item ∷ []) a.rows before.valid rows_are all_light frames_new image (now image may));
            journal_settled = journal_settled;
            log_settled = log_settled;
            reports_are = taken.reports_are;
            begins = of_listing (λ s version cone events closed. NamesRecord version s history (last_n0 (logged ++ one ∷ [])) (last_place (logged ++ one ∷ []))) named_then;
            placed = of_listing (λ s version cone events closed. ArePlacesIn version history log_after.places) (subst (ArePlacesIn t.listing.version history) (sym places_are) taken.placed);
            reach = omega (arith, reach_here, ap (λ (m : Places). m.from) places_are);
          }

-- ---- where a bay tells its files

-- what goes together with memory holds what memory asks of the files
pub held_of : (leaves : Files → Type 0) (seen : Files) (history : List Packet) (t : Tallied) (log : LogPlace) → leaves seen →
    IsInStep leaves seen history t.listing t.rows t.due.reports log →
    IsHeld t seen
held_of leaves seen history t log read up = record { frames = up.frames seen read; reports = up.reports_are }

-- taking a key writes no frame that the rows name
module _ {B : Type 0} (bays : Bays B) (lawful : IsLawful bays) (bay bay_after : B) (history : List Packet) (t : Tallied) (log : LogPlace)
    (rest : KeepsRest bays (InNamed t.listing.settings t.listing.version t.rows) bay bay_after)
    (time : Lasts (bays.moment bay) (bays.moment bay_after) (bays.left_since bay) (bays.left_since bay_after))
    (counted : IsCounted t) (still : t.listing.closed ≡ false) (seen : Files) (told : bays.files bay ≡ Some seen)
    (up : IsInStep (bays.leaves bay) seen history t.listing t.rows t.due.reports log) where
  journal_kept : Keeps (bays.left_since bay_after (bays.moment bay)) seen 0 0 (length (seen 0))
  journal_kept = rest.settled seen told 0 0 (length (seen 0)) (inl (λ same. absurd (omega (arith, same)))) up.journal_settled

  log_kept : Keeps (bays.left_since bay_after (bays.moment bay)) seen 1 0 (length (seen 1))
  log_kept = rest.settled seen told 1 0 (length (seen 1)) (inl (λ same. absurd (omega (arith, same)))) up.log_settled

  frames_kept : (from to : ℕ) → InNamed t.listing.settings t.listing.version t.rows from to → IsSettled (bays.leaves bay) seen 2 from to →
      Keeps (bays.left_since bay_after (bays.moment bay)) seen 2 from to
  frames_kept from to named settled = rest.settled seen told 2 from to (inr named) settled

  pub sound_rest : (more : List Item) → IsPartway t.listing.settings history t.listing.events more → (image : Files) → bays.left_since bay_after (bays.moment bay) image →
      IsSound t.listing.settings t.listing.cone history image
  sound_rest more partway = sound_here (bays.leaves bay) (bays.left_since bay_after (bays.moment bay)) seen history t log counted up (lawful.as_read bay seen told) journal_kept log_kept
      frames_kept still
      (partway_less t.listing.settings history t.listing.events more partway)

  pub taken_of : (a : Tallied) (item : Item) → a.listing ≡ record t.listing { events = t.listing.events ++ item ∷ [] } → (after : Files) → bays.files bay_after ≡ Some after →
      bays.leaves bay_after after →
      InEach (bays.leaves bay_after) 2 (HoldsBins a.listing.settings a.listing.version a.listing.events a.rows) → a.due.reports ≡ reports_of a.listing →
      (places : Places) → ArePlacesIn t.listing.version history places → places.settings ≡ t.listing.settings → places.passed ≡ suc (length t.listing.events) → places.from ≡ log.places.from →
      IsTaken (bays.leaves bay_after) after history t a (record log { places = places }) up.logged item
  taken_of a item listing_is after told_after read_after frames reports places placed same passed from_is = record {
    log_of = subst (λ closed. IsLogOf t.listing.settings t.listing.cone t.listing.events t.rows closed up.logged) still up.log_of;
    named_is = up.named_is;
    listing_is = listing_is;
    read = read_after;
    journal = λ image may. journal_here (bays.leaves bay) (bays.left_since bay_after (bays.moment bay)) seen history t log counted up (lawful.as_read bay seen told) journal_kept log_kept
        frames_kept image (now_since lawful time.later image may);
    journal_settled = settled_alone lawful
        (alone_rest lawful 0 (λ same. absurd (omega (arith, same))) rest time)
        seen told up.journal_settled after told_after;
    log_there = λ image may. log_here (bays.leaves bay) (bays.left_since bay_after (bays.moment bay)) seen history t log counted up (lawful.as_read bay seen told) journal_kept log_kept
        frames_kept image (now_since lawful time.later image may);
    log_settled = settled_alone lawful
        (alone_rest lawful 1 (λ same. absurd (omega (arith, same))) rest time)
        seen told up.log_settled after told_after;
    frames_before = λ image may. frames_here (bays.leaves bay) (bays.left_since bay_after (bays.moment bay)) seen history t log counted up (lawful.as_read bay seen told) journal_kept log_kept
        frames_kept image (now_since lawful time.later image may);
    frames = frames;
    reports_are = reports;
    begins = up.begins;
    placed = placed;
    same = same;
    passed = passed;
    reach = omega (arith, from_is, up.reach, edge_grows t.listing.settings counted.valid (length t.listing.events) (suc (length t.listing.events)) (omega arith));
  }

-- ---- keys in turn

-- what goes together with memory is sound
pub sound_now : (leaves : Files → Type 0) (seen : Files) (history : List Packet) (t : Tallied) (log : LogPlace) (more : List Item) → IsCounted t → t.listing.closed ≡ false →
    IsInStep leaves seen history t.listing t.rows t.due.reports log →
    IsPartway t.listing.settings history t.listing.events more → (image : Files) → leaves image → IsSound t.listing.settings t.listing.cone history image
sound_now leaves seen history t log more counted still up partway image may =
    sound_of t.listing.settings t.listing.cone history t.listing.events t.rows t.listing.closed up.logged log.gate counted.known counted.valid counted.rows
    (partway_less t.listing.settings history t.listing.events more partway)
    (λ ended. absurd (false≢true (sym still ∙ ended))) up.log_of up.begins image (up.journal image may) (up.log_there image may) (up.frames image may)

-- in each image of each moment of an item behind others: either it was left before, or since the item began
pub sound_behind : (listing first : Listing) (history : List Packet) (image : Files) → listing.settings ≡ first.settings → listing.cone ≡ first.cone →
    IsSound listing.settings listing.cone history image → IsSound first.settings first.cone history image
sound_behind listing first history image settings cone sound = subst (λ n. IsSound first.settings n history image) cone
    (subst (λ (s : Numbers). IsSound s listing.cone history image) settings sound)
