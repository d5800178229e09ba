-- An item through the calls that it makes: it isn't counted, no flush comes with it, or a flush and its record.
use Rattle.lert_spec.specs.declared.item.Item.{Item}
use Rattle.std.proofs.Common.{◌≡◌, ◌≢◌, ℕ, ◌+◌, ◌-◌, ◌≤◌, List, [], ◌∷◌, ◌++◌, length, map, Result, Ok, Err, Some, refl, sym, ap, ◌∙◌, subst, inl, inr, arith, length-append}
use Rattle.lert_bay.specs.{Kept.Bays, Files.{Files, IfTold}}
use Rattle.lert_gatelog.specs.{Gated.IsGated, Kept.{InEach, IsWithOrWithout}}
use Rattle.lert_levels.specs.{declared.rows.bin_at.BinAt.BinAt, rows.Rows.{AreRows, IsAt, directory_text}}
use Rattle.lert_reports.specs.{declared.log.LogKind.LogKind, Log.most_record, LogText.log_payload_of}
use Rattle.lert_spec.specs.{declared.numbers.Numbers.Numbers, Edges.{edge, capacity}}
use Rattle.lert_base.specs.Packet.{Packet}
use Rattle.lert_cone.specs.{declared.journal_places.JournalPlace.JournalPlace, declared.tally.TakeFault.TakeFault}
use Rattle.lert_cone.specs.{declared.tally.TakeFault.TheVariants.Failed, Appends.AppendsRecord, Counts.CountsItem}
use Rattle.lert_cone.specs.{Framed.{HoldsSome, last_flush}, InStep.{IsLogging, IsPartway}, KeepsLog.NamesRows, Listing.Listing, JournalPlaces.{ArePlacesIn, HasPassed, Places}}
use Rattle.lert_cone.specs.{Record.{LogPlace, payload_at}, Sound.IsSound, Takes.{Workplace, work_at, CanLog, CanTake, AreInStep, AreNext, TakesItems}, Tally.{Tallied, IsHeld}, Wrote.LeavesAlone}
use Rattle.lert_bay.proofs.KeptLaws.{IsLawful, keeps_as, keeps_on}
use Rattle.lert_cone.proofs.{Calls.{now_since, alone_on, alone_rest, alone_others, settled_alone, shut_alone}, FlushLaws.flush_passed, KeepsLogSteps.{IsFlushed, log_failed, log_flushed, log_rest}}
use Rattle.lert_cone.proofs.{KeyStep.{IsTaken, held_of, sound_rest, taken_of, up_between, sound_append, up_flushed}, JournalPlaceLaws.record_part, RecordLaws.{record_fits, logging_more}}
use Rattle.lert_cone.proofs.{SoundLaws.turns_back, TakeLaws.handed_on}
use Rattle.std.specs.Result.{IsErrAnd}

module _ {B : Type 0} {bays : Bays B} (lawful : IsLawful bays) (place : JournalPlace) {old : Workplace B} {item : Item} (can : CanTake bays (item ∷ []) old) {bay : B} {counts : Tallied} where
  -- whatever comes of it, the frames of before stand at each moment
  module _ (result : Result (Unit {0}) TakeFault) (did : CountsItem bays item old.bay bay old.counts counts result) where
    sound_key : IfTold (bays.files old.bay) (λ seen. (history : List Packet) → AreNext history place old (item ∷ []) →
        IsPartway old.counts.listing.settings history old.counts.listing.events (item ∷ []) → AreInStep bays old seen history →
        (image : Files) → bays.left_since bay (bays.moment old.bay) image → IsSound old.counts.listing.settings old.counts.listing.cone history image)
    sound_key seen told history next partway up image may =
        sound_rest bays lawful old.bay bay history old.counts old.log did.rest did.kept.time can.counted can.still seen told up (item ∷ []) partway image may

    held : (seen : Files) → bays.files old.bay ≡ Some seen → (history : List Packet) → AreInStep bays old seen history → IsHeld old.counts seen
    held seen told history up = held_of (bays.leaves old.bay) seen history old.counts old.log (lawful.as_read old.bay seen told) up

  refused_by : (fault : TakeFault) → CountsItem bays item old.bay bay old.counts counts (Err fault) →
      TakesItems bays place (item ∷ []) old (record old { bay = bay; counts = counts }) (Err fault)
  refused_by fault did = record {
    listing = did.listing;
    taken = tt;
    counted = tt;
    can_log = tt;
    in_step = λ seen told history next up. tt;
    each_moment = sound_key (Err fault) did;
    sound = λ seen told history next up weighs. did.sound seen told (held (Err fault) did seen told history up) weighs;
    framed = λ seen told some. tt;
    whole = did.whole;
    unflushed = λ passed. did.unflushed (flush_passed old.counts.listing.settings (length old.counts.listing.events) passed);
    log = log_rest bays lawful old.counts.listing.settings can.counted.valid old.counts.rows can.counted.are (length old.counts.listing.events) old.log.gate old.bay bay did.rest
        can.can_log.log_shut
        (record { rows = counts.rows; events = length counts.listing.events; gate = old.log.gate }) (Err fault) (λ records bytes is. tt);
    keeps = record {
      shows = did.shows;
      journal = alone_rest lawful 0 (λ same. absurd (omega (arith, same))) did.rest did.kept.time;
      most = refl;
      kept = did.kept;
    };
  }

  -- the item isn't counted
  pub key_refused : {result given : Result (Unit {0}) TakeFault} {fault : TakeFault} → result ≡ Err fault → CountsItem bays item old.bay bay old.counts counts result →
      IsErrAnd given (λ g. g ≡ fault) → TakesItems bays place (item ∷ []) old (record old { bay = bay; counts = counts }) given
  key_refused {given = given} {fault = fault} is did given_is =
      subst (λ (r : Result (Unit {0}) TakeFault). TakesItems bays place (item ∷ []) old (record old { bay = bay; counts = counts }) r) (handed_on given fault given_is)
      (refused_by fault (subst (λ (r : Result (Unit {0}) TakeFault). CountsItem bays item old.bay bay old.counts counts r) is did))

  -- the item is counted, and passed
  module _ (did : CountsItem bays item old.bay bay old.counts counts (Ok tt)) {at : ℕ} {places : Places} {log_mid : LogPlace} (at_is : at ≡ length counts.listing.events)
      (passed : HasPassed at place old.log.places places) (rest : log_mid ≡ record old.log { places = places }) where
    over : HasPassed (length counts.listing.events) place old.log.places places
    over = subst (λ n. HasPassed n place old.log.places places) at_is passed

    abbrev log_then : LogPlace
    log_then = record old.log { places = places }

    is : counts.listing ≡ record old.counts.listing { events = old.counts.listing.events ++ item ∷ [] }
    is = did.listing ∙ ap (λ (keys : List Item). record old.counts.listing { events = keys }) did.taken

    settings_are : counts.listing.settings ≡ old.counts.listing.settings
    settings_are = ap (λ (l : Listing). l.settings) is

    long : length counts.listing.events ≡ length old.counts.listing.events + 1
    long = ap (λ (l : Listing). length l.events) is ∙ length-append old.counts.listing.events (item ∷ [])

    -- it is of the record at the place
    placed : (history : List Packet) → AreNext history place old (item ∷ []) → ArePlacesIn old.counts.listing.version history old.log.places → ArePlacesIn old.counts.listing.version history places
    placed history next = over.places old.counts.listing.version history
        (record_part history place (length old.counts.listing.events) (length old.counts.listing.events + length (item ∷ [])) old.log.places.passed (length counts.listing.events)
        (omega (arith, can.can_log.logging.passed)) (omega (arith, long)) next)

    same : places.settings ≡ old.counts.listing.settings
    same = over.settings ∙ can.can_log.logging.same

    taken : (seen : Files) → bays.files old.bay ≡ Some seen → (history : List Packet) → AreNext history place old (item ∷ []) → (up : AreInStep bays old seen history) → (after : Files) →
        bays.files bay ≡ Some after →
        IsTaken (bays.leaves bay) after history old.counts counts (record old.log { places = places }) up.logged item
    taken seen told history next up after told_after =
        let holds = held (Ok tt) did seen told history up in
        taken_of bays lawful old.bay bay history old.counts old.log did.rest did.kept.time can.counted can.still seen told up counts item is after told_after
        (lawful.as_read bay after told_after)
        (did.images seen told holds up.frames after told_after) (did.held seen told holds after told_after).reports
        places (placed history next up.placed) same (over.passed ∙ omega (arith, long)) over.from

    logging_kept : IsLogging counts (record old.log { places = places }) old.room
    logging_kept = record {
      most = can.can_log.logging.most ∙ ap most_record (sym settings_are);
      named = omega (arith, can.can_log.logging.named, did.grows);
      near = omega (arith, can.can_log.logging.near, long);
      roomy = can.can_log.logging.roomy;
      same = same ∙ sym settings_are;
      passed = over.passed;
    }

    -- the rows and the frames after it, by the settings of before
    flushed_then : edge old.counts.listing.settings 0 (length counts.listing.events) ≢ edge old.counts.listing.settings 0 (length counts.listing.events - 1) →
        IsFlushed old.counts.listing.settings (length old.counts.listing.events) (length counts.listing.events) counts.rows
    flushed_then moves = record {
      at = subst (λ (s : Numbers). IsAt s (length counts.listing.events) counts.rows) settings_are did.counted.rows;
      are = subst (λ (s : Numbers). AreRows s counts.rows) settings_are did.counted.are;
      fits = subst (λ (s : Numbers). length counts.listing.events ≤ capacity s) settings_are did.counted.fits;
      moves = moves;
      behind = ap (edge old.counts.listing.settings 0) (let before : length old.counts.listing.events ≡ length counts.listing.events - 1 = omega (arith, long) in before);
    }

    framed_then : IfTold (bays.files old.bay) (λ seen. HoldsSome old.counts.listing.version old.counts.listing.settings (length old.counts.listing.events) old.counts.rows (seen 2) →
        IfTold (bays.files bay) (λ after. HoldsSome old.counts.listing.version old.counts.listing.settings (length counts.listing.events) counts.rows (after 2)))
    framed_then seen told some after told_after =
        subst (λ (l : Listing). HoldsSome l.version l.settings (length counts.listing.events) counts.rows (after 2)) is (did.framed seen told some after told_after)

    -- where it stands then the log's next record may be appended
    can_log_here : CanLog bays (work_at bay counts log_then old.room)
    can_log_here = record {
      logging = logging_kept;
      log_shut = shut_alone lawful
          (alone_rest lawful 1 (λ same. absurd (omega (arith, same))) did.rest did.kept.time) can.can_log.log_shut;
    }

    pub can_log_then : CanLog bays (work_at bay counts log_mid old.room)
    can_log_then = subst (λ (l : LogPlace). CanLog bays (work_at bay counts l old.room)) (sym rest) can_log_here

    -- between two flushes
    pub key_between : edge counts.listing.settings 0 (length counts.listing.events) ≡ edge counts.listing.settings 0 (length counts.listing.events - 1) →
        TakesItems bays place (item ∷ []) old (work_at bay counts log_mid old.room) (Ok tt)
    key_between stays_now =
        let stays : edge old.counts.listing.settings 0 (length counts.listing.events) ≡ edge old.counts.listing.settings 0 (length counts.listing.events - 1) =
        subst (λ (s : Numbers). edge s 0 (length counts.listing.events) ≡ edge s 0 (length counts.listing.events - 1)) settings_are stays_now in
        let before : length counts.listing.events - 1 ≡ length old.counts.listing.events = omega (arith, long) in
        let rows_are = did.still (ap (edge old.counts.listing.settings 0) (sym long) ∙ stays ∙ ap (edge old.counts.listing.settings 0) before) in
        subst (λ (l : LogPlace). TakesItems bays place (item ∷ []) old (work_at bay counts l old.room) (Ok tt)) (sym rest) (record {
          listing = did.listing;
          taken = did.taken;
          counted = did.counted;
          can_log = can_log_here;
          in_step = λ seen told history next up after told_after.
              up_between (bays.leaves bay) after history old.counts counts log_then up.logged item can.still can.counted did.counted (taken seen told history next up after told_after) stays
              rows_are;
          each_moment = sound_key (Ok tt) did;
          sound = λ seen told history next up weighs. did.sound seen told (held (Ok tt) did seen told history up) weighs;
          framed = did.framed;
          whole = did.whole;
          unflushed = λ passed. did.unflushed (flush_passed old.counts.listing.settings (length old.counts.listing.events) passed);
          log = log_rest bays lawful old.counts.listing.settings can.counted.valid old.counts.rows can.counted.are (length old.counts.listing.events) old.log.gate old.bay bay did.rest
              can.can_log.log_shut
              (record { rows = counts.rows; events = length counts.listing.events; gate = old.log.gate }) (Ok tt)
              (λ records bytes head. record {
                stand = head.stand;
                names = subst (λ (rows : List (List BinAt)). NamesRows old.counts.listing.settings records rows) (sym rows_are) head.names;
                newest = head.newest ∙ sym (stays ∙ ap (edge old.counts.listing.settings 0) before);
              });
          keeps = record {
            shows = did.shows;
            journal = alone_rest lawful 0 (λ same. absurd (omega (arith, same))) did.rest did.kept.time;
            most = refl;
            kept = did.kept;
          };
        })

    -- a flush
    module _ (moves_now : edge counts.listing.settings 0 (length counts.listing.events) ≢ edge counts.listing.settings 0 (length counts.listing.events - 1))
        (few : length counts.due.reports ≤ counts.listing.settings.room)
        {E : Type 0} (wrote : Result (Unit {0}) E) (bay_after : B) (log_after : LogPlace)
        (appends : AppendsRecord bays LogKind.Flush (length counts.listing.events) (directory_text counts.rows) counts.due.reports bay bay_after log_then log_after wrote) where
      moves : edge old.counts.listing.settings 0 (length counts.listing.events) ≢ edge old.counts.listing.settings 0 (length counts.listing.events - 1)
      moves = subst (λ (s : Numbers). edge s 0 (length counts.listing.events) ≢ edge s 0 (length counts.listing.events - 1)) settings_are moves_now

      few_here : length counts.due.reports ≤ old.counts.listing.settings.room
      few_here = omega (arith, few, ap (λ (s : Numbers). s.room) settings_are)

      never_passed : last_flush old.counts.listing.settings (length old.counts.listing.events + 1) ≤ length old.counts.listing.events → ⊥
      never_passed passed =
          let before : length counts.listing.events - 1 ≡ length old.counts.listing.events = omega (arith, long) in
          moves (ap (edge old.counts.listing.settings 0) long ∙ flush_passed old.counts.listing.settings (length old.counts.listing.events) passed
          ∙ ap (edge old.counts.listing.settings 0) (sym before))

      abbrev payload : List ℕ
      payload = payload_at log_then LogKind.Flush (length counts.listing.events) (directory_text counts.rows) counts.due.reports

      journal_then : LeavesAlone bays 0 old.bay bay_after
      journal_then =
          alone_on lawful (alone_rest lawful 0 (λ same. absurd (omega (arith, same))) did.rest
          did.kept.time)
          (alone_others lawful 1 0 (λ same. absurd (omega (arith, same))) appends.seen appends.others appends.kept.time)

      -- in each image of each moment
      sound_flush : IfTold (bays.files old.bay) (λ seen. (history : List Packet) → AreNext history place old (item ∷ []) →
          IsPartway old.counts.listing.settings history old.counts.listing.events (item ∷ []) → AreInStep bays old seen history →
          (image : Files) → bays.left_since bay_after (bays.moment old.bay) image → IsSound old.counts.listing.settings old.counts.listing.cone history image)
      sound_flush seen told history next partway up image may =
          let mid = did.rest.seen.told seen told in
          let taken_then = taken seen told history next up mid.0 mid.1 in
          let all : InEach (bays.leaves bay) 1 (λ bytes. IsGated old.log.most bytes 8 (map log_payload_of up.logged) old.log.gate) =
          λ earlier left. subst (λ (m : ℕ). IsGated m (earlier 1) 8 (map log_payload_of up.logged) old.log.gate) (sym can.can_log.logging.most)
          (taken_then.log_there earlier left).records_stand in
          let each : InEach (bays.left_since bay_after (bays.moment bay)) 1 (IsWithOrWithout (most_record old.counts.listing.settings) 8 (map log_payload_of up.logged) old.log.gate payload) =
          λ earlier left. subst (λ (m : ℕ). IsWithOrWithout m 8 (map log_payload_of up.logged) old.log.gate payload (earlier 1)) can.can_log.logging.most
          (appends.each_moment mid.0 mid.1 8 (map log_payload_of up.logged) all earlier left) in
          elim (appends.kept.time.known (bays.moment old.bay) image did.kept.time.later may) [
            | inl past ↦ sound_key (Ok tt) did seen told history next partway up image past
            | inr here ↦ sound_append (bays.leaves bay) mid.0 history old.counts counts log_then up.logged item can.still can.counted did.counted taken_then moves few_here
                (bays.left_since bay_after (bays.moment bay)) payload refl (appends.others mid.0 mid.1) (appends.before mid.0 mid.1) each partway image here
          ]

    -- its record isn't appended
    pub record_failed : edge counts.listing.settings 0 (length counts.listing.events) ≢ edge counts.listing.settings 0 (length counts.listing.events - 1) →
        length counts.due.reports ≤ counts.listing.settings.room →
        {E : Type 0} {failed : E} {bay_after : B} {log_after : LogPlace} {room : ℕ} {given : Result (Unit {0}) TakeFault} →
        AppendsRecord bays LogKind.Flush (length counts.listing.events) (directory_text counts.rows) counts.due.reports bay bay_after log_mid log_after (Err failed) →
        IsErrAnd given (λ fault. fault ≡ Failed) → TakesItems bays place (item ∷ []) old (work_at bay_after counts log_after room) given
    record_failed moves_now few {failed = failed} {bay_after = bay_after} {log_after = log_after} {room = room} {given = given} appended given_is =
        let appends = subst (λ (l : LogPlace). AppendsRecord bays LogKind.Flush (length counts.listing.events) (directory_text counts.rows) counts.due.reports bay bay_after l log_after
        (Err failed)) rest appended in
        subst (λ (r : Result (Unit {0}) TakeFault). TakesItems bays place (item ∷ []) old (work_at bay_after counts log_after room) r) (handed_on given Failed given_is) (record {
          listing = did.listing;
          taken = tt;
          counted = tt;
          can_log = tt;
          in_step = λ seen told history next up. tt;
          each_moment = sound_flush moves_now few (Err failed) bay_after log_after appends;
          sound = λ seen told history next up weighs file at same. (let never : ⊥ = cc in never);
          framed = λ seen told some. tt;
          whole = λ seen told some at same. (let never : ⊥ = cc in never);
          unflushed = λ passed. absurd (never_passed moves_now few (Err failed) bay_after log_after appends passed);
          log = log_failed bays lawful old.counts.listing.settings can.counted.valid old.counts.rows can.counted.are (length old.counts.listing.events) old.log.gate old.bay bay did.rest
              can.can_log.log_shut did.kept.time.later can_log_here.log_shut counts.rows (length counts.listing.events) (flushed_then (moves moves_now few (Err failed) bay_after log_after appends))
              framed_then counts.due.reports log_then refl
              can.can_log.logging.most (Err failed) bay_after log_after appends (record { rows = counts.rows; events = length counts.listing.events; gate = log_after.gate }) Failed;
          keeps = record {
            shows = λ seen told file at same. absurd (let never : ⊥ = cc in never);
            journal = journal_then moves_now few (Err failed) bay_after log_after appends;
            most = ap (λ (l : LogPlace). l.most) appends.stayed;
            kept = keeps_as bays lawful old.bay bay_after _ _ (λ _. refl) (keeps_on bays lawful old.bay bay bay_after _ _ did.kept appends.kept);
          };
        })

    -- its record is appended
    pub key_flushed : edge counts.listing.settings 0 (length counts.listing.events) ≢ edge counts.listing.settings 0 (length counts.listing.events - 1) →
        length counts.due.reports ≤ counts.listing.settings.room →
        {E : Type 0} {bay_after : B} {log_after : LogPlace} {room : ℕ} → room ≡ old.room →
        AppendsRecord {E = E} bays LogKind.Flush (length counts.listing.events) (directory_text counts.rows) counts.due.reports bay bay_after log_mid log_after (Ok tt) →
        TakesItems bays place (item ∷ []) old (work_at bay_after counts log_after room) (Ok tt)
    key_flushed moves_now few {E = E} {bay_after = bay_after} {log_after = log_after} {room = room} room_is appended =
        let appends = subst (λ (l : LogPlace). AppendsRecord {E = E} bays LogKind.Flush (length counts.listing.events) (directory_text counts.rows) counts.due.reports bay bay_after l
        log_after (Ok tt)) rest appended in
        record {
          listing = did.listing;
          taken = did.taken;
          counted = did.counted;
          can_log = record {
            logging = logging_more old.counts counts old.log log_after old.room room item (directory_text counts.rows) counts.due.reports can.counted.valid can.can_log.logging is
                (ap (λ (l : LogPlace). l.most) appends.moved) (ap (λ (l : LogPlace). l.named) appends.moved) (ap (λ (l : LogPlace). l.gate) appends.moved ∙ appends.long)
                (record_fits counts.listing.settings counts.rows log_then (directory_text counts.rows) counts.due.reports counts.due.reports did.counted.are
                (can.can_log.logging.most ∙ ap most_record (sym settings_are)) refl refl few)
                room_is
                (ap (λ (l : LogPlace). l.places.settings) appends.moved ∙ same ∙ sym settings_are) (ap (λ (l : LogPlace). l.places.passed) appends.moved ∙ over.passed);
            log_shut = λ after told_after.
                let back = turns_back appends.seen after told_after in
                record { settled = appends.settled after told_after; closed = appends.closed back.0 back.1 };
          };
          in_step = λ seen told history next up after told_after.
              let mid = did.rest.seen.told seen told in
              let taken_then = taken seen told history next up mid.0 mid.1 in
              let all : InEach (bays.leaves bay) 1 (λ bytes. IsGated old.log.most bytes 8 (map log_payload_of up.logged) old.log.gate) =
              λ earlier left. subst (λ (m : ℕ). IsGated m (earlier 1) 8 (map log_payload_of up.logged) old.log.gate) (sym can.can_log.logging.most)
              (taken_then.log_there earlier left).records_stand in
              let pay = payload_at log_then LogKind.Flush (length counts.listing.events) (directory_text counts.rows) counts.due.reports in
              let stands : InEach (bays.leaves bay_after) 1 (λ bytes. IsGated (most_record old.counts.listing.settings) bytes 8 (map log_payload_of up.logged ++ pay ∷ []) log_after.gate) =
              λ later left. subst (λ (m : ℕ). IsGated m (later 1) 8 (map log_payload_of up.logged ++ pay ∷ []) log_after.gate) can.can_log.logging.most
              (appends.appended mid.0 mid.1 8 (map log_payload_of up.logged) all later left) in
              up_flushed (bays.leaves bay) mid.0 history old.counts counts log_then up.logged item can.still can.counted did.counted taken_then
              (moves moves_now few (Ok tt) bay_after log_after appends) (few_here moves_now few (Ok tt) bay_after log_after appends)
              (bays.left_since bay_after (bays.moment bay)) pay refl (appends.others mid.0 mid.1) (appends.before mid.0 mid.1) (bays.leaves bay_after) after log_after
              (now_since lawful appends.kept.time.later) (ap (λ (l : LogPlace). l.named) appends.moved)
              (ap (λ (l : LogPlace). l.places) appends.moved) stands
              (settled_alone lawful (alone_others lawful 1 0 (λ same. absurd (omega (arith, same))) appends.seen appends.others appends.kept.time)
              mid.0 mid.1 taken_then.journal_settled after told_after)
              (appends.settled after told_after);
          each_moment = sound_flush moves_now few (Ok tt) bay_after log_after appends;
          sound = λ seen told history next up weighs. did.sound seen told (held (Ok tt) did seen told history up) weighs;
          framed = λ seen told some after told_after.
              let was = turns_back appends.seen after told_after in
              subst (λ (bytes : List ℕ). HoldsSome counts.listing.version counts.listing.settings (length counts.listing.events) counts.rows bytes) (sym (was.2 2 (λ same. absurd (omega (
                arith,
                same,
              )))))
              (did.framed seen told some was.0 was.1);
          whole = did.whole;
          unflushed = λ passed. absurd (never_passed moves_now few (Ok tt) bay_after log_after appends passed);
          log = log_flushed bays lawful old.counts.listing.settings can.counted.valid old.counts.rows can.counted.are (length old.counts.listing.events) old.log.gate old.bay bay did.rest
              can.can_log.log_shut did.kept.time.later can_log_here.log_shut counts.rows (length counts.listing.events) (flushed_then (moves moves_now few (Ok tt) bay_after log_after appends))
              framed_then counts.due.reports log_then refl
              can.can_log.logging.most bay_after log_after appends;
          keeps = record {
            shows = λ seen told file at same. absurd (let never : ⊥ = cc in never);
            journal = journal_then moves_now few (Ok tt) bay_after log_after appends;
            most = ap (λ (l : LogPlace). l.most) appends.moved;
            kept = keeps_as bays lawful old.bay bay_after _ _ (λ same. absurd (let never : ⊥ = cc in never)) (keeps_on bays lawful old.bay bay bay_after _ _ did.kept appends.kept);
          };
        }
