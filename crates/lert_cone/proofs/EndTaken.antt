-- The end through the calls that it makes: the levels aren't scanned, or the closing record isn't appended, or it is.
use Rattle.std.proofs.Common.{◌≡◌, ℕ, ◌≤◌, Bool, true, List, [], ◌∷◌, ◌++◌, length, map, Result, Ok, Err, Some, refl, sym, ap, ◌∙◌, subst, inl, inr, arith}
use Rattle.std.specs.Result.{IsErrAnd}
use Rattle.lert_base.specs.Packet.{Packet, events_of}
use Rattle.lert_bay.specs.{Files.{Files, IfTold}, Kept.Bays}
use Rattle.lert_gatelog.specs.{Gated.IsGated, Kept.{InEach, IsWithOrWithout}}
use Rattle.lert_levels.specs.rows.Rows.{directory_text}
use Rattle.lert_reports.specs.{declared.log.LogKind.LogKind, Log.most_record, LogText.{LogRecord, log_payload_of}}
use Rattle.lert_spec.specs.declared.numbers.Numbers.{Numbers}
use Rattle.lert_cone.specs.{declared.tally.TakeFault.TakeFault, declared.tally.TakeFault.TheVariants.Failed, Appends.AppendsRecord, Counts.CountsEnd, Listing.Listing, Record.{LogPlace, payload_at}}
use Rattle.lert_cone.specs.{Sound.IsSound, Takes.{Workplace, work_at, CanLog, CanTake, AreInStep, TakesEnd}, Tally.{Tallied, IsHeld}, Wrote.LeavesAlone}
use Rattle.lert_bay.proofs.KeptLaws.{IsLawful, keeps_as, keeps_on}
use Rattle.lert_cone.proofs.{Calls.{now_since, alone_on, alone_others, alone_read, settled_alone, shut_alone}, EndStep.{IsEnding, partway_all, late_all, ending_of, sound_close, up_closed}}
use Rattle.lert_cone.proofs.{KeyStep.{held_of, sound_now}, TakeLaws.handed_on}

module _ {B : Type 0} {bays : Bays B} (lawful : IsLawful bays) {old : Workplace B} (can : CanTake bays [] old) (bay : B) (counts : Tallied) where
  held : (seen : Files) → bays.files old.bay ≡ Some seen → (history : List Packet) → AreInStep bays old seen history → IsHeld old.counts seen
  held seen told history up = held_of (bays.leaves old.bay) seen history old.counts old.log (lawful.as_read old.bay seen told) up

  sound_before : (seen : Files) (history : List Packet) → old.counts.listing.events ≡ events_of history → AreInStep bays old seen history → (image : Files) →
      bays.leaves old.bay image →
      IsSound old.counts.listing.settings old.counts.listing.cone history image
  sound_before seen history all up image may =
      sound_now (bays.leaves old.bay) seen history old.counts old.log [] can.counted can.still up
      (partway_all old.counts.listing.settings history old.counts.listing.events all (late_all history old.counts.listing.events all)) image may

  refused_by : (fault : TakeFault) → CountsEnd bays old.bay bay old.counts counts (Err fault) →
      TakesEnd bays old (record old { bay = bay; counts = counts }) (Err fault)
  refused_by fault did = record {
    listing = did.listing;
    rows = did.rows;
    closed = tt;
    counted = tt;
    in_step = λ seen told history all up. tt;
    each_moment = λ seen told history all up image may. sound_before seen history all up image (did.reads.moments image may);
    sound = λ seen told history up weighs. did.sound seen told (held seen told history up) weighs;
    whole = λ seen told. tt;
    room = refl;
    keeps = record {
      shows = did.shows;
      journal = alone_read lawful 0 did.reads;
      most = refl;
      kept = did.reads.kept;
    };
  }

  -- the levels aren't scanned
  pub end_refused : {result given : Result (Unit {0}) TakeFault} {fault : TakeFault} → result ≡ Err fault → CountsEnd bays old.bay bay old.counts counts result →
      IsErrAnd given (λ g. g ≡ fault) → TakesEnd bays old (record old { bay = bay; counts = counts }) given
  end_refused {given = given} {fault = fault} is did given_is =
      subst (λ (r : Result (Unit {0}) TakeFault). TakesEnd bays old (record old { bay = bay; counts = counts }) r) (handed_on given fault given_is)
      (refused_by fault (subst (λ (r : Result (Unit {0}) TakeFault). CountsEnd bays old.bay bay old.counts counts r) is did))

  module _ (did : CountsEnd bays old.bay bay old.counts counts (Ok tt)) where
    is : counts.listing ≡ record old.counts.listing { closed = true }
    is = did.listing ∙ ap (λ (closed : Bool). record old.counts.listing { closed = closed }) did.closed

    settings_are : counts.listing.settings ≡ old.counts.listing.settings
    settings_are = ap (λ (l : Listing). l.settings) is

    pub can_log_end : CanLog bays (record old { bay = bay; counts = counts })
    can_log_end = record {
      logging = record {
        most = can.can_log.logging.most ∙ ap most_record (sym settings_are);
        named = omega (arith, can.can_log.logging.named, did.grows);
        near = omega (arith, can.can_log.logging.near, ap (λ (l : Listing). length l.events) is);
        roomy = can.can_log.logging.roomy;
        same = can.can_log.logging.same ∙ sym settings_are;
        passed = can.can_log.logging.passed ∙ ap (λ (l : Listing). length l.events) (sym is);
      };
      log_shut = shut_alone lawful (alone_read lawful 1 did.reads) can.can_log.log_shut;
    }

    ending : (seen : Files) → bays.files old.bay ≡ Some seen → (history : List Packet) → old.counts.listing.events ≡ events_of history → (up : AreInStep bays old seen history) →
        IsEnding (bays.leaves bay) seen history old.counts counts old.log up.logged
    ending seen told history all up =
        ending_of (bays.leaves old.bay) (bays.leaves bay) seen history old.counts counts old.log can.still up is did.rows (λ image may. (did.reads.images image).0 may)
        (lawful.as_read bay seen (did.reads.seen ∙ told)) (did.held seen told (held seen told history up)).reports all
        can.can_log.logging.same can.can_log.logging.passed

    all_there : (history : List Packet) (logged : List LogRecord) (seen : Files) → IsEnding (bays.leaves bay) seen history old.counts counts old.log logged →
        InEach (bays.leaves bay) 1 (λ bytes. IsGated old.log.most bytes 8 (map log_payload_of logged) old.log.gate)
    all_there history logged seen ends earlier left =
        subst (λ (m : ℕ). IsGated m (earlier 1) 8 (map log_payload_of logged) old.log.gate) (sym can.can_log.logging.most) (ends.log_there earlier left).records_stand

    module _ (few : length counts.due.reports ≤ counts.listing.settings.room) {E : Type 0} (wrote : Result (Unit {0}) E) (bay_after : B) (log_after : LogPlace)
        (appends : AppendsRecord bays LogKind.Closing (length counts.listing.events) (directory_text counts.rows) counts.due.reports bay bay_after old.log log_after wrote) where
      few_here : length counts.due.reports ≤ old.counts.listing.settings.room
      few_here = omega (arith, few, ap (λ (s : Numbers). s.room) settings_are)

      beside : LeavesAlone bays 0 bay bay_after
      beside = alone_others lawful 1 0 (λ same. absurd (omega (arith, same))) appends.seen appends.others appends.kept.time

      journal_then : LeavesAlone bays 0 old.bay bay_after
      journal_then = alone_on lawful (alone_read lawful 0 did.reads) beside

      sound_end : IfTold (bays.files old.bay) (λ seen. (history : List Packet) → old.counts.listing.events ≡ events_of history → AreInStep bays old seen history →
          (image : Files) → bays.left_since bay_after (bays.moment old.bay) image → IsSound old.counts.listing.settings old.counts.listing.cone history image)
      sound_end seen told history all up image may =
          let told_then = did.reads.seen ∙ told in
          let ends = ending seen told history all up in
          let payload = payload_at old.log LogKind.Closing (length counts.listing.events) (directory_text counts.rows) counts.due.reports in
          let each : InEach (bays.left_since bay_after (bays.moment bay)) 1 (IsWithOrWithout (most_record old.counts.listing.settings) 8 (map log_payload_of up.logged) old.log.gate payload) =
          λ earlier left. subst (λ (m : ℕ). IsWithOrWithout m 8 (map log_payload_of up.logged) old.log.gate payload (earlier 1)) can.can_log.logging.most
          (appends.each_moment seen told_then 8 (map log_payload_of up.logged) (all_there history up.logged seen ends) earlier left) in
          elim (appends.kept.time.known (bays.moment old.bay) image did.reads.kept.time.later may) [
            | inl past ↦ sound_before seen history all up image (did.reads.moments image past)
            | inr here ↦ sound_close (bays.leaves bay) seen history old.counts counts old.log up.logged can.counted ends few_here (bays.left_since bay_after (bays.moment bay)) payload refl
                (appends.others seen told_then) (appends.before seen told_then) each image here
          ]

    -- the closing record isn't appended
    pub close_failed : length counts.due.reports ≤ counts.listing.settings.room → {E : Type 0} {failed : E} {bay_after : B} {log_after : LogPlace} {room : ℕ}
        {given : Result (Unit {0}) TakeFault} → room ≡ old.room →
        AppendsRecord bays LogKind.Closing (length counts.listing.events) (directory_text counts.rows) counts.due.reports bay bay_after old.log log_after (Err failed) →
        IsErrAnd given (λ fault. fault ≡ Failed) → TakesEnd bays old (work_at bay_after counts log_after room) given
    close_failed few {failed = failed} {bay_after = bay_after} {log_after = log_after} {room = room} {given = given} room_is appends given_is =
        subst (λ (r : Result (Unit {0}) TakeFault). TakesEnd bays old (work_at bay_after counts log_after room) r) (handed_on given Failed given_is) (record {
          listing = did.listing;
          rows = did.rows;
          closed = tt;
          counted = tt;
          in_step = λ seen told history all up. tt;
          each_moment = sound_end few (Err failed) bay_after log_after appends;
          sound = λ seen told history up weighs file at same. (let never : ⊥ = cc in never);
          whole = λ seen told. tt;
          room = room_is;
          keeps = record {
            shows = λ seen told file at same. absurd (let never : ⊥ = cc in never);
            journal = journal_then few (Err failed) bay_after log_after appends;
            most = ap (λ (l : LogPlace). l.most) appends.stayed;
            kept = keeps_as bays lawful old.bay bay_after _ _ (λ _. refl) (keeps_on bays lawful old.bay bay bay_after _ _ did.reads.kept appends.kept);
          };
        })

    -- it is appended
    pub end_taken : length counts.due.reports ≤ counts.listing.settings.room → {E : Type 0} {bay_after : B} {log_after : LogPlace} {room : ℕ} → room ≡ old.room →
        AppendsRecord {E = E} bays LogKind.Closing (length counts.listing.events) (directory_text counts.rows) counts.due.reports bay bay_after old.log log_after (Ok tt) →
        TakesEnd bays old (work_at bay_after counts log_after room) (Ok tt)
    end_taken few {bay_after = bay_after} {log_after = log_after} room_is appends = record {
      listing = did.listing;
      rows = did.rows;
      closed = did.closed;
      counted = did.counted;
      in_step = λ seen told history all up after told_after.
          let told_then = did.reads.seen ∙ told in
          let ends = ending seen told history all up in
          let payload = payload_at old.log LogKind.Closing (length counts.listing.events) (directory_text counts.rows) counts.due.reports in
          let stands : InEach (bays.leaves bay_after) 1 (λ bytes. IsGated (most_record old.counts.listing.settings) bytes 8 (map log_payload_of up.logged ++ payload ∷ []) log_after.gate) =
          λ later left. subst (λ (m : ℕ). IsGated m (later 1) 8 (map log_payload_of up.logged ++ payload ∷ []) log_after.gate) can.can_log.logging.most
          (appends.appended seen told_then 8 (map log_payload_of up.logged) (all_there history up.logged seen ends) later left) in
          up_closed (bays.leaves bay) seen history old.counts counts old.log up.logged can.counted ends (few_here few (Ok tt) bay_after log_after appends) (bays.left_since bay_after
          (bays.moment bay)) payload refl
          (appends.others seen told_then) (appends.before seen told_then) (bays.leaves bay_after) after log_after (now_since lawful appends.kept.time.later)
          (ap (λ (l : LogPlace). l.named) appends.moved) (ap (λ (l : LogPlace). l.places) appends.moved) stands
          (settled_alone lawful (beside few (Ok tt) bay_after log_after appends) seen told_then ends.journal_settled after told_after)
          (appends.settled after told_after);
      each_moment = sound_end few (Ok tt) bay_after log_after appends;
      sound = λ seen told history up weighs. did.sound seen told (held seen told history up) weighs;
      whole = did.whole;
      room = room_is;
      keeps = record {
        shows = λ seen told file at same. absurd (let never : ⊥ = cc in never);
        journal = journal_then few (Ok tt) bay_after log_after appends;
        most = ap (λ (l : LogPlace). l.most) appends.moved;
        kept = keeps_as bays lawful old.bay bay_after _ _ (λ same. absurd (let never : ⊥ = cc in never)) (keeps_on bays lawful old.bay bay bay_after _ _ did.reads.kept appends.kept);
      };
    }
