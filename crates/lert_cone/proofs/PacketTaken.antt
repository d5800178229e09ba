-- A packet through the calls that it makes: it isn't appended, or it is, and its items are taken.
use Rattle.std.specs.{Prelude.IsErr, Result.IsErrAnd}
use Rattle.std.proofs.Common.{◌≡◌, ℕ, ◌+◌, ◌<◌, ◌≤◌, List, [], ◌∷◌, ◌++◌, All, length, Result, Ok, Err, OnOk, OnErr, Some, refl, ap, ◌∙◌, subst, inl, inr, arith, sym}
use Rattle.lert_base.specs.Packet.{keys_of, Packet, events_of}
use Rattle.lert_bay.specs.{Files.{Files, IfTold, Turns}, Kept.{Bays, KeepsBay}}
use Rattle.lert_gatelog.specs.{Gated.{IsClosed, Log, next_gate}, Kept.{InEach, KeepsOthers, KeepsBefore, IsWhollySettled, OthersStay}}
use Rattle.lert_io.specs.declared.faulty.Failed.{Failed as Fault}
use Rattle.lert_journal.specs.{Journal.{HasPackets, HasPacketsOrOneMore}, Payload.payload_of}
use Rattle.lert_spec.specs.{declared.item.Item.Item, Edges.{key_limit, capacity}, Items.keys_in, Mix.cone_of}
use Rattle.lert_cone.proofs.KeyLemmas.{of_keys}
use Rattle.lert_cone.specs.{declared.journal_places.JournalPlace.JournalPlace, declared.tally.TakeFault.TakeFault, declared.tally.TakeFault.TheVariants.Failed, InStep.IsInStep}
use Rattle.lert_cone.specs.{JournalPlaces.AreOfRecord, Sound.IsSoundOver, Takes.{Workplace, CanTake, CanTakePacket, CanHold, TakesItems, TakesPacket}, Wrote.{IsShutIfTold, LeavesAlone}}
use Rattle.lert_bay.proofs.KeptLaws.{IsLawful, keeps_on}
use Rattle.lert_cone.proofs.{Calls.{now_since, alone_others, settled_alone, shut_alone}, JournalPlaceLaws.last_holds, SoundLaws.turns_back}
use Rattle.lert_cone.proofs.{AppendLaws.{sound_appending, up_appended, records_there, each_there, partway_packet, appended_there}, FaultLaws.{any_turn, turns_on}, TakeLaws.{handed_on, ok_holds}}
use Rattle.lert_journal.specs.Payload.{most_payload}
use Rattle.lert_spec.specs.{Counts.{weighed, weight_of}, Edges.weight_room}
use Rattle.lert_cone.proofs.WeighLaws.{weigh_more, weighed_more}

-- what the append of a packet says: its clauses
abbrev pub AppendsPacket : ℕ → {B : Type 0} → Bays B → Packet → B → B → Log → Log → Result (Unit {0}) Fault → Type 0
AppendsPacket version bays packet bay bay_after old new result = record {
  moved : OnOk result (new ≡ record old { gate = next_gate old.gate (payload_of version packet) });
  stayed : OnErr result (new ≡ old);
  each_moment : IfTold (bays.files bay) (λ _. (first : ℕ) (packets : List Packet) → InEach (bays.leaves bay) old.file (λ bytes. HasPackets version old.most bytes first packets old.gate) →
      InEach (bays.left_since bay_after (bays.moment bay)) old.file (HasPacketsOrOneMore version old.most first packets old.gate packet));
  appended : IfTold (bays.files bay) (λ _. (first : ℕ) (packets : List Packet) → InEach (bays.leaves bay) old.file (λ bytes. HasPackets version old.most bytes first packets old.gate) →
      OnOk result (InEach (bays.leaves bay_after) old.file (λ bytes. HasPackets version old.most bytes first (packets ++ packet ∷ []) new.gate)));
  closed : IfTold (bays.files bay) (λ _. OnOk result (InEach (bays.leaves bay_after) old.file (λ bytes. IsClosed bytes new.gate)));
  settled : OnOk result (IfTold (bays.files bay_after) (λ seen. IsWhollySettled (bays.leaves bay_after) seen old.file));
  before : IfTold (bays.files bay) (λ seen. KeepsBefore (bays.leaves bay) (bays.left_since bay_after (bays.moment bay)) seen old.file old.gate);
  others : IfTold (bays.files bay) (λ seen. KeepsOthers (bays.leaves bay) (bays.left_since bay_after (bays.moment bay)) seen old.file);
  seen : Turns (OthersStay old.file) (bays.files bay) (bays.files bay_after);
  kept : KeepsBay bays bay bay_after (IsErr result);
}

module _ {B : Type 0} {bays : Bays B} (lawful : IsLawful bays) {old : Workplace B} {packet : Packet} {journal : Log} (can : CanTakePacket bays packet old journal) {keys : List Item}
    (keys_are : keys ≡ packet.items) (keys_fit : All (λ key. key < key_limit old.counts.listing.settings) (keys_in keys)) (journal_after : Log) (bay : B) where
  fit : All (λ key. key < key_limit old.counts.listing.settings) (keys_of packet)
  fit = subst (λ (items : List Item). All (λ key. key < key_limit old.counts.listing.settings) (keys_in items)) keys_are keys_fit

  -- whatever comes of the append
  module _ (result : Result (Unit {0}) Fault) (appends : AppendsPacket old.counts.listing.version bays packet old.bay bay journal journal_after result) where
    now : (image : Files) → bays.leaves bay image → bays.left_since bay (bays.moment old.bay) image
    now = now_since lawful appends.kept.time.later

    others_here : IfTold (bays.files old.bay) (λ seen. KeepsOthers (bays.leaves old.bay) (bays.left_since bay (bays.moment old.bay)) seen 0)
    others_here seen told = subst (λ (f : ℕ). KeepsOthers (bays.leaves old.bay) (bays.left_since bay (bays.moment old.bay)) seen f) can.file (appends.others seen told)

    before_here : IfTold (bays.files old.bay) (λ seen. KeepsBefore (bays.leaves old.bay) (bays.left_since bay (bays.moment old.bay)) seen 0 journal.gate)
    before_here seen told = subst (λ (f : ℕ). KeepsBefore (bays.leaves old.bay) (bays.left_since bay (bays.moment old.bay)) seen f journal.gate) can.file (appends.before seen told)

    fits_here : (seen : Files) (history : List Packet) → CanHold bays old journal seen history packet → length (events_of history) + length packet.items ≤ capacity old.counts.listing.settings
    fits_here seen history hold = omega (arith, can.fits, ap (length {A = Item}) hold.whole.keys)

    there : (seen : Files) → bays.files old.bay ≡ Some seen → (history : List Packet) → CanHold bays old journal seen history packet →
        InEach (bays.leaves old.bay) 0 (λ bytes. HasPackets old.counts.listing.version (most_payload old.counts.listing.version old.counts.listing.settings) bytes 32 history journal.gate)
    there seen told history hold =
        records_there (bays.leaves old.bay) (bays.left_since bay (bays.moment old.bay)) seen old.counts old.log journal.gate history packet can.counted can.still
        (lawful.as_read old.bay seen told) hold.whole
        can.journaled fit (fits_here seen history hold) hold.light (others_here seen told) (before_here seen told)

    sound_append : IfTold (bays.files old.bay) (λ seen. (history : List Packet) → CanHold bays old journal seen history packet →
        (image : Files) → bays.left_since bay (bays.moment old.bay) image → IsSoundOver old.counts.listing.settings old.counts.listing.cone history (Some packet) image)
    sound_append seen told history hold image may =
        sound_appending (bays.leaves old.bay) (bays.left_since bay (bays.moment old.bay)) seen old.counts old.log journal.gate history packet can.counted can.still
        (lawful.as_read old.bay seen told) hold.whole
        can.journaled fit (fits_here seen history hold) hold.light (others_here seen told) (before_here seen told)
        (each_there old.counts.listing.version (bays.leaves old.bay) (bays.left_since bay (bays.moment old.bay)) old.counts.listing.settings journal.file journal.most journal.gate history packet
        can.file can.most
        (appends.each_moment seen told 32 history) (there seen told history hold)) image may

    log_alone : LeavesAlone bays 1 old.bay bay
    log_alone = alone_others lawful journal.file 1 (λ same. absurd (omega (arith, same, can.file))) appends.seen appends.others appends.kept.time

  refused_by : (failed : Fault) (room : ℕ) → AppendsPacket old.counts.listing.version bays packet old.bay bay journal journal_after (Err failed) →
      TakesPacket bays packet old (record old { bay = bay; room = room }) journal journal_after (Err Failed)
  refused_by failed room appends = record {
    listing = refl;
    taken = tt;
    counted = tt;
    can_log = tt;
    moved = tt;
    file = ap (λ (j : Log). j.file) appends.stayed;
    most = ap (λ (j : Log). j.most) appends.stayed;
    shut = tt;
    in_step = λ seen told history hold. tt;
    each_moment = sound_append (Err failed) appends;
    sound = λ seen told history hold file at same. (let never : ⊥ = cc in never);
    shows = λ seen told file at same. absurd (let never : ⊥ = cc in never);
    seen = any_turn appends.seen;
    now = now (Err failed) appends;
    kept = record { time = appends.kept.time; never_falls = appends.kept.never_falls; failed = λ _. appends.kept.failed refl; mark = appends.kept.mark; journal = appends.kept.journal };
  }

  -- it isn't appended
  pub packet_refused : {result : Result (Unit {0}) Fault} {given : Result (Unit {0}) TakeFault} {failed : Fault} {room : ℕ} → result ≡ Err failed →
      AppendsPacket old.counts.listing.version bays packet old.bay bay journal journal_after result → IsErrAnd given (λ fault. fault ≡ Failed) →
      TakesPacket bays packet old (record old { bay = bay; room = room }) journal journal_after given
  packet_refused {given = given} {failed = failed} {room = room} is appends given_is =
      subst (λ (r : Result (Unit {0}) TakeFault). TakesPacket bays packet old (record old { bay = bay; room = room }) journal journal_after r) (handed_on given Failed given_is)
      (refused_by failed room (subst (λ (r : Result (Unit {0}) Fault). AppendsPacket old.counts.listing.version bays packet old.bay bay journal journal_after r) is appends))

  -- it is appended
  module _ {appended : Result (Unit {0}) Fault} (ok : appended ≡ Ok tt) (said : AppendsPacket old.counts.listing.version bays packet old.bay bay journal journal_after appended) where
    appends : AppendsPacket old.counts.listing.version bays packet old.bay bay journal journal_after (Ok tt)
    appends = subst (λ (r : Result (Unit {0}) Fault). AppendsPacket old.counts.listing.version bays packet old.bay bay journal journal_after r) ok said

    pub can_take_then : {room : ℕ} → room ≡ old.room → CanTake bays keys (record old { bay = bay; room = room })
    can_take_then {room = room} room_is = subst (λ (ks : List Item). CanTake bays ks (record old { bay = bay; room = room })) (sym keys_are) (record {
      still = can.still;
      own = of_keys (λ key. cone_of old.counts.listing.settings key ≡ old.counts.listing.cone) packet.items can.journaled.of_cone;
      light = can.journaled.weighed;
      fits = can.fits;
      counted = can.counted;
      can_log = record {
        logging = record {
          most = can.can_log.logging.most;
          named = can.can_log.logging.named;
          near = can.can_log.logging.near;
          roomy = omega (arith, room_is, can.can_log.logging.roomy);
          same = can.can_log.logging.same;
          passed = can.can_log.logging.passed;
        };
        log_shut = shut_alone lawful (log_alone (Ok tt) appends) can.can_log.log_shut;
      };
    })

    shut_then : IsShutIfTold (bays.files bay) (bays.leaves bay) 0 journal_after.gate
    shut_then seen told =
        let was = turns_back appends.seen seen told in
        record {
          settled = subst (λ (f : ℕ). IsWhollySettled (bays.leaves bay) seen f) can.file (appends.settled seen told);
          closed = λ image may. subst (λ (f : ℕ). IsClosed (image f) journal_after.gate) can.file (appends.closed was.0 was.1 image may);
        }

    up_then : (seen : Files) → bays.files old.bay ≡ Some seen → (history : List Packet) → CanHold bays old journal seen history packet → (mid : Files) → bays.files bay ≡ Some mid →
        IsInStep (bays.leaves bay) mid (history ++ packet ∷ []) old.counts.listing old.counts.rows old.counts.due.reports old.log
    up_then seen told history hold mid told_mid =
        let appended_here = appended_there old.counts.listing.version {T = Unit {0}} {E = Fault} (Ok tt) (bays.leaves old.bay) (bays.leaves bay) old.counts.listing.settings journal.file
        journal.most journal.gate
        journal_after.gate packet can.file can.most refl
        (appends.appended seen told) history (there (Ok tt) appends seen told history hold) in
        up_appended (bays.leaves old.bay) (bays.left_since bay (bays.moment old.bay)) seen old.counts old.log journal.gate history packet can.counted can.still (lawful.as_read old.bay seen told)
        hold.whole
        can.journaled fit (fits_here (Ok tt) appends seen history hold) hold.light (others_here (Ok tt) appends seen told) (before_here (Ok tt) appends seen told) (bays.leaves bay) mid
        journal_after.gate
        (now (Ok tt) appends)
        (ap (λ (j : Log). j.gate) appends.moved) appended_here
        (subst (λ (f : ℕ). IsWhollySettled (bays.leaves bay) mid f) can.file (appends.settled mid told_mid))
        (settled_alone lawful (log_alone (Ok tt) appends) seen told hold.whole.in_step.log_settled mid told_mid)

    -- its items are those of the record that begins at the gate
    next_then : (place : JournalPlace) → place.gate ≡ journal.gate → place.first ≡ length old.counts.listing.events + 1 → (seen : Files) (history : List Packet) →
        CanHold bays old journal seen history packet →
        AreOfRecord old.counts.listing.version (history ++ packet ∷ []) place (length old.counts.listing.events) (length old.counts.listing.events + length packet.items)
    next_then place gate_is first_is seen history hold =
        last_holds history packet place (length old.counts.listing.events) (gate_is ∙ hold.whole.gate_is) (ap (length {A = Item}) hold.whole.keys) first_is

    pub packet_taken : {place : JournalPlace} {room : ℕ} {new : Workplace B} {result : Result (Unit {0}) TakeFault} → place.gate ≡ journal.gate →
        place.first ≡ length old.counts.listing.events + 1 → TakesItems bays place keys (record old { bay = bay; room = room }) new result →
        TakesPacket bays packet old new journal journal_after result
    packet_taken {place = place} {room = room} {new = new} {result = result} gate_is first_is takes =
        let did = subst (λ (ks : List Item). TakesItems bays place ks (record old { bay = bay; room = room }) new result) keys_are takes in
        record {
          listing = did.listing;
          taken = did.taken;
          counted = did.counted;
          can_log = did.can_log;
          moved = ok_holds result appends.moved;
          file = ap (λ (j : Log). j.file) appends.moved;
          most = ap (λ (j : Log). j.most) appends.moved;
          shut = ok_holds result (shut_alone lawful did.keeps.journal shut_then);
          in_step = λ seen told history hold.
              let mid = appends.seen.told seen told in
              did.in_step mid.0 mid.1 (history ++ packet ∷ []) (next_then place gate_is first_is seen history hold) (up_then seen told history hold mid.0 mid.1);
          each_moment = λ seen told history hold image may.
              let mid = appends.seen.told seen told in
              elim (did.keeps.journal.time.known (bays.moment old.bay) image appends.kept.time.later may) [
                | inl past ↦ sound_append (Ok tt) appends seen told history hold image past
                | inr here ↦ inr (
                  packet,
                  refl,
                  did.each_moment mid.0 mid.1 (history ++ packet ∷ []) (next_then place gate_is first_is seen history hold)
                      (partway_packet old.counts.listing.settings history packet old.counts.listing.events hold.whole.keys)
                      (up_then seen told history hold mid.0 mid.1) image here,
                )
              ];
          sound = λ seen told history hold.
              let mid = appends.seen.told seen told in
              did.sound mid.0 mid.1 (history ++ packet ∷ []) (next_then place gate_is first_is seen history hold) (up_then seen told history hold mid.0 mid.1)
              (subst (λ (events : List Item). weight_of weighed (events ++ packet.items) ≤ weight_room old.counts.listing.settings) (sym hold.whole.keys)
              (subst (λ w. w ≤ weight_room old.counts.listing.settings) (weighed_more history packet ∙ sym (weigh_more (events_of history) packet.items)) hold.light));
          shows = did.keeps.shows;
          seen = turns_on appends.seen did.keeps.journal.seen;
          now = λ image may. lawful.since_earlier new.bay (bays.moment old.bay) (bays.moment bay) image appends.kept.time.later (did.keeps.journal.now image may);
          kept = keeps_on bays lawful old.bay bay new.bay _ _ appends.kept did.keeps.kept;
        }
