-- What a cone answers to a packet that it takes.
use Rattle.lert_spec.specs.Counts.{weighed, weight_of}
use Rattle.lert_spec.specs.declared.item.Item.{Item}
use Rattle.std.proofs.Common.{◌≡◌, ℕ, ◌+◌, ◌<◌, false, List, [], ◌∷◌, ◌++◌, length, Option, Ok, refl, sym, ap, ◌∙◌, subst, arith}
use Rattle.lert_base.specs.Packet.{Packet, events_of}
use Rattle.lert_bay.specs.{Files.IfTold, Kept.Bays}
use Rattle.lert_gatelog.specs.Gated.{Log, next_gate}
use Rattle.lert_journal.specs.Payload.{payload_of}
use Rattle.lert_spec.specs.{declared.numbers.Numbers.Numbers, Look.look_of, Timely.IsTimelySoFarIn}
use Rattle.lert_reports.specs.declared.log_point.LogPoint.{LogPoint}
use Rattle.lert_cone.specs.{declared.state.ConeState.ConeState, InStep.IsLogging, Listing.Listing, Record.LogPlace, Sound.IsSound}
use Rattle.lert_cone.specs.{Stands.{Standing, StandsFor, WasSound, IsCone, IsSameCone, is_broken}, Refuses.PassesTest, Takes.{TakesPacket, work_at}, Tally.Tallied}
use Rattle.lert_bay.proofs.KeptLaws.{IsLawful}
use Rattle.lert_cone.proofs.{SoundLaws.{turns_back, counted_more, end_more}, AppendLaws.{whole_of, some_more, keys_more}, StandLaws.{more_cone, stands_whole, reports_running, cone_at}}
use Rattle.lert_cone.proofs.{TimeLaws.timely_so_far, Admits.Admits, RefusesLaws.{passed_full, passed_heavy, passed_old}, Stepping.passes, WeighLaws.{can_hold, weighed_more}}
use Rattle.lert_cone.specs.History.{end_of}
use Rattle.lert_spec.specs.Items.{AreOfVersion}

module _ {B : Type 0} {bays : Bays B} (lawful : IsLawful bays) (packet : Packet) where
  module _ {bay bay_after : B} {tally after : Tallied} {room room_after more : ℕ} {state : ConeState} {journal journal_after : Log} {log log_after : LogPlace} (made : B) (events weight : ℕ)
      (over : Option Packet) (last : LogPoint) (passed : PassesTest (cone_at bay made tally events weight state over journal.gate log last) packet.items more) where
    -- with all its items
    module _ {events_after weight_after reports : ℕ} (events_are : events_after ≡ events + length packet.items) (weight_is : weight_after ≡ weight + weight_of weighed packet.items)
        (some : 0 < length packet.items) (still : tally.listing.closed ≡ false) (reports_are : reports ≡ length after.due.reports) (did : TakesPacket bays packet (work_at bay tally log room)
        (work_at bay_after after log_after room_after) journal journal_after (Ok tt)) where
      is : after.listing ≡ record tally.listing { events = tally.listing.events ++ packet.items }
      is = did.listing ∙ ap (λ (keys : List Item). record tally.listing { events = keys }) did.taken

      same : IsSameCone (cone_at bay made tally events weight state over journal.gate log last)
          (cone_at bay_after made after events_after weight_after state over journal_after.gate log_after last)
      same = record { settings = ap (λ (l : Listing). l.settings) is; cone = ap (λ (l : Listing). l.cone) is; made = refl; last = refl }

      stands_then : (h : List Packet) → StandsFor bays.files bays.leaves bays.faults (cone_at bay made tally events weight state over journal.gate log last) h →
          StandsFor bays.files bays.leaves bays.faults (cone_at bay_after made after events_after weight_after state over journal_after.gate log_after last) (h ++ packet ∷ [])
      stands_then h stands =
          stands_whole same
          (ap is_broken passed.running) (stands.none_over (ap is_broken passed.running)) (some_more h packet stands.some some) (omega (arith, counted_more h packet, stands.counted, events_are)) (omega
          (arith, events_are, passed.within)) (weighed_more h packet ∙ ap (λ w. w + weight_of weighed packet.items) (stands.weighed (ap is_broken passed.running)) ∙ sym weight_is)
          (λ sound seen told.
          let was = turns_back did.seen seen told in
          let whole = stands.whole (ap is_broken passed.running) sound was.0 was.1 in
          whole_of (bays.leaves bay_after) seen (h ++ packet ∷ []) after journal_after.gate log_after did.counted (did.in_step was.0 was.1 h (record {
            whole = whole;
            light = can_hold packet passed
                h stands;
          }) seen told) (lawful.as_read bay_after seen told)
          (ap (λ (l : Listing). l.events) is ∙ keys_more h packet tally.listing.events whole.keys)
          (ap (λ (j : Log). j.gate) did.moved ∙ (ap (λ g. next_gate g (payload_of tally.listing.version packet)) whole.gate_is ∙ end_more tally.listing.version h packet)
          ∙ ap (λ (l : Listing). end_of l.version (h ++ packet ∷ [])) (sym is)))
          stands

      new_is : ◌≡◌ {A = Standing B} (cone_at bay_after made after events_after weight_after state over journal_after.gate log_after last)
          (record (cone_at bay_after made after (events + length packet.items) (weight + weight_of weighed packet.items) state over
          (next_gate journal.gate (payload_of tally.listing.version packet)) log_after last) {
            listing = record tally.listing { events = tally.listing.events ++ packet.items };
          })
      new_is i = record (cone_at bay_after made after (events_are i) (weight_is i) state over ((ap (λ (j : Log). j.gate) did.moved) i) log_after last) { listing = is i }

      timely_then : (h : List Packet) → StandsFor bays.files bays.leaves bays.faults (cone_at bay made tally events weight state over journal.gate log last) h →
          WasSound bays.files (cone_at bay made tally events weight state over journal.gate log last) →
          IfTold (bays.files bay) (λ _. IsTimelySoFarIn weighed tally.listing.settings.threshold tally.listing.settings.bins (events_of (h ++ packet ∷ [])) after.due.reports)
      timely_then h stands sound seen told =
          let then = did.seen.told seen told in
          let sound_then : WasSound bays.files (cone_at bay_after made after events_after weight_after state over journal_after.gate log_after last) =
          subst (λ (l : Listing). IfTold (bays.files made) (λ first. (history : List Packet) × IsSound l.settings l.cone history first)) (sym is) sound in
          subst (λ (settings : Numbers). IsTimelySoFarIn weighed settings.threshold settings.bins (events_of (h ++ packet ∷ [])) after.due.reports) (ap (λ (l : Listing). l.settings) is)
          (timely_so_far (ap is_broken passed.running) (ap (λ (l : Listing). l.closed) is ∙ still) (stands_then h stands) sound_then then.0 then.1)

      pub admitted : {seen : Standing B} → cone_at bay made tally events weight state over journal.gate log last ≡ seen →
          Admits bays packet seen (cone_at bay_after made after events_after weight_after state over journal_after.gate log_after last)
          (Ok (record { from = events + 1; to = events_after; reports = reports }))
      admitted view_is = subst (λ (v : Standing B). Admits bays packet v (cone_at bay_after made after events_after weight_after state over journal_after.gate log_after last)
          (Ok (record { from = events + 1; to = events_after; reports = reports }))) view_is (record {
            stands_for = stands_then;
            answers = λ h stands. record {
              from_is = ap (λ n. n + 1) (sym stands.counted);
              to_is = omega (arith, stands.counted, events_are);
              reports_are = λ sound seen told.
                  let then = did.seen.told seen told in
                  let whole = stands.whole (ap is_broken passed.running) sound seen told in
                  let up = did.in_step seen told h (record { whole = whole; light = can_hold packet passed h stands }) then.0 then.1 in
                  reports_are
                  ∙ ap length (up.reports_are ∙ reports_running after.listing (events_of (h ++ packet ∷ [])) (ap (λ (l : Listing). l.closed) is ∙ still) (ap (λ (l : Listing). l.events) is
                  ∙ keys_more h packet tally.listing.events whole.keys))
                  ∙ ap (λ (l : Listing). length (look_of weighed l.settings (events_of (h ++ packet ∷ [])))) is;
            };
            acked = λ i. record { from = events + 1; to = events_are i; reports = reports_are i };
            taken = new_is;
            in_time_so_far = timely_then;
            step = passes lawful same passed.running did.seen did.kept;
            broke = tt;
            full = passed_full (cone_at bay made tally events weight state over journal.gate log last) packet.items _ passed;
            weight_full = passed_heavy (cone_at bay made tally events weight state over journal.gate log last) packet.items _ passed;
            old_journal = passed_old (cone_at bay made tally events weight state over journal.gate log last) packet.items _ passed;
            each_moment = λ unbroken sound seen told h stands image may. did.each_moment seen told h (record {
              whole = stands.whole unbroken sound seen told;
              light = can_hold packet passed h stands;
            }) image may;
          })

    -- and it is a cone again, whose buffer has the room that was lent
    pub still_cone : {events_after weight_after cone_room cone_room_after keys_room : ℕ} →
        TakesPacket bays packet (work_at bay tally log room)
        (work_at bay_after after log_after room_after) journal journal_after (Ok tt) → events_after ≡ events + length packet.items →
        weight_after ≡ weight + weight_of weighed packet.items → AreOfVersion last.version packet.items → 0 < length packet.items → cone_room_after ≡ cone_room → room_after ≡ cone_room_after →
        IsCone bays.files bays.leaves bays.faults bays.mark (cone_at bay made tally events weight state over journal.gate log last) tally journal cone_room keys_room →
        IsCone bays.files bays.leaves bays.faults bays.mark (cone_at bay_after made after events_after weight_after state over journal_after.gate log_after last) after journal_after
        cone_room_after keys_room
    still_cone did events_are weight_is light some room_is lent_is cone =
        let is = did.listing ∙ ap (λ (keys : List Item). record tally.listing { events = keys }) did.taken in
        more_cone packet passed.running is did.counted events_are did.moved room_is some passed.within weight_is
        light did.kept.never_falls did.seen did.kept.mark did.shut
        (subst (λ (n : ℕ). IsLogging after log_after n) lent_is did.can_log.logging) did.can_log.log_shut cone
