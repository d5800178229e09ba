-- What a cone answers to a packet in the middle of which it breaks off.
use Rattle.std.proofs.Common.{Result, ◌≡◌, ℕ, ◌≤◌, Option, Some, Err, refl, sym, ap, subst}
use Rattle.lert_base.specs.{Packet.Packet, declared.cone_fault.ConeFault.ConeFault}
use Rattle.lert_gatelog.specs.Gated.{Log}
use Rattle.lert_reports.specs.declared.log_point.LogPoint.{LogPoint}
use Rattle.lert_cone.specs.{declared.state.ConeState.ConeState, declared.tally.TakeFault.TakeFault, Listing.Listing, Record.LogPlace}
use Rattle.lert_cone.specs.declared.acked.Acked.{Acked}
use Rattle.lert_cone.specs.{Refuses.PassesTest, Sound.IsSoundOver, Stands.{Standing, IsSameCone, broken_by, cone_fault}, Takes.{TakesPacket, work_at}, Tally.Tallied}
use Rattle.lert_bay.specs.Kept.{Bays}
use Rattle.lert_bay.proofs.KeptLaws.{IsLawful}
use Rattle.lert_cone.proofs.StandLaws.{cone_at}
use Rattle.lert_cone.proofs.{FaultLaws.no_refusal, Admits.Admits, RefusesLaws.{broke_full, broke_heavy, broke_old}, Stepping.breaks}
use Rattle.lert_cone.proofs.WeighLaws.{can_hold}

module _ {B : Type 0} {bays : Bays B} (lawful : IsLawful bays) (packet : Packet) where
  module _ {bay bay_after : B} {tally after : Tallied} {room room_after more : ℕ} {state : ConeState} {journal journal_after : Log} {log log_after : LogPlace} (made : B) (events weight : ℕ)
      (over : Option Packet) (last : LogPoint) (passed : PassesTest (cone_at bay made tally events weight state over journal.gate log last) packet.items more) where
    -- in the middle
    pub broken_off : {state_after : ConeState} {over_after : Option Packet} {fault : TakeFault} {seen : Standing B} {given : Result Acked ConeFault} → state_after ≡ broken_by fault →
        over_after ≡ Some packet → bays.faults made ≤ bays.faults bay → cone_at bay made tally events weight state over journal.gate log last ≡ seen → given ≡ Err (cone_fault fault) →
        TakesPacket bays packet (work_at bay tally log room) (work_at bay_after after log_after room_after) journal journal_after (Err fault) →
        Admits bays packet seen (cone_at bay_after made after events weight state_after over_after journal_after.gate log_after last) given
    broken_off {state_after = state_after} {over_after = over_after} {fault = fault} {given = given} state_is over_is risen view_is given_is did =
        let same : IsSameCone (cone_at bay made tally events weight state over journal.gate log last)
        (cone_at bay_after made after events weight state_after over_after journal_after.gate log_after last) =
        record { settings = ap (λ (l : Listing). l.settings) did.listing; cone = ap (λ (l : Listing). l.cone) did.listing; made = refl; last = refl } in
        subst (λ (v : Standing B). Admits bays packet v (cone_at bay_after made after events weight state_after over_after journal_after.gate log_after last) given) view_is
        (subst (λ (r : Result Acked ConeFault). Admits bays packet (cone_at bay made tally events weight state over journal.gate log last)
        (cone_at bay_after made after events weight state_after over_after journal_after.gate log_after last) r) (sym given_is) (record {
          stands_for = tt;
          answers = tt;
          acked = tt;
          taken = tt;
          in_time_so_far = tt;
          step = breaks lawful same passed.running did.seen state_is refl refl risen did.kept did.now (λ seen told h stands whole. did.sound seen told h (record {
            whole = whole;
            light = can_hold
                packet passed h stands;
          }))
              (λ seen told h stands whole image may. subst (λ (o : Option Packet). IsSoundOver tally.listing.settings tally.listing.cone h o image) (sym over_is)
              (did.each_moment seen told h (record { whole = whole; light = can_hold packet passed h stands }) image may)) did.shows;
          broke = λ _ i. record (cone_at bay_after made after events weight state_after (over_is i) journal_after.gate log_after last) { listing = did.listing i };
          full = broke_full (cone_at bay made tally events weight state over journal.gate log last) packet.items _ passed (cone_fault fault) (no_refusal fault);
          weight_full = broke_heavy (cone_at bay made tally events weight state over journal.gate log last) packet.items _ passed (cone_fault fault) (no_refusal fault);
          old_journal = broke_old (cone_at bay made tally events weight state over journal.gate log last) packet.items _ passed (cone_fault fault) (no_refusal fault);
          each_moment = λ still sound seen told h stands image may. did.each_moment seen told h (record { whole = stands.whole still sound seen told; light = can_hold packet passed h stands })
              image may;
        }))
