-- What a cone answers to a packet: it refuses it before the first step, or breaks off in the middle, or takes it.
use Rattle.lert_spec.specs.Counts.{weighed, weight_of}
use Rattle.std.proofs.{Common.{◌≡◌, ℕ, ◌+◌, true, false, List, [], ◌∷◌, ◌++◌, length, Some, Result, Err, IsErrOf, OnOk, refl, sym, ◌∙◌, subst, inl}, lemmas.Bool.false≢true}
use Rattle.std.specs.{Prelude.{◌↔◌, IfOk, IfErr}, Result.IsErrAnd}
use Rattle.lert_base.specs.{Packet.{Packet, events_of}, declared.cone_fault.ConeFault.ConeFault, declared.cone_fault.ConeFault.TheVariants.{Closed, Broken, CapacityFull, WeightFull, OldJournal}}
use Rattle.lert_bay.specs.{Files.{Files, IfTold}, Kept.Bays}
use Rattle.lert_gatelog.specs.Gated.{next_gate}
use Rattle.lert_journal.specs.Payload.{payload_of}
use Rattle.lert_spec.specs.Timely.{IsTimelySoFarIn}
use Rattle.lert_cone.specs.{declared.acked.Acked.Acked, declared.state.ConeState.TheVariants.Finished, Refuses.FailsTest, Sound.IsSoundOver}
use Rattle.lert_cone.specs.{Stands.{Standing, StandsFor, WasSound, Answers, is_broken, is_refusal}, Steps.StepsCone}
use Rattle.lert_bay.proofs.KeptLaws.{IsLawful}
use Rattle.lert_cone.proofs.{RefusesLaws.{IsFull, IsHeavy, IsUnsayable, failed_broken, failed_closed, failed_full, failed_heavy, failed_old, refusal_of}, Stepping.refuses, TakeLaws.handed_on}

-- the clauses of `admit`
abbrev pub Admits : {B : Type 0} → Bays B → Packet → Standing B → Standing B → Result Acked ConeFault → Type 0
Admits bays packet old new result = record {
  stands_for : OnOk result ((h : List Packet) → StandsFor bays.files bays.leaves bays.faults old h → StandsFor bays.files bays.leaves bays.faults new (h ++ packet ∷ []));
  answers : IfOk result (λ acked. (h : List Packet) → StandsFor bays.files bays.leaves bays.faults old h → Answers bays.files old h packet acked);
  acked : IfOk result (λ acked. acked ≡ record { from = old.events + 1; to = old.events + length packet.items; reports = length new.reports });
  taken : OnOk result (new ≡ record old {
    bay = new.bay;
    listing = record old.listing { events = old.listing.events ++ packet.items };
    rows = new.rows;
    reports = new.reports;
    events = old.events + length packet.items;
    weight = old.weight + weight_of weighed packet.items;
    gate = next_gate old.gate (payload_of old.listing.version packet);
    log = new.log;
  });
  in_time_so_far : OnOk result ((h : List Packet) → StandsFor bays.files bays.leaves bays.faults old h → WasSound bays.files old → IfTold (bays.files old.bay)
      (λ _. IsTimelySoFarIn weighed old.listing.settings.threshold old.listing.settings.bins (events_of (h ++ packet ∷ [])) new.reports));
  step : StepsCone bays old new result;
  broke : IfErr result (λ fault. is_refusal fault ≡ false → new ≡ record old {
    bay = new.bay;
    listing = record old.listing { events = new.listing.events };
    rows = new.rows;
    reports = new.reports;
    state = new.state;
    over = Some packet;
    gate = new.gate;
    log = new.log;
  });
  full : (n len : ℕ) → (result ≡ Err (CapacityFull n len)) ↔ IsFull old packet.items n len;
  weight_full : (weight more : ℕ) → (result ≡ Err (WeightFull weight more)) ↔ IsHeavy old packet.items weight more;
  old_journal : (place : ℕ) → (result ≡ Err (OldJournal place)) ↔ IsUnsayable old packet.items place;
  each_moment : is_broken old.state ≡ false → WasSound bays.files old → IfTold (bays.files old.bay) (λ _. (h : List Packet) → StandsFor bays.files bays.leaves bays.faults old h →
      (image : Files) → bays.left_since new.bay (bays.moment old.bay) image → IsSoundOver old.listing.settings old.listing.cone h (Some packet) image);
}

-- before the first step
pub not_admitted : {B : Type 0} {bays : Bays B} (lawful : IsLawful bays) (packet : Packet) {given : Result Acked ConeFault} (old : Standing B) (fault : ConeFault) →
    FailsTest old packet.items fault → IsErrAnd given (λ g. g ≡ fault) → Admits bays packet old old given
not_admitted {bays = bays} lawful packet {given = given} old fault fails given_is =
    let refused = refusal_of old packet.items fault fails in
    let closed : ◌↔◌ (IsErrOf {T = Acked} {E = ConeFault} (Err fault) Closed) (old.state ≡ Finished) = failed_closed old packet.items fault fails in
    let broken : ◌↔◌ (IsErrOf {T = Acked} {E = ConeFault} (Err fault) Broken) (is_broken old.state ≡ true) = failed_broken old packet.items fault fails in
    subst (λ (r : Result Acked ConeFault). Admits bays packet old old r) (handed_on given fault given_is) (record {
      stands_for = tt;
      answers = tt;
      acked = tt;
      taken = tt;
      in_time_so_far = tt;
      step = refuses lawful refl closed broken refused;
      broke = λ never. absurd (false≢true (sym never ∙ refused));
      full = failed_full old packet.items fault fails;
      weight_full = failed_heavy old packet.items fault fails;
      old_journal = failed_old old packet.items fault fails;
      each_moment = λ still sound seen told h stands image may.
          inl ((stands.whole still sound seen told).files.kept.images image (lawful.only_now old.bay image may)).sound;
    })
