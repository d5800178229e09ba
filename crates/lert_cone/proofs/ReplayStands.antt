-- A cone whose journal is read again: what is so of it, what the record at a gate makes of it, and which
-- lists it stands for at the end.
use Rattle.std.proofs.{Common.{◌≡◌, ℕ, ◌+◌, ◌*◌, ◌^◌, ◌<◌, ◌≤◌, Bool, true, false, cond, List, length, Option, Some, None, All, refl, sym, ap, ◌∙◌, subst, arith}, lemmas.Bool.false≢true}
use Rattle.lert_spec.proofs.ItemLaws.{length-keys_in}
use Rattle.lert_spec.specs.Counts.{weighed, weight_of}
use Rattle.lert_base.specs.Packet.{Packet, events_of}
use Rattle.lert_bay.specs.{Files.{Files, IfTold, Turns}, Images.KeepsImages}
use Rattle.lert_gatelog.specs.{declared.fault.LogFault.LogFault, declared.fault.LogFault.TheVariants.{Failed as LogFailed, Malformed as LogMalformed}, Gated.{IsClosed, Log, next_gate}}
use Rattle.lert_gatelog.specs.Kept.{IsWhollySettled}
use Rattle.lert_gatelog.proofs.GatedLaws.{closed_behind}
use Rattle.lert_journal.specs.{Journal.HoldsPacket, Payload.payload_of}
use Rattle.lert_journal.proofs.PayloadLaws.{length_payload}
use Rattle.lert_levels.specs.declared.rows.bin_at.BinAt.{BinAt}
use Rattle.lert_spec.specs.{declared.numbers.Numbers.Numbers, declared.report.Report.Report, Edges.capacity, Limits.IsValid}
use Rattle.lert_reports.specs.declared.log_point.LogPoint.{LogPoint}
use Rattle.lert_cone.specs.{declared.refusal.ReplayFault.ReplayFault, declared.refusal.ReplayFault.TheVariants.{Failed, Malformed, Unsound}, declared.state.ConeState.ConeState}
use Rattle.lert_cone.specs.{declared.state.ConeState.TheVariants.{Running, Finished}, declared.tally.TakeFault.TakeFault}
use Rattle.lert_cone.specs.{declared.tally.TakeFault.TheVariants.{Failed as TakeFailed, Unsound as TakeUnsound}, Listing.Listing, Record.LogPlace}
use Rattle.lert_cone.specs.{Replay.{IsOnWay, IsPast, IsNext, ReplayLeavesAt}, Replaying.{Replaying, IsReplaying, readied}}
use Rattle.lert_cone.specs.{Replays.{Replays, IsThere, WhyRefused, LeavesBehind, of_take_fault, of_log_fault}, Room.room_of, Stands.{StandsFor, IsCone, WereSoundAs, is_broken, is_finished}}
use Rattle.lert_cone.specs.{Tally.{Tallied, IsRecounted}, Wrote.{Anything, IsShutIfTold, LeavesFile}}
use Rattle.lert_cone.proofs.{FaultLaws.turns_on, GateLaws.is_next, ReplayLaws.{journal_on_way, whole_on_way}, SoundLaws.turns_back}
use Rattle.lert_cone.proofs.{WeighLaws.{edge_to, weighs_from}, WroteLaws.{settled_through, torn_behind}}
use Rattle.lert_journal.specs.Payload.{most_payload}
use Rattle.lert_cone.proofs.ItemLaws.{items_most}
use Rattle.lert_spec.specs.Items.{AreOfVersion}
use Rattle.lert_levels.specs.rows.Checked.{IsWeightOf}
use Rattle.lert_cone.specs.Room.{IsPointOf}

-- ---- calls that read alone

-- a file stays wholly settled
pub read_settled : {file : ℕ} {before after : Option Files} {leaves leaves_after : Files → Type 0} → after ≡ before → KeepsImages leaves leaves_after → IfTold before
    (λ seen. IsWhollySettled leaves seen file) → IfTold after (λ seen. IsWhollySettled leaves_after seen file)
read_settled same images settled seen told =
    let was = settled seen (sym same ∙ told) in
    record { within = was.within; same = λ image may. was.same image ((images image).0 may) }

-- and a gate in it closed
pub read_shut : {file gate : ℕ} {before after : Option Files} {leaves leaves_after : Files → Type 0} → after ≡ before → KeepsImages leaves leaves_after →
    IsShutIfTold before leaves file gate →
    IsShutIfTold after leaves_after file gate
read_shut same images shut seen told =
    let was = shut seen (sym same ∙ told) in
    record {
      settled = record { within = was.settled.within; same = λ image may. was.settled.same image ((images image).0 may) };
      closed = λ image may. was.closed image ((images image).0 may);
    }

-- a gate that is closed as the file reads is closed in every image, where the file is settled
pub shut_there : {file gate : ℕ} {told : Option Files} {leaves : Files → Type 0} → IfTold told (λ seen. IsWhollySettled leaves seen file) →
    IfTold told (λ seen. IsClosed (seen file) gate) →
    IsShutIfTold told leaves file gate
shut_there {file = file} {gate = gate} settled closed seen is = record {
  settled = settled seen is;
  closed = λ image may. closed_behind gate (length (image file)) (seen file) (image file) (closed seen is) (torn_behind (seen file) (image file) (gate + 1) ((settled seen is).same image may));
}

-- ---- the next packet

-- a packet that stands at the gate behind those that were read is the next one
pub next_there : (leaves : Files → Type 0) (seen : Files) (history done : List Packet) (listing : Listing) (rows : List (List BinAt)) (reports : List Report) (log : LogPlace) (n0 gate : ℕ)
    (packet : Packet) →
    IsOnWay leaves seen history listing rows reports log n0 → leaves seen → IsPast listing.version history done listing.events gate →
    HoldsPacket listing.version listing.settings listing.cone (most_payload listing.version listing.settings)
    (seen 0) gate packet → IsNext history done packet
next_there leaves seen history done listing rows reports log n0 gate packet on_way read past holds =
    is_next listing.settings listing.cone (seen 0) history done listing.events gate (journal_on_way leaves seen history listing rows reports log n0 on_way read) past packet holds

-- ---- why a record isn't taken

module _ {B : Type 0} (cone : Replaying B) (bytes : List ℕ) (gate : ℕ) where
  pub refused_keys : (fault : TakeFault) → IsThere cone bytes gate → WhyRefused cone bytes gate (of_take_fault fault)
  refused_keys TakeFailed there = tt
  refused_keys (TakeUnsound file at) there = there

  pub refused_record : (fault : LogFault) → ((at : ℕ) → fault ≡ LogMalformed at → LeavesBehind cone bytes gate at) → WhyRefused cone bytes gate (of_log_fault fault)
  refused_record LogFailed leaves = tt
  refused_record (LogMalformed at) leaves = leaves at refl

pub only_by_bay : (fault : TakeFault) → ((file at : ℕ) → fault ≡ TakeUnsound file at → ⊥) → of_take_fault fault ≡ Failed
only_by_bay TakeFailed never = refl
only_by_bay (TakeUnsound file at) never = absurd (never file at refl)

pub unsound_keys : (fault : TakeFault) (file at : ℕ) → of_take_fault fault ≡ Unsound file at → fault ≡ TakeUnsound file at
unsound_keys TakeFailed file at same = absurd (let never : ⊥ = cc in never)
unsound_keys (TakeUnsound other place) file at same = (let is : TakeUnsound other place ≡ TakeUnsound file at = cc in is)

pub keys_never_malformed : (fault : TakeFault) (at : ℕ) → of_take_fault fault ≡ Malformed at → ⊥
keys_never_malformed TakeFailed at same = (let never : ⊥ = cc in never)
keys_never_malformed (TakeUnsound file place) at same = (let never : ⊥ = cc in never)

pub failed_keys : (fault : TakeFault) → of_take_fault fault ≡ Failed → fault ≡ TakeFailed
failed_keys TakeFailed same = refl
failed_keys (TakeUnsound file at) same = absurd (let never : ⊥ = cc in never)

pub failed_record : (fault : LogFault) → of_log_fault fault ≡ Failed → fault ≡ LogFailed
failed_record LogFailed same = refl
failed_record (LogMalformed at) same = absurd (let never : ⊥ = cc in never)

pub never_unsound : (fault : LogFault) (file at : ℕ) → of_log_fault fault ≡ Unsound file at → ⊥
never_unsound LogFailed file at same = (let never : ⊥ = cc in never)
never_unsound (LogMalformed place) file at same = (let never : ⊥ = cc in never)

pub only_failed : (fault : LogFault) → ((at : ℕ) → fault ≡ LogMalformed at → ⊥) → of_log_fault fault ≡ Failed
only_failed LogFailed never = refl
only_failed (LogMalformed at) never = absurd (never at refl)

-- ---- a cone at its journal's end

-- what it is seen as
abbrev pub seen_as : {B : Type 0} → B → B → Tallied → ℕ → ℕ → Option ReplayFault → ℕ → LogPlace → LogPoint → Replaying B
seen_as bay made tally events weight stopped gate log last = record {
  bay = bay;
  made = made;
  listing = tally.listing;
  rows = tally.rows;
  reports = tally.due.reports;
  events = events;
  weight = weight;
  stopped = stopped;
  gate = gate;
  log = log;
  last = last;
}

-- the state behind the last packet
ends_whole : (closed : Bool) → is_broken (cond closed Finished Running) ≡ false
ends_whole true = refl
ends_whole false = refl

ends_finished : (closed : Bool) → is_finished (cond closed Finished Running) ≡ closed
ends_finished true = refl
ends_finished false = refl

-- one that refused a record isn't one that takes records
stopped_there : {Fault X : Type 0} (stopped : Option Fault) (fault : Fault) → stopped ≡ Some fault → stopped ≡ None → X
stopped_there stopped fault is none = absurd (some_or_none fault (sym is ∙ none))
  where
    some_or_none : {Fault : Type 0} (fault : Fault) → Some fault ≡ None → ⊥
    some_or_none fault same = cc

module _ {B : Type 0} {files : B → Option Files} {leaves : B → Files → Type 0} {faults mark : B → ℕ} where
  -- one that refused a record
  pub stopped_cone : {old new : Replaying B} {tally after : Tallied} {journal journal_after : Log} {room room_after keys_room keys_room_after : ℕ} {fault : ReplayFault}
      → new.stopped ≡ Some fault → new.listing.settings ≡ old.listing.settings → new.listing.version ≡ old.listing.version → new.last ≡ old.last → new.events ≡ old.events → new.made ≡ old.made
      → journal_after.file ≡ journal.file → journal_after.most ≡ journal.most → room_after ≡ room → keys_room_after ≡ keys_room → faults old.bay ≤ faults new.bay
      → Turns Anything (files old.bay) (files new.bay) → mark new.bay ≡ mark old.bay
      → IsReplaying files leaves faults mark old tally journal room keys_room → IsReplaying files leaves faults mark new after journal_after room_after keys_room_after
  stopped_cone {old = old} {new = new} {fault = fault} stopped same version_is last_is events_are made_is file_is most_is room_is keys_room_is falls turns marked cone = record {
    file = file_is ∙ cone.file;
    most = most_is ∙ cone.most ∙ (λ i. most_payload (sym version_is i) (sym same i));
    version = version_is ∙ cone.version ∙ ap (λ (p : LogPoint). p.version) (sym last_is);
    point = subst (λ (p : LogPoint). IsPointOf new.listing.settings p) (sym last_is) (subst (λ (s : Numbers). IsPointOf s old.last) (sym same) cone.point);
    roomy = room_is ∙ cone.roomy ∙ ap room_of (sym same);
    keys_roomy = keys_room_is ∙ cone.keys_roomy ∙ ap (λ (s : Numbers). 4 * s.packet) (sym same);
    within = subst (λ (s : Numbers). new.events ≤ capacity s) (sym same) (omega (arith, events_are, cone.within));
    valid = subst IsValid (sym same) cone.valid;
    never_falls = omega (arith, ap faults made_is, cone.never_falls, falls);
    marked = marked ∙ cone.marked ∙ ap mark (sym made_is);
    tells = turns_on (subst (λ (m : B). Turns Anything (files m) (files old.bay)) (sym made_is) cone.tells) turns;
    taking = stopped_there new.stopped fault stopped;
  }

  -- a cone that took its last packet
  pub ready_cone : {cone : Replaying B} {tally : Tallied} {journal journal_after : Log} {room keys_room end : ℕ} {state : ConeState}
      → cone.stopped ≡ None → state ≡ cond cone.last.closed Finished Running → cone.last.n0 ≤ length cone.listing.events → cone.gate ≡ end → journal_after ≡ record {
        file = 0;
        gate = end;
        most = most_payload cone.listing.version cone.listing.settings;
      }
      → IsShutIfTold (files cone.bay) (leaves cone.bay) 0 end → tally.listing ≡ cone.listing → IsReplaying files leaves faults mark cone tally journal room keys_room
      → IsCone files leaves faults mark (record (readied cone) { state = state; gate = journal_after.gate }) tally journal_after room keys_room
  ready_cone {cone = cone} {tally = tally} {state = state} none state_is enough gate_is journal_is shut listing_is replaying =
      let was = replaying.taking none in
      let whole : is_broken state ≡ false = ap is_broken state_is ∙ ends_whole cone.last.closed in
      record {
        file = ap (λ (j : Log). j.file) journal_is;
        most = ap (λ (j : Log). j.most) journal_is;
        roomy = replaying.roomy;
        keys_roomy = replaying.keys_roomy;
        within = replaying.within;
        weighs = let light = subst (λ v. AreOfVersion v cone.listing.events) replaying.version (subst (λ (l : Listing). AreOfVersion l.version l.events) listing_is was.recounted.light) in
            subst (λ n. IsWeightOf cone.last.version n cone.weight) was.counted
            (subst (λ w. IsWeightOf cone.last.version (length cone.listing.events) w) (sym was.weight_is)
            (weighs_from cone.listing.settings cone.last cone.listing.events (omega (arith, enough, edge_to cone.listing.settings cone.last.n0)) light replaying.point.weighs));
        passed = omega (arith, enough, was.counted);
        version = replaying.version;
        valid = replaying.valid;
        never_falls = replaying.never_falls;
        marked = replaying.marked;
        tells = replaying.tells;
        by_bay = λ never. absurd (false≢true (sym whole ∙ ap is_broken never));
        none_over = λ _. refl;
        counted = λ _. was.counted;
        weight_is = λ _. was.weight_is;
        tallied = λ _. was.recounted.behind (subst (λ (l : Listing). cone.last.n0 ≤ length l.events) (sym listing_is) enough);
        closed = λ _. was.closed ∙ sym (ap is_finished state_is ∙ ends_finished cone.last.closed);
        near = λ _. omega (arith, was.near, gate_is, ap (λ (j : Log). j.gate) journal_is);
        shut = λ _. subst (λ gate. IsShutIfTold (files cone.bay) (leaves cone.bay) 0 gate) (sym (ap (λ (j : Log). j.gate) journal_is)) shut;
        logging = λ _. was.logging;
        log_shut = λ _. was.log_shut;
      }

module _ {B : Type 0} {files : B → Option Files} {leaves : B → Files → Type 0} {faults : B → ℕ} where
  pub ready_stands : (bay made : B) (tally : Tallied) (events weight gate gate_after : ℕ) (log : LogPlace) (last : LogPoint) (stopped : Option ReplayFault) (state : ConeState)
      (history : List Packet)
      → state ≡ cond last.closed Finished Running → gate_after ≡ gate → IsRecounted tally last.n0 → last.n0 ≤ length tally.listing.events → IsValid tally.listing.settings →
      events ≤ capacity tally.listing.settings
      → All (λ packet. 0 < length packet.items) history → length (events_of history) ≡ events → weight_of weighed (events_of history) ≡ weight → IfTold (files bay) (leaves bay)
      → (WereSoundAs files tally.listing.settings tally.listing.cone made
      → IfTold (files bay) (λ _. Replays files leaves (seen_as bay made tally events weight stopped gate log last) history history))
      → StandsFor files leaves faults (record (readied (seen_as bay made tally events weight stopped gate log last)) { state = state; gate = gate_after }) history
  ready_stands bay made tally events weight gate gate_after log last stopped state history state_is gate_is recounted enough valid within some counted weighs read replays =
      let whole : is_broken state ≡ false = ap is_broken state_is ∙ ends_whole last.closed in
      record {
        some = some;
        counted = counted;
        within = within;
        weighed = λ _. weighs;
        valid = valid;
        whole = λ _ sound seen told.
            let all = replays sound seen told in
            whole_on_way (leaves bay) seen history tally gate_after log last.n0 (recounted.behind enough) (all.on_way seen told)
            (subst (λ g. IsPast tally.listing.version history history tally.listing.events g) (sym gate_is) all.past) enough (read seen told);
        broken = λ never. absurd (false≢true (sym whole ∙ never));
        none_over = λ _. refl;
        by_bay = λ never. absurd (false≢true (sym whole ∙ ap is_broken never));
        by_read = λ file at never. absurd (false≢true (sym whole ∙ ap is_broken never));
      }

-- ---- through the calls of a record's keys

-- a file stays wholly settled through calls that leave it alone
pub settled_then : {file : ℕ} {before after : Option Files} {leaves_before leaves_after : Files → Type 0} {first last : ℕ} {since_before since_after : ℕ → Files → Type 0} →
    LeavesFile file before after leaves_before leaves_after first last since_before since_after → IfTold before (λ seen. IsWhollySettled leaves_before seen file) → IfTold after
    (λ seen. IsWhollySettled leaves_after seen file)
settled_then left settled seen told =
    let back = turns_back left.seen seen told in
    settled_through left back.0 back.1 (settled back.0 back.1) seen told

-- the gate behind a packet lies as far on as its items need
pub near_then : (version gate gate_after events events_after : ℕ) (packet : Packet) → gate ≤ 2 ^ 62 → gate_after ≡ next_gate gate (payload_of version packet) → 0 < length packet.items →
    events_after ≡ events + length packet.items → gate_after ≤ 2 ^ 62 + 22 * events_after
near_then version gate gate_after events events_after packet reach is some events_is = omega (
  arith,
  reach,
  is,
  length_payload version packet,
  items_most version (length packet.items),
  length-keys_in packet.items,
  some,
  events_is,
)

-- a place at which the format is left, said of the listing's state
pub leaves_listing : {version : ℕ} (s : Numbers) (cone n0 n w gate at : ℕ) (closed other : Bool) (bytes : List ℕ) → closed ≡ other → ReplayLeavesAt version s cone n0 other n w bytes gate at →
    ReplayLeavesAt version s cone n0 closed n w bytes gate at
leaves_listing {version} s cone n0 n w gate at closed other bytes same leaves = subst (λ (b : Bool). ReplayLeavesAt version s cone n0 b n w bytes gate at) (sym same) leaves
