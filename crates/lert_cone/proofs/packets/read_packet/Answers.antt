use Rattle.lert_spec.specs.Items.{keys_in}
use Rattle.lert_spec.specs.declared.item.Item.{Item}
use Rattle.lert_base.specs.Packet.{keys_of}
use Rattle.lert_bay.specs.Kept.{Bays, seen_by}
use Rattle.std.proofs.{Common.{◌≡◌, ◌∙◌, ℕ, ◌+◌, ◌*◌, ◌<◌, ◌≤◌, ◌^◌, All, Bool, List, true, false, ap, arith, inl, inr, length, Err, IsErrOf, subst, sym}, lemmas.Bool.{false≢true, true≢false}}
use Rattle.std.proofs.lemmas.Result.{err_from_is_err_and}
use Rattle.lert_base.specs.{Entries.packet_of, Packet.Packet}
use Rattle.lert_bay.specs.Files.{Files}
use Rattle.lert_cone.proofs.{ReadCosts.{ended_cost, found_cost, journal_up_to, same_cost}, Refusals.{no_fault, one_fault}}
use Rattle.lert_bay.proofs.KeptLaws.{IsLawful, reading_as}
use Rattle.lert_gatelog.specs.{declared.fault.LogFault.LogFault, declared.fault.LogFault.TheVariants.{Failed, Malformed}, Gated.{IsClosed, IsOpen, Log}}
use Rattle.lert_journal.specs.{Journal.{HoldsPacket, LeavesAt}, Payload.{IsJournaled, payload_of}}
use Rattle.lert_spec.specs.{declared.numbers.Numbers.Numbers, Edges.{key_limit, capacity}}
use Rattle.lert_cone.specs.{Replay.{In_record, MayFollow, Past_the_end, Too_few, Too_many, Too_heavy, IsFollowing, weight_behind}}
use Rattle.lert_cone.proofs.packets.read_packet.Given as given
use Rattle.lert_cone.proofs.packets.read_packet.Goals as goal
use Rattle.lert_journal.specs.Payload.{most_payload}
use Rattle.lert_journal.specs.Payload.{item_len}
use Rattle.lert_gatelog.specs.Gated.{next_gate}
use Rattle.lert_spec.specs.Edges.{edge, weight_room}
use Rattle.lert_spec.specs.Limits.{IsValid}

abbrev bays : (g : given.Over) → Bays g.row.B.Denot
bays g = seen_by g.B.Faulty g.B.Bay

lawful : (g : given.Over) → IsLawful (bays g)
lawful g = record {
  as_read = g.met.B.Bay.as_read;
  since_now = g.met.B.Bay.since_now;
  only_now = g.met.B.Bay.only_now;
  since_earlier = g.met.B.Bay.since_earlier;
}

-- what was read is a packet that stands in the journal
held_at : {version : ℕ} (s : Numbers) (cone most file gate : ℕ) (seen : Files) (packet : Packet) → file ≡ 0 → most ≡ most_payload version s → IsOpen most (seen file) gate (payload_of version packet) →
    IsJournaled version s cone packet → All (λ key. key < key_limit s) (keys_of packet) →
    HoldsPacket version s cone (most_payload version s) (seen 0) gate packet
held_at {version} s cone most file gate seen packet file_is most_is opened journaled fits = record {
  stands = subst (λ (m : ℕ). IsOpen m (seen 0) gate (payload_of version packet)) most_is (subst (λ (f : ℕ). IsOpen most (seen f) gate (payload_of version packet)) file_is opened);
  journaled = journaled;
  fits = fits;
}

-- said of the tally's own settings and cone
journaled_of : {version : ℕ} {s t : Numbers} {cone other : ℕ} {packet : Packet} → s ≡ t → cone ≡ other → IsJournaled version s cone packet → IsJournaled version t other packet
journaled_of {version} {t = t} {cone = cone} {packet = packet} same is journaled =
    subst (λ (n : ℕ). IsJournaled version t n packet) is (subst (λ (v : Numbers). IsJournaled version v cone packet) same journaled)

left_of : {version : ℕ} {s t : Numbers} {cone other most file gate at : ℕ} (seen : Files) → s ≡ t → cone ≡ other → most ≡ most_payload version t →
    file ≡ 0 → LeavesAt version s cone most (seen file) gate at → LeavesAt version t other (most_payload version t) (seen 0) gate at
left_of {version} {s = s} {t = t} {cone = cone} {other = other} {most = most} {file = file} {gate = gate} {at = at} seen same is most_is file_is left =
    subst (λ (f : ℕ). LeavesAt version t other (most_payload version t) (seen f) gate at) file_is
    (subst (λ (m : ℕ). LeavesAt version t other m (seen file) gate at) most_is
    (subst (λ (n : ℕ). LeavesAt version t n most (seen file) gate at) is
    (subst (λ (v : Numbers). LeavesAt version v cone most (seen file) gate at) same left)))

follows_of : {s t : Numbers} {n0 n m w more : ℕ} {closed : Bool} {keys : List Item} {packet : Packet} → s ≡ t → n ≡ m → keys ≡ packet.items →
    more ≡ weight_behind (edge t 0 n0) m packet.items → IsFollowing s n0 closed n (length keys) w more → MayFollow t n0 closed m w packet
follows_of {s = s} {t = t} {n0 = n0} {n = n} {m = m} {w = w} {more = more} {keys = keys} {packet = packet} same n_is keys_are more_is may =
    let sum : n + length keys ≡ m + length packet.items = λ i. n_is i + length (keys_are i) in
    record {
      within = subst (λ (k : ℕ). k ≤ capacity t) sum (subst (λ (v : Numbers). n + length keys ≤ capacity v) same may.0);
      before_closing = λ is_closed. subst (λ (k : ℕ). k ≤ n0) sum (may.1 is_closed);
      light = subst (λ k. w + k ≤ weight_room t) more_is (subst (λ (v : Numbers). w + more ≤ weight_room v) same may.2);
    }

-- a malformed record has one place
one_place : {T : Type 0} {x y : ℕ} → IsErrOf {T = T} {E = LogFault} (Err (Malformed x)) (Malformed y) → x ≡ y
one_place {x = x} {y = y} same = (let is : x ≡ y = cc in is)

no_failure : {T : Type 0} {at : ℕ} → IsErrOf {T = T} {E = LogFault} (Err (Malformed at)) Failed → ⊥
no_failure same = (let never : ⊥ = cc in never)

pub read_entry-requires : goal.read_entry-requires
read_entry-requires g c = record {
  version = c.version-version.ensures.known;
  most = c.requires.most ∙ (λ i. most_payload (sym c.version-version.ensures.value i) (sym c.settings-settings.ensures i));
  entry = subst (λ (s : Numbers). 4 * s.packet ≤ c.args.entry.now.keys.room) (sym c.settings-settings.ensures) c.requires.entry;
  room = c.requires.room;
  reach = c.requires.reach;
}

pub weigh_behind-more-requires : goal.weigh_behind-more-requires
weigh_behind-more-requires g c =
    let valid = subst IsValid c.numbers.ensures.value c.numbers.ensures.valid in
    record {
      few = omega (
        arith,
        (c.in_ok-is_packet.ensures.journaled c.if-not-is_packet.false).few,
        ap (length {A = Item}) c.of-items.ensures.value,
        valid.limits.packet_to,
      );
    }

pub packet_left-requires : goal.packet_left-requires
packet_left-requires g c = record {
  within = subst (λ (s : Numbers). c.len-n.result ≤ capacity s) (sym c.settings-settings.ensures)
      (subst (λ (n : ℕ). n ≤ capacity c.args.tally.now.listing.settings) (sym c.len-n.ensures) c.requires.fits);
  few = omega (arith, c.len.ensures.value, c.len.ensures.short);
  light = let valid = subst IsValid c.numbers.ensures.value c.numbers.ensures.valid in
      omega (
        arith,
        c.requires.light,
        c.weigh_behind-more.ensures.most,
        (c.in_ok-is_packet.ensures.journaled c.if-not-is_packet.false).few,
        ap (length {A = Item}) c.of-items.ensures.value,
        valid.limits.packet_to,
      );
  reach = subst (λ (n : ℕ). n < 2 ^ 63) (sym c.gate-gate.ensures.value) (omega (arith, c.requires.reach));
  place = subst (λ (s : Numbers). c.args.last.now.n0 ≤ capacity s) (sym c.settings-settings.ensures) c.requires.place;
}

pub returns-in_err-is_packet : goal.returns-in_err-is_packet
returns-in_err-is_packet g c =
    let p = err_from_is_err_and c.from_residual.result c.from_residual.ensures.1 in
    let said = rw c.version-version.ensures.value at c.in_err-is_packet.ensures in
    rw (p.1, p.2) (record {
      found = λ seen told. tt;
      closed = λ seen told. tt;
      malformed = λ seen told at same. In_record (left_of seen c.settings-settings.ensures c.cone.ensures c.requires.most c.requires.file
          (said.malformed seen told at (ap Err (one_fault same))));
      journaled = tt;
      follows = tt;
      enough = tt;
      moved = tt;
      weight = tt;
      forward = tt;
      waits = tt;
      keeps = record {
        file = ap (λ (log : Log). log.file) said.stayed.0;
        most = ap (λ (log : Log). log.most) said.stayed.0;
        roomy = said.room;
        reads = reading_as (bays g) (lawful g) c.args.bay.now c.read_entry.new.bay _ _ (λ same. ap Err (one_fault same)) said.only_reads;
      };
      handed = journal_up_to c.args.journal.now.file _ _ _ _ c.requires.file
          (same_cost c.args.tally.now.listing.version c.args.journal.now.most (most_payload c.args.tally.now.listing.version c.args.tally.now.listing.settings) (packet_of c.read_entry.new.entry) _
          c.requires.most) said.handed;
    })

-- a closed gate, behind too few keys and behind enough
pub returns-in-Some : goal.returns-in-Some
returns-in-Some g c =
    let none : c.in_ok-is_packet.is_packet ≡ false = c.if-not-is_packet.true in
    let said = rw c.version-version.ensures.value at c.in_ok-is_packet.ensures in
    let left = rw c.in-Some.is at c.end_left.ensures in
    let cost = ended_cost c.version-version.result c.args.journal.now.most (packet_of c.read_entry.new.entry) c.in_ok-is_packet.is_packet none in
    record {
      found = λ seen told. tt;
      closed = λ seen told. tt;
      malformed = λ seen told at same. Too_few
          (subst (λ (file : ℕ). IsClosed (seen file) c.args.journal.now.gate) c.requires.file (said.closed seen told none))
          (subst (λ (n : ℕ). n < c.args.last.now.n0) c.len-n.ensures left.0) (sym (one_place same) ∙ left.1 ∙ c.gate-gate.ensures.value);
      journaled = tt;
      follows = tt;
      enough = tt;
      moved = tt;
      weight = tt;
      forward = tt;
      waits = tt;
      keeps = record {
        file = ap (λ (log : Log). log.file) (said.waits none).0;
        most = ap (λ (log : Log). log.most) (said.waits none).0;
        roomy = said.room;
        reads = reading_as (bays g) (lawful g) c.args.bay.now c.read_entry.new.bay _ _ (λ same. absurd (no_failure same)) said.only_reads;
      };
      handed = journal_up_to c.args.journal.now.file _ _ _ _ c.requires.file (omega (arith, cost)) c.in_ok-is_packet.ensures.handed;
    }

pub returns-in-None : goal.returns-in-None
returns-in-None g c =
    let none : c.in_ok-is_packet.is_packet ≡ false = c.if-not-is_packet.true in
    let said = rw c.version-version.ensures.value at c.in_ok-is_packet.ensures in
    let enough = rw c.in-None.is at c.end_left.ensures in
    let cost = ended_cost c.version-version.result c.args.journal.now.most (packet_of c.read_entry.new.entry) c.in_ok-is_packet.is_packet none in
    record {
      found = λ seen told found. absurd (false≢true found);
      closed = λ seen told _. subst (λ (file : ℕ). IsClosed (seen file) c.args.journal.now.gate) c.requires.file (said.closed seen told none);
      malformed = λ seen told at same. absurd (no_fault same);
      journaled = λ found. absurd (false≢true found);
      follows = λ found. absurd (false≢true found);
      enough = λ _. subst (λ (n : ℕ). c.args.last.now.n0 ≤ n) c.len-n.ensures enough;
      moved = λ found. absurd (false≢true found);
      weight = λ found. absurd (false≢true found);
      forward = λ found. absurd (false≢true found);
      waits = λ _. said.waits none;
      keeps = record {
        file = ap (λ (log : Log). log.file) (said.waits none).0;
        most = ap (λ (log : Log). log.most) (said.waits none).0;
        roomy = said.room;
        reads = reading_as (bays g) (lawful g) c.args.bay.now c.read_entry.new.bay _ _ (λ same. absurd (no_fault same)) said.only_reads;
      };
      handed = journal_up_to c.args.journal.now.file _ _ _ _ c.requires.file (omega (arith, cost)) c.in_ok-is_packet.ensures.handed;
    }

-- a packet that may not follow, and one that may
pub returns-in-Some-packet_left : goal.returns-in-Some-packet_left
returns-in-Some-packet_left g c =
    let found : c.in_ok-is_packet.is_packet ≡ true = c.if-not-is_packet.false in
    let said = rw c.version-version.ensures.value at c.in_ok-is_packet.ensures in
    let packet = packet_of c.read_entry.new.entry in
    let left = rw c.in-Some-packet_left.is at c.packet_left.ensures in
    let more_is : c.weigh_behind-more.result ≡ weight_behind (edge c.args.tally.now.listing.settings 0 c.args.last.now.n0) (length c.args.tally.now.listing.events) c.read_entry.new.entry.keys.items =
    c.weigh_behind-more.ensures.value ∙ (λ i. weight_behind (c.edge.ensures i) (c.len-n.ensures i) (c.of-items.ensures.value i))
    ∙ ap (λ (s : Numbers). weight_behind (edge s 0 c.args.last.now.n0) (length c.args.tally.now.listing.events) c.read_entry.new.entry.keys.items) c.settings-settings.ensures in
    let count = c.len.ensures.value ∙ ap (length {A = Item}) c.of-items.ensures.value in
    let cost = found_cost c.version-version.result c.args.journal.now.most packet c.in_ok-is_packet.is_packet found in
    let gate_is = ap (λ (log : Log). log.gate) (c.in_ok-is_packet.ensures.moved found) in
    let short = (c.in_ok-is_packet.ensures.forward found).1 in
    let version_is : 4 * item_len c.version-version.result * c.settings-settings.result.now.packet ≡ 4 * item_len c.args.tally.now.listing.version * c.args.tally.now.listing.settings.packet =
    λ i. 4 * item_len (c.version-version.ensures.value i) * (c.settings-settings.ensures i).packet in
    record {
      found = λ seen told. tt;
      closed = λ seen told. tt;
      malformed = λ seen told at same.
          let fits = subst (λ (items : List Item). All (λ key. key < 2 ^ 64) (keys_in items)) c.of-items.ensures.value c.of-items.ensures.fit in
          let journaled = journaled_of c.settings-settings.ensures c.cone.ensures (said.journaled found) in
          let holds = held_at c.args.tally.now.listing.settings c.args.tally.now.listing.cone c.args.journal.now.most c.args.journal.now.file
          c.args.journal.now.gate seen packet c.requires.file c.requires.most (said.found seen told found) journaled fits in
          let at_is : c.in-Some-packet_left.at ≡ at = one_place same in
          elim left [
            | inl past ↦ Past_the_end packet holds past.0 (omega (arith, past.1, c.len-n.ensures, count))
                (sym at_is ∙ past.2 ∙ c.gate-gate.ensures.value)
            | inr (inl many) ↦ Too_many packet holds many.0 (omega (arith, many.1, c.len-n.ensures, count, ap capacity c.settings-settings.ensures))
                (sym at_is ∙ many.2 ∙ ap (λ n. n + 1) c.gate-gate.ensures.value)
            | inr (inr heavy) ↦ Too_heavy packet holds (λ ended. omega (arith, heavy.0 ended, c.len-n.ensures, count))
                (omega (arith, heavy.1, c.len-n.ensures, count, ap capacity c.settings-settings.ensures))
                (omega (arith, heavy.2, more_is, ap weight_room c.settings-settings.ensures))
                (sym at_is ∙ heavy.3 ∙ ap (λ n. n + 1) c.gate-gate.ensures.value)
          ];
      journaled = tt;
      follows = tt;
      enough = tt;
      moved = tt;
      weight = tt;
      forward = tt;
      waits = tt;
      keeps = record {
        file = ap (λ (log : Log). log.file) (said.moved found);
        most = ap (λ (log : Log). log.most) (said.moved found);
        roomy = said.room;
        reads = reading_as (bays g) (lawful g) c.args.bay.now c.read_entry.new.bay _ _ (λ same. absurd (no_failure same)) said.only_reads;
      };
      handed = journal_up_to c.args.journal.now.file _ _ _ _ c.requires.file (omega (arith, cost, gate_is, short, version_is)) c.in_ok-is_packet.ensures.handed;
    }

pub returns-in-None-packet_left : goal.returns-in-None-packet_left
returns-in-None-packet_left g c =
    let found : c.in_ok-is_packet.is_packet ≡ true = c.if-not-is_packet.false in
    let said = rw c.version-version.ensures.value at c.in_ok-is_packet.ensures in
    let packet = packet_of c.read_entry.new.entry in
    let fits = subst (λ (items : List Item). All (λ key. key < 2 ^ 64) (keys_in items)) c.of-items.ensures.value c.of-items.ensures.fit in
    let journaled = journaled_of c.settings-settings.ensures c.cone.ensures (said.journaled found) in
    let more_is : c.weigh_behind-more.result ≡ weight_behind (edge c.args.tally.now.listing.settings 0 c.args.last.now.n0) (length c.args.tally.now.listing.events) c.read_entry.new.entry.keys.items =
    c.weigh_behind-more.ensures.value ∙ (λ i. weight_behind (c.edge.ensures i) (c.len-n.ensures i) (c.of-items.ensures.value i))
    ∙ ap (λ (s : Numbers). weight_behind (edge s 0 c.args.last.now.n0) (length c.args.tally.now.listing.events) c.read_entry.new.entry.keys.items) c.settings-settings.ensures in
    let may = rw c.in-None-packet_left.is at c.packet_left.ensures in
    let cost = found_cost c.version-version.result c.args.journal.now.most packet c.in_ok-is_packet.is_packet found in
    record {
      found = λ seen told _. held_at c.args.tally.now.listing.settings c.args.tally.now.listing.cone c.args.journal.now.most
          c.args.journal.now.file c.args.journal.now.gate seen packet c.requires.file c.requires.most (said.found seen told found) journaled fits;
      closed = λ seen told none. absurd (true≢false none);
      malformed = λ seen told at same. absurd (no_fault same);
      journaled = λ _. journaled;
      follows = λ _. follows_of c.settings-settings.ensures c.len-n.ensures c.of-items.ensures.value more_is
          (subst (λ (n : ℕ). IsFollowing c.settings-settings.result.now c.args.last.now.n0 c.args.last.now.closed c.len-n.result n c.args.weight.now c.weigh_behind-more.result)
          c.len.ensures.value may);
      weight = λ _. ap (λ more. c.args.weight.now + more) more_is;
      enough = λ none. absurd (true≢false none);
      moved = λ _. subst (λ v. c.read_entry.new.log ≡ record c.args.journal.now { gate = next_gate c.args.journal.now.gate (payload_of v packet) }) c.version-version.ensures.value
          (c.in_ok-is_packet.ensures.moved found);
      forward = λ _. (
        (said.forward found).0,
        subst (λ (s : Numbers). c.read_entry.new.log.gate ≤ c.args.journal.now.gate + 5 + most_payload c.args.tally.now.listing.version s) c.settings-settings.ensures
            (omega (arith, (said.forward found).1)),
      );
      waits = λ none. absurd (true≢false none);
      keeps = record {
        file = ap (λ (log : Log). log.file) (said.moved found);
        most = ap (λ (log : Log). log.most) (said.moved found);
        roomy = said.room;
        reads = reading_as (bays g) (lawful g) c.args.bay.now c.read_entry.new.bay _ _ (λ same. absurd (no_fault same)) said.only_reads;
      };
      handed = journal_up_to c.args.journal.now.file _ _ _ _ c.requires.file (omega (arith, cost, ap (λ v. length (payload_of v packet)) c.version-version.ensures.value))
          c.in_ok-is_packet.ensures.handed;
    }
