use Rattle.std.proofs.{Common.{◌+◌, ◌*◌, ◌^◌, ◌≤◌, ◌∙◌, ap, arith, subst, sym}, lemmas.Result.err_from_is_err_and}
use Rattle.lert_bay.specs.declared.bay.TheConstants.{JOURNAL}
use Rattle.lert_bay.proofs.KeptLaws.{IsLawful, reading_as, reading_none, reading_on}
use Rattle.lert_gatelog.specs.Gated.{Log}
use Rattle.lert_spec.specs.Limits.{IsValid}
use Rattle.lert_recover.specs.Replayed.{JournalEnds, JournalLeavesAt}
use Rattle.lert_recover.proofs.{BehindLaws.room_to, ReplayedLaws.{ends_here, here}, ReplayingLaws.fewer_left, RestLaws.{ends_packet, onward_packet}}
use Rattle.lert_recover.proofs.journal_rest.find_left.Given as given
use Rattle.lert_recover.proofs.journal_rest.find_left.Invariants.{bays}
use Rattle.lert_recover.proofs.journal_rest.find_left.Goals as goal

lawful : (g : given.Over) → IsLawful (bays g)
lawful g = record { as_read = g.met.B.Bay.as_read; since_now = g.met.B.Bay.since_now; only_now = g.met.B.Bay.only_now; since_earlier = g.met.B.Bay.since_earlier }

pub records-preserved : goal.records-preserved
records-preserved g c =
    let s = c.args.settings.now in
    let now = c.records.invariant in
    let last = c.args.last.now in
    let found = c.in_ok-keys.ensures in
    let goes = rw c.in-Packet.is at found.forward in
    let valid = subst IsValid c.numbers.ensures.value c.numbers.ensures.valid in
    record {
      file = found.file ∙ now.file;
      most = found.most ∙ now.most;
      within = goes.1;
      near = omega (arith, now.near, goes.0, goes.3);
      light = omega (arith, goes.2, room_to s valid);
      onward = λ seen told at leaves.
          let stands = rw c.in-Packet.is at (found.told seen (now.only_reads.seen ∙ told)) in
          now.onward seen told at (onward_packet s c.args.cone last.n0 last.closed c.records.now.events c.records.now.weight (seen JOURNAL) c.records.log.gate
          c.find_here.new.log.gate c.in-Packet.keys c.in-Packet.more stands at leaves);
      ends = λ seen told ends.
          let stands = rw c.in-Packet.is at (found.told seen (now.only_reads.seen ∙ told)) in
          now.ends seen told (ends_packet s c.args.cone last.n0 last.closed c.records.now.events c.records.now.weight (seen JOURNAL) c.records.log.gate c.find_here.new.log.gate
          c.in-Packet.keys c.in-Packet.more stands ends);
      only_reads = reading_on (bays g) (lawful g) c.args.bay.now c.records.bay c.find_here.new.bay ⊥ ⊥ now.only_reads
          (reading_as (bays g) (lawful g) c.records.bay c.find_here.new.bay _ ⊥ (λ never. absurd never) found.only_reads);
    }

pub records-smaller : goal.records-smaller
records-smaller g c =
    let goes = rw c.in-Packet.is at c.in_ok-keys.ensures.forward in fewer_left _ _ _ goes.0 goes.1

pub overflow_add-now : goal.overflow_add-now
overflow_add-now g c =
    let valid = subst IsValid c.numbers.ensures.value c.numbers.ensures.valid in
    let goes = rw c.in-Packet.is at c.in_ok-keys.ensures.forward in
    record { fits = omega (arith, goes.1, valid.positions_fit) }

pub overflow_add-now-in-Packet : goal.overflow_add-now-in-Packet
overflow_add-now-in-Packet g c =
    let valid = subst IsValid c.numbers.ensures.value c.numbers.ensures.valid in
    let goes = rw c.in-Packet.is at c.in_ok-keys.ensures.forward in
    record { fits = omega (arith, goes.2, room_to c.args.settings.now valid) }

pub returns-in-Left-clause-told : goal.returns-in-Left-clause-told
returns-in-Left-clause-told g c seen told =
    let now = c.records.invariant in
    let last = c.args.last.now in
    let left = rw c.in-Left.is at (c.in_ok-keys.ensures.told seen (now.only_reads.seen ∙ told)) in
    now.onward seen told c.in-Left.at (here c.args.last.now.version c.args.settings.now c.args.cone last.n0 last.closed (seen JOURNAL) c.records.now.events c.records.now.weight c.records.log.gate
    c.in-Left.at left)

-- ---- what the exits keep of the bay

pub returns-in_err-keys-clause-only_reads : goal.returns-in_err-keys-clause-only_reads
returns-in_err-keys-clause-only_reads g c =
    let p = err_from_is_err_and c.from_residual.result c.from_residual.ensures.1 in
    rw p.1 (reading_on (bays g) (lawful g) c.args.bay.now c.records.bay c.find_here.new.bay ⊥ _ c.records.invariant.only_reads c.in_err-keys.ensures.only_reads)

pub returns-in-End-clause-only_reads : goal.returns-in-End-clause-only_reads
returns-in-End-clause-only_reads g c =
    reading_on (bays g) (lawful g) c.args.bay.now c.records.bay c.find_here.new.bay ⊥ _ c.records.invariant.only_reads c.in_ok-keys.ensures.only_reads

pub returns-in-Left-clause-only_reads : goal.returns-in-Left-clause-only_reads
returns-in-Left-clause-only_reads g c =
    reading_on (bays g) (lawful g) c.args.bay.now c.records.bay c.find_here.new.bay ⊥ _ c.records.invariant.only_reads c.in_ok-keys.ensures.only_reads

pub find_here-requires-clause-reach : goal.find_here-requires-clause-reach
find_here-requires-clause-reach g c =
    let valid = subst IsValid c.numbers.ensures.value c.numbers.ensures.valid in omega (arith, c.records.invariant.near, c.records.invariant.within, valid.positions_fit)

pub returns-in-End-clause-told : goal.returns-in-End-clause-told
returns-in-End-clause-told g c seen told =
    let now = c.records.invariant in
    let last = c.args.last.now in
    let shut = rw c.in-End.is at (c.in_ok-keys.ensures.told seen (now.only_reads.seen ∙ told)) in
    now.ends seen told (ends_here c.args.last.now.version c.args.settings.now c.args.cone last.n0 last.closed (seen JOURNAL) c.records.log.gate c.records.now.events c.records.now.weight shut.0 shut.1)

pub returns-in_err-keys-clause-told : goal.returns-in_err-keys-clause-told
returns-in_err-keys-clause-told g c seen told =
    let p = err_from_is_err_and c.from_residual.result c.from_residual.ensures.1 in rw p.1 tt

pub records-init : goal.records-init
records-init g c =
    let log_is = c.at_gate-log.ensures in
    let gate_is = ap (λ (log : Log). log.gate) log_is in
    let s = c.args.settings.now in
    let last = c.args.last.now in
    record {
      file = ap (λ (log : Log). log.file) log_is;
      most = ap (λ (log : Log). log.most) log_is ∙ c.greatest_payload.ensures.value;
      within = c.requires.within;
      light = c.requires.light;
      near = subst (λ gate. gate ≤ 2 ^ 46 + 65536 * c.args.before.events) (sym gate_is) c.requires.near;
      onward = λ seen told at leaves. subst (λ gate. JournalLeavesAt last.version s c.args.cone last.n0 last.closed (seen JOURNAL) c.args.before.events c.args.before.weight gate at) gate_is leaves;
      ends = λ seen told ends. subst (λ gate. JournalEnds last.version s c.args.cone last.n0 last.closed (seen JOURNAL) c.args.before.events c.args.before.weight gate) gate_is ends;
      only_reads = reading_none (bays g) (lawful g) c.args.bay.now ⊥ (λ never. never);
    }
