-- What `next` said of the record, and what `place_left` said of its payload, decide the answer.
use Rattle.std.proofs.Common.{Some, ◌≡◌, ℕ, ◌+◌, Err, length, take, refl, sym, subst, ap, ◌∙◌, inl, inr, arith}
use Rattle.std.proofs.lemmas.Result.{err_from_is_err_and}
use Rattle.std.proofs.lemmas.Bool.{false≢true, true≢false}
use Rattle.std.proofs.lemmas.List.{length-take-le}
use Rattle.lert_base.specs.Entries.{packet_of}
use Rattle.lert_bay.specs.Files.{Files}
use Rattle.lert_bay.specs.Kept.{Bays, seen_by}
use Rattle.lert_bay.proofs.HandedLaws.{up_to_more}
use Rattle.lert_bay.proofs.KeptLaws.{IsLawful, reading_as}
use Rattle.lert_gatelog.specs.declared.fault.LogFault.TheVariants.{Failed, Malformed}
use Rattle.lert_gatelog.specs.Gated.{IsOpen}
use Rattle.lert_gatelog.proofs.Deciding.{open_or_closed, one_payload}
use Rattle.lert_journal.specs.Payload.{payload_of, packet_in, IsJournaled}
use Rattle.lert_journal.proofs.Costs.{fault_cost}
use Rattle.lert_journal.proofs.OneAnswer.{packet_or_left, closed_or_left, left_by_payload, one_place_left, same_fault, same_place, fails, fails_there}
use Rattle.lert_journal.proofs.OneAnswer.{ok_no_fault, place_no_failure, plus_five, payload_short, items_fit, went_forward}
use Rattle.lert_journal.specs.Journal.{LeavesAt}
use Rattle.lert_journal.proofs.PayloadBack.{packet_back}
use Rattle.lert_journal.proofs.PayloadWhole.{whole_items}
use Rattle.lert_journal.proofs.entries.read_entry.Given as given
use Rattle.lert_journal.proofs.entries.read_entry.Goals as goal

abbrev bays : (g : given.Over) → Bays g.row.B.Denot
bays g = seen_by g.B.Faulty g.B.Bay

lawful : (g : given.Over) → IsLawful (bays g)
lawful g = record { as_read = g.met.B.Bay.as_read; since_now = g.met.B.Bay.since_now; only_now = g.met.B.Bay.only_now; since_earlier = g.met.B.Bay.since_earlier }

pub returns-in_err-count : goal.returns-in_err-count
returns-in_err-count g c =
    let p = err_from_is_err_and c.from_residual.result c.from_residual.ensures.1 in
    let said = c.in_err-count.ensures in
    rw (p.1, p.2) (record {
      found = λ seen told. tt;
      closed = λ seen told. tt;
      malformed = λ seen told at is. inl (said.malformed seen told at (ap Err (same_fault _ (Malformed at) is)));
      reads_back = λ seen told packet holds. fails c.args.version c.args.settings.now c.args.cone c.args.log.now.most (seen c.args.log.now.file) c.args.log.now.gate _
          (λ at is. said.malformed seen told at (ap Err is))
          (λ at. packet_or_left c.args.version c.args.settings.now c.args.cone c.args.log.now.most (seen c.args.log.now.file) c.args.log.now.gate at packet holds);
      ends = λ seen told closed. fails c.args.version c.args.settings.now c.args.cone c.args.log.now.most (seen c.args.log.now.file) c.args.log.now.gate _
          (λ at is. said.malformed seen told at (ap Err is))
          (λ at. closed_or_left c.args.version c.args.settings.now c.args.cone c.args.log.now.most (seen c.args.log.now.file) c.args.log.now.gate at closed);
      refuses = λ seen told at left_at. fails_there c.args.version c.args.settings.now c.args.cone c.args.log.now.most (seen c.args.log.now.file) c.args.log.now.gate at _
          (λ other is. said.malformed seen told other (ap Err is)) left_at;
      journaled = tt;
      moved = tt;
      forward = tt;
      waits = tt;
      stayed = (refl, refl);
      room = refl;
      only_reads = reading_as (bays g) (lawful g) _ _ _ _ (λ is. ap Err (same_fault _ Failed is)) said.only_reads;
      handed = up_to_more c.args.log.now.file _ _ _ _ (fault_cost c.args.version c.args.log.now.most (packet_of c.args.entry.now) _) said.handed;
    })

-- ---- a closed gate

pub returns-in_default-clause-found : goal.returns-in_default-clause-found
returns-in_default-clause-found g c seen told said = absurd (false≢true said)

pub returns-in_default-clause-malformed : goal.returns-in_default-clause-malformed
returns-in_default-clause-malformed g c seen told at is = absurd (ok_no_fault _ _ is)

pub returns-in_default-clause-ends : goal.returns-in_default-clause-ends
returns-in_default-clause-ends g c seen told closed = refl

pub returns-in_default-clause-journaled : goal.returns-in_default-clause-journaled
returns-in_default-clause-journaled g c said = absurd (false≢true said)

pub returns-in_default-clause-moved : goal.returns-in_default-clause-moved
returns-in_default-clause-moved g c said = absurd (false≢true said)

pub returns-in_default-clause-forward : goal.returns-in_default-clause-forward
returns-in_default-clause-forward g c said = absurd (false≢true said)

pub returns-in_default-clause-waits : goal.returns-in_default-clause-waits
returns-in_default-clause-waits g c said = (refl, refl)

pub returns-in_default-clause-stayed : goal.returns-in_default-clause-stayed
returns-in_default-clause-stayed g c = tt

pub returns-in_default-clause-room : goal.returns-in_default-clause-room
returns-in_default-clause-room g c = refl

pub returns-in_default-clause-closed : goal.returns-in_default-clause-closed
returns-in_default-clause-closed g c seen told said = rw c.in_default.is at (c.in_ok-count.ensures.closed seen told)

pub returns-in_default-clause-only_reads : goal.returns-in_default-clause-only_reads
returns-in_default-clause-only_reads g c = reading_as (bays g) (lawful g) _ _ _ _ (λ is. absurd (ok_no_fault _ _ is)) c.next.ensures.only_reads

pub returns-in_default-clause-reads_back : goal.returns-in_default-clause-reads_back
returns-in_default-clause-reads_back g c seen told packet holds =
    let closed = rw c.in_default.is at (c.in_ok-count.ensures.closed seen told) in
    absurd (open_or_closed c.args.log.now.most (seen c.args.log.now.file) c.args.log.now.gate (payload_of c.args.version packet) holds.stands closed)

pub returns-in_default-clause-refuses : goal.returns-in_default-clause-refuses
returns-in_default-clause-refuses g c seen told at =
    let closed = rw c.in_default.is at (c.in_ok-count.ensures.closed seen told) in
    closed_or_left c.args.version c.args.settings.now c.args.cone c.args.log.now.most (seen c.args.log.now.file) c.args.log.now.gate at closed

pub returns-in_default-clause-handed : goal.returns-in_default-clause-handed
returns-in_default-clause-handed g c = rw c.in_default.is at c.in_ok-count.ensures.handed

-- ---- an open record

pub place_left-requires : goal.place_left-requires
place_left-requires g c =
    let counted = rw c.in-Some.is at c.in_ok-count.ensures.counted in
    record { version = c.requires.version; short = payload_short c.in-Some.count c.args.log.now.most c.next.new.into counted.1 c.gate-gate.ensures.most }

-- its payload leaves the format
pub returns-in-Some-place_left : goal.returns-in-Some-place_left
returns-in-Some-place_left g c =
    let counted = rw c.in-Some.is at c.in_ok-count.ensures.counted in
    let spoiled : (seen : Files) → g.B.Bay.files c.args.bay.now ≡ Some seen →
    LeavesAt c.args.version c.args.settings.now c.args.cone c.args.log.now.most (seen c.args.log.now.file) c.args.log.now.gate
    (c.gate-gate.result + 1 + c.in-Some-place_left.place) = λ seen told. inr (record {
      payload = take c.in-Some.count c.next.new.into;
      place = c.in-Some-place_left.place;
      stands = rw c.in-Some.is at (c.in_ok-count.ensures.opened seen told);
      first = sym c.in-Some-place_left.ensures.place;
      at_is = ap (λ gate. gate + 1 + c.in-Some-place_left.place) c.gate-gate.ensures.value;
    }) in
    record {
      found = λ seen told. tt;
      closed = λ seen told. tt;
      malformed = λ seen told at is. subst (LeavesAt c.args.version c.args.settings.now c.args.cone c.args.log.now.most (seen c.args.log.now.file) c.args.log.now.gate)
          (same_place _ at (same_fault _ _ is)) (spoiled seen told);
      reads_back = λ seen told packet holds. absurd (packet_or_left c.args.version c.args.settings.now c.args.cone c.args.log.now.most (seen c.args.log.now.file) c.args.log.now.gate _ packet holds
          (spoiled seen told));
      ends = λ seen told closed. absurd (closed_or_left c.args.version c.args.settings.now c.args.cone c.args.log.now.most (seen c.args.log.now.file) c.args.log.now.gate _ closed
          (spoiled seen told));
      refuses = λ seen told at left_at. inr (ap Malformed (one_place_left c.args.version c.args.settings.now c.args.cone c.args.log.now.most (seen c.args.log.now.file) c.args.log.now.gate _ at
          (spoiled seen told) left_at));
      journaled = tt;
      moved = tt;
      forward = tt;
      waits = tt;
      stayed = (refl, refl);
      room = refl;
      only_reads = reading_as (bays g) (lawful g) _ _ _ _ (λ is. absurd (place_no_failure _ (same_fault _ _ is))) c.next.ensures.only_reads;
      handed = up_to_more c.args.log.now.file (5 + c.in-Some.count) (5 + c.args.log.now.most) _ _ (plus_five _ _ counted.1) (rw c.in-Some.is at c.in_ok-count.ensures.handed);
    }

pub fill-requires : goal.fill-requires
fill-requires g c =
    let whole = whole_items c.args.version c.args.settings.now c.args.cone (take c.in-Some.count c.next.new.into) (sym c.in_default-place_left.ensures.place) in
    record {
      some = whole.1;
      weighed = c.in_default-place_left.ensures.holds.weighed;
      room = items_fit c.args.version (take c.in-Some.count c.next.new.into) _ c.args.entry.now.keys.room c.in_default-place_left.ensures.holds.few c.requires.entry;
    }

-- ---- a packet

pub returns-clause-journaled : goal.returns-clause-journaled
returns-clause-journaled g c said =
    let whole = whole_items c.args.version c.args.settings.now c.args.cone (take c.in-Some.count c.next.new.into) (sym c.in_default-place_left.ensures.place) in
    subst (IsJournaled c.args.version c.args.settings.now c.args.cone) (sym c.fill.ensures.packet) c.in_default-place_left.ensures.holds

pub returns-clause-found : goal.returns-clause-found
returns-clause-found g c seen told said =
    let stands = rw c.in-Some.is at (c.in_ok-count.ensures.opened seen told) in
    let whole = whole_items c.args.version c.args.settings.now c.args.cone (take c.in-Some.count c.next.new.into) (sym c.in_default-place_left.ensures.place) in
    let text : payload_of c.args.version (packet_of c.fill.new.entry) ≡ take c.in-Some.count c.next.new.into = ap (payload_of c.args.version) c.fill.ensures.packet ∙ c.fill.ensures.text whole.0 in
    subst (IsOpen c.args.log.now.most (seen c.args.log.now.file) c.args.log.now.gate) (sym text) stands

pub returns-clause-moved : goal.returns-clause-moved
returns-clause-moved g c said =
    let whole = whole_items c.args.version c.args.settings.now c.args.cone (take c.in-Some.count c.next.new.into) (sym c.in_default-place_left.ensures.place) in
    let text : payload_of c.args.version (packet_of c.fill.new.entry) ≡ take c.in-Some.count c.next.new.into = ap (payload_of c.args.version) c.fill.ensures.packet ∙ c.fill.ensures.text whole.0 in
    let moved = rw c.in-Some.is at c.in_ok-count.ensures.moved in
    let counted = rw c.in-Some.is at c.in_ok-count.ensures.counted in
    let long : length (take c.in-Some.count c.next.new.into) ≡ c.in-Some.count = length-take-le c.in-Some.count c.next.new.into
    (omega (arith, counted.1, c.requires.room, c.next.auto.into)) in
    moved ∙ ap (λ (n : ℕ). record c.args.log.now { gate = c.args.log.now.gate + 5 + n }) (sym long ∙ ap length (sym text))

pub returns-clause-reads_back : goal.returns-clause-reads_back
returns-clause-reads_back g c seen told packet holds =
    let stands = rw c.in-Some.is at (c.in_ok-count.ensures.opened seen told) in
    let same = one_payload c.args.log.now.most (seen c.args.log.now.file) c.args.log.now.gate (take c.in-Some.count c.next.new.into) (payload_of c.args.version packet) stands holds.stands in (
      refl,
      c.fill.ensures.packet ∙ (ap (packet_in c.args.version) same ∙ packet_back c.args.version packet (omega (arith, holds.journaled.by_most))
          (omega (arith, holds.journaled.trace_most)) holds.fits holds.journaled.weighed),
    )

pub returns-clause-ends : goal.returns-clause-ends
returns-clause-ends g c seen told closed =
    let stands = rw c.in-Some.is at (c.in_ok-count.ensures.opened seen told) in
    absurd (open_or_closed c.args.log.now.most (seen c.args.log.now.file) c.args.log.now.gate (take c.in-Some.count c.next.new.into) stands closed)

pub returns-clause-refuses : goal.returns-clause-refuses
returns-clause-refuses g c seen told at left_at =
    let stands = rw c.in-Some.is at (c.in_ok-count.ensures.opened seen told) in
    left_by_payload c.args.version c.args.settings.now c.args.cone c.args.log.now.most (seen c.args.log.now.file) c.args.log.now.gate at (take c.in-Some.count c.next.new.into) stands left_at
    (sym c.in_default-place_left.ensures.place)

pub returns-clause-closed : goal.returns-clause-closed
returns-clause-closed g c seen told said = absurd (true≢false said)

pub returns-clause-malformed : goal.returns-clause-malformed
returns-clause-malformed g c seen told at is = absurd (ok_no_fault _ _ is)

pub returns-clause-forward : goal.returns-clause-forward
returns-clause-forward g c said =
    let moved = rw c.in-Some.is at c.in_ok-count.ensures.moved in
    let counted = rw c.in-Some.is at c.in_ok-count.ensures.counted in
    went_forward c.args.log.now.gate c.next.new.self.gate c.in-Some.count c.args.log.now.most _ (ap (λ log. log.gate) moved) counted.0 counted.1 c.requires.most

pub returns-clause-waits : goal.returns-clause-waits
returns-clause-waits g c said = absurd (true≢false said)

pub returns-clause-stayed : goal.returns-clause-stayed
returns-clause-stayed g c = tt

pub returns-clause-room : goal.returns-clause-room
returns-clause-room g c = c.fill.ensures.room

pub returns-clause-only_reads : goal.returns-clause-only_reads
returns-clause-only_reads g c = reading_as (bays g) (lawful g) _ _ _ _ (λ is. absurd (ok_no_fault _ _ is)) c.next.ensures.only_reads

pub returns-clause-handed : goal.returns-clause-handed
returns-clause-handed g c =
    let whole = whole_items c.args.version c.args.settings.now c.args.cone (take c.in-Some.count c.next.new.into) (sym c.in_default-place_left.ensures.place) in
    let text : payload_of c.args.version (packet_of c.fill.new.entry) ≡ take c.in-Some.count c.next.new.into = ap (payload_of c.args.version) c.fill.ensures.packet ∙ c.fill.ensures.text whole.0 in
    let counted = rw c.in-Some.is at c.in_ok-count.ensures.counted in
    let long : length (take c.in-Some.count c.next.new.into) ≡ c.in-Some.count = length-take-le c.in-Some.count c.next.new.into
    (omega (arith, counted.1, c.requires.room, c.next.auto.into)) in
    let same : length (payload_of c.args.version (packet_of c.fill.new.entry)) ≡ c.in-Some.count = ap length text ∙ long in
    up_to_more c.args.log.now.file (5 + c.in-Some.count) _ _ _ (omega (arith, same)) (rw c.in-Some.is at c.in_ok-count.ensures.handed)
