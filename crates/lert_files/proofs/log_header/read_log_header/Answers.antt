use Rattle.lert_bay.specs.Kept.{Bays, seen_by}
use Rattle.std.proofs.Common.{◌≡◌, min, length, refl, ap, sym, ◌∙◌, arith}
use Rattle.lert_bay.specs.declared.bay.TheConstants.{JOURNAL, LOG}
use Rattle.lert_journal.proofs.AgreedLaws.{agreed_front, agreed_all}
use Rattle.lert_files.proofs.{GateLaws.{malformed_or_failed, not_err, same_place}, HeadLaws.read_front}
use Rattle.lert_bay.proofs.KeptLaws.{IsLawful, apart_from_log, reads_call}
use Rattle.lert_reports.specs.Log.{log_header}
use Rattle.lert_spec.specs.Agreed.{agreed}
use Rattle.lert_files.proofs.log_header.read_log_header.Given as given
use Rattle.lert_files.proofs.log_header.read_log_header.Goals as goal

abbrev bays : (g : given.Over) → Bays g.row.B.Denot
bays g = seen_by g.B.Faulty g.B.Bay

lawful : (g : given.Over) → IsLawful (bays g)
lawful g = record { as_read = g.met.B.Bay.as_read; since_now = g.met.B.Bay.since_now; only_now = g.met.B.Bay.only_now; since_earlier = g.met.B.Bay.since_earlier }

pub returns-then-same-lt-LOG_HEADER_LEN-clause-left : goal.returns-then-same-lt-LOG_HEADER_LEN-clause-left
returns-then-same-lt-LOG_HEADER_LEN-clause-left g c seen told file at is =
    let copied = c.in_ok-count.ensures.told seen told in
    let count_is : c.in_ok-count.count ≡ min 8 (length (seen LOG)) = omega (arith, copied.count_is, c.read_at.auto.into) in
    let front = read_front 8 c.in_ok-count.count c.read_at.new.into (seen LOG) count_is copied.copied in
    let same = c.agreed-same.ensures ∙ (ap (agreed log_header) front ∙ agreed_front log_header (seen LOG) 8 (omega arith)) in
    let at_is = same_place LOG c.agreed-same.result file at is in
    (sym at_is ∙ same, omega (arith, at_is, c.if-same-lt-LOG_HEADER_LEN.true))

pub returns-clause-headed : goal.returns-clause-headed
returns-clause-headed g c seen told =
    let copied = c.in_ok-count.ensures.told seen told in
    let count_is : c.in_ok-count.count ≡ min 8 (length (seen LOG)) = omega (arith, copied.count_is, c.read_at.auto.into) in
    let front = read_front 8 c.in_ok-count.count c.read_at.new.into (seen LOG) count_is copied.copied in
    let same = c.agreed-same.ensures ∙ (ap (agreed log_header) front ∙ agreed_front log_header (seen LOG) 8 (omega arith)) in
    agreed_all log_header (seen LOG) (omega (arith, same, c.if-same-lt-LOG_HEADER_LEN.false))

-- the log is read, and no other file
pub returns-in_err-count-clause-only_reads : goal.returns-in_err-count-clause-only_reads
returns-in_err-count-clause-only_reads g c =
    let read = c.in_err-count.ensures in
    reads_call (bays g) (lawful g) c.args.bay.now c.read_at.new.self _ read.time read.cause.never_falls (λ is. read.cause.failed refl) read.mark read.seen read.images
    (read.handed.others JOURNAL apart_from_log)

pub returns-then-same-lt-LOG_HEADER_LEN-clause-only_reads : goal.returns-then-same-lt-LOG_HEADER_LEN-clause-only_reads
returns-then-same-lt-LOG_HEADER_LEN-clause-only_reads g c =
    let read = c.in_ok-count.ensures in
    reads_call (bays g) (lawful g) c.args.bay.now c.read_at.new.self _ read.time read.cause.never_falls (λ is. absurd (malformed_or_failed _ _ is)) read.mark read.seen read.images
    (read.handed.others JOURNAL apart_from_log)

pub returns-clause-only_reads : goal.returns-clause-only_reads
returns-clause-only_reads g c =
    let read = c.in_ok-count.ensures in
    reads_call (bays g) (lawful g) c.args.bay.now c.read_at.new.self _ read.time read.cause.never_falls (λ is. absurd (not_err _ _ is)) read.mark read.seen read.images
    (read.handed.others JOURNAL apart_from_log)
