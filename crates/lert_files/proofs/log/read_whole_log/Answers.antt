use Rattle.lert_bay.specs.Kept.{Bays, seen_by}
use Rattle.std.proofs.{Common.{◌≡◌, Some, Err, List, ℕ, refl, ap, ◌∙◌, subst}, lemmas.Result.{err_from_is_err_and, IfOk-weaker}}
use Rattle.lert_bay.specs.{declared.bay.TheConstants.LOG, Files.Files, Settled.part}
use Rattle.lert_spec.specs.Limits.{IsValid}
use Rattle.lert_reports.specs.{Log.{log_header, HasLog, In_header}, LogText.LogRecord}
use Rattle.lert_files.proofs.{GateLaws.same_fault, PointLaws.{directs, points}, WholeLaws.{header_back, header_refuses, left_back, log_refused, up_to, whole_back}}
use Rattle.lert_bay.proofs.KeptLaws.{IsLawful, reads_as, reads_on}
use Rattle.lert_files.proofs.log.read_whole_log.Given as given
use Rattle.lert_files.proofs.log.read_whole_log.Goals as goal

abbrev bays : (g : given.Over) → Bays g.row.B.Denot
bays g = seen_by g.B.Faulty g.B.Bay

lawful : (g : given.Over) → IsLawful (bays g)
lawful g = record { as_read = g.met.B.Bay.as_read; since_now = g.met.B.Bay.since_now; only_now = g.met.B.Bay.only_now; since_earlier = g.met.B.Bay.since_earlier }

pub returns-in_err-read_log_header : goal.returns-in_err-read_log_header
returns-in_err-read_log_header g c =
    let p = err_from_is_err_and c.from_residual.result c.from_residual.ensures.1 in
    let s = c.args.settings.now in
    let valid = subst IsValid c.numbers.ensures.value c.numbers.ensures.valid in
    let head = c.in_err-read_log_header.ensures in
    rw (p.1, p.2) (record {
      read = tt;
      reports = tt;
      point = tt;
      directory = tt;
      reach = tt;
      version = tt;
      weight = tt;
      malformed = λ seen told file at is.
          let left = head.left seen told file at (same_fault _ _ is) in
          (log_refused _ file at head.fault is, In_header left.0 left.1);
      reads_back = λ seen told records log_end log. header_back s c.args.cone valid (seen LOG) _ records log_end head.fault
          (λ file other is. let left = head.left seen told file other (ap Err is) in In_header left.0 left.1) log;
      refuses = λ seen told at leaves. header_refuses s c.args.cone valid (seen LOG) _ at head.fault
          (λ file other is. let left = head.left seen told file other (ap Err is) in In_header left.0 left.1) leaves;
      fault = head.fault;
      same = refl;
      only_reads = reads_as (bays g) (lawful g) c.args.bay.now c.read_log_header.new.bay _ _ (λ is. same_fault _ _ is) head.only_reads;
    })

pub returns : goal.returns
returns g c =
    let s = c.args.settings.now in
    let cone = c.args.cone in
    let valid = subst IsValid c.numbers.ensures.value c.numbers.ensures.valid in
    let head = c.read_log_header.ensures in
    let then = c.read_records.ensures in
    let reports = c.read_records.new.store.reports in
    let directory = c.read_records.new.directory in
    let Q = λ (records : List LogRecord) (end : ℕ). (seen : Files) → g.B.Bay.files c.read_log_header.new.bay ≡ Some seen → part (seen LOG) 0 8 ≡ log_header →
    HasLog s cone (seen LOG) records end in
    record {
      read = IfOk-weaker c.read_records.result _ _ (λ end are. (
        are.0,
        are.1,
        λ seen told. are.2 seen (head.only_reads.seen ∙ told)
            (c.in_ok-read_log_header.ensures.headed seen told),
      )) then.read;
      reports = up_to s cone valid reports directory Q c.read_records.result then.read;
      point = points s cone reports directory Q c.read_records.result then.read;
      directory = directs s cone reports directory Q valid c.read_records.result then.read;
      reach = then.reach;
      version = then.version;
      weight = then.weight;
      malformed = λ seen told file at is. (
        log_refused c.read_records.result file at then.fault is,
        then.malformed seen (head.only_reads.seen ∙ told) (c.in_ok-read_log_header.ensures.headed seen told) file at is,
      );
      reads_back = λ seen told records log_end log.
          let there = head.only_reads.seen ∙ told in
          let headed = c.in_ok-read_log_header.ensures.headed seen told in
          whole_back s cone valid (seen LOG) reports directory Q (λ records end has. has seen there headed)
          c.read_records.result records log_end then.read then.fault (then.malformed seen there headed) log;
      refuses = λ seen told at leaves.
          let there = head.only_reads.seen ∙ told in
          let headed = c.in_ok-read_log_header.ensures.headed seen told in
          left_back s cone valid (seen LOG) reports directory Q (λ records end has. has seen there headed)
          c.read_records.result at then.read then.fault (then.malformed seen there headed) leaves;
      fault = then.fault;
      same = then.same;
      only_reads = reads_on (bays g) (lawful g) c.args.bay.now c.read_log_header.new.bay c.read_records.new.bay _ _ head.only_reads then.only_reads;
    }
