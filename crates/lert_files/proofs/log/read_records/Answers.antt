use Rattle.std.proofs.{Common.{◌+◌, ◌-◌, ◌*◌, ◌<◌, [], ◌∷◌, ◌++◌, ap, ◌∙◌, arith, replicate, refl}, lemmas.Result.err_from_is_err_and}
use Rattle.lert_gatelog.specs.Gated.{Log}
use Rattle.lert_spec.specs.{declared.numbers.Numbers.Numbers, Edges.capacity}
use Rattle.lert_reports.specs.{Log.most_record, Stored.Stored}
use Rattle.lert_bay.specs.declared.bay.TheConstants.{LOG}
use Rattle.lert_bay.proofs.KeptLaws.{IsLawful, reads_as, reads_none, reads_on}
use Rattle.lert_files.specs.Read.{steps}
use Rattle.lert_files.proofs.{GateLaws.{not_err, same_fault}, StepLaws.{near, read_none, read_still, up_none, steps_few, whole_log}}
use Rattle.lert_files.proofs.log.read_records.Given as given
use Rattle.lert_files.proofs.log.read_records.Invariants.{bays}
use Rattle.lert_files.proofs.log.read_records.Goals as goal

lawful : (g : given.Over) → IsLawful (bays g)
lawful g = record { as_read = g.met.B.Bay.as_read; since_now = g.met.B.Bay.since_now; only_now = g.met.B.Bay.only_now; since_earlier = g.met.B.Bay.since_earlier }

pub records-init : goal.records-init
records-init g c =
    let log = c.at_gate-log.ensures in
    record {
      records = [];
      has = read_none c.args.settings.now c.args.cone c.new-progress.result c.args.store.now.reports c.clear.new.self c.new-progress.ensures c.requires.empty
          (c.clear.ensures ∙ ap (λ (n : Numbers). replicate n.levels 0) c.numbers.ensures.value);
      up = λ seen told headed. up_none c.args.settings.now c.args.cone (seen LOG) c.at_gate-log.result.gate headed (ap (λ (log : Log). log.gate) log);
      file = ap (λ (log : Log). log.file) log;
      most = ap (λ (log : Log). log.most) log ∙ c.greatest_record.ensures.value;
      reach = omega (arith, ap (λ (log : Log). log.gate) log);
      same = refl;
      only_reads = reads_none (bays g) (lawful g) c.args.bay.now ⊥ (λ never. never);
    }

pub read_log_record-requires-clause-file : goal.read_log_record-requires-clause-file
read_log_record-requires-clause-file g c = c.records.invariant.file

pub read_log_record-requires-clause-most : goal.read_log_record-requires-clause-most
read_log_record-requires-clause-most g c = c.records.invariant.most

pub read_log_record-requires-clause-same : goal.read_log_record-requires-clause-same
read_log_record-requires-clause-same g c = c.records.invariant.same ∙ c.requires.same

pub read_log_record-requires-clause-read : goal.read_log_record-requires-clause-read
read_log_record-requires-clause-read g c = (c.records.invariant.records, c.records.invariant.has)

pub read_log_record-requires-clause-reach : goal.read_log_record-requires-clause-reach
read_log_record-requires-clause-reach g c =
    let now = c.records.invariant in
    near c.args.settings.now c.args.cone c.greatest_record.ensures.valid c.records.progress c.records.store.reports c.records.directory now.records now.has
    c.records.log.gate now.reach (omega (arith, c.greatest_record.ensures.most, c.greatest_record.ensures.value))

pub records-smaller : goal.records-smaller
records-smaller g c =
    let s = c.args.settings.now in
    let now = c.records.invariant in
    let few = steps_few s c.args.cone c.greatest_record.ensures.valid c.records.progress c.records.store.reports c.records.directory now.records now.has in
    let one_more = c.in_ok-read_log_record.ensures.steps c.if-not-branch.false in
    let falls : capacity s + 2 - steps c.read_log_record.new.progress < capacity s + 2 - steps c.records.progress = omega (arith, few, one_more) in
    falls

pub records-preserved : goal.records-preserved
records-preserved g c =
    let now = c.records.invariant in
    let read = c.in_ok-read_log_record.ensures in
    let more = read.more now.records now.has c.if-not-branch.false in
    let one_more = ap (λ n. n * (5 + most_record c.args.settings.now)) (read.steps c.if-not-branch.false) in
    record {
      records = now.records ++ more.0 ∷ [];
      has = more.1;
      up = λ seen told headed. more.2 seen (now.only_reads.seen ∙ told) (now.up seen told headed);
      file = read.log.0 ∙ now.file;
      most = read.log.1 ∙ now.most;
      reach = omega (arith, now.reach, read.forward c.if-not-branch.false, one_more);
      same = read.same ∙ now.same;
      only_reads = reads_on (bays g) (lawful g) c.args.bay.now c.records.bay c.read_log_record.new.bay ⊥ ⊥ now.only_reads
          (reads_as (bays g) (lawful g) c.records.bay c.read_log_record.new.bay _ ⊥ (λ is. absurd is) read.only_reads);
    }

pub returns-in_err-read_log_record : goal.returns-in_err-read_log_record
returns-in_err-read_log_record g c =
    let p = err_from_is_err_and c.from_residual.result c.from_residual.ensures.1 in
    let now = c.records.invariant in
    let read = c.in_err-read_log_record.ensures in
    rw (p.1, p.2) (record {
      read = tt;
      malformed = λ seen told headed file at is. read.malformed seen (now.only_reads.seen ∙ told) now.records now.has (now.up seen told headed) file at (same_fault _ _ is);
      reach = tt;
      version = tt;
      weight = tt;
      same = read.same ∙ now.same;
      fault = read.fault;
      only_reads = reads_on (bays g) (lawful g) c.args.bay.now c.records.bay c.read_log_record.new.bay ⊥ _ now.only_reads
          (reads_as (bays g) (lawful g) c.records.bay c.read_log_record.new.bay _ _ (λ is. same_fault _ _ is) read.only_reads);
    })

pub returns-then-not-branch : goal.returns-then-not-branch
returns-then-not-branch g c =
    let s = c.args.settings.now in
    let cone = c.args.cone in
    let now = c.records.invariant in
    let read = c.in_ok-read_log_record.ensures in
    let waits = read.waits c.if-not-branch.true in
    let gate = c.gate.ensures.value ∙ ap (λ (log : Log). log.gate) waits.0 in
    let has = read_still s cone c.records.progress c.read_log_record.new.progress c.records.store.reports c.read_log_record.new.store.reports c.records.directory
    c.read_log_record.new.directory now.records
    waits.1 (ap (λ (store : Stored). store.reports) waits.2) waits.3 now.has in
    let here = near s cone c.greatest_record.ensures.valid c.records.progress c.records.store.reports c.records.directory now.records now.has
    c.records.log.gate now.reach (omega (arith, c.greatest_record.ensures.most, c.greatest_record.ensures.value)) in
    record {
      read = (
        now.records,
        has.is_read,
        λ seen told headed. whole_log s cone (seen LOG) now.records c.records.log.gate c.gate.result (now.up seen told headed)
            (read.closed seen (now.only_reads.seen ∙ told) c.if-not-branch.true) gate,
      );
      malformed = λ seen told headed file at is. absurd (not_err _ _ is);
      reach = omega (arith, here, gate);
      version = refl;
      weight = refl;
      same = read.same ∙ now.same;
      fault = tt;
      only_reads = reads_on (bays g) (lawful g) c.args.bay.now c.records.bay c.read_log_record.new.bay ⊥ _ now.only_reads
          (reads_as (bays g) (lawful g) c.records.bay c.read_log_record.new.bay _ _ (λ is. absurd (not_err _ _ is)) read.only_reads);
    }
