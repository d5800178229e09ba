use Rattle.lert_bay.specs.Kept.{Bays, seen_by}
use Rattle.std.proofs.{Common.{ℕ, ◌≡◌, ◌≤◌, Some, Err, length, take, refl, ap, sym, ◌∙◌, subst, arith}, lemmas.Result.err_from_is_err_and}
use Rattle.lert_levels.specs.{rows.Checked.{EachStands, IsWeightOf, rows_total}, OnDisk.OnDisk, rows.Named.IsDirectory, rows.Rows.{IsAt, AreRows, HoldsBins}}
use Rattle.lert_spec.specs.{declared.numbers.Numbers.Numbers, Counts.{weight_of, weighed}, Edges.{capacity, edge}, Items.{AreOfVersion, IsVersion}}
use Rattle.lert_bay.specs.{declared.bay.TheConstants.{JOURNAL, FRAMES}, Files.Files}
use Rattle.lert_files.proofs.{GateLaws.{err_is, not_err, same_fault}, OpenedLaws.{by_own, check_failed, check_refused, header_refused, log_refused, opened_of}}
use Rattle.lert_files.proofs.QuietLaws.{quiet_as, quiet_on, quiet_reading, quiet_reads}
use Rattle.lert_bay.proofs.KeptLaws.{IsLawful, reading_as, reads_as}
use Rattle.lert_files.specs.{Opened.By_call}
use Rattle.lert_files.proofs.files.read_in_order.Given as given
use Rattle.lert_files.proofs.files.read_in_order.Goals as goal

abbrev bays : (g : given.Over) → Bays g.row.B.Denot
bays g = seen_by g.B.Faulty g.B.Bay

lawful : (g : given.Over) → IsLawful (bays g)
lawful g = record { as_read = g.met.B.Bay.as_read; since_now = g.met.B.Bay.since_now; only_now = g.met.B.Bay.only_now; since_earlier = g.met.B.Bay.since_earlier }

pub restore-requires-clause-within : goal.restore-requires-clause-within
restore-requires-clause-within g c =
    subst (λ (numbers : Numbers). c.in_ok-end.end.n0 ≤ capacity numbers) (sym c.requires.levels) c.in_ok-end.ensures.point.within

pub restore-requires-clause-directory : goal.restore-requires-clause-directory
restore-requires-clause-directory g c =
    let n0 = c.in_ok-end.end.n0 in
    subst (IsDirectory c.args.levels.now.settings n0) (sym c.bytes.ensures)
    (subst (λ (numbers : Numbers). IsDirectory numbers n0 c.read_whole_log.new.directory) (sym c.requires.levels) c.in_ok-end.ensures.directory)

pub returns-in_err-sync_files : goal.returns-in_err-sync_files
returns-in_err-sync_files g c =
    let p = err_from_is_err_and c.from_residual.result c.from_residual.ensures.1 in
    let synced = c.in_err-sync_files.ensures in
    rw (p.1, p.2) (record {
      point = tt;
      reach = tt;
      at = tt;
      rows = tt;
      known = tt;
      version = tt;
      weight = tt;
      reports = tt;
      told = λ seen told. By_call refl;
      headed = λ seen told. tt;
      stand = λ seen told. tt;
      sum = λ seen told. tt;
      weighs = λ seen told events. tt;
      durable = λ seen told. tt;
      same = (refl, refl);
      quiet = quiet_as (lawful g) (λ is. refl) synced.quiet;
      handed = omega (arith, ap (λ (out : ℕ → ℕ). out JOURNAL) synced.handed);
    })

pub returns-in_err-version : goal.returns-in_err-version
returns-in_err-version g c =
    let p = err_from_is_err_and c.from_residual-in_err-version.result c.from_residual-in_err-version.ensures.1 in
    let synced = c.sync_files.ensures in
    let header = c.in_err-version.ensures in
    rw (p.1, p.2) (record {
      point = tt;
      reach = tt;
      at = tt;
      rows = tt;
      known = tt;
      version = tt;
      weight = tt;
      reports = tt;
      told = λ seen told. header_refused c.args.settings.now c.args.cone seen _ (header.told seen (synced.quiet.seen ∙ told));
      headed = λ seen told. tt;
      stand = λ seen told. tt;
      sum = λ seen told. tt;
      weighs = λ seen told events. tt;
      durable = λ seen told. tt;
      same = (refl, refl);
      quiet = quiet_on (lawful g) synced.quiet (quiet_reading (lawful g)
          (reading_as (bays g) (lawful g) c.sync_files.new.bay c.read_journal_header.new.bay _ _ (λ is. same_fault _ _ is) header.only_reads));
      handed = omega (arith, ap (λ (out : ℕ → ℕ). out JOURNAL) synced.handed, header.handed.at_most);
    })

pub returns-in_err-end : goal.returns-in_err-end
returns-in_err-end g c =
    let p = err_from_is_err_and c.from_residual-in_err-end.result c.from_residual-in_err-end.ensures.1 in
    let synced = c.sync_files.ensures in
    let header = c.read_journal_header.ensures in
    let log = c.in_err-end.ensures in
    rw (p.1, p.2) (record {
      point = tt;
      reach = tt;
      at = tt;
      rows = tt;
      known = tt;
      version = tt;
      weight = tt;
      reports = tt;
      told = λ seen told.
          let there = synced.quiet.seen ∙ told in
          log_refused c.args.settings.now c.args.cone seen _ (c.in_ok-version.ensures.told seen there).0 log.fault
          (λ file at is. log.malformed seen (header.only_reads.seen ∙ there) file at (ap Err is));
      headed = λ seen told. tt;
      stand = λ seen told. tt;
      sum = λ seen told. tt;
      weighs = λ seen told events. tt;
      durable = λ seen told. tt;
      same = (refl, log.same);
      quiet = quiet_on (lawful g) (quiet_on (lawful g) synced.quiet (quiet_reading (lawful g) header.only_reads)) (quiet_reads (lawful g)
          (reads_as (bays g) (lawful g) c.read_journal_header.new.bay c.read_whole_log.new.bay _ _ (λ is. same_fault _ _ is) log.only_reads));
      handed = omega (arith, ap (λ (out : ℕ → ℕ). out JOURNAL) synced.handed, header.handed.at_most, log.only_reads.kept.journal);
    })

pub returns-in_err-weight : goal.returns-in_err-weight
returns-in_err-weight g c =
    let p = err_from_is_err_and c.from_residual-in_err-weight.result c.from_residual-in_err-weight.ensures.1 in
    let synced = c.sync_files.ensures in
    let header = c.read_journal_header.ensures in
    let log = c.in_ok-end.ensures in
    let restored = c.restore.ensures in
    let check = c.in_err-weight.ensures in
    let end = c.in_ok-end.end in
    rw p.1 (record {
      point = tt;
      reach = tt;
      at = tt;
      rows = tt;
      known = tt;
      version = tt;
      weight = tt;
      reports = tt;
      told = λ seen told.
          let there = synced.quiet.seen ∙ told in
          let headed = c.in_ok-version.ensures.told seen there in
          let before = header.only_reads.seen ∙ there in
          check_refused c.args.settings.now c.args.cone seen end.n0 end.offset end.first end.closed c.read_whole_log.new.store.reports c.read_whole_log.new.directory log.read.0
          end.log_end
          headed.0 log.read.1 (log.read.2 seen before) c.restore.new.self (restored.settings ∙ c.requires.levels) (restored.version ∙ headed.1) restored.at
          restored.rows (restored.directory ∙ c.bytes.ensures)
          p.0 c.in_err-weight.field-0.0 p.2 (λ at is. check.malformed seen (log.only_reads.seen ∙ before) at (ap Err is));
      headed = λ seen told. tt;
      stand = λ seen told. tt;
      sum = λ seen told. tt;
      weighs = λ seen told events. tt;
      durable = λ seen told. tt;
      same = (ap (λ (disk : OnDisk). disk.settings) check.same ∙ restored.settings, log.same);
      quiet = quiet_on (lawful g) (quiet_on (lawful g) (quiet_on (lawful g) synced.quiet (quiet_reading (lawful g) header.only_reads)) (quiet_reads (lawful g) log.only_reads))
          (quiet_reads (lawful g)
          (reads_as (bays g) (lawful g) c.read_whole_log.new.bay c.check.new.bay _ _ (λ is. ap Err (check_failed _ (sym p.2 ∙ err_is _ _ is))) check.only_reads));
      handed = omega (arith, ap (λ (out : ℕ → ℕ). out JOURNAL) synced.handed, header.handed.at_most, log.only_reads.kept.journal, check.only_reads.kept.journal);
    })

pub returns : goal.returns
returns g c =
    let synced = c.sync_files.ensures in
    let header = c.read_journal_header.ensures in
    let log = c.in_ok-end.ensures in
    let restored = c.restore.ensures in
    let check = c.in_ok-weight.ensures in
    let end = c.in_ok-end.end in
    let s = c.args.settings.now in
    let own = restored.settings ∙ c.requires.levels in
    let turned = by_own c.restore.new.self c.check.new.self s end.version own (restored.version ∙ sym log.version) check.same in
    let within = subst (λ (numbers : Numbers). end.n0 ≤ capacity numbers) (sym own) log.point.within in
    let weight = c.in_ok-weight.weight in
    let before = λ (seen : Files) (told : g.B.Bay.files c.args.bay.now ≡ Some seen). log.only_reads.seen ∙ (header.only_reads.seen ∙ (synced.quiet.seen ∙ told)) in
    record {
      point = log.point;
      reach = log.reach;
      at = turned (λ s v rows. IsAt s end.n0 rows) restored.at;
      rows = turned (λ s v rows. AreRows s rows) restored.rows;
      known = subst IsVersion (sym log.version) c.in_ok-version.ensures.known;
      version = ap (λ (disk : OnDisk). disk.version) check.same ∙ (restored.version ∙ sym log.version);
      weight = turned (λ s v rows. IsWeightOf v (edge s 0 end.n0) weight) (check.between end.n0 within restored.at);
      reports = log.reports;
      told = λ seen told.
          let there = synced.quiet.seen ∙ told in
          let headed = c.in_ok-version.ensures.told seen there in
          let opened = opened_of c.args.settings.now c.args.cone seen end.n0 end.offset end.first end.closed c.read_whole_log.new.store.reports c.read_whole_log.new.directory
          log.read.0 end.log_end
          headed.0 log.read.1 (log.read.2 seen (header.only_reads.seen ∙ there)) c.restore.new.self own (restored.version ∙ headed.1) restored.at
          restored.rows (restored.directory ∙ c.bytes.ensures) c.check.new.self check.same (check.whole seen (before seen told)) in
          (log.read.0, opened.0, opened.1);
      headed = λ seen told. log.version ∙ (c.in_ok-version.ensures.told seen (synced.quiet.seen ∙ told)).1;
      stand = λ seen told. turned (λ s v rows. EachStands s v (seen FRAMES) rows) (check.stand seen (before seen told));
      sum = λ seen told. turned (λ s v rows. weight ≡ rows_total s v (seen FRAMES) 1 rows) (check.sum seen (before seen told));
      weighs = λ seen told events.
          turned
          (λ s v rows. edge s 0 end.n0 ≤ length events → AreOfVersion v events → HoldsBins s v events rows (seen FRAMES) → weight ≡ weight_of weighed (take (edge s 0 end.n0) events))
          (λ enough light holds. check.weighs seen (before seen told) end.n0 events within restored.at enough light holds);
      durable = λ seen told image may.
          c.in_ok-sync_files.ensures.durable seen told image ((header.only_reads.images image).0 ((log.only_reads.images image).0 ((check.only_reads.images image).0 may)));
      same = (ap (λ (disk : OnDisk). disk.settings) check.same ∙ restored.settings, log.same);
      quiet = quiet_on (lawful g) (quiet_on (lawful g) (quiet_on (lawful g) synced.quiet (quiet_reading (lawful g) header.only_reads)) (quiet_reads (lawful g) log.only_reads))
          (quiet_reads (lawful g) (reads_as (bays g) (lawful g) c.read_whole_log.new.bay c.check.new.bay _ _ (λ is. absurd (not_err _ _ is)) check.only_reads));
      handed = omega (arith, ap (λ (out : ℕ → ℕ). out JOURNAL) synced.handed, header.handed.at_most, log.only_reads.kept.journal, check.only_reads.kept.journal);
    }
