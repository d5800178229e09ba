use Rattle.lert_bay.specs.Kept.{Bays, seen_by}
use Rattle.std.proofs.{Common.{◌≡◌, Some, Ok, min, length, refl, ◌∙◌, arith, subst, inl, inr}, lemmas.Result.{err_from_is_err_and, IfErr-weaker}}
use Rattle.lert_bay.specs.{declared.bay.TheConstants.JOURNAL, Files.Files}
use Rattle.lert_spec.specs.Limits.{IsValid}
use Rattle.lert_files.proofs.{HeadLaws.{told, headed_back, left_back, other_back, read_front}}
use Rattle.lert_bay.proofs.{HandedLaws.{up_to_on, up_to_room, up_to_same}, KeptLaws.{IsLawful, reading_call, reading_on}}
use Rattle.lert_files.proofs.journal_header.read_journal_header.Given as given
use Rattle.lert_files.proofs.journal_header.read_journal_header.Goals as goal

abbrev bays : (g : given.Over) → Bays g.row.B.Denot
bays g = seen_by g.B.Faulty g.B.Bay

lawful : (g : given.Over) → IsLawful (bays g)
lawful g = record { as_read = g.met.B.Bay.as_read; since_now = g.met.B.Bay.since_now; only_now = g.met.B.Bay.only_now; since_earlier = g.met.B.Bay.since_earlier }

pub returns-in_err-end : goal.returns-in_err-end
returns-in_err-end g c =
    let p = err_from_is_err_and c.from_residual.result c.from_residual.ensures.1 in
    let start = c.args.bay.now in
    let len = c.in_err-end.ensures in
    rw (p.1, p.2) (record {
      known = tt;
      told = λ seen is. inl refl;
      reads_back = λ seen is headed. refl;
      refuses = λ seen is at left. inl refl;
      differs = λ seen is kept has. inl refl;
      fault = inl refl;
      only_reads = reading_call (bays g) (lawful g) start c.len.new.self _ len.time len.cause.never_falls (λ is. len.cause.failed refl) len.mark len.seen len.images;
      handed = up_to_same JOURNAL 32 (g.B.Bay.handed_out start) (g.B.Bay.handed_out c.len.new.self) len.handed;
    })

pub returns-in_err-count : goal.returns-in_err-count
returns-in_err-count g c =
    let p = err_from_is_err_and c.from_residual-in_err-count.result c.from_residual-in_err-count.ensures.1 in
    let start = c.args.bay.now in
    let len = c.len.ensures in
    let read = c.in_err-count.ensures in
    rw (p.1, p.2) (record {
      known = tt;
      told = λ seen is. inl refl;
      reads_back = λ seen is headed. refl;
      refuses = λ seen is at left. inl refl;
      differs = λ seen is kept has. inl refl;
      fault = inl refl;
      only_reads = reading_on (bays g) (lawful g) start c.len.new.self c.read_at.new.self ⊥ _
          (reading_call (bays g) (lawful g) start c.len.new.self ⊥ len.time len.cause.never_falls (λ is. absurd is) len.mark len.seen len.images)
          (reading_call (bays g) (lawful g) c.len.new.self c.read_at.new.self _ read.time read.cause.never_falls (λ is. read.cause.failed refl) read.mark read.seen read.images);
      handed = up_to_on JOURNAL 0 32 32 (g.B.Bay.handed_out start) (g.B.Bay.handed_out c.len.new.self) (g.B.Bay.handed_out c.read_at.new.self) (omega arith)
          (up_to_same JOURNAL 0 (g.B.Bay.handed_out start) (g.B.Bay.handed_out c.len.new.self) len.handed)
          (up_to_same JOURNAL 32 (g.B.Bay.handed_out c.len.new.self) (g.B.Bay.handed_out c.read_at.new.self) read.handed.failed);
    })

pub returns : goal.returns
returns g c =
    let s = c.args.settings.now in
    let cone = c.args.cone in
    let start = c.args.bay.now in
    let limits = (subst IsValid c.numbers.ensures.value c.numbers.ensures.valid).limits in
    let len = c.in_ok-end.ensures in
    let read = c.in_ok-count.ensures in
    let result = c.check_header.result in
    let said = λ (seen : Files) (is : g.B.Bay.files start ≡ Some seen).
    let copied = read.told seen (len.seen ∙ is) in
    let count_is : c.in_ok-count.count ≡ min 32 (length (seen JOURNAL)) = omega (arith, copied.count_is, c.read_at.auto.into) in
    told s cone limits c.ranges.cone.fits (seen JOURNAL) result
    (c.check_header.ensures.told (seen JOURNAL) (len.told seen is) (read_front 32 c.in_ok-count.count c.read_at.new.into (seen JOURNAL) count_is copied.copied)) in
    record {
      known = c.check_header.ensures.known;
      told = said;
      reads_back = λ seen is headed. headed_back s cone limits c.ranges.cone.fits (seen JOURNAL) result (said seen is) headed;
      refuses = λ seen is at left. left_back s cone limits c.ranges.cone.fits (seen JOURNAL) result (said seen is) at left;
      differs = λ seen is kept has. other_back s cone limits c.ranges.cone.fits (seen JOURNAL) result (said seen is) kept has;
      fault = IfErr-weaker result _ _ (λ fault of. inr of) c.check_header.ensures.fault;
      only_reads = reading_on (bays g) (lawful g) start c.len.new.self c.read_at.new.self ⊥ _
          (reading_call (bays g) (lawful g) start c.len.new.self ⊥ len.time len.cause.never_falls (λ is. absurd is) len.mark len.seen len.images)
          (reading_call (bays g) (lawful g) c.len.new.self c.read_at.new.self _ read.time read.cause.never_falls (λ is. absurd (c.check_header.ensures.decided is)) read.mark
          read.seen read.images);
      handed = up_to_on JOURNAL 0 32 32 (g.B.Bay.handed_out start) (g.B.Bay.handed_out c.len.new.self) (g.B.Bay.handed_out c.read_at.new.self) (omega arith)
          (up_to_same JOURNAL 0 (g.B.Bay.handed_out start) (g.B.Bay.handed_out c.len.new.self) len.handed)
          (up_to_room JOURNAL 32 (g.B.Bay.files c.len.new.self) (g.B.Bay.handed_out c.len.new.self) (g.B.Bay.handed_out c.read_at.new.self) (Ok c.in_ok-count.count)
          read.handed (omega (arith, read.within, c.read_at.auto.into)));
    }
