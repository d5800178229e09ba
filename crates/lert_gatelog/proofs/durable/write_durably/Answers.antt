use Rattle.std.proofs.{Common.{IsErr, ℕ, ap, length}, lemmas.Result.err_from_is_err_and}
use Rattle.lert_bay.specs.{declared.bay.TheConstants.JOURNAL, Kept.{Bays, seen_by}}
use Rattle.lert_bay.proofs.KeptLaws.{IsLawful, keeps_call}
use Rattle.lert_gatelog.proofs.Moments.{moments_write, write_synced}
use Rattle.lert_gatelog.proofs.durable.write_durably.Given as given
use Rattle.lert_gatelog.proofs.durable.write_durably.Goals as goal

abbrev bays : (g : given.Over) → Bays g.row.B.Denot
bays g = seen_by g.B.Faulty g.B.Bay

lawful : (g : given.Over) → IsLawful (bays g)
lawful g = record { as_read = g.met.B.Bay.as_read; since_now = g.met.B.Bay.since_now; only_now = g.met.B.Bay.only_now; since_earlier = g.met.B.Bay.since_earlier }

pub returns-in_err-write_at : goal.returns-in_err-write_at
returns-in_err-write_at g c =
    let p = err_from_is_err_and c.from_residual.result c.from_residual.ensures.1 in
    rw (p.1, p.2) (record {
      written = tt;
      seen = c.in_err-write_at.ensures.failed;
      moments = λ seen told. moments_write (bays g) (lawful g) c.args.bay.now c.write_at.new.self c.args.file c.args.at (length c.args.bytes.now)
          c.write_at.ensures.images c.write_at.ensures.time;
      durable = tt;
      kept = keeps_call (bays g) (lawful g) c.args.bay.now c.write_at.new.self _ c.write_at.ensures.time
          c.in_err-write_at.ensures.cause.never_falls c.in_err-write_at.ensures.cause.failed c.write_at.ensures.mark
          (ap (λ (told : ℕ → ℕ). told JOURNAL) c.write_at.ensures.handed);
    })

pub returns : goal.returns
returns g c = write_synced (bays g) (lawful g) c.args.file c.args.at c.args.bytes.now c.args.bay.now c.write_at.new.self c.sync.new.self c.sync.result
    c.in_ok-write_at.ensures.written c.write_at.ensures.images c.write_at.ensures.time
    (keeps_call (bays g) (lawful g) c.args.bay.now c.write_at.new.self (IsErr c.write_at.result) c.write_at.ensures.time
    c.write_at.ensures.cause.never_falls c.write_at.ensures.cause.failed c.write_at.ensures.mark
    (ap (λ (told : ℕ → ℕ). told JOURNAL) c.write_at.ensures.handed))
    c.sync.ensures.seen c.sync.ensures.durable c.sync.ensures.failed c.sync.ensures.time
    (keeps_call (bays g) (lawful g) c.write_at.new.self c.sync.new.self (IsErr c.sync.result) c.sync.ensures.time
    c.sync.ensures.cause.never_falls c.sync.ensures.cause.failed c.sync.ensures.mark (ap (λ (told : ℕ → ℕ). told JOURNAL) c.sync.ensures.handed))
