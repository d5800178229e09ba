use Rattle.std.proofs.{Common.{arith, refl, true}, lemmas.Result.err_from_is_err_and}
use Rattle.lert_bay.specs.Kept.{Bays, seen_by}
use Rattle.lert_bay.proofs.{HandedLaws.{up_to_same, up_to_room}, KeptLaws.IsLawful}
use Rattle.lert_gatelog.proofs.{Announcing.failed_no_place, Seen.reads_once}
use Rattle.lert_gatelog.proofs.gate_log.GateLog.look.Given as given
use Rattle.lert_gatelog.proofs.gate_log.GateLog.look.Goals as goal

abbrev bays : (g : given.Over) → Bays g.row.B.Denot
bays g = seen_by g.B.Faulty g.B.Bay

lawful : (g : given.Over) → IsLawful (bays g)
lawful g = record { as_read = g.met.B.Bay.as_read; since_now = g.met.B.Bay.since_now; only_now = g.met.B.Bay.only_now; since_earlier = g.met.B.Bay.since_earlier }

pub returns-in_err-read : goal.returns-in_err-read
returns-in_err-read g c =
    let p = err_from_is_err_and c.from_residual.result c.from_residual.ensures.1 in
    let failed = c.in_err-read.ensures in
    rw (p.1, p.2) (record {
      looked = λ seen told. record { announced = tt; closed = tt; malformed = λ at is. absurd (failed_no_place at is) };
      counted = tt;
      only_reads = reads_once (bays g) (lawful g) c.args.bay.now c.read_at.new.self _ _ (λ _. refl {a = true}) failed.time failed.cause failed.mark failed.seen failed.images;
      handed = up_to_same _ _ _ _ failed.handed.failed;
    })

-- the bytes at the gate say what the look answers
pub returns-clause-looked : goal.returns-clause-looked
returns-clause-looked g c = rw (← c.self.view_is) (λ seen told. (rw (← c.self.view_is) at c.announced.ensures.looked) (seen c.self.inside.file)
    ((rw (← c.self.view_is) at c.requires.end) seen told) (c.in_ok-read.ensures.told seen told))

pub returns-clause-only_reads : goal.returns-clause-only_reads
returns-clause-only_reads g c = reads_once (bays g) (lawful g) c.args.bay.now c.read_at.new.self c.read_at.result _ (λ is. absurd (c.announced.ensures.never_failed is))
    c.read_at.ensures.time c.read_at.ensures.cause c.read_at.ensures.mark c.read_at.ensures.seen c.read_at.ensures.images

pub returns-clause-handed : goal.returns-clause-handed
returns-clause-handed g c = rw (← c.self.view_is) (up_to_room _ _ _ _ _ _ c.in_ok-read.ensures.handed (omega (arith, c.in_ok-read.ensures.within, c.read_at.auto.into)))
