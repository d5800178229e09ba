use Rattle.lert_bay.specs.Kept.{seen_by}
use Rattle.std.proofs.Common.{refl, ◌∙◌}
use Rattle.lert_bay.specs.declared.bay.TheConstants.{JOURNAL, LOG, FRAMES}
use Rattle.lert_files.proofs.{QuietLaws.{all_durable, quiet_on, quiet_sync}}
use Rattle.lert_bay.proofs.KeptLaws.{IsLawful}
use Rattle.lert_files.proofs.files.sync_files.Given as given
use Rattle.lert_files.proofs.files.sync_files.Goals as goal

lawful : (g : given.Over) → IsLawful (seen_by g.B.Faulty g.B.Bay)
lawful g = record { as_read = g.met.B.Bay.as_read; since_now = g.met.B.Bay.since_now; only_now = g.met.B.Bay.only_now; since_earlier = g.met.B.Bay.since_earlier }

pub returns-clause-durable : goal.returns-clause-durable
returns-clause-durable g c seen told =
    let then = c.sync.ensures.seen ∙ told in
    all_durable c.sync-3.result seen (g.B.Bay.leaves c.args.bay.now) (g.B.Bay.leaves c.sync.new.self) (g.B.Bay.leaves c.sync-2.new.self) (g.B.Bay.leaves c.sync-3.new.self)
    (c.in_ok-sync.ensures.durable seen told) (c.in_ok-sync-2.ensures.durable seen then) (c.sync-3.ensures.durable seen (c.sync-2.ensures.seen ∙ then))

pub returns-in_err-sync-clause-quiet : goal.returns-in_err-sync-clause-quiet
returns-in_err-sync-clause-quiet g c = quiet_sync (lawful g) c.sync.result JOURNAL _ c.sync.ensures.seen c.sync.ensures.durable
    c.sync.ensures.failed c.sync.ensures.time c.sync.ensures.cause.never_falls
    (λ is. c.in_err-sync.ensures.cause.failed refl) c.sync.ensures.mark

pub returns-in_err-sync-2-clause-quiet : goal.returns-in_err-sync-2-clause-quiet
returns-in_err-sync-2-clause-quiet g c = quiet_on (lawful g)
    (quiet_sync (lawful g) c.sync.result JOURNAL ⊥ c.sync.ensures.seen c.sync.ensures.durable c.sync.ensures.failed c.sync.ensures.time c.sync.ensures.cause.never_falls
    (λ is. absurd is) c.sync.ensures.mark) (quiet_sync (lawful g) c.sync-2.result LOG _ c.sync-2.ensures.seen c.sync-2.ensures.durable c.sync-2.ensures.failed
    c.sync-2.ensures.time c.sync-2.ensures.cause.never_falls
    (λ is. c.in_err-sync-2.ensures.cause.failed refl) c.sync-2.ensures.mark)

pub returns-clause-quiet : goal.returns-clause-quiet
returns-clause-quiet g c = quiet_on (lawful g) (quiet_on (lawful g)
    (quiet_sync (lawful g) c.sync.result JOURNAL ⊥ c.sync.ensures.seen c.sync.ensures.durable c.sync.ensures.failed c.sync.ensures.time c.sync.ensures.cause.never_falls
    (λ is. absurd is) c.sync.ensures.mark) (quiet_sync (lawful g) c.sync-2.result LOG ⊥ c.sync-2.ensures.seen c.sync-2.ensures.durable c.sync-2.ensures.failed
    c.sync-2.ensures.time c.sync-2.ensures.cause.never_falls
    (λ is. absurd is) c.sync-2.ensures.mark)) (quiet_sync (lawful g) c.sync-3.result FRAMES _ c.sync-3.ensures.seen c.sync-3.ensures.durable c.sync-3.ensures.failed
    c.sync-3.ensures.time c.sync-3.ensures.cause.never_falls
    (λ is. c.sync-3.ensures.cause.failed is) c.sync-3.ensures.mark)

-- ---- no byte is handed out

pub returns-in_err-sync-2-clause-handed : goal.returns-in_err-sync-2-clause-handed
returns-in_err-sync-2-clause-handed g c = c.sync-2.ensures.handed ∙ c.sync.ensures.handed

pub returns-clause-handed : goal.returns-clause-handed
returns-clause-handed g c = c.sync-3.ensures.handed ∙ (c.sync-2.ensures.handed ∙ c.sync.ensures.handed)
