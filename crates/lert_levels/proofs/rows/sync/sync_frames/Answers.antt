use Rattle.std.proofs.Common.{ℕ, ap}
use Rattle.lert_bay.specs.{declared.bay.TheConstants.JOURNAL, Kept.{Bays, seen_by}}
use Rattle.lert_bay.proofs.KeptLaws.{IsLawful, keeps_call}
use Rattle.lert_levels.specs.rows.Landing.{Anywhere}
use Rattle.lert_levels.proofs.rows.LandLaws.{sync_rest, synced_was, synced_durable}
use Rattle.lert_levels.proofs.rows.sync.sync_frames.Given as given
use Rattle.lert_levels.proofs.rows.sync.sync_frames.Goals as goal

abbrev bays : (g : given.Over) → Bays g.row.B.Denot
bays g = seen_by g.B.Faulty g.B.Bay

lawful : (g : given.Over) → IsLawful (bays g)
lawful g = record { as_read = g.met.B.Bay.as_read; since_now = g.met.B.Bay.since_now; only_now = g.met.B.Bay.only_now; since_earlier = g.met.B.Bay.since_earlier }

pub returns : goal.returns
returns g c =
    let e = c.sync.ensures in
    let files = g.B.Bay.files in
    let leaves = g.B.Bay.leaves in
    record {
      seen = e.seen;
      durable = synced_durable c.sync.result (files c.args.bay.now) (files c.sync.new.self) (leaves c.args.bay.now) (leaves c.sync.new.self) e.seen e.durable;
      rest = sync_rest (bays g) (lawful g) Anywhere c.args.bay.now c.sync.new.self e.time e.seen
          (synced_was c.sync.result (files c.args.bay.now) (leaves c.args.bay.now) (leaves c.sync.new.self) e.durable e.failed);
      kept = keeps_call (bays g) (lawful g) c.args.bay.now c.sync.new.self _ e.time e.cause.never_falls e.cause.failed e.mark (ap (λ (handed : ℕ → ℕ). handed JOURNAL) e.handed);
    }
