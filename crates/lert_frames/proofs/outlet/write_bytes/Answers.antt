use Rattle.lert_bay.specs.Kept.{seen_by}
use Rattle.std.proofs.Common.{ℕ, length, ap}
use Rattle.lert_bay.{specs.declared.bay.TheConstants.{JOURNAL, FRAMES}, specs.Files.{Holds, LeftByFailure}, proofs.KeptLaws.{IsLawful, keeps_call}}
use Rattle.lert_frames.{proofs.WithinLaws.{held_within, left_within, within_wrote}, proofs.WriteLaws.{either_way, wrote_once}}
use Rattle.lert_frames.proofs.outlet.write_bytes.Given as given
use Rattle.lert_frames.proofs.outlet.write_bytes.Goals as goal

lawful : (g : given.Over) → IsLawful (seen_by g.B.Faulty g.B.Bay)
lawful g = record { as_read = g.met.B.Bay.as_read; since_now = g.met.B.Bay.since_now; only_now = g.met.B.Bay.only_now; since_earlier = g.met.B.Bay.since_earlier }

pub returns-clause-within : goal.returns-clause-within
returns-clause-within g c begin end low high =
    let at = c.args.at in
    let bytes = c.args.bytes.now in
    let old = c.args.bay.now in
    let new = c.write_at.new.self in
    either_way _ _ _ c.write_at.result c.write_at.ensures.written c.write_at.ensures.failed
    (λ turned. within_wrote _ begin end (Holds at bytes) at (length bytes) old new (λ a b held. held_within at begin end bytes a b low high held) low high
    (wrote_once _ (lawful g) (Holds at bytes) FRAMES at (length bytes) old new turned c.write_at.ensures.images c.write_at.ensures.time))
    (λ turned. within_wrote _ begin end (LeftByFailure at (length bytes)) at (length bytes) old new
    (λ a b left. left_within at (length bytes) begin end a b low high left) low high
    (wrote_once _ (lawful g) (LeftByFailure at (length bytes)) FRAMES at (length bytes) old new turned c.write_at.ensures.images c.write_at.ensures.time))

pub returns-clause-kept : goal.returns-clause-kept
returns-clause-kept g c =
    let wrote = c.write_at.ensures in
    keeps_call _ (lawful g) c.args.bay.now c.write_at.new.self _ wrote.time wrote.cause.never_falls wrote.cause.failed wrote.mark
    (ap (λ (handed : ℕ → ℕ). handed JOURNAL) wrote.handed)
