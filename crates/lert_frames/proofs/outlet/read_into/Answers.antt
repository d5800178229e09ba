use Rattle.lert_bay.specs.Kept.{seen_by}
use Rattle.std.{proofs.Common.{◌≡◌, ◌+◌, ◌∙◌, length, take, drop, refl, sym, ap, arith}, proofs.lemmas.Bool.false≢true}
use Rattle.lert_bay.{specs.declared.bay.TheConstants.{JOURNAL, FRAMES}, proofs.KeptLaws.{IsLawful, apart_from_frames, reads_call}}
use Rattle.lert_frames.{proofs.OutletLaws.laid_behind, proofs.PartLaws.part_is}
use Rattle.lert_frames.proofs.outlet.read_into.Given as given
use Rattle.lert_frames.proofs.outlet.read_into.Goals as goal

lawful : (g : given.Over) → IsLawful (seen_by g.B.Faulty g.B.Bay)
lawful g = record { as_read = g.met.B.Bay.as_read; since_now = g.met.B.Bay.since_now; only_now = g.met.B.Bay.only_now; since_earlier = g.met.B.Bay.since_earlier }

pub returns-clause-told : goal.returns-clause-told
returns-clause-told g c seen told within =
    let read = c.in_ok-read_at.ensures.told seen told in
    let file = seen FRAMES in
    let buffer = c.read_at.new.into in
    let long : length buffer ≡ c.args.count = omega (arith, c.read_at.auto.into) in
    let all : c.in_ok-read_at.field-0 ≡ c.args.count = omega (arith, read.count_is, within) in
    let copied : take c.args.count buffer ≡ take c.args.count (drop c.args.from file) =
    ap (λ n. take n buffer) (sym all) ∙ (read.copied ∙ ap (λ n. take n (drop c.args.from file)) all) in
    laid_behind c.args.place c.args.count c.args.into.now buffer _ _ (omega arith) (omega (arith, long))
    (copied ∙ sym (part_is file c.args.from c.args.count (c.args.from + c.args.count) (omega arith)))

-- the file of frames is read, and no other
pub returns-in_err-read_at-clause-only_reads : goal.returns-in_err-read_at-clause-only_reads
returns-in_err-read_at-clause-only_reads g c =
    let read = c.in_err-read_at.ensures in
    reads_call _ (lawful g) c.args.bay.now c.read_at.new.self _ read.time read.cause.never_falls (λ is. read.cause.failed refl) read.mark read.seen read.images
    (read.handed.others JOURNAL apart_from_frames)

pub returns-clause-only_reads : goal.returns-clause-only_reads
returns-clause-only_reads g c =
    let read = c.in_ok-read_at.ensures in
    reads_call _ (lawful g) c.args.bay.now c.read_at.new.self _ read.time read.cause.never_falls (λ never. absurd (false≢true never)) read.mark read.seen read.images
    (read.handed.others JOURNAL apart_from_frames)
