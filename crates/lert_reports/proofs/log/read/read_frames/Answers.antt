use Rattle.std.proofs.Common.{◌+◌, [], ◌∷◌, sym, ◌∙◌, arith}
use Rattle.lert_reports.specs.LogText.{frame_field}
use Rattle.lert_reports.proofs.FieldLaws.{broken, kept, none_left, whole, next_of, found_of}
use Rattle.lert_reports.proofs.log.read.read_frames.Goals as goal

pub loop-k-init : goal.loop-k-init
loop-k-init c = (none_left c.args.payload.now, omega (arith, c.requires))

pub returns-then-is_bad_frame : goal.returns-then-is_bad_frame
returns-then-is_bad_frame c =
    found_of c.args.payload.now (λ k. frame_field c.args.settings.now c.args.payload.now c.args.start k ∷ []) c.loop-k.k c.args.frames 0 c.loop-k.k _
    (omega arith) c.loop-k-test.true c.loop-k.invariant.0
    (broken c.args.payload.now (frame_field c.args.settings.now c.args.payload.now c.args.start c.loop-k.k) [] (sym c.is_bad_frame.ensures ∙ c.if-is_bad_frame.true))

pub loop-k-preserved : goal.loop-k-preserved
loop-k-preserved c =
    let good = sym c.is_bad_frame.ensures ∙ c.if-is_bad_frame.false in (
      next_of c.args.payload.now (λ k. frame_field c.args.settings.now c.args.payload.now c.args.start k ∷ []) c.loop-k.k 0 c.loop-k.k (c.loop-k.k + 1)
          (omega arith) (omega arith) c.loop-k.invariant.0
          (kept c.args.payload.now (frame_field c.args.settings.now c.args.payload.now c.args.start c.loop-k.k) [] _ good (none_left c.args.payload.now)),
      omega (arith, whole c.args.payload.now (frame_field c.args.settings.now c.args.payload.now c.args.start c.loop-k.k) good),
    )
