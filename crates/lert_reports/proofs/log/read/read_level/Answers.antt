use Rattle.std.proofs.{Common.{◌≡◌, ◌+◌, Some, ap, sym, subst, ◌∙◌, false}, lemmas.Result.err_from_is_err_and}
use Rattle.lert_reports.specs.LogText.{bins_field, frame_fields, is_broken, left_at}
use Rattle.lert_reports.proofs.{DirectoryLaws.level_fields_are, FieldLaws.{broken, kept}}
use Rattle.lert_reports.proofs.log.read.read_level.Goals as goal

pub returns-in_err-frames : goal.returns-in_err-frames
returns-in_err-frames c =
    let p = err_from_is_err_and c.from_residual.result c.from_residual.ensures.1 in
    let bad = c.in_err-frames.ensures in
    let fields = level_fields_are c.args.settings.now c.args.payload.now c.args.level c.args.n0 c.args.place c.bins.result c.requires.n0 c.requires.place c.bins.ensures in
    rw (p.1, p.2)
    (ap (left_at c.args.payload.now) fields
    ∙ (broken c.args.payload.now (bins_field c.args.payload.now c.args.place c.bins.result) (frame_fields c.args.settings.now c.args.payload.now (c.args.place + 1) c.bins.result) bad.0
    ∙ ap Some (sym bad.1)))

pub returns-in_err-read_frames : goal.returns-in_err-read_frames
returns-in_err-read_frames c =
    let p = err_from_is_err_and c.from_residual-in_err-read_frames.result c.from_residual-in_err-read_frames.ensures.1 in
    let good = c.in_ok-frames.ensures in
    let fields = level_fields_are c.args.settings.now c.args.payload.now c.args.level c.args.n0 c.args.place c.in_ok-frames.frames c.requires.n0 c.requires.place (good.1 ∙ c.bins.ensures) in
    let first = subst (λ b. is_broken c.args.payload.now (bins_field c.args.payload.now c.args.place b) ≡ false) (sym good.1) good.0 in
    rw (p.1, p.2) (ap (left_at c.args.payload.now) fields ∙ kept c.args.payload.now _ _ _ first c.in_err-read_frames.ensures)

pub returns : goal.returns
returns c =
    let good = c.in_ok-frames.ensures in
    let fields = level_fields_are c.args.settings.now c.args.payload.now c.args.level c.args.n0 c.args.place c.in_ok-frames.frames c.requires.n0 c.requires.place (good.1 ∙ c.bins.ensures) in
    let first = subst (λ b. is_broken c.args.payload.now (bins_field c.args.payload.now c.args.place b) ≡ false) (sym good.1) good.0 in (
      ap (left_at c.args.payload.now) fields ∙ kept c.args.payload.now _ _ _ first c.in_ok-read_frames.ensures.0,
      ap (λ n. c.args.place + 1 + n) (good.1 ∙ c.bins.ensures),
      c.in_ok-read_frames.ensures.1,
    )
