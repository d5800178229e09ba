use Rattle.std.proofs.Common.{ℕ, ◌≡◌, ◌∙◌, Some, None, subst, arith}
use Rattle.std.specs.Prelude.{IfOk, OnOk}
use Rattle.lert_spec.specs.Table.{total}
use Rattle.lert_bay.specs.declared.bay.TheConstants.{FRAMES}
use Rattle.lert_frames.specs.{Frame.{HoldsFrame, IsBin, frame_left, frame_pieces}, Place.tail_limit}
use Rattle.lert_levels.specs.rows.Loading.{width_of}
use Rattle.lert_levels.proofs.rows.ReadLaws.{checked_stands, level_from}
use Rattle.lert_levels.proofs.rows.check.check_bin.Goals as goal

pub returns : goal.returns
returns g c =
    let s = c.args.reader.now.settings in
    let level = c.args.level in
    let bin = c.args.bin.now in
    let frame = c.from-frame.result in
    let begun = c.start_at.ensures in
    let e = c.check.ensures in
    record {
      stand = λ seen told.
          checked_stands c.check.result s c.args.version level bin frame (seen FRAMES) c.from-frame.ensures
          (level_from (λ t l. OnOk c.check.result (IsBin c.args.version (tail_limit t) (width_of bin) (frame_pieces t c.args.version l frame (seen FRAMES))))
          s _ level _ begun.settings begun.level (e.bin seen told))
          (level_from (λ t l. OnOk c.check.result (HoldsFrame t c.args.version l frame (seen FRAMES) (frame_pieces t c.args.version l frame (seen FRAMES))))
          s _ level _ begun.settings begun.level (e.stands seen told));
      whole = λ seen told.
          subst (λ (frame : ℕ). OnOk c.check.result (frame_left s c.args.version level frame (width_of bin) (seen FRAMES) ≡ None)) c.from-frame.ensures
          (level_from (λ t l. OnOk c.check.result (frame_left t c.args.version l frame (width_of bin) (seen FRAMES) ≡ None)) s _ level _ begun.settings begun.level (e.whole seen told));
      malformed = λ seen told at is.
          subst (λ (frame : ℕ). frame_left s c.args.version level frame (width_of bin) (seen FRAMES) ≡ Some at) c.from-frame.ensures
          (level_from (λ t l. frame_left t c.args.version l frame (width_of bin) (seen FRAMES) ≡ Some at) s _ level _ begun.settings begun.level (e.malformed seen told at is));
      between = e.between;
      sum = λ seen told.
          subst (λ (frame : ℕ). IfOk c.check.result (λ sum. sum ≡ total (frame_pieces s c.args.version level frame (seen FRAMES)))) c.from-frame.ensures
          (level_from (λ t l. IfOk c.check.result (λ sum. sum ≡ total (frame_pieces t c.args.version l frame (seen FRAMES)))) s _ level _ begun.settings begun.level (e.sum seen told));
      settings = e.settings ∙ begun.settings;
      only_reads = e.only_reads;
    }

-- ---- what the reader asks for

pub overflow_sub-width : goal.overflow_sub-width
overflow_sub-width g c = omega (arith, c.requires.some)

pub check-requires : goal.check-requires
check-requires g c = rw (c.start_at.ensures.settings, c.start_at.ensures.level) (record {
  version = c.requires.version;
  frame = omega (arith, c.from-frame.ensures, c.requires.frame);
  some = omega (arith, c.requires.some);
  width = c.requires.width;
})
