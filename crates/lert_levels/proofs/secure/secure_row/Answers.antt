use Rattle.std.proofs.{Common.{ℕ, ◌≡◌, ◌+◌, ◌≤◌, ◌∙◌, ◌⊎◌, Some, None, get_or, length, map, refl, subst, arith}, lemmas.List.take_all, lemmas.List.Elements.Contains-get_or}
use Rattle.std.proofs.lemmas.Result.{err_from_is_err_and}
use Rattle.lert_bay.specs.declared.bay.TheConstants.{FRAMES}
use Rattle.lert_bay.proofs.KeptLaws.{IsLawful, reads_none, reads_on, reads_as}
use Rattle.lert_frames.specs.{Frame.frame_left, Place.{frame_place, frame_len}}
use Rattle.lert_frames.proofs.{FaultLaws.not_err, WriteLaws.same_err}
use Rattle.lert_spec.specs.declared.numbers.Numbers.{Numbers}
use Rattle.lert_levels.specs.{rows.Rows.no_bin, rows.Loading.width_of, Sources.{of_bin, placed_at, AllOf, IsSecure}}
use Rattle.lert_levels.proofs.PlacedLaws.{row_more}
use Rattle.lert_levels.proofs.secure.secure_row.Given as given
use Rattle.lert_levels.proofs.secure.secure_row.Invariants.{bays}
use Rattle.lert_levels.proofs.secure.secure_row.Goals as goal

lawful : (g : given.Over) → IsLawful (bays g)
lawful g = record { as_read = g.met.B.Bay.as_read; since_now = g.met.B.Bay.since_now; only_now = g.met.B.Bay.only_now; since_earlier = g.met.B.Bay.since_earlier }

pub bounds-row-bin-index : goal.bounds-row-bin-index
bounds-row-bin-index g c = c.loop-bin-test.true

pub overflow_sub-width : goal.overflow_sub-width
overflow_sub-width g c = omega (arith, c.requires.row.some c.loop-bin.bin-index no_bin c.loop-bin-test.true)

pub secure-requires : goal.secure-requires
secure-requires g c =
    let i = c.loop-bin.bin-index in
    let row = c.requires.row in
    rw c.loop-bin.invariant.room (record {
      version = c.requires.version;
      first = c.requires.first;
      last = c.requires.last;
      frame = omega (arith, c.from.ensures, row.frames i no_bin c.loop-bin-test.true);
      some = omega (arith, row.some i no_bin c.loop-bin-test.true);
      width = row.widths i no_bin c.loop-bin-test.true;
    })

pub loop-bin-init : goal.loop-bin-init
loop-bin-init g c = record { secure = λ seen told long. tt; room = refl; only_reads = reads_none (bays g) (lawful g) c.args.bay.now ⊥ (λ none. none) }

pub loop-bin-preserved : goal.loop-bin-preserved
loop-bin-preserved g c =
    let is = c.loop-bin.invariant in
    let e = c.in_ok-secure.ensures in
    let i = c.loop-bin.bin-index in
    let s = c.args.room.now in
    let level = c.args.level in
    let bin = get_or c.args.row.now i no_bin in
    record {
      secure = λ seen told long.
          row_more (IsSecure s c.args.version (seen FRAMES)) level c.args.row.now i no_bin c.loop-bin-test.true (is.secure seen told long)
          (subst (λ (frame : ℕ). (frame_place s c.args.version level frame + frame_len s c.args.version level ≤ length (seen FRAMES)) ⊎
          (frame_left s c.args.version level frame (width_of bin) (seen FRAMES) ≡ None)) c.from.ensures
          (subst (λ (t : Numbers). (frame_place t c.args.version level c.from.result + frame_len t c.args.version level ≤ length (seen FRAMES)) ⊎
          (frame_left t c.args.version level c.from.result (width_of bin) (seen FRAMES) ≡ None)) is.room
          (e.secured seen (is.only_reads.seen ∙ told) long)));
      room = e.settings ∙ is.room;
      only_reads = reads_on (bays g) (lawful g) c.args.bay.now c.loop-bin.bay c.secure.new.bay ⊥ ⊥ is.only_reads
          (reads_as (bays g) (lawful g) c.loop-bin.bay c.secure.new.bay _ ⊥ (λ none. absurd none) e.only_reads);
    }

pub returns : goal.returns
returns g c =
    let is = c.loop-bin.invariant in
    record {
      secure = λ seen told long.
          subst (λ row. AllOf (IsSecure c.args.room.now c.args.version (seen FRAMES)) (map of_bin (map (placed_at c.args.level) row)))
          (take_all c.loop-bin.bin-index c.args.row.now c.loop-bin-test.false)
          (is.secure seen told long);
      malformed = λ seen told at broken. absurd (not_err _ _ broken);
      room = is.room;
      only_reads = reads_as (bays g) (lawful g) c.args.bay.now c.loop-bin.bay ⊥ _ (λ failed. not_err _ _ failed) is.only_reads;
    }

pub returns-in_err-secure : goal.returns-in_err-secure
returns-in_err-secure g c =
    let p = err_from_is_err_and c.from_residual.result c.from_residual.ensures.1 in
    let is = c.loop-bin.invariant in
    let e = c.in_err-secure.ensures in
    let i = c.loop-bin.bin-index in
    let s = c.args.room.now in
    let level = c.args.level in
    let bin = get_or c.args.row.now i no_bin in
    rw (p.1, p.2) (record {
      secure = λ seen told long. tt;
      malformed = λ seen told at broken. record {
        bin = bin;
        named = Contains-get_or c.args.row.now i no_bin c.loop-bin-test.true;
        breaks = record {
          left = subst (λ (frame : ℕ). frame_left s c.args.version level frame (width_of bin) (seen FRAMES) ≡ Some at) c.from.ensures
              (subst (λ (t : Numbers). frame_left t c.args.version level c.from.result (width_of bin) (seen FRAMES) ≡ Some at) is.room
              (e.malformed seen (is.only_reads.seen ∙ told) at (same_err _ _ broken)));
        };
      };
      room = e.settings ∙ is.room;
      only_reads = reads_as (bays g) (lawful g) c.args.bay.now c.secure.new.bay _ _ (λ failed. same_err _ _ failed)
          (reads_on (bays g) (lawful g) c.args.bay.now c.loop-bin.bay c.secure.new.bay ⊥ _ is.only_reads e.only_reads);
    })
