use Rattle.std.proofs.{Common.{◌≡◌, ◌+◌, ◌*◌, ◌^◌, ◌∙◌, take, refl, arith, Some, None, get_or, map, subst, sym, ap}, lemmas.List.take_all, lemmas.List.Elements.All-more}
use Rattle.std.proofs.{lemmas.Result.err_from_is_err_and}
use Rattle.lert_bay.specs.declared.bay.TheConstants.{FRAMES}
use Rattle.lert_bay.proofs.KeptLaws.{IsLawful, reads_none, reads_on, reads_as}
use Rattle.lert_frames.proofs.{FaultLaws.not_err, WriteLaws.same_err}
use Rattle.lert_spec.specs.{declared.numbers.Numbers.Numbers, Table.total}
use Rattle.lert_levels.specs.{rows.Rows.no_bin, rows.Checked.{pieces_in, IsWeightOf, RowStands, bin_left, first_of, row_total, row_width}, rows.Loading.Stands}
use Rattle.lert_levels.proofs.rows.{CheckLaws.{row_more, row_breaks}, SumLaws.{row_few, row_part, row_total_more, row_weight_more, sum_small, weight_none}}
use Rattle.lert_levels.proofs.rows.check.check_row.Given as given
use Rattle.lert_levels.proofs.rows.check.check_row.Invariants.{bays}
use Rattle.lert_levels.proofs.rows.check.check_row.Goals as goal

lawful : (g : given.Over) → IsLawful (bays g)
lawful g = record { as_read = g.met.B.Bay.as_read; since_now = g.met.B.Bay.since_now; only_now = g.met.B.Bay.only_now; since_earlier = g.met.B.Bay.since_earlier }

pub bounds-row-bin-index : goal.bounds-row-bin-index
bounds-row-bin-index g c = c.loop-bin-test.true

pub check_bin-requires : goal.check_bin-requires
check_bin-requires g c =
    let i = c.loop-bin.bin-index in
    let row = c.requires.row in
    rw c.loop-bin.invariant.settings (record {
      version = c.requires.version;
      first = c.requires.first;
      last = c.requires.last;
      frame = row.frames i no_bin c.loop-bin-test.true;
      some = row.some i no_bin c.loop-bin-test.true;
      width = row.widths i no_bin c.loop-bin-test.true;
      end = row.ends i no_bin c.loop-bin-test.true;
    })

pub loop-bin-init : goal.loop-bin-init
loop-bin-init g c = record {
  stand = λ seen told k d below. absurd (omega (arith, below));
  whole = λ seen told. refl;
  between = weight_none c.args.version;
  sum = λ seen told. refl;
  settings = refl;
  only_reads = reads_none (bays g) (lawful g) c.args.bay.now ⊥ (λ none. none);
}

pub loop-bin-preserved : goal.loop-bin-preserved
loop-bin-preserved g c =
    let is = c.loop-bin.invariant in
    let e = c.in_ok-of_bin.ensures in
    let i = c.loop-bin.bin-index in
    let s = c.args.reader.now.settings in
    let level = c.args.level in
    let bin = get_or c.args.row.now i no_bin in
    record {
      stand = λ seen told.
          All-more (Stands s c.args.version level (seen FRAMES) (pieces_in s c.args.version (seen FRAMES) level)) c.args.row.now i no_bin c.loop-bin-test.true (is.stand seen told)
          (subst (λ (t : Numbers). Stands t c.args.version level (seen FRAMES) (pieces_in t c.args.version (seen FRAMES) level) bin) is.settings (e.stand seen (is.only_reads.seen ∙ told)));
      whole = λ seen told.
          row_more (bin_left s c.args.version (seen FRAMES) level) c.args.row.now i no_bin c.loop-bin-test.true (is.whole seen told)
          (subst (λ (t : Numbers). bin_left t c.args.version (seen FRAMES) level bin ≡ None) is.settings (e.whole seen (is.only_reads.seen ∙ told)));
      between = row_weight_more c.args.version c.args.row.now i no_bin c.loop-bin.sum _ c.loop-bin-test.true is.between e.between;
      sum = λ seen told.
          row_total_more s c.args.version (seen FRAMES) level c.args.row.now i no_bin c.loop-bin.sum _ c.loop-bin-test.true (is.sum seen told)
          (subst (λ (t : Numbers). c.in_ok-of_bin.of_bin ≡ total (pieces_in t c.args.version (seen FRAMES) level bin)) is.settings (e.sum seen (is.only_reads.seen ∙ told)));
      settings = e.settings ∙ is.settings;
      only_reads = reads_on (bays g) (lawful g) c.args.bay.now c.loop-bin.bay c.check_bin.new.bay ⊥ ⊥ is.only_reads
          (reads_as (bays g) (lawful g) c.loop-bin.bay c.check_bin.new.bay _ ⊥ (λ none. absurd none) c.check_bin.ensures.only_reads);
    }

pub returns : goal.returns
returns g c =
    let is = c.loop-bin.invariant in
    let all = take_all c.loop-bin.bin-index c.args.row.now c.loop-bin-test.false in
    let s = c.args.reader.now.settings in
    record {
      stand = λ seen told. subst (RowStands s c.args.version (seen FRAMES) c.args.level) all (is.stand seen told);
      whole = λ seen told. ap (λ bins. first_of (map (bin_left s c.args.version (seen FRAMES) c.args.level) bins)) (sym all) ∙ is.whole seen told;
      malformed = λ seen told at broken. absurd (not_err _ _ broken);
      between = subst (λ bins. IsWeightOf c.args.version (row_width bins) c.loop-bin.sum) all is.between;
      sum = λ seen told. is.sum seen told ∙ ap (row_total s c.args.version (seen FRAMES) c.args.level) all;
      settings = is.settings;
      only_reads = reads_as (bays g) (lawful g) c.args.bay.now c.loop-bin.bay ⊥ _ (λ failed. not_err _ _ failed) is.only_reads;
    }

pub returns-in_err-of_bin : goal.returns-in_err-of_bin
returns-in_err-of_bin g c =
    let p = err_from_is_err_and c.from_residual.result c.from_residual.ensures.1 in
    let s = c.args.reader.now.settings in
    let i = c.loop-bin.bin-index in
    let is = c.loop-bin.invariant in
    let e = c.in_err-of_bin.ensures in
    rw (p.1, p.2) (record {
      stand = λ seen told. tt;
      whole = λ seen told. tt;
      between = tt;
      sum = λ seen told. tt;
      malformed = λ seen told at broken.
          row_breaks (bin_left s c.args.version (seen FRAMES) c.args.level) c.args.row.now i no_bin c.loop-bin-test.true (is.whole seen told) at
          (subst (λ (t : Numbers). bin_left t c.args.version (seen FRAMES) c.args.level (get_or c.args.row.now i no_bin) ≡ Some at) is.settings
          (e.malformed seen (is.only_reads.seen ∙ told) at (same_err _ _ broken)));
      settings = e.settings ∙ is.settings;
      only_reads = reads_as (bays g) (lawful g) c.args.bay.now c.check_bin.new.bay _ _ (λ failed. same_err _ _ failed)
          (reads_on (bays g) (lawful g) c.args.bay.now c.loop-bin.bay c.check_bin.new.bay ⊥ _ is.only_reads e.only_reads);
    })

pub overflow_add-sum : goal.overflow_add-sum
overflow_add-sum g c =
    let i = c.loop-bin.bin-index in
    let row = c.args.row.now in
    let reading = c.args.reader.now.reading in
    let few = row_part row (i + 1) (8 * (16 * 2 ^ 32)) (omega (arith, row_few c.args.reader.now.settings c.args.level row c.requires.row reading.valid.limits.bins_to)) in
    record {
      fits = sum_small c.args.version (row_width (take (i + 1) row)) _ few
          (row_weight_more c.args.version row i no_bin c.loop-bin.sum _ c.loop-bin-test.true c.loop-bin.invariant.between c.in_ok-of_bin.ensures.between);
    }
