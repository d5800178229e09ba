use Rattle.std.proofs.{Common.{ℕ, ◌≡◌, ◌+◌, ◌*◌, ◌^◌, take, ◌∙◌, [], None, Some, subst, get_or, ap, sym, arith, inl, inr, refl}, lemmas.Bool.cases_lt, lemmas.List.take_all}
use Rattle.std.proofs.{lemmas.Result.err_from_is_err_and}
use Rattle.lert_bay.specs.declared.bay.TheConstants.{FRAMES}
use Rattle.lert_bay.proofs.KeptLaws.{IsLawful, reads_none, reads_on, reads_as}
use Rattle.lert_frames.proofs.{FaultLaws.not_err, WriteLaws.same_err}
use Rattle.lert_levels.specs.{rows.Checked.{IsWeightOf, RowStands, row_left, row_total, rows_left, rows_total, rows_width}, rows.Rows.IsRow}
use Rattle.lert_spec.specs.{declared.numbers.Numbers.Numbers, Limits.IsValid}
use Rattle.lert_levels.proofs.{rows.CheckLaws.{rows_more, rows_break}, rows.ReadLaws.{row_here, hand_from}}
use Rattle.lert_levels.proofs.{rows.SumLaws.{rows_few, rows_part, rows_total_more, rows_weight_more, sum_small, weight_none}}
use Rattle.lert_levels.proofs.rows.check.check_rows.Given as given
use Rattle.lert_levels.proofs.{rows.check.check_rows.Invariants.bays, rows.check.check_rows.Goals.After-bins}
use Rattle.lert_levels.proofs.rows.check.check_rows.Goals as goal

lawful : (g : given.Over) → IsLawful (bays g)
lawful g = record { as_read = g.met.B.Bay.as_read; since_now = g.met.B.Bay.since_now; only_now = g.met.B.Bay.only_now; since_earlier = g.met.B.Bay.since_earlier }

-- the row that is read
here : (g : given.Over) (c : After-bins g) → get_or c.args.rows.now c.loop-lower.lower [] ≡ c.bins.result.now
here g c = row_here c.args.rows.now c.loop-lower.lower c.index-rows-lower.result c.bins.result.now c.loop-lower-test.true c.index-rows-lower.is c.bins.ensures.bins

pub bounds-rows-lower : goal.bounds-rows-lower
bounds-rows-lower g c = c.loop-lower-test.true

pub check_row-requires : goal.check_row-requires
check_row-requires g c =
    let i = c.loop-lower.lower in
    rw c.loop-lower.invariant.reader (record {
      version = c.requires.version;
      first = omega arith;
      last = omega (arith, c.requires.rows.few, c.loop-lower-test.true);
      row = subst (IsRow c.args.settings.now (i + 1)) (here g (goal.at.check_row-requires g c).After-bins) (c.requires.rows.each i c.loop-lower-test.true);
    })

pub loop-lower-init : goal.loop-lower-init
loop-lower-init g c = record {
  stand = λ seen told k less. absurd (omega arith);
  whole = λ seen told. refl;
  between = weight_none c.args.version;
  sum = λ seen told. refl;
  reader = c.requires.reader;
  only_reads = reads_none (bays g) (lawful g) c.args.bay.now ⊥ (λ none. none);
}

pub loop-lower-preserved : goal.loop-lower-preserved
loop-lower-preserved g c =
    let i = c.loop-lower.lower in
    let s = c.args.settings.now in
    let rows = c.args.rows.now in
    let now = c.bins.result.now in
    let is = c.loop-lower.invariant in
    let e = c.in_ok-of_row.ensures in
    record {
      stand = λ seen told k less. elim (cases_lt k i) [
        | inl before ↦ is.stand seen told k before
        | inr last ↦ (
            let same : i ≡ k = omega arith in
            subst (λ (n : ℕ). RowStands s c.args.version (seen FRAMES) (n + 1) (get_or rows n [])) same
            (hand_from (λ t row. RowStands t c.args.version (seen FRAMES) (i + 1) row) s _ rows i now (here g (goal.at.loop-lower-preserved g c).After-bins) is.reader
            (e.stand seen (is.only_reads.seen ∙ told))))
      ];
      whole = λ seen told.
          rows_more s c.args.version (seen FRAMES) rows i now (here g (goal.at.loop-lower-preserved g c).After-bins) c.loop-lower-test.true (is.whole seen told)
          (subst (λ (t : Numbers). row_left t c.args.version (seen FRAMES) (i + 1) now ≡ None) is.reader (e.whole seen (is.only_reads.seen ∙ told)));
      between = rows_weight_more c.args.version rows i now c.loop-lower.sum _ (here g (goal.at.loop-lower-preserved g c).After-bins) c.loop-lower-test.true is.between e.between;
      sum = λ seen told.
          rows_total_more s c.args.version (seen FRAMES) rows i now c.loop-lower.sum _ (here g (goal.at.loop-lower-preserved g c).After-bins) c.loop-lower-test.true (is.sum seen told)
          (subst (λ (t : Numbers). c.in_ok-of_row.of_row ≡ row_total t c.args.version (seen FRAMES) (i + 1) now) is.reader (e.sum seen (is.only_reads.seen ∙ told)));
      reader = e.settings ∙ is.reader;
      only_reads = reads_on (bays g) (lawful g) c.args.bay.now c.loop-lower.bay c.check_row.new.bay ⊥ ⊥ is.only_reads
          (reads_as (bays g) (lawful g) c.loop-lower.bay c.check_row.new.bay _ ⊥ (λ none. absurd none) c.check_row.ensures.only_reads);
    }

pub returns : goal.returns
returns g c =
    let is = c.loop-lower.invariant in
    let all = take_all c.loop-lower.lower c.args.rows.now c.loop-lower-test.false in
    record {
      stand = λ seen told k below. is.stand seen told k (omega (arith, below, c.loop-lower-test.false));
      whole = λ seen told.
          ap (rows_left c.args.settings.now c.args.version (seen FRAMES)) (sym (take_all c.loop-lower.lower c.args.rows.now c.loop-lower-test.false)) ∙ is.whole seen told;
      malformed = λ seen told at broken. absurd (not_err _ _ broken);
      between = subst (λ rows. IsWeightOf c.args.version (rows_width rows) c.loop-lower.sum) all is.between;
      sum = λ seen told. is.sum seen told ∙ ap (rows_total c.args.settings.now c.args.version (seen FRAMES) 1) all;
      reader = is.reader;
      only_reads = reads_as (bays g) (lawful g) c.args.bay.now c.loop-lower.bay ⊥ _ (λ failed. not_err _ _ failed) is.only_reads;
    }

pub returns-in_err-of_row : goal.returns-in_err-of_row
returns-in_err-of_row g c =
    let p = err_from_is_err_and c.from_residual.result c.from_residual.ensures.1 in
    let i = c.loop-lower.lower in
    let s = c.args.settings.now in
    let is = c.loop-lower.invariant in
    let e = c.in_err-of_row.ensures in
    rw (p.1, p.2) (record {
      stand = λ seen told. tt;
      whole = λ seen told. tt;
      between = tt;
      sum = λ seen told. tt;
      malformed = λ seen told at broken.
          rows_break s c.args.version (seen FRAMES) c.args.rows.now i c.bins.result.now (here g (goal.at.returns-in_err-of_row g c).After-bins) c.loop-lower-test.true (is.whole seen told) at
          (subst (λ (t : Numbers). row_left t c.args.version (seen FRAMES) (i + 1) c.bins.result.now ≡ Some at) is.reader
          (e.malformed seen (is.only_reads.seen ∙ told) at (same_err _ _ broken)));
      reader = e.settings ∙ is.reader;
      only_reads = reads_as (bays g) (lawful g) c.args.bay.now c.check_row.new.bay _ _ (λ failed. same_err _ _ failed)
          (reads_on (bays g) (lawful g) c.args.bay.now c.loop-lower.bay c.check_row.new.bay ⊥ _ is.only_reads e.only_reads);
    })

pub overflow_add-sum : goal.overflow_add-sum
overflow_add-sum g c =
    let i = c.loop-lower.lower in
    let rows = c.args.rows.now in
    let valid : IsValid c.args.settings.now = subst IsValid c.numbers-valid.ensures.value c.numbers-valid.ensures.valid in
    record {
      fits = sum_small c.args.version (rows_width (take (i + 1) rows)) _ (rows_part rows (i + 1) (8 * (16 * 2 ^ 32)) (rows_few c.args.settings.now rows c.requires.rows valid))
          (rows_weight_more c.args.version rows i c.bins.result.now c.loop-lower.sum _ (here g (goal.at.overflow_add-sum g c).After-bins) c.loop-lower-test.true c.loop-lower.invariant.between
          c.in_ok-of_row.ensures.between);
    }
