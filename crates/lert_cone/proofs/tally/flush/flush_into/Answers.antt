use Rattle.lert_spec.specs.Counts.{weighed}
use Rattle.std.proofs.Common.{◌≡◌, ◌∙◌, List, OnOk, Result, Ok, Err, ap, subst, sym, slice_range}
use Rattle.lert_bay.specs.Files.{IfTold}
use Rattle.lert_levels.specs.{declared.rows.fault.FlushFault.FlushFault, declared.rows.fault.FlushFault.TheVariants.Failed, Flushed.AreEvents, OnDisk.OnDisk, rows.Ranges.young_bins}
use Rattle.lert_levels.specs.rows.Rows.{HoldsBins, moved}
use Rattle.lert_spec.specs.{declared.piece.Piece.Piece, Bins.tally, Edges.{depth, lookback}}
use Rattle.lert_cone.specs.Due.{Dues, TookFrom}
use Rattle.lert_cone.proofs.TakeLaws.{ok_of, on_ok, never_malformed, one_of_first}
use Rattle.lert_cone.proofs.tally.flush.flush_into.Goals as goal

only_took : {E : Type 0} (start due : Dues) (P : List Piece → Type 0) (result : Result (Unit {0}) E) → OnOk result ((list : List Piece) × TookFrom start due list × P list) → OnOk result
    ((list : List Piece) × TookFrom start due list)
only_took start due P (Ok done) took = (took.0, took.1)
only_took start due P (Err fault) took = tt

pub returns : goal.returns
returns g c = record {
  flushed = c.flush-result.ensures.ok;
  refused = c.flush-result.ensures.refused;
  holds = λ events long light bins seen told holds.
      let events_ : AreEvents c.args.levels.now c.args.m c.args.zero.now.bins events (seen 2) = record {
        len = long;
        weighed = light;
        young_are = bins.is ∙ ap (λ p. young_bins c.args.levels.now.settings events p) c.requires.from;
        held = holds;
      } in
      let both = c.flush-result.ensures.told seen told events events_ in
      on_ok (c.flush-result.new.self ≡ record {
        settings = c.args.levels.now.settings;
        version = c.args.levels.now.version;
        rows = moved c.args.levels.now.settings c.args.m
            c.args.levels.now.rows;
      }) (IfTold
      (g.B.Bay.files c.flush-result.new.bay) (λ after. HoldsBins c.args.levels.now.settings c.args.levels.now.version events (moved c.args.levels.now.settings c.args.m c.args.levels.now.rows)
      (after 2)) × TookFrom g.N.Begun.start c.flush-result.new.totals.due (tally weighed c.args.levels.now.settings (slice_range events (lookback c.args.levels.now.settings c.args.m) c.args.m)))
      (IfTold (g.B.Bay.files c.flush-result.new.bay) (λ after. HoldsBins c.flush-result.new.self.settings c.args.levels.now.version events c.flush-result.new.self.rows (after 2)))
      c.flush-result.result c.flush-result.ensures.ok (ok_of (IfTold (g.B.Bay.files c.flush-result.new.bay) (λ after. HoldsBins c.args.levels.now.settings c.args.levels.now.version events
      (moved c.args.levels.now.settings c.args.m c.args.levels.now.rows) (after 2)) × TookFrom g.N.Begun.start c.flush-result.new.totals.due (tally weighed c.args.levels.now.settings
      (slice_range events (lookback c.args.levels.now.settings c.args.m) c.args.m))) (λ (fault : FlushFault). fault ≡ Failed) c.flush-result.result both)
      (λ is parts after told_after. subst (λ (v : OnDisk). HoldsBins v.settings c.args.levels.now.version events v.rows (after 2)) (sym is) (parts.0 after told_after));
  totals = λ events long light bins seen told holds.
      let events_ : AreEvents c.args.levels.now c.args.m c.args.zero.now.bins events (seen 2) = record {
        len = long;
        weighed = light;
        young_are = bins.is ∙ ap (λ p. young_bins c.args.levels.now.settings events p) c.requires.from;
        held = holds;
      } in
      let both = c.flush-result.ensures.told seen told events events_ in
      subst (λ (v : Dues). OnOk c.flush-result.result (TookFrom g.N.Begun.start v
      (tally weighed c.args.levels.now.settings (slice_range events (lookback c.args.levels.now.settings c.args.m) c.args.m))))
      (sym c.into_due.ensures)
      (on_ok (IfTold (g.B.Bay.files c.flush-result.new.bay) (λ after. HoldsBins c.args.levels.now.settings c.args.levels.now.version events (moved c.args.levels.now.settings c.args.m
      c.args.levels.now.rows)
      (after 2)) × TookFrom g.N.Begun.start c.flush-result.new.totals.due (tally weighed c.args.levels.now.settings (slice_range events (lookback c.args.levels.now.settings c.args.m) c.args.m)))
      (IfTold (g.B.Bay.files c.flush-result.new.bay) (λ after. HoldsBins c.args.levels.now.settings c.args.levels.now.version events (moved c.args.levels.now.settings c.args.m c.args.levels.now.rows)
      (after 2)) × TookFrom g.N.Begun.start c.flush-result.new.totals.due (tally weighed c.args.levels.now.settings (slice_range events (lookback c.args.levels.now.settings c.args.m) c.args.m)))
      (TookFrom g.N.Begun.start c.flush-result.new.totals.due (tally weighed c.args.levels.now.settings (slice_range events (lookback c.args.levels.now.settings c.args.m) c.args.m)))
      c.flush-result.result (ok_of (IfTold (g.B.Bay.files c.flush-result.new.bay) (λ after. HoldsBins c.args.levels.now.settings c.args.levels.now.version events
      (moved c.args.levels.now.settings c.args.m c.args.levels.now.rows) (after 2)) × TookFrom g.N.Begun.start c.flush-result.new.totals.due (tally weighed c.args.levels.now.settings
      (slice_range events (lookback c.args.levels.now.settings c.args.m) c.args.m))) (λ (fault : FlushFault). fault ≡ Failed) c.flush-result.result both)
      (ok_of (IfTold
      (g.B.Bay.files c.flush-result.new.bay) (λ after. HoldsBins c.args.levels.now.settings c.args.levels.now.version events (moved c.args.levels.now.settings c.args.m c.args.levels.now.rows)
      (after 2)) × TookFrom g.N.Begun.start c.flush-result.new.totals.due (tally weighed c.args.levels.now.settings (slice_range events (lookback c.args.levels.now.settings c.args.m) c.args.m))) (λ
      (fault : FlushFault). fault ≡ Failed) c.flush-result.result both) (λ _ parts. parts.1));
  took = subst (λ (v : Dues). OnOk c.flush-result.result ((list : List Piece) × TookFrom g.N.Begun.start v list)) (sym c.into_due.ensures)
      (only_took g.N.Begun.start c.flush-result.new.totals.due _ c.flush-result.result c.flush-result.ensures.took);
  sound = λ events long light bins seen told holds at.
      let events_ : AreEvents c.args.levels.now c.args.m c.args.zero.now.bins events (seen 2) = record {
        len = long;
        weighed = light;
        young_are = bins.is ∙ ap (λ p. young_bins c.args.levels.now.settings events p) c.requires.from;
        held = holds;
      } in
      let both = c.flush-result.ensures.told seen told events events_ in
      never_malformed (IfTold (g.B.Bay.files c.flush-result.new.bay) (λ after. HoldsBins c.args.levels.now.settings c.args.levels.now.version events (moved c.args.levels.now.settings c.args.m
      c.args.levels.now.rows)
      (after 2)) × TookFrom g.N.Begun.start c.flush-result.new.totals.due (tally weighed c.args.levels.now.settings (slice_range events
      (lookback c.args.levels.now.settings c.args.m) c.args.m))) c.flush-result.result both at;
  malformed = λ seen told at is.
      one_of_first c.args.levels.now.settings c.args.levels.now.version (depth c.args.levels.now.settings c.args.m) c.args.levels.now.rows (seen 2) at (c.flush-result.ensures.malformed seen told
      at is);
  malformed_after = λ after told at is.
      one_of_first c.args.levels.now.settings c.args.levels.now.version (depth c.args.levels.now.settings c.args.m) c.args.levels.now.rows (after 2) at (c.flush-result.ensures.malformed_after
      after told at is);
  durable = c.flush-result.ensures.durable;
  rest = c.flush-result.ensures.rest;
  kept = c.flush-result.ensures.kept;
}
