use Rattle.lert_spec.specs.Counts.{weighed}
use Rattle.std.proofs.Common.{◌≡◌, ◌∙◌, List, OnOk, Result, Ok, Err, ap, subst, sym}
use Rattle.lert_levels.specs.{declared.rows.fault.FlushFault.FlushFault, declared.rows.fault.FlushFault.TheVariants.Failed, Flushed.AreAllEvents, rows.Ranges.young_bins}
use Rattle.lert_spec.specs.{declared.piece.Piece.Piece, Bins.tally}
use Rattle.lert_cone.specs.Due.{Dues, TookFrom}
use Rattle.lert_cone.proofs.TakeLaws.{ok_of, never_malformed}
use Rattle.lert_cone.proofs.tally.totals.scan_into.Goals as goal

only_took : {E : Type 0} (start due : Dues) (P : List Piece → Type 0) (result : Result (Unit {0}) E) → OnOk result ((list : List Piece) × TookFrom start due list × P list) → OnOk result
    ((list : List Piece) × TookFrom start due list)
only_took start due P (Ok done) took = (took.0, took.1)
only_took start due P (Err fault) took = tt

pub returns : goal.returns
returns g c = record {
  stays = c.scan-result.ensures.same;
  totals = λ events fits light at from to bins seen told holds.
      let events_ : AreAllEvents c.args.levels.now c.args.zero.now.bins events (seen 2) = record {
        at = at;
        fits = fits;
        weighed = light;
        young_are = bins.is ∙ ap (λ p. young_bins c.args.levels.now.settings events p) from;
        held = holds;
      } in
      let all = c.scan-result.ensures.told seen told events events_ in
      subst (λ (v : Dues). OnOk c.scan-result.result (TookFrom g.N.Begun.start v (tally weighed c.args.levels.now.settings events))) (sym c.into_due.ensures)
      (ok_of (TookFrom g.N.Begun.start c.scan-result.new.totals.due (tally weighed c.args.levels.now.settings events)) (λ (fault : FlushFault). fault ≡ Failed) c.scan-result.result all);
  took = subst (λ (v : Dues). OnOk c.scan-result.result ((list : List Piece) × TookFrom g.N.Begun.start v list)) (sym c.into_due.ensures)
      (only_took g.N.Begun.start c.scan-result.new.totals.due _ c.scan-result.result c.scan-result.ensures.took);
  sound = λ events fits light at from bins seen told holds place.
      let events_ : AreAllEvents c.args.levels.now c.args.zero.now.bins events (seen 2) = record {
        at = at;
        fits = fits;
        weighed = light;
        young_are = bins.is ∙ ap (λ p. young_bins c.args.levels.now.settings events p) from;
        held = holds;
      } in
      let all = c.scan-result.ensures.told seen told events events_ in
      never_malformed (TookFrom g.N.Begun.start c.scan-result.new.totals.due (tally weighed c.args.levels.now.settings events)) c.scan-result.result all place;
  malformed = c.scan-result.ensures.malformed;
  whole = c.scan-result.ensures.whole;
  reads = c.scan-result.ensures.only_reads;
}
