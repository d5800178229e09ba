use Rattle.std.proofs.Common.{◌++◌, [], ◌∷◌, length, ap, ap₂, sym, ◌∙◌, arith, length-append}
use Rattle.lert_spec.specs.{declared.numbers.Numbers.Numbers, declared.report.Report.Report, Look.is_listed}
use Rattle.lert_reports.specs.Stored.{Stored}
use Rattle.lert_files.specs.Repeated.{reports_from, IsNewThere}
use Rattle.lert_files.proofs.RepeatLaws.{length_from, listed_more, new_more}
use Rattle.lert_files.proofs.reports.put_reports.Goals as goal

pub put-requires : goal.put-requires
put-requires g c =
    let listed = c.args.store.now.reports in
    let n = c.loop-number.number in
    let now = c.loop-number.invariant in
    let long = ap (length {A = Report}) now.stored ∙ length-append listed (reports_from c.args.payload.now c.args.start n) in
    let room = ap (λ (s : Numbers). s.room) now.settings in
    omega (arith, long, length_from c.args.payload.now c.args.start n, room, c.requires.room, c.loop-number-test.true)

pub loop-number-preserved : goal.loop-number-preserved
loop-number-preserved g c =
    let listed = c.args.store.now.reports in
    let n = c.loop-number.number in
    let now = c.loop-number.invariant in
    let key_is = ap (λ (report : Report). report.key) c.report_there-report.ensures in
    let fresh : IsNewThere listed c.args.payload.now c.args.start n = ap₂ is_listed (sym key_is) (sym now.stored) ∙ (sym c.has.ensures ∙ c.if-has.false) in
    record {
      stored = ap (λ (store : Stored). store.reports) c.put.ensures
          ∙ (ap₂ (λ front (report : Report). front ++ report ∷ []) now.stored c.report_there-report.ensures
          ∙ sym (listed_more c.args.payload.now c.args.start listed n));
      settings = ap (λ (store : Stored). store.settings) c.put.ensures ∙ now.settings;
      fresh = new_more c.args.payload.now c.args.start listed n now.fresh fresh;
    }
