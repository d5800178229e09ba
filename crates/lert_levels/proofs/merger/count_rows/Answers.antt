use Rattle.std.proofs.lemmas.List.{length-map}
use Rattle.std.proofs.Common.{ℕ, ◌≡◌, ◌*◌, ◌<◌, ◌≤◌, ◌∙◌, [], length, get_or, sym, subst, arith}
use Rattle.lert_spec.specs.{Limits.IsValid, Table.costs}
use Rattle.lert_merge.specs.order.Members.{limit_at}
use Rattle.lert_levels.specs.{streams.Bin.{version_of, wide_of}, Merged.{IsMade, IsFrames, widths_of}, Sources.sources}
use Rattle.lert_levels.specs.rows.Young.{loosened}
use Rattle.lert_levels.proofs.rows.LoadLaws.{loosened_pieces, loosened_cheap, loosened_narrow}
use Rattle.lert_levels.proofs.{LandedLaws.{on_ok, begun_number, widths_number, begun_wide, made_of}, PlacedLaws.begun_breaks, SourceLaws.{begun_given, widths_small}}
use Rattle.lert_levels.proofs.merger.count_rows.Goals as goal

pub begin_order-order-requires : goal.begin_order-order-requires
begin_order-order-requires g c = record {
  same = c.requires.same;
  ahead = c.requires.ahead;
  rows = c.requires.rows;
  version = c.requires.version;
}

pub count_bins-counted-requires : goal.count_bins-counted-requires
count_bins-counted-requires g c =
    let s = c.args.zero.now.settings in
    let version = c.args.version in
    let young = loosened c.args.zero.now.bins in
    let rows = c.args.rows.now in
    let bins = c.begin_order-order.result.streams.bins in
    let e = c.begin_order-order.ensures in
    let begun = e.begun young (loosened_pieces c.args.zero.now.bins) (loosened_cheap version c.args.zero.now.bins c.tables-tables.ensures.light) in
    let count : length young ≡ length c.args.zero.now.bins = length-map c.args.zero.now.bins (λ bin. record { from = 255 * bin.from; to = 255 * bin.to; pieces = bin.pieces }) in
    let valid : IsValid s = subst IsValid (c.numbers-valid.ensures.value ∙ c.settings-settings.ensures) c.numbers-valid.ensures.valid in
    record {
      unread = record { given = λ k below. begun_given s version (sources young rows) bins k begun; counts = e.counts; last = e.last };
      wide = (
        widths_of young rows,
        record {
          len = widths_number young rows ∙ sym (begun_number s version young rows bins begun);
          each = λ k below. subst (λ v. limit_at (wide_of v) bins k ≤ get_or (widths_of young rows) k 0) (sym e.version) (begun_wide s version young rows bins k begun);
          all = widths_small s valid young rows (omega (arith, count, c.len-young.ensures.few, c.len-young.ensures.count)) c.requires.rows
              (loosened_narrow s c.args.zero.now.bins c.tables-tables.ensures.narrow);
        },
      );
      totals = c.requires.none_taken;
    }

pub returns : goal.returns
returns g c =
    let s = c.args.zero.now.settings in
    let version = c.args.version in
    let young = loosened c.args.zero.now.bins in
    let rows = c.args.rows.now in
    let bins = c.begin_order-order.result.streams.bins in
    let begun = c.begin_order-order.ensures.begun young (loosened_pieces c.args.zero.now.bins) (loosened_cheap version c.args.zero.now.bins c.tables-tables.ensures.light) in
    let valid : IsValid s = subst IsValid (c.numbers-valid.ensures.value ∙ c.settings-settings.ensures) c.numbers-valid.ensures.valid in
    let took = g.O.Totals.took c.count_bins-counted.new.totals in
    let before = g.B.Bay.files c.args.bay.now in
    let e = c.count_bins-counted.ensures in
    record {
      room = c.end_order.ensures.room ∙ e.streams.settings ∙ c.begin_order-order.ensures.settings;
      ahead = c.end_order.ensures.ahead ∙ e.ahead ∙ c.begin_order-order.ensures.room;
      made = on_ok c.count_bins-counted.result _ (IsMade s version young rows [] took (IsFrames before) [])
          (λ taken. made_of s version valid young rows c.requires.rows bins begun took before taken.0 taken.1.len
          taken.1.given
          (subst (λ v. (k : ℕ) → k < length bins → costs (limit_at (version_of v) bins k) (get_or taken.0 k []) ≤ limit_at (wide_of v) bins k) c.begin_order-order.ensures.version taken.1.fits)
          taken.1.totals_are (λ all len told. taken.1.told all (record { len = len; told = told }))
          (λ files k below. (taken.1.whole files).told k below) [])
          e.counted;
      malformed = λ seen told at is. (let breaks = e.malformed at is in begun_breaks s version young rows bins breaks.stream at before seen told begun breaks.at_it);
      only_reads = e.only_reads;
    }
