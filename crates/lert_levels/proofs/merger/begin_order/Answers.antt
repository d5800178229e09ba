use Rattle.std.proofs.{Common.{◌≡◌, ◌+◌, ◌*◌, ◌≤◌, ◌++◌, ◌∙◌, List, map, ap, length, le_of_eq, None, sym, subst, arith}, lemmas.List.length-map}
use Rattle.lert_spec.specs.{declared.numbers.Numbers.Numbers, Bins.Bin, Limits.IsValid}
use Rattle.lert_levels.specs.{rows.Rows.AreFirst, rows.Young.{AreCheap, loosened}, streams.BinSet.BinSet, Sources.{Source, of_bin, placed, sources, AreBegun}}
use Rattle.lert_levels.proofs.rows.LoadLaws.{loosened_pieces, loosened_cheap}
use Rattle.lert_levels.proofs.SourceLaws.{all_begun, begun_length, sources_few, sources_number}
use Rattle.lert_levels.proofs.merger.begin_order.Given as given
use Rattle.lert_levels.proofs.merger.begin_order.Goals.{After-read_rows}
use Rattle.lert_levels.proofs.merger.begin_order.Goals as goal

-- the streams begin at the bins of level 0 and of the rows
begun : (g : given.Over) (c : After-read_rows g) (young : List Bin) → map (λ (bin : Bin). bin.pieces) young ≡ map (λ (bin : Bin). bin.pieces) c.args.zero.now.bins → AreCheap c.args.version young →
    AreBegun c.args.zero.now.settings c.args.version (sources young c.args.rows.now) c.read_rows.new.streams.bins
begun g c young same cheap =
    all_begun c.args.zero.now.settings c.settings-settings.result.now c.args.version (λ table. g.T.CountTable.quotient_bits table + g.T.CountTable.width table)
    g.T.CountTable.pieces c.tables.result.now
    young c.args.rows.now c.begin-streams.result.bins c.read_rows.new.streams.bins c.settings-settings.ensures (c.tables.ensures.pieces ∙ sym same)
    (λ k d below. (c.tables.ensures.rooms k d below).1) cheap c.begin-streams.ensures.bins (c.begin-streams.ensures.coming None)
    (subst (λ v. (before : List Source) → AreBegun c.settings-settings.result.now v before c.begin-streams.result.bins →
    AreBegun c.settings-settings.result.now v (before ++ map of_bin (placed 1 c.args.rows.now)) c.read_rows.new.streams.bins) c.begin-streams.ensures.version c.read_rows.ensures.begun)

pub begin-streams-requires : goal.begin-streams-requires
begin-streams-requires g c =
    let young = c.args.zero.now.bins in
    let counted = sym (length-map c.tables.result.now g.T.CountTable.pieces) ∙ ap length c.tables.ensures.pieces ∙ length-map young (λ bin. bin.pieces) in
    record {
      version = c.requires.version;
      few = subst (λ n. n ≤ c.args.reading.room.bins) (sym counted) (subst (λ (s : Numbers). length young ≤ s.bins) (sym c.requires.same) c.tables.ensures.few);
      rooms = λ k d below. (c.tables.ensures.rooms k d below).0;
    }

pub read_rows-requires : goal.read_rows-requires
read_rows-requires g c = record {
  same = c.begin-streams.ensures.settings ∙ c.requires.same ∙ sym c.settings-settings.ensures;
  rows = subst (λ (s : Numbers). AreFirst s c.args.rows.now) (sym c.settings-settings.ensures) c.requires.rows;
  spare = le_of_eq (ap (λ (s : Numbers). s.bins * s.levels) (c.settings-settings.ensures ∙ sym c.requires.same) ∙ sym c.begin-streams.ensures.spare);
}

pub new-requires : goal.new-requires
new-requires g c =
    let s = c.args.zero.now.settings in
    let version = c.args.version in
    let young = c.args.zero.now.bins in
    let rows = c.args.rows.now in
    let wide = loosened young in
    let begins = begun g (goal.at.new-requires g c).After-read_rows wide (loosened_pieces young) (loosened_cheap version young c.tables.ensures.light) in
    let count : length wide ≡ length young = length-map young (λ bin. record { from = 255 * bin.from; to = 255 * bin.to; pieces = bin.pieces }) in
    let long = begun_length s version (sources wide rows) c.read_rows.new.streams.bins begins in
    let few = sources_few s wide rows (omega (arith, count, c.tables.ensures.few)) c.requires.rows in
    let valid : IsValid s = subst IsValid (c.numbers-valid.ensures.value ∙ c.settings-settings.ensures) c.numbers-valid.ensures.valid in
    record { few = omega (arith, long, few, sources_number s valid); room = omega (arith, long, few, c.requires.ahead) }

pub returns : goal.returns
returns g c = record {
  begun = λ young same cheap. subst (λ (set : BinSet). AreBegun c.args.zero.now.settings c.args.version (sources young c.args.rows.now) set.bins) (sym c.new.ensures.streams)
      (begun g (goal.at.returns g c).After-read_rows young same cheap);
  settings = ap (λ (set : BinSet). set.settings) c.new.ensures.streams ∙ c.read_rows.ensures.settings ∙ c.settings-settings.ensures;
  version = ap (λ (set : BinSet). set.version) c.new.ensures.streams ∙ c.read_rows.ensures.version ∙ c.begin-streams.ensures.version;
  counts = c.new.ensures.counts;
  last = c.new.ensures.last;
  room = c.new.ensures.room;
}
