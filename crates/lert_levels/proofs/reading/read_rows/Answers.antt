use Rattle.std.proofs.{Common.{◌≡◌, ◌+◌, ◌*◌, ◌≤◌, ◌∙◌, ◌++◌, List, map, take, subst, sym, ap, arith, append-nil, add-one, refl}, Math.Nat.{mul-suc, mul-le-mul_left}, lemmas.List.take_all}
use Rattle.lert_spec.specs.declared.numbers.Numbers.{Numbers}
use Rattle.lert_levels.specs.{declared.rows.bin_at.BinAt.BinAt, rows.Rows.IsRow, Sources.{Source, of_bin, placed, placed_at, AreBegun}}
use Rattle.lert_levels.proofs.{rows.ReadLaws.{row_here, hand_to}, PlacedLaws.begun_row}
use Rattle.lert_levels.proofs.reading.read_rows.Goals as goal

pub read_row-requires-clause-last : goal.read_row-requires-clause-last
read_row-requires-clause-last g c =
    subst (λ (s : Numbers). c.loop-lower.lower + 1 ≤ s.levels) (sym c.loop-lower.invariant.settings) (omega (arith, c.requires.rows.few, c.loop-lower-test.true))

pub read_row-requires-clause-row : goal.read_row-requires-clause-row
read_row-requires-clause-row g c =
    let i = c.loop-lower.lower in
    let rows = c.args.rows.now in
    let here = row_here rows i c.index-rows-lower.result c.bins.result.now c.loop-lower-test.true c.index-rows-lower.is c.bins.ensures.bins in
    hand_to (λ t row. IsRow t (i + 1) row) c.args.settings.now _ rows i c.bins.result.now here c.loop-lower.invariant.settings (c.requires.rows.each i c.loop-lower-test.true)

pub read_row-requires-clause-spare : goal.read_row-requires-clause-spare
read_row-requires-clause-spare g c =
    let i = c.loop-lower.lower in
    let s = c.args.settings.now in
    let rows = c.args.rows.now in
    let here = row_here rows i c.index-rows-lower.result c.bins.result.now c.loop-lower-test.true c.index-rows-lower.is c.bins.ensures.bins in
    let row : IsRow s (i + 1) c.bins.result.now = subst (IsRow s (i + 1)) here (c.requires.rows.each i c.loop-lower-test.true) in
    let next : s.bins * (i + 1) ≡ s.bins * i + s.bins = ap (λ n. s.bins * n) (add-one i) ∙ mul-suc s.bins i in
    let most = mul-le-mul_left s.bins (let less : i + 1 ≤ s.levels = omega (arith, c.requires.rows.few, c.loop-lower-test.true) in less) in
    omega (arith, c.loop-lower.invariant.spare, c.requires.spare, row.few)

pub loop-lower-init : goal.loop-lower-init
loop-lower-init g c = record {
  begun = λ before are. subst (λ (xs : List Source). AreBegun c.args.settings.now c.args.streams.now.version xs c.args.streams.now.bins) (sym (append-nil before)) are;
  settings = c.requires.same;
  version = refl;
  spare = omega arith;
}

pub loop-lower-preserved : goal.loop-lower-preserved
loop-lower-preserved g c =
    let i = c.loop-lower.lower in
    let s = c.args.settings.now in
    let version = c.args.streams.now.version in
    let rows = c.args.rows.now in
    let now = c.bins.result.now in
    let here = row_here rows i c.index-rows-lower.result now c.loop-lower-test.true c.index-rows-lower.is c.bins.ensures.bins in
    let row : IsRow s (i + 1) now = subst (IsRow s (i + 1)) here (c.requires.rows.each i c.loop-lower-test.true) in
    let is = c.loop-lower.invariant in
    let e = c.read_row.ensures in
    let next : s.bins * (i + 1) ≡ s.bins * i + s.bins = ap (λ n. s.bins * n) (add-one i) ∙ mul-suc s.bins i in
    record {
      begun = λ before are.
          begun_row s version before rows i now c.read_row.new.streams.bins here c.loop-lower-test.true
          (subst (λ v. AreBegun s v (before ++ map of_bin (placed 1 (take i rows))) c.loop-lower.streams.bins →
          AreBegun s v ((before ++ map of_bin (placed 1 (take i rows))) ++ map of_bin (map (placed_at (i + 1)) now)) c.read_row.new.streams.bins) is.version
          (subst (λ (t : Numbers). AreBegun t c.loop-lower.streams.version (before ++ map of_bin (placed 1 (take i rows))) c.loop-lower.streams.bins →
          AreBegun t c.loop-lower.streams.version ((before ++ map of_bin (placed 1 (take i rows))) ++ map of_bin (map (placed_at (i + 1)) now)) c.read_row.new.streams.bins) is.settings
          (e.begun (before ++ map of_bin (placed 1 (take i rows))))) (is.begun before are));
      settings = e.settings ∙ is.settings;
      version = e.version ∙ is.version;
      spare = omega (arith, e.spare, is.spare, row.few);
    }

pub returns-clause-begun : goal.returns-clause-begun
returns-clause-begun g c before are =
    let rows = c.args.rows.now in
    subst (λ (rs : List (List BinAt)). AreBegun c.args.settings.now c.args.streams.now.version (before ++ map of_bin (placed 1 rs)) c.loop-lower.streams.bins)
    (take_all c.loop-lower.lower rows c.loop-lower-test.false) (c.loop-lower.invariant.begun before are)
