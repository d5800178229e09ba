use Rattle.std.{proofs.Common.{◌≤◌, ◌∙◌, ◌++◌, List, get_or, map, subst, sym, arith, append-nil, refl}, proofs.lemmas.List.take_all}
use Rattle.lert_spec.{specs.declared.numbers.Numbers.Numbers, specs.Edges.span}
use Rattle.lert_levels.{specs.declared.rows.bin_at.BinAt.BinAt, specs.rows.Loading.width_of, specs.Sources.{Source, of_bin, placed_at, AreBegun}, proofs.PlacedLaws.begun_bin}
use Rattle.lert_levels.proofs.reading.read_row.Goals as goal

abbrev nothing : BinAt
nothing = record { from = 0; to = 0; frame = 0 }

pub read-requires-clause-spare : goal.read-requires-clause-spare
read-requires-clause-spare g c = omega (arith, c.loop-bin.invariant.spare, c.requires.spare, c.loop-bin-test.true)

pub read-requires-clause-last : goal.read-requires-clause-last
read-requires-clause-last g c = subst (λ (s : Numbers). c.args.level ≤ s.levels) (sym c.loop-bin.invariant.settings) c.requires.last

pub read-requires-clause-frame : goal.read-requires-clause-frame
read-requires-clause-frame g c =
    subst (λ (s : Numbers). c.from.result ≤ s.bins) (sym c.loop-bin.invariant.settings)
    (omega (arith, c.from.ensures, c.requires.row.frames c.loop-bin.bin-index nothing c.loop-bin-test.true))

pub read-requires-clause-width : goal.read-requires-clause-width
read-requires-clause-width g c =
    subst (λ (s : Numbers). width_of (get_or c.args.row.now c.loop-bin.bin-index nothing) ≤ span s c.args.level) (sym c.loop-bin.invariant.settings)
    (c.requires.row.widths c.loop-bin.bin-index nothing c.loop-bin-test.true)

pub loop-bin-init : goal.loop-bin-init
loop-bin-init g c = record {
  begun = λ before are. subst (λ (xs : List Source). AreBegun c.args.streams.now.settings c.args.streams.now.version xs c.args.streams.now.bins) (sym (append-nil before)) are;
  settings = refl;
  version = refl;
  spare = omega arith;
}

pub loop-bin-preserved : goal.loop-bin-preserved
loop-bin-preserved g c =
    let is = c.loop-bin.invariant in
    let begins = c.read.ensures.begins in
    record {
      begun = λ before are. begun_bin c.args.streams.now.settings c.args.streams.now.version before c.args.row.now c.loop-bin.bin-index nothing
          c.loop-bin.streams c.read.new.self c.args.level c.from.result _
          c.loop-bin-test.true is.settings is.version c.from.ensures refl begins (is.begun before are);
      settings = begins.settings ∙ is.settings;
      version = begins.version ∙ is.version;
      spare = omega (arith, begins.spare, is.spare);
    }

pub returns-clause-begun : goal.returns-clause-begun
returns-clause-begun g c before are =
    subst (λ (row : List BinAt). AreBegun c.args.streams.now.settings c.args.streams.now.version (before ++ map of_bin (map (placed_at c.args.level) row)) c.loop-bin.streams.bins)
    (take_all c.loop-bin.bin-index c.args.row.now c.loop-bin-test.false) (c.loop-bin.invariant.begun before are)
