use Rattle.std.{proofs.Common.{arith, ap, ◌∙◌, get_or}, proofs.lemmas.List.take_all}
use Rattle.lert_spec.{specs.declared.piece.Piece.Piece, specs.Table.{costs, total}, proofs.CostLaws.cost_to}
use Rattle.lert_frames.proofs.ReadingLaws.{costs-take_more, total-take_more}
use Rattle.lert_frames.proofs.filling.add_up.Goals as goal

abbrev none : Piece
none = record { tail = 0; count = 0 }

pub cost-costs-requires : goal.cost-costs-requires
cost-costs-requires c = c.requires.counts c.loop-piece.piece-index none c.loop-piece-test.true

pub overflow_add-costs : goal.overflow_add-costs
overflow_add-costs c =
    let p = get_or c.args.pieces.now c.loop-piece.piece-index none in
    let is = c.loop-piece.invariant in
    omega (arith, c.requires.counts c.loop-piece.piece-index none c.loop-piece-test.true, cost_to c.args.version p.count, c.cost-costs.ensures, is.cheap, is.few)

pub overflow_add-counts : goal.overflow_add-counts
overflow_add-counts c =
    omega (arith, c.requires.counts c.loop-piece.piece-index none c.loop-piece-test.true, c.loop-piece.invariant.few)

pub loop-piece-preserved : goal.loop-piece-preserved
loop-piece-preserved c =
    let i = c.loop-piece.piece-index in
    let p = get_or c.args.pieces.now i none in
    let is = c.loop-piece.invariant in
    record {
      costs = omega (arith, costs-take_more c.args.version c.args.pieces.now i none c.loop-piece-test.true, c.cost-costs.ensures, is.costs);
      counts = omega (arith, total-take_more c.args.pieces.now i none c.loop-piece-test.true, is.counts);
      cheap = omega (arith, c.cost-costs.ensures, cost_to c.args.version p.count, is.cheap);
      few = omega (arith, c.requires.counts i none c.loop-piece-test.true, is.few);
    }

pub returns : goal.returns
returns c =
    let all = take_all c.loop-piece.piece-index c.args.pieces.now c.loop-piece-test.false in
    record { costs = c.loop-piece.invariant.costs ∙ ap (costs c.args.version) all; counts = c.loop-piece.invariant.counts ∙ ap total all }
