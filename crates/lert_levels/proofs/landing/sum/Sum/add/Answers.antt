use Rattle.std.proofs.Common.{◌++◌, Option, ap, sym, ◌∙◌, arith}
use Rattle.std.specs.Prelude.{option_to_list}
use Rattle.lert_spec.specs.{declared.piece.Piece.Piece, Table.plus}
use Rattle.lert_levels.proofs.landing.SumLaws.{whole_first, whole_same, whole_next}
use Rattle.lert_levels.proofs.landing.sum.Sum.add.Goals as goal

pub returns-in_default-clause-whole : goal.returns-in_default-clause-whole
returns-in_default-clause-whole c front below =
    whole_first front c.args.piece below ∙ ap (λ (o : Option Piece). plus (front ++ option_to_list o) c.args.piece.tail c.args.piece.count) (sym c.in_default.is)

pub returns-then-last-piece-clause-whole : goal.returns-then-last-piece-clause-whole
returns-then-last-piece-clause-whole c front below =
    whole_same front c.in-Some.last c.args.piece c.if-last-piece.true below
    ∙ ap (λ (o : Option Piece). plus (front ++ option_to_list o) c.args.piece.tail c.args.piece.count) (sym c.in-Some.is)

pub returns-clause-whole : goal.returns-clause-whole
returns-clause-whole c front below =
    whole_next front c.in-Some.last c.args.piece (omega (arith, c.if-last-piece.false, rw c.in-Some.is at c.requires.ascends)) below
    ∙ ap (λ (o : Option Piece). plus (front ++ option_to_list o) c.args.piece.tail c.args.piece.count) (sym c.in-Some.is)
