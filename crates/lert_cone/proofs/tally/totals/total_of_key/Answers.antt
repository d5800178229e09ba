use Rattle.std.proofs.{Common.{◌<◌, [], ◌∷◌, subst}, lemmas.List.Elements.All-nil}
use Rattle.lert_spec.specs.declared.piece.Piece.{Piece}
use Rattle.lert_cone.specs.Due.{TookFrom}
use Rattle.lert_cone.proofs.tally.totals.total_of_key.Goals as goal

pub returns-then-is_listed : goal.returns-then-is_listed
returns-then-is_listed g c = λ start from.
    c.is_listed.ensures.passes c.if-is_listed.true _ start [] from (All-nil (λ (piece : Piece). piece.tail < c.args.tail))

pub returns : goal.returns
returns g c = λ start from.
    subst (λ count. TookFrom start c.total.new.self (record { tail = c.args.tail; count = count } ∷ [])) c.count.ensures
    (c.total.ensures start [] from (All-nil (λ (piece : Piece). piece.tail < c.args.tail)))
