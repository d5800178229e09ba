use Rattle.lert_cone.proofs.due.DueSinceTotals.total.Goals as goal

pub returns : goal.returns
returns g c = λ pieces took less. c.total.ensures g.N.Begun.start pieces took less
