use Rattle.std.proofs.Common.{◌^◌, Some, None, append-nil, sym, subst}
use Rattle.lert_levels.proofs.landing.SumLaws.{takes_fits, last_before, takes_more}
use Rattle.lert_levels.proofs.landing.totals.add_total.Goals as goal

pub add-requires-clause-fits : goal.add-requires-clause-fits
add-requires-clause-fits g c =
    takes_fits g.O.Totals.took c.args.totals.now c.args.sum.now c.requires.0 c.args.piece c.requires.1 c.requires.2 (2 ^ 63) c.requires.3

pub returns-in-Some : goal.returns-in-Some
returns-in-Some g c list was up =
    takes_more g.O.Totals.took c.args.totals.now c.args.sum.now list c.args.piece was up c.total.new.self c.add.new.self (Some c.in-Some.finished)
    (c.total.ensures was.front was.taken (last_before g.O.Totals.took c.args.totals.now c.args.sum.now list c.args.piece was up c.in-Some.finished c.in-Some.ensures.finished.0))
    c.in-Some.ensures.whole c.in-Some.ensures.last c.in-Some.ensures.finished

pub returns-in_default : goal.returns-in_default
returns-in_default g c list was up =
    takes_more g.O.Totals.took c.args.totals.now c.args.sum.now list c.args.piece was up c.args.totals.now c.add.new.self None
    (subst (g.O.Totals.took c.args.totals.now) (sym (append-nil was.front)) was.taken)
    c.in_default.ensures.whole c.in_default.ensures.last tt
