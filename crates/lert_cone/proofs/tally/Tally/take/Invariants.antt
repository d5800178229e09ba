use Rattle.lert_cone.specs.Tally.{due_in}
use Rattle.lert_cone.proofs.tally.Tally.take.Given as goal

-- the totals begin with the reports as they stand
abbrev pub ghosts-give_totals : goal.ghosts-give_totals
ghosts-give_totals g a = record { start = due_in a.due.now }
