use Rattle.lert_cone.proofs.tally.Tally.finish.Given as goal

-- the totals begin with the reports as they stand
abbrev pub ghosts-scan_into : goal.ghosts-scan_into
ghosts-scan_into g a = record { start = a.due }
