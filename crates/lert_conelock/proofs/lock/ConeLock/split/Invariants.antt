use Rattle.lert_conelock.proofs.lock.ConeLock.split.Given as goal

abbrev pub ghosts-split : goal.ghosts-split
ghosts-split g a = record { at = a.at }
