use Rattle.lert_counter.proofs.digits.+leading_digit.Given as goal

abbrev pub decreases-leading_digit : goal.decreases-leading_digit
decreases-leading_digit l = l.room
