use Rattle.std.proofs.Common.{◌≡◌, []}
use Rattle.lert_trials.proofs.runs.add_bays.Given as goal

-- nothing was asked so far
abbrev pub invariant-loop-cone : goal.invariant-loop-cone
invariant-loop-cone l = l.place.ledger.asked ≡ []
