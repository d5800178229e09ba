use Rattle.std.proofs.Common.{Some}
use Rattle.lert_conelock.proofs.turn.try_turn.Given as goal

abbrev pub ghosts-note : goal.ghosts-note
ghosts-note g a = record { told = Some a.refusal.now; stops = g.S.Held.stopped a.state.now }
