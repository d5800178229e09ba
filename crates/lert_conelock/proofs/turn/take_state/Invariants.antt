use Rattle.lert_base.specs.Entries.{packet_of}
use Rattle.lert_conelock.proofs.turn.take_state.Given as goal

abbrev pub ghosts-take : goal.ghosts-take
ghosts-take g a = record { packet = packet_of a.entry.now }
