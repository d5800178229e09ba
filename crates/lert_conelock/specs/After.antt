-- What holds after a part of a lock's history, whatever list of packets its first state stands for.
use Rattle.std.specs.Prelude.{List, ◌++◌}
use Rattle.lert_base.specs.{declared.held.Held.Ghosts as HeldOf, Packet.Packet}

module _ {H T R F : Type 0} (held : HeldOf H T R F) (first : H) (past : List Packet) where
  -- the state is one that the past makes of the first one
  abbrev pub StandsAfter : H → Type 0
  StandsAfter state = (h : List Packet) → held.stands_for first h → held.stands_for state (h ++ past)

  -- `apply` answers the packet so
  abbrev pub AnswersAfter : Packet → R → Type 0
  AnswersAfter e reply = (h : List Packet) → held.stands_for first h → held.answers (held.terms first) (h ++ past) e reply

  -- `apply` refuses the packet so, by its rule
  abbrev pub RefusesAfter : Packet → F → Type 0
  RefusesAfter e f = (h : List Packet) → held.stands_for first h → held.refuses (held.terms first) (h ++ past) e f
