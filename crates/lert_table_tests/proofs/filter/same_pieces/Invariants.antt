use Rattle.lert_table_tests.proofs.filter.same_pieces.Given as goal

abbrev pub invariant-loop : goal.invariant-loop
invariant-loop g l = g.A.CountTable.stands l.left l.in_left × g.B.CountTable.stands l.right l.in_right
