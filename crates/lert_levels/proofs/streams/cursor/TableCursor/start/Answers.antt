use Rattle.std.proofs.Common.{◌+◌}
use Rattle.lert_levels.proofs.streams.TableLaws.{given_of}
use Rattle.lert_levels.proofs.streams.cursor.TableCursor.start.Goals as goal

pub returns-clause-given : goal.returns-clause-given
returns-clause-given g c =
    given_of (g.T.CountTable.quotient_bits c.args.table.now + g.T.CountTable.width c.args.table.now) (g.T.CountTable.room c.args.table.now) (g.T.CountTable.pieces c.args.table.now)
    c.start.ensures.ascending c.adds-in_room.ensures.most c.adds-in_room.ensures.in_room c.requires
