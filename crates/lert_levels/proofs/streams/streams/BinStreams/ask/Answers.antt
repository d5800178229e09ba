use Rattle.std.proofs.Common.{arith, refl}
use Rattle.lert_levels.proofs.streams.AskLaws.{cursors_there, stands_there, frame_there, table_kept, table_asked, frame_kept, frame_ended, frame_asked}
use Rattle.lert_levels.proofs.streams.streams.BinStreams.ask.Goals as goal

-- ---- a table

pub index_mut-requires : goal.index_mut-requires
index_mut-requires g c = omega (arith, cursors_there c.self.invariant, c.if-stream-tables.true, c.self.inside.cursors.ok.0)

pub next-requires : goal.next-requires
next-requires g c = stands_there c.self.invariant c.args.stream c.if-stream-tables.true c.index-tables-stream.is c.index_mut.ensures.value

pub invariant_of-self : goal.invariant_of-self
invariant_of-self g c = table_kept c.self.invariant c.args.stream c.next.new.self c.if-stream-tables.true c.index-tables-stream.is c.index_mut.ensures.value
    (record { limit = refl; left = c.next.ensures.left; given = c.next.ensures.gave }) c.next.ensures.stands

pub returns-then-stream-tables-clause-asked : goal.returns-then-stream-tables-clause-asked
returns-then-stream-tables-clause-asked g c = table_asked c.self.invariant c.args.stream c.next.new.self c.if-stream-tables.true c.index-tables-stream.is c.index_mut.ensures.value
    (record { limit = refl; left = c.next.ensures.left; given = c.next.ensures.gave }) c.self.view_is

-- ---- a frame

pub index_mut-requires-2 : goal.index_mut-requires-2
index_mut-requires-2 g c = omega (arith, frame_there c.self.invariant c.self.view_is c.args.stream c.if-stream-tables.false c.requires, c.self.inside.readers.ok.0)

pub invariant_of-self-2 : goal.invariant_of-self-2
invariant_of-self-2 g c = frame_kept c.self.invariant _ c.next-2.new.self c.index_mut-2.ensures.value (frame_there c.self.invariant c.self.view_is c.args.stream c.if-stream-tables.false c.requires)
    c.next-2.ensures.settings

pub returns-clause-asked : goal.returns-clause-asked
returns-clause-asked g c =
    let next = c.next-2.ensures in
    frame_asked c.self.invariant c.self.view_is c.args.stream c.if-stream-tables.false c.requires c.index_mut-2.ensures.value (record {
      told = next.told;
      untold = next.untold;
      ended = frame_ended (g.B.Bay.files c.args.bay.now) (g.B.Bay.files c.next-2.new.ctx) c.index_mut-2.result.now c.next-2.new.self c.next-2.result
          next.only_reads.seen next.told next.breaks next.over;
      given = next.given;
      refused = next.refused;
      ascending = next.ascending;
      limit = next.limit;
      malformed = next.malformed;
      leaves = next.breaks;
      same = record { settings = next.settings; version = next.version; level = next.level; place = next.place; wide = next.wide };
    })
