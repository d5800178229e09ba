-- A cone crosses threads where its bay, its tables and their cursors may: `search` alone spends its count at the many fields below it,
-- so each struct of more than a few fields is given by its own.
use denote.RattleType.{RattleType}
use denote.Struct.Declared.{shape}
use denote.Param.Send.{IsSend, sendable, view_send, recorded_send, struct_send}
use Rattle.std.proofs.Crossing.{crosses, Vec-send}
use Rattle.lert_io.specs.declared.faulty.Faulty as faulty
use Rattle.lert_base.specs.declared.count_table.CountTable as table
use Rattle.lert_bay.specs.declared.bay.Bay as bay
use Rattle.lert_frames.specs.contracts.reader.FrameReader as Reader
use Rattle.lert_merge.specs.contracts.order.ahead.Ahead as Ahead
use Rattle.lert_merge.specs.contracts.order.ahead.Ahead.TheInside as ahead
use Rattle.lert_levels.specs.contracts.streams.cursor.TableCursor as Cursor
use Rattle.lert_levels.specs.contracts.streams.room.StreamRoom as Streams
use Rattle.lert_levels.specs.contracts.streams.room.StreamRoom.TheInside as streams
use Rattle.lert_levels.specs.contracts.merger.Reading as Reading
use Rattle.lert_levels.specs.contracts.merger.Writing as Writing
use Rattle.lert_levels.specs.contracts.levels.Levels as Levels
use Rattle.lert_levels.specs.contracts.levels.Levels.TheInside as levels
use Rattle.lert_cone.specs.contracts.unread.Unread as Unread
use Rattle.lert_cone.specs.contracts.unread.Unread.TheInside as unread
use Rattle.lert_cone.specs.contracts.tally.Tally as Tally
use Rattle.lert_cone.specs.contracts.tally.Tally.TheInside as tally
use Rattle.lert_cone.specs.contracts.room.ConeRoom as Room
use Rattle.lert_cone.specs.contracts.journal_places.JournalPlaces as JournalPlaces
use Rattle.lert_cone.specs.contracts.journal_places.JournalPlaces.TheInside as places
use Rattle.lert_cone.specs.contracts.report_log.ReportLog as Log
use Rattle.lert_cone.specs.contracts.report_log.ReportLog.TheInside as log
use Rattle.lert_cone.specs.contracts.cone.Cone as Cone
use Rattle.lert_cone.specs.contracts.cone.Cone.TheInside as cone

reader_send : IsSend Reader.the_row
reader_send = search (sendable, crosses) depth 60 fits 20000

reader_field : IsSend (Reader.the_field).row
reader_field = search (sendable, crosses) depth 60 fits 20000

ahead_inside : IsSend ahead.the_row
ahead_inside = search (sendable, crosses) depth 60 fits 20000

ahead_field : IsSend (Ahead.the_field).row
ahead_field = view_send _ _ _ _ _ ahead_inside

writing_field : IsSend (Writing.the_field).row
writing_field = search (sendable, crosses) depth 60 fits 20000

places_inside : IsSend places.the_row
places_inside = recorded_send _ _ _ (places.the_type).to_one (struct_send (shape places.the_type) (
  search (sendable, crosses) depth 20,
  (search (sendable, crosses) depth 20, (search sendable, (search sendable, (search sendable, tt)))),
))

places_field : IsSend (JournalPlaces.the_field).row
places_field = view_send _ _ _ _ _ places_inside

log_inside : IsSend log.the_row
log_inside = recorded_send _ _ _ (log.the_type).to_one (struct_send (shape log.the_type) (search (sendable, crosses) depth 20, (search sendable, (places_field, tt))))

log_field : IsSend (Log.the_field).row
log_field = view_send _ _ _ _ _ log_inside

module _ (T C : RattleType) (k : table.Ghosts T.Denot C.Denot) where
  cursor_send : IsSend C → IsSend (Cursor.the_row T C)
  cursor_send c = recorded_send _ _ _ (Cursor.the_type T C).to_one (struct_send (shape (Cursor.the_type T C)) (c, (search (sendable, crosses) depth 30, tt)))

  streams_inside : IsSend C → IsSend (streams.the_row T C k)
  streams_inside c = recorded_send _ _ _ (streams.the_type T C k).to_one (struct_send (shape (streams.the_type T C k)) (
    search (sendable, crosses) depth 20,
    (Vec-send _ (cursor_send c), (Vec-send _ reader_send, tt)),
  ))

  streams_send : IsSend C → IsSend (Streams.the_row T C k)
  streams_send c = view_send _ _ _ _ _ (streams_inside c)

  reading_send : IsSend C → IsSend (Reading.the_row T C k)
  reading_send c = recorded_send _ _ _ (Reading.the_type T C k).to_one (struct_send (shape (Reading.the_type T C k)) (streams_send c, (ahead_field, tt)))

  levels_inside : IsSend C → IsSend (levels.the_row T C k)
  levels_inside c = recorded_send _ _ _ (levels.the_type T C k).to_one (struct_send (shape (levels.the_type T C k)) (
    search (sendable, crosses) depth 20,
    (
      search sendable,
      (
        search (sendable, crosses) depth 20,
        (
          search (sendable, crosses) depth 20,
          (reader_field, (let reading = reading_send c in search (sendable, crosses) depth 20, (writing_field, tt))),
        ),
      ),
    ),
  ))

  levels_send : IsSend C → IsSend (Levels.the_row T C k)
  levels_send c = view_send _ _ _ _ _ (levels_inside c)

  -- so does the memory of a cone
  pub room_send : IsSend T → IsSend C → IsSend (Room.the_row T C k)
  room_send t c = recorded_send _ _ _ (Room.the_type T C k).to_one (struct_send (shape (Room.the_type T C k)) (
    search (sendable, crosses) depth 20,
    (
      search (sendable, crosses) depth 30,
      (
        levels_send c,
        (search (sendable, crosses) depth 30, (search (sendable, crosses) depth 20, (search (sendable, crosses) depth 20, tt))),
      ),
    ),
  ))

module _ (B T C : RattleType) (g : bay.Ghosts B.Denot) (h : faulty.Ghosts B.Denot) (k : table.Ghosts T.Denot C.Denot) where
  unread_inside : IsSend (unread.the_row B g h)
  unread_inside = recorded_send _ _ _ (unread.the_type B g h).to_one (struct_send (shape (unread.the_type B g h)) (
    search (sendable, crosses) depth 20,
    (search sendable, (search sendable, (search sendable, (search crosses, tt)))),
  ))

  unread_send : IsSend (Unread.the_row B g h)
  unread_send = view_send _ _ _ _ _ unread_inside

  tally_inside : IsSend T → IsSend C → IsSend (tally.the_row B T C g h k)
  tally_inside t c = recorded_send _ _ _ (tally.the_type B T C g h k).to_one (struct_send (shape (tally.the_type B T C g h k)) (
    search (sendable, crosses) depth 20,
    (
      search sendable,
      (
        search sendable,
        (
          search (sendable, crosses) depth 20,
          (
            levels_send T C k c,
            (search (sendable, crosses) depth 30, (unread_send, (search (sendable, crosses) depth 20, (search sendable, (search sendable, (search sendable, tt)))))),
          ),
        ),
      ),
    ),
  ))

  tally_send : IsSend T → IsSend C → IsSend (Tally.the_row B T C g h k)
  tally_send t c = view_send _ _ _ _ _ (tally_inside t c)

  cone_inside : IsSend B → IsSend T → IsSend C → IsSend (cone.the_row B T C g h k)
  cone_inside b t c = recorded_send _ _ _ (cone.the_type B T C g h k).to_one (struct_send (shape (cone.the_type B T C g h k)) (
    b,
    (
      search crosses,
      (
        tally_send t c,
        (
          search (sendable, crosses) depth 20,
          (
            log_field,
            (
              search (sendable, crosses) depth 20,
              (
                search (sendable, crosses) depth 20,
                (
                  search (sendable, crosses) depth 20,
                  (search sendable, (search sendable, (search (sendable, crosses) depth 20, (search (sendable, crosses) depth 20, tt)))),
                ),
              ),
            ),
          ),
        ),
      ),
    ),
  ))

  pub cone_send : IsSend B → IsSend T → IsSend C → IsSend (Cone.the_row B T C g h k)
  cone_send b t c = view_send _ _ _ _ _ (cone_inside b t c)
