use Rattle.lert_levels.proofs.streams.TableLaws.{readers_more}
use Rattle.lert_levels.proofs.streams.room.readers_of.Goals as goal

pub loop-preserved : goal.loop-preserved
loop-preserved c = readers_more c.args.settings.now c.loop.readers.items c.push.new.self.items c.in_ok-new.field-0 c.loop.counter c.loop.invariant.of_settings c.loop.invariant.len
    c.in_ok-push.ensures.items c.in_ok-new.ensures.settings
