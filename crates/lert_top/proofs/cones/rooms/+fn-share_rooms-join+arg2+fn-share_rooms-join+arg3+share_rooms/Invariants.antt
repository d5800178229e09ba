use Rattle.std.proofs.Common.{◌-◌, ◌/◌}
use Rattle.lert_top.proofs.cones.rooms.+fn-share_rooms-join+arg2+fn-share_rooms-join+arg3+share_rooms.Given as goal

abbrev pub decreases-join+arg2 : goal.decreases-join+arg2
decreases-join+arg2 g l = l.number / 2

abbrev pub decreases-join+arg3 : goal.decreases-join+arg3
decreases-join+arg3 g l = l.number - l.number / 2

abbrev pub decreases-share_rooms : goal.decreases-share_rooms
decreases-share_rooms g l = l.number
