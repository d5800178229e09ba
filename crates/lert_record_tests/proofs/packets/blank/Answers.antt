use Rattle.std.proofs.Common.{◌∙◌, ap}
use Rattle.std.proofs.lemmas.Result.{IfOk-at_ok}
use Rattle.lert_record_tests.proofs.packets.blank.Goals as goal

pub returns : goal.returns
returns g c = ap (λ entry. entry.keys.room) c.new.ensures ∙ ap (λ list. list.room) (IfOk-at_ok _ c.expect.ensures c.with_room.ensures)
