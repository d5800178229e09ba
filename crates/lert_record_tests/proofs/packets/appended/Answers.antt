use Rattle.std.proofs.Common.{◌≡◌, ◌∙◌, ap, arith, refl, subst, sym}
use Rattle.std.proofs.lemmas.Result.{IfOk-at_ok}
use Rattle.lert_bay.specs.Files.{Files}
use Rattle.lert_bay.specs.Memory.{Disk, seen_of}
use Rattle.lert_gatelog.specs.Gated.{IsClosed}
use Rattle.lert_gatelog.specs.declared.gate_log.GateLog.{GateLog}
use Rattle.lert_journal.specs.Payload.{item_len}
use Rattle.lert_record_tests.proofs.Rooms.{few, near}
use Rattle.lert_record_tests.proofs.packets.appended.Goals as goal

pub create-requires-clause-empty : goal.create-requires-clause-empty
create-requires-clause-empty g c = λ seen told.
    let same : seen ≡ seen_of c.expect-bay.result.files = cc in
    ap (λ (files : Files). files 0) same ∙ ap (λ (disk : Disk). seen_of disk.files 0) (IfOk-at_ok _ c.expect-bay.ensures c.new.ensures)

pub append_entry-requires-clause-some : goal.append_entry-requires-clause-some
append_entry-requires-clause-some g c = omega (arith, c.requires.some)

pub append_entry-requires-clause-few : goal.append_entry-requires-clause-few
append_entry-requires-clause-few g c =
    let made = IfOk-at_ok _ c.expect-log.ensures c.create.ensures.made in
    few (item_len c.args.version) _ _ c.requires.some (ap (λ log. log.most) made ∙ c.most_of.ensures.value)

pub append_entry-requires-clause-room : goal.append_entry-requires-clause-room
append_entry-requires-clause-room g c =
    let made = IfOk-at_ok _ c.expect-log.ensures c.create.ensures.made in
    omega (arith, ap (λ log. log.most) made, c.most_of.ensures.most)

pub append_entry-requires-clause-reach : goal.append_entry-requires-clause-reach
append_entry-requires-clause-reach g c =
    let made = ap (λ log. log.gate) (IfOk-at_ok _ c.expect-log.ensures c.create.ensures.made) in
    near (item_len c.args.version) _ _ c.requires.some (omega (arith, made)) (omega (arith, c.most_of.ensures.value, c.most_of.ensures.most))

pub append_entry-requires-clause-closed : goal.append_entry-requires-clause-closed
append_entry-requires-clause-closed g c = λ seen told image may.
    let made = IfOk-at_ok _ c.expect-log.ensures c.create.ensures.made in
    subst (λ (log : GateLog). IsClosed (image log.file) log.gate) (sym made)
    (IfOk-at_ok _ c.expect-log.ensures (c.create.ensures.closed (seen_of c.expect-bay.result.files) refl) image may)
