use Rattle.std.proofs.Common.{◌≡◌, ℕ, ◌∙◌, ap, arith, refl, subst, sym}
use Rattle.std.proofs.lemmas.Result.{IfOk-at_ok}
use Rattle.lert_base.specs.Entries.{packet_of}
use Rattle.lert_bay.specs.Files.{Files}
use Rattle.lert_bay.specs.Memory.{Disk, MayLeaveAll, seen_of}
use Rattle.lert_gatelog.specs.Gated.{IsClosed}
use Rattle.lert_gatelog.specs.declared.gate_log.GateLog.{GateLog}
use Rattle.lert_journal.proofs.PayloadLaws.{length_payload}
use Rattle.lert_record_tests.proofs.Rooms.{few}
use Rattle.lert_record_tests.proofs.packets.stopped.Goals as goal

pub create-requires-clause-empty : goal.create-requires-clause-empty
create-requires-clause-empty g c = λ seen told.
    let same : seen ≡ seen_of c.expect-bay.result.files = cc in
    ap (λ (files : Files). files 0) same ∙ ap (λ (disk : Disk). seen_of disk.files 0) (IfOk-at_ok _ c.expect-bay.ensures c.new.ensures)

pub append_entry-requires-clause-some : goal.append_entry-requires-clause-some
append_entry-requires-clause-some g c = omega (arith, c.sevens-entry.ensures.some)

pub append_entry-requires-clause-few : goal.append_entry-requires-clause-few
append_entry-requires-clause-few g c =
    let made = IfOk-at_ok _ c.expect-log.ensures c.create.ensures.made in
    few 9 _ _ c.sevens-entry.ensures.some (ap (λ log. log.most) made)

pub append_entry-requires-clause-room : goal.append_entry-requires-clause-room
append_entry-requires-clause-room g c =
    let made = IfOk-at_ok _ c.expect-log.ensures c.create.ensures.made in
    omega (arith, ap (λ log. log.most) made)

pub append_entry-requires-clause-reach : goal.append_entry-requires-clause-reach
append_entry-requires-clause-reach g c =
    let made = ap (λ log. log.gate) (IfOk-at_ok _ c.expect-log.ensures c.create.ensures.made) in
    omega (arith, made, c.sevens-entry.ensures.some)

pub append_entry-requires-clause-closed : goal.append_entry-requires-clause-closed
append_entry-requires-clause-closed g c = λ seen told image may.
    let made = IfOk-at_ok _ c.expect-log.ensures c.create.ensures.made in
    subst (λ (log : GateLog). IsClosed (image log.file) log.gate) (sym made)
    (IfOk-at_ok _ c.expect-log.ensures (c.create.ensures.closed (seen_of c.expect-bay.result.files) refl) image may)

pub append_entry-requires-2-clause-some : goal.append_entry-requires-2-clause-some
append_entry-requires-2-clause-some g c = omega (arith, c.sevens-entry.ensures.some)

pub append_entry-requires-2-clause-few : goal.append_entry-requires-2-clause-few
append_entry-requires-2-clause-few g c =
    let moved = IfOk-at_ok _ c.expect.ensures c.append_entry.ensures.moved in
    let made = IfOk-at_ok _ c.expect-log.ensures c.create.ensures.made in
    few 9 _ _ c.sevens-entry.ensures.some (ap (λ log. log.most) moved ∙ ap (λ log. log.most) made)

pub append_entry-requires-2-clause-room : goal.append_entry-requires-2-clause-room
append_entry-requires-2-clause-room g c =
    let moved = IfOk-at_ok _ c.expect.ensures c.append_entry.ensures.moved in
    let made = IfOk-at_ok _ c.expect-log.ensures c.create.ensures.made in
    omega (arith, ap (λ log. log.most) moved, ap (λ log. log.most) made, c.append_entry.auto.buffer)

pub append_entry-requires-2-clause-reach : goal.append_entry-requires-2-clause-reach
append_entry-requires-2-clause-reach g c =
    let packet = packet_of c.sevens-entry.result in
    let moved = ap (λ log. log.gate) (IfOk-at_ok _ c.expect.ensures c.append_entry.ensures.moved) in
    let made = ap (λ log. log.gate) (IfOk-at_ok _ c.expect-log.ensures c.create.ensures.made) in
    omega (arith, moved, made, length_payload 2 packet, c.sevens-entry.ensures.some)

pub append_entry-requires-2-clause-closed : goal.append_entry-requires-2-clause-closed
append_entry-requires-2-clause-closed g c = λ seen told image may.
    let moved = IfOk-at_ok _ c.expect.ensures c.append_entry.ensures.moved in
    let before = subst (λ (disk : Disk). MayLeaveAll disk.files image) c.stop_at.ensures may in
    subst (λ (file : ℕ). IsClosed (image file) c.append_entry.new.log.gate) (sym (ap (λ log. log.file) moved))
    (IfOk-at_ok _ c.expect.ensures (c.append_entry.ensures.closed (seen_of c.create.new.bay.files) refl) image before)
