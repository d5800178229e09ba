use Rattle.std.proofs.Common.{◌≡◌, ℕ, ◌∙◌, [], ◌∷◌, ap, arith, refl, rules, subst, sym}
use Rattle.std.proofs.lemmas.Result.{IfOk-at_ok}
use Rattle.lert_bay.specs.Files.{Files}
use Rattle.lert_bay.specs.Memory.{Disk, seen_of}
use Rattle.lert_gatelog.specs.Gated.{IsClosed}
use Rattle.lert_gatelog.specs.declared.gate_log.GateLog.{GateLog}
use Rattle.lert_record_tests.proofs.logs.a_log_is_written_and_read.Goals as goal

pub create-requires-clause-empty : goal.create-requires-clause-empty
create-requires-clause-empty g c = λ seen told.
    let same : seen ≡ seen_of c.expect-bay.result.files = cc in
    ap (λ (files : Files). files 1) same ∙ ap (λ (disk : Disk). seen_of disk.files 1) (IfOk-at_ok _ c.expect-bay.ensures c.new.ensures)

pub append-requires-clause-text : goal.append-requires-clause-text
append-requires-clause-text g c = record { payload = 97 ∷ 98 ∷ []; is = refl; some = search rules; fits = search rules }

pub append-requires-clause-reach : goal.append-requires-clause-reach
append-requires-clause-reach g c = omega (arith, ap (λ log. log.gate) (IfOk-at_ok _ c.expect-log.ensures c.create.ensures.made))

pub append-requires-clause-closed : goal.append-requires-clause-closed
append-requires-clause-closed g c = λ seen told image may.
    let made = IfOk-at_ok _ c.expect-log.ensures c.create.ensures.made in
    subst (λ (log : GateLog). IsClosed (image log.file) log.gate) (sym made)
    (IfOk-at_ok _ c.expect-log.ensures (c.create.ensures.closed (seen_of c.expect-bay.result.files) refl) image may)

pub append-requires-2-clause-text : goal.append-requires-2-clause-text
append-requires-2-clause-text g c = record { payload = 99 ∷ []; is = refl; some = search rules; fits = search rules }

pub append-requires-2-clause-reach : goal.append-requires-2-clause-reach
append-requires-2-clause-reach g c =
    let moved = ap (λ log. log.gate) (IfOk-at_ok _ c.expect.ensures c.append.ensures.moved) in
    omega (arith, moved, ap (λ log. log.gate) (IfOk-at_ok _ c.expect-log.ensures c.create.ensures.made))

pub append-requires-2-clause-closed : goal.append-requires-2-clause-closed
append-requires-2-clause-closed g c = λ seen told image may.
    let moved = IfOk-at_ok _ c.expect.ensures c.append.ensures.moved in
    subst (λ (file : ℕ). IsClosed (image file) c.append.new.self.gate) (sym (ap (λ log. log.file) moved))
    (IfOk-at_ok _ c.expect.ensures (c.append.ensures.closed (seen_of c.create.new.bay.files) refl) image may)
