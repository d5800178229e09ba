use Rattle.std.proofs.Common.{Some, ap, ◌∙◌, arith}
use Rattle.lert_journal.proofs.BeginningLaws.{begins_known, front_left, front_short, front_whole}
use Rattle.lert_journal.proofs.header.header_left.Goals as goal

pub returns-then-same-lt-MAGIC_LEN-clause-place : goal.returns-then-same-lt-MAGIC_LEN-clause-place
returns-then-same-lt-MAGIC_LEN-clause-place c file is =
    ap Some c.begun-same.ensures ∙ front_left file c.args.bytes.now is (omega (arith, c.if-same-lt-MAGIC_LEN.true, c.begun-same.ensures))

pub returns-then-bytes-lt-HEADER_LEN-clause-place : goal.returns-then-bytes-lt-HEADER_LEN-clause-place
returns-then-bytes-lt-HEADER_LEN-clause-place c file is =
    front_short file c.args.bytes.now is (omega (arith, c.if-same-lt-MAGIC_LEN.false, c.begun-same.ensures)) c.if-bytes-lt-HEADER_LEN.true

pub returns-clause-place : goal.returns-clause-place
returns-clause-place c file is =
    front_whole file c.args.bytes.now is (omega (arith, c.if-same-lt-MAGIC_LEN.false, c.begun-same.ensures)) c.if-bytes-lt-HEADER_LEN.false

pub returns-clause-whole : goal.returns-clause-whole
returns-clause-whole c =
    let known = begins_known c.args.bytes.now (omega (arith, c.if-same-lt-MAGIC_LEN.false, c.begun-same.ensures)) in
    (c.if-bytes-lt-HEADER_LEN.false, known.0, known.1)
