use Rattle.std.proofs.Common.{◌≡◌, ◌-◌, length, take, drop, refl, ◌∙◌, arith}
use Rattle.byteorder.{specs.Endian.little_number, specs.Numbers.little_from-take}
use Rattle.lert_frames.proofs.EndLaws.{no_words, only_word, second_missing, two_words}
use Rattle.lert_frames.proofs.slots.WordEnds.of.Goals as goal

pub returns-clause-there : goal.returns-clause-there
returns-clause-there c rest missing =
    let bytes = c.args.bytes.now in
    let next : c.read_u64.result ≡ little_number 8 (take (length bytes - 8) (drop 8 bytes)) = c.read_u64.ensures in
    two_words c.args.some bytes rest _ (omega (arith, c.if-some-le64.false)) c.if-bytes-lt16.false refl c.read_u64-first.ensures
    (next ∙ little_from-take 0 8 (length bytes - 8) (drop 8 bytes) (omega (arith, c.if-bytes-lt16.false)))

pub returns-then-bytes-lt8-clause-there : goal.returns-then-bytes-lt8-clause-there
returns-then-bytes-lt8-clause-there c rest missing = no_words c.args.some c.args.bytes.now rest c.requires c.if-bytes-lt8.true missing

pub returns-then-some-le64-clause-there : goal.returns-then-some-le64-clause-there
returns-then-some-le64-clause-there c rest missing =
    only_word c.args.some c.args.bytes.now rest c.read_u64-first.result c.requires c.if-bytes-lt8.false c.read_u64-first.ensures c.if-some-le64.true

pub returns-then-bytes-lt16-clause-there : goal.returns-then-bytes-lt16-clause-there
returns-then-bytes-lt16-clause-there c rest missing =
    second_missing c.args.some c.args.bytes.now rest c.read_u64-first.result c.requires c.if-bytes-lt8.false c.read_u64-first.ensures
    c.if-some-le64.false c.if-bytes-lt16.true missing
