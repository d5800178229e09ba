use Rattle.std.{proofs.Common.{◌∙◌, drop, arith}, proofs.lemmas.List.length-take-le}
use Rattle.lert_frames.proofs.NumberLaws.{numbers_into}
use Rattle.lert_frames.proofs.slots.read_numbers.Goals as goal

pub returns-clause-numbers : goal.returns-clause-numbers
returns-clause-numbers c =
    let n = c.min-count.result in
    numbers_into n c.args.bytes.now c.read_u64_into.new.dst (drop n c.args.into.now) (c.read_u64_into.auto.dst ∙ length-take-le n c.args.into.now (omega (arith, c.min-count.ensures, c.requires)))
    (omega (arith, c.min-count.ensures)) c.read_u64_into.ensures
