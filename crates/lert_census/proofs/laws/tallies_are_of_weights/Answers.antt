use Rattle.std.proofs.Common.{arith}
use Rattle.lert_census.proofs.{WeightLaws.same_tally, JoinLaws.joined_tally, NumberLaws.parts_number}
use Rattle.lert_census.proofs.laws.tallies_are_of_weights.Goals as goal

pub returns : goal.returns
returns c = record {
  same = λ items others are also same. same_tally c.args.s.now items others are also same;
  joined = λ items are. joined_tally c.args.s.now items are (omega (arith, c.requires.limits.cone_bits_to));
  counted = λ items are. parts_number c.args.s.now (omega (arith, c.requires.limits.cone_bits_to)) items are;
}
