use Rattle.std.proofs.Common.{sym, ◌∙◌}
use Rattle.lert_blocks.proofs.{GroupLaws.{decided, counter_answer, zero_answer}, GroupLaws.Decided.{empty, alone, above, twice, zero_twice, zero_thrice, zero_first, below}}
use Rattle.lert_blocks.proofs.group.front_group.Goals as goal

pub returns : goal.returns
returns c =
    let reads = c.read_group.ensures in
    elim (decided c.args.width c.args.slots.now) [
      | empty none e ↦ reads.empty none ∙ sym e
      | alone long e ↦ reads.alone long ∙ sym e
      | above long positive greater e ↦ reads.above long positive greater ∙ sym e
      | twice long positive same e ↦ reads.twice long positive same ∙ sym e
      | zero_twice long first second apart e ↦ reads.two_zeros long first second apart ∙ sym e
      | zero_thrice long first second third e ↦ reads.three_zeros long first second third ∙ sym e
      | zero_first n long first second least only e ↦ zero_answer c.args.width n c.args.slots.now c.read_group.result least first only (reads.zero long first second) ∙ sym e
      | below n long less least only e ↦ counter_answer c.args.width 3 n c.args.slots.now c.read_group.result least only (reads.counter long less) ∙ sym e
    ]
