use Rattle.lert_slotbits.proofs.WordLemmas.{moved_below, moved_first, moved_inside, moved_above, above_fits, middle_fits, upper_fits}
use Rattle.lert_slotbits.proofs.words.moved_up.Goals as goal

pub joined-requires-clause-high : goal.joined-requires-clause-high
joined-requires-clause-high c = above_fits c.args.word c.args.low c.args.high c.args.carry c.requires.order c.requires.high c.requires.carry c.ranges.word.fits

pub joined-upper-requires-clause-high : goal.joined-upper-requires-clause-high
joined-upper-requires-clause-high c =
    rw (c.joined.ensures, c.lowest-moved.ensures) (middle_fits c.args.word c.args.low c.args.high c.args.carry c.requires.order c.requires.high c.requires.carry c.ranges.word.fits)

pub joined-requires-2-clause-high : goal.joined-requires-2-clause-high
joined-requires-2-clause-high c =
    rw (c.joined-upper.ensures, c.joined.ensures, c.lowest-moved.ensures) (upper_fits c.args.word c.args.low c.args.high c.args.carry c.requires.order c.requires.high c.requires.carry
    c.ranges.word.fits)

pub returns-clause-below : goal.returns-clause-below
returns-clause-below c = λ i less.
    rw (c.joined-2.ensures, c.joined-upper.ensures, c.joined.ensures, c.lowest-moved.ensures, c.lowest.ensures)
    (moved_below c.args.word c.args.low c.args.high c.args.carry c.requires.order c.requires.carry i less)

pub returns-clause-first : goal.returns-clause-first
returns-clause-first c =
    rw (c.joined-2.ensures, c.joined-upper.ensures, c.joined.ensures, c.lowest-moved.ensures, c.lowest.ensures)
    (moved_first c.args.word c.args.low c.args.high c.args.carry c.requires.order c.requires.carry)

pub returns-clause-inside : goal.returns-clause-inside
returns-clause-inside c = λ i less most.
    rw (c.joined-2.ensures, c.joined-upper.ensures, c.joined.ensures, c.lowest-moved.ensures, c.lowest.ensures)
    (moved_inside c.args.word c.args.low c.args.high c.args.carry c.requires.order c.requires.carry i less most)

pub returns-clause-above : goal.returns-clause-above
returns-clause-above c = λ i more within.
    rw (c.joined-2.ensures, c.joined-upper.ensures, c.joined.ensures, c.lowest-moved.ensures, c.lowest.ensures)
    (moved_above c.args.word c.args.low c.args.high c.args.carry c.requires.order c.requires.carry i more)
