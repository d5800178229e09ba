use Rattle.std.proofs.Common.{arith, subst, sym, ◌+◌, ◌*◌, ◌≤◌}
use Rattle.lert_spec.specs.{declared.numbers.Numbers.Numbers, Edges.{capacity, span}}
use Rattle.lert_cone.specs.JournalPlaces.{bins_begun}
use Rattle.lert_cone.proofs.{BinLaws.begun_to, JournalPlaceLaws.{passing_all, passing_more, passing_none}}
use Rattle.lert_cone.proofs.journal_places.JournalPlaces.pass.Goals as goal

pub bins-init : goal.bins-init
bins-init c = passing_none c.args.last c.args.place c.args.self.now c.requires.forward

pub begin-requires : goal.begin-requires
begin-requires c =
    subst (λ (s : Numbers). bins_begun c.bins.self.settings c.bins.self.passed * span c.bins.self.settings 0 + 1 ≤ capacity s) (sym c.bins.invariant.settings)
    (omega (arith, c.bins-test.true, c.next_first.ensures.place, c.requires.within))

pub bins-preserved : goal.bins-preserved
bins-preserved c =
    passing_more c.args.last c.args.place c.args.self.now c.bins.self c.next_first.ensures.valid c.bins.invariant c.begin.new.self (omega (arith, c.next_first.ensures.place, c.bins-test.true))
    c.begin.ensures.settings c.begin.ensures.passed c.begin.ensures.from c.begin.ensures.newest c.begin.ensures.others

pub bins-smaller : goal.bins-smaller
bins-smaller c =
    omega (arith, c.begin.ensures.passed, c.next_first.ensures.place, c.bins-test.true, begun_to c.bins.self.settings c.next_first.ensures.valid c.bins.self.passed)

pub stand_at-requires-clause-forward : goal.stand_at-requires-clause-forward
stand_at-requires-clause-forward c = c.bins.invariant.to

pub stand_at-requires-clause-within : goal.stand_at-requires-clause-within
stand_at-requires-clause-within c = subst (λ (s : Numbers). c.args.last ≤ capacity s) (sym c.bins.invariant.settings) c.requires.within

pub stand_at-requires-clause-reach : goal.stand_at-requires-clause-reach
stand_at-requires-clause-reach c = omega (arith, c.next_first.ensures.place, c.bins-test.false)

pub returns : goal.returns
returns c =
    passing_all c.args.last c.args.place c.args.self.now c.bins.self c.next_first.ensures.valid c.bins.invariant c.stand_at.new.self (omega (arith, c.next_first.ensures.place, c.bins-test.false))
    c.stand_at.ensures
