use Rattle.std.proofs.Common.{◌≡◌, ◌<◌, false, Some, None, length, sym, subst}
use Rattle.lert_merge.specs.Merging.{Merging}
use Rattle.lert_merge.proofs.{StepLemmas.{HasStepped, stepped}, TakeLemmas.has_room}
use Rattle.lert_merge.proofs.TurnLemmas.{turned_taken, taken_stands, taken_goes, turned_given, given_stands, turned_over, ended_stands, none_is}
use Rattle.lert_merge.proofs.merge.Merge.turn.Given as given
use Rattle.lert_merge.proofs.merge.Merge.turn.Goals as goal

-- what the step says, before its piece is taken
before : (g : given.Over) (c : goal.After-add-arg-1 g) →
    HasStepped g.S.Streams g.C.Faulty.faults g.C.Faulty.mark c.args.ctx.now c.self.inside.order c.step.new.ctx c.step.new.self (Some (c.in-Some.stream, c.in-Some.piece))
before g c =
    stepped g.S.Streams g.C.Faulty.faults g.C.Faulty.mark c.args.ctx.now c.self.inside.order c.step.new.ctx c.step.new.self _ (Some (c.in-Some.stream, c.in-Some.piece))
    c.in-Some.is c.in_ok-taken.ensures

room : (g : given.Over) (c : goal.After-add-arg-1 g) → (length c.self.inside.sums.taken < c.self.inside.sums.room) × (length c.self.inside.sums.taken < 65535)
room g c = has_room g.S.Streams g.C.Faulty.faults g.C.Faulty.mark c.args.ctx.now c.step.new.ctx _
    c.step.new.self c.in-Some.stream c.in-Some.piece c.self.invariant (before g c) (c.is_of.ensures.own c.if-is_of.true)

pub add-requires-clause-few : goal.add-requires-clause-few
add-requires-clause-few g c = (room g c).1

pub add-requires-clause-room : goal.add-requires-clause-room
add-requires-clause-room g c = (room g c).0

-- and behind it
taken : (g : given.Over) (c : goal.After-add g) →
    HasStepped g.S.Streams g.C.Faulty.faults g.C.Faulty.mark c.args.ctx.now c.self.inside.order c.step.new.ctx c.step.new.self (Some (c.in-Some.stream, c.in-Some.piece))
taken g c =
    stepped g.S.Streams g.C.Faulty.faults g.C.Faulty.mark c.args.ctx.now c.self.inside.order c.step.new.ctx c.step.new.self _ (Some (c.in-Some.stream, c.in-Some.piece))
    c.in-Some.is c.in_ok-taken.ensures

pub invariant_of-self-then-is_of : goal.invariant_of-self-then-is_of
invariant_of-self-then-is_of g c =
    taken_stands g.S.Streams g.C.Faulty.faults g.C.Faulty.mark c.args.ctx.now c.step.new.ctx _ c.args.self.now c.step.new.self c.self.view_is c.self.invariant
    (subst (λ (m : Merging _). m.is_over ≡ false) (sym c.self.view_is) c.requires)
    c.add.new.self c.in-Some.stream c.in-Some.piece (taken g c) (c.is_of.ensures.own c.if-is_of.true) c.add.ensures

pub returns-then-is_of-clause-turned : goal.returns-then-is_of-clause-turned
returns-then-is_of-clause-turned g c =
    turned_taken g.S.Streams g.C.Faulty.faults g.C.Faulty.mark c.args.ctx.now c.step.new.ctx _ c.args.self.now c.step.new.self c.self.view_is c.self.invariant
    (subst (λ (m : Merging _). m.is_over ≡ false) (sym c.self.view_is) c.requires)
    c.add.new.self c.in-Some.stream c.in-Some.piece (taken g c) (c.is_of.ensures.own c.if-is_of.true) c.add.ensures

pub returns-then-is_of-clause-goes_on : goal.returns-then-is_of-clause-goes_on
returns-then-is_of-clause-goes_on g c is =
    taken_goes g.S.Streams g.C.Faulty.faults g.C.Faulty.mark c.args.ctx.now c.step.new.ctx _ c.args.self.now c.step.new.self c.self.view_is c.self.invariant
    (subst (λ (m : Merging _). m.is_over ≡ false) (sym c.self.view_is) c.requires)
    c.add.new.self c.in-Some.stream c.in-Some.piece (taken g c) (c.is_of.ensures.own c.if-is_of.true) c.add.ensures

-- of a piece of another tail
other : (g : given.Over) (c : goal.After-add-2 g) →
    HasStepped g.S.Streams g.C.Faulty.faults g.C.Faulty.mark c.args.ctx.now c.self.inside.order c.step.new.ctx c.step.new.self (Some (c.in-Some.stream, c.in-Some.piece))
other g c =
    stepped g.S.Streams g.C.Faulty.faults g.C.Faulty.mark c.args.ctx.now c.self.inside.order c.step.new.ctx c.step.new.self _ (Some (c.in-Some.stream, c.in-Some.piece))
    c.in-Some.is c.in_ok-taken.ensures

pub invariant_of-self-2 : goal.invariant_of-self-2
invariant_of-self-2 g c =
    let hand = c.is_of.ensures.other c.if-is_of.false in
    given_stands g.S.Streams g.C.Faulty.faults g.C.Faulty.mark c.args.ctx.now c.step.new.ctx _ c.args.self.now c.step.new.self c.self.view_is c.self.invariant
    (subst (λ (m : Merging _). m.is_over ≡ false) (sym c.self.view_is) c.requires)
    c.give-given.new.self c.add-2.new.self c.in-Some.stream c.in-Some.piece c.give-given.result (other g c) hand.0 hand.1 c.give-given.ensures c.add-2.ensures

pub returns-clause-turned : goal.returns-clause-turned
returns-clause-turned g c =
    let hand = c.is_of.ensures.other c.if-is_of.false in
    turned_given g.S.Streams g.C.Faulty.faults g.C.Faulty.mark c.args.ctx.now c.step.new.ctx _ c.args.self.now c.step.new.self c.self.view_is c.self.invariant
    (subst (λ (m : Merging _). m.is_over ≡ false) (sym c.self.view_is) c.requires)
    c.give-given.new.self c.add-2.new.self c.in-Some.stream c.in-Some.piece c.give-given.result (other g c) hand.0 hand.1 c.give-given.ensures c.add-2.ensures

-- of the end
ended : (g : given.Over) (c : goal.After-give-rest g) →
    HasStepped g.S.Streams g.C.Faulty.faults g.C.Faulty.mark c.args.ctx.now c.self.inside.order c.step.new.ctx c.step.new.self None
ended g c =
    stepped g.S.Streams g.C.Faulty.faults g.C.Faulty.mark c.args.ctx.now c.self.inside.order c.step.new.ctx c.step.new.self _ None
    (none_is c.in_ok-taken.taken c.in_default.not-Some) c.in_ok-taken.ensures

pub invariant_of-self-in_default : goal.invariant_of-self-in_default
invariant_of-self-in_default g c =
    ended_stands g.S.Streams g.C.Faulty.faults g.C.Faulty.mark c.args.ctx.now c.step.new.ctx _ c.args.self.now c.step.new.self c.self.view_is c.self.invariant
    (subst (λ (m : Merging _). m.is_over ≡ false) (sym c.self.view_is) c.requires) c.give-rest.new.self c.give-rest.result (ended g c) c.give-rest.ensures

pub returns-in_default-clause-turned : goal.returns-in_default-clause-turned
returns-in_default-clause-turned g c =
    turned_over g.S.Streams g.C.Faulty.faults g.C.Faulty.mark c.args.ctx.now c.step.new.ctx _ c.args.self.now c.step.new.self c.self.view_is c.self.invariant
    (subst (λ (m : Merging _). m.is_over ≡ false) (sym c.self.view_is) c.requires) c.give-rest.new.self c.give-rest.result (ended g c) c.give-rest.ensures
