use Rattle.std.proofs.{Common.{◌+◌, ap, sym, ◌∙◌, subst, length, get_or, List, ℕ, arith}, lemmas.List.with_items_is}
use Rattle.lert_cqf.specs.{Rows.IsRaised, Spill.{sums, IsRaisedTo}}
use Rattle.lert_cqf.proofs.SumLemmas.{sums_long, sums_at, near_raised, sums_raised}
use Rattle.lert_cqf.proofs.spill.Spill.raise.Goals as goal

pub raise-requires-clause-within : goal.raise-requires-clause-within
raise-requires-clause-within c =
    let own = c.self.inside.own.items in
    omega (arith, c.requires.within, sums_long 0 own c.self.inside.common.items, ap length c.self.view_is, ap length c.deref_mut.ensures.value)

pub raise-requires-clause-room : goal.raise-requires-clause-room
raise-requires-clause-room c = λ g low high.
    let own = c.self.inside.own.items in
    let common = c.self.inside.common.items in
    let long = sums_long 0 own common in
    let same = ap length c.self.view_is in
    let room = c.requires.room g (omega arith) in
    let sum = sums_at own common g (omega (arith, c.requires.within, long, same)) in
    omega (arith, room, sum, ap (λ (t : List ℕ). get_or t g 0) c.self.view_is, ap (λ (t : List ℕ). get_or t g 0) c.deref_mut.ensures.value)

pub overflow_add-to : goal.overflow_add-to
overflow_add-to c =
    let own = c.self.inside.own in
    let long = sums_long 0 own.items c.self.inside.common.items in
    let same = ap length c.self.view_is in
    record { fits = omega (arith, c.requires.within, long, same, own.ok.0, own.small) }

pub overflow_add-to-else-to-from-gt-FEW : goal.overflow_add-to-else-to-from-gt-FEW
overflow_add-to-else-to-from-gt-FEW c =
    let own = c.self.inside.own in
    let long = sums_long 0 own.items c.self.inside.common.items in
    let same = ap length c.self.view_is in
    record { fits = omega (arith, c.requires.within, long, same, own.ok.0, own.small) }

pub returns-else-to-from-gt-FEW : goal.returns-else-to-from-gt-FEW
returns-else-to-from-gt-FEW c =
    let own = c.self.inside.own in
    let common = c.self.inside.common.items in
    let numbers = c.raise.new.numbers in
    let long = sums_long 0 own.items common in
    let same = ap length c.self.view_is in
    let new = with_items_is own numbers (c.raise.auto.numbers ∙ c.deref_mut.ensures.len) in
    let raised : IsRaisedTo own.items numbers c.args.from (c.args.to + 1) = rw c.deref_mut.ensures.value at c.raise.ensures in
    subst (λ (t : List ℕ). IsRaised c.args.self.now (sums t common) c.args.from c.args.to) (sym new)
    (subst (λ (t : List ℕ). IsRaised t (sums numbers common) c.args.from c.args.to) c.self.view_is
    (sums_raised own.items common numbers common c.args.from c.args.to c.requires.order (omega (arith, c.requires.within, long, same))
    (near_raised own.items common numbers c.args.from c.args.to raised)))
